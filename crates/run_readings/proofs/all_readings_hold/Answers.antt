use Rattle.run_readings.proofs.Reading.{all_readings}
use Rattle.run_readings.proofs.all_readings_hold.Goals as goal

pub returns : goal.returns
returns c = all_readings
