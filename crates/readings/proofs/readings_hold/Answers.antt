use Rattle.readings.proofs.Examples.{readings}
use Rattle.readings.proofs.readings_hold.Goals as goal

pub returns : goal.returns
returns c = readings
