use Rattle.blocks.proofs.Reading.{scheme_readings}
use Rattle.blocks.proofs.read.readings.Goals as goal

pub returns : goal.returns
returns c = scheme_readings
