use Rattle.readings.proofs.Examples.{necessary_type_falls_lem}
use Rattle.readings.proofs.necessary_type_falls.Goals as goal

pub returns : goal.returns
returns c = necessary_type_falls_lem
