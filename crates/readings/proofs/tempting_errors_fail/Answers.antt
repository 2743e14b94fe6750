use Rattle.readings.proofs.Examples.{tempting_errors_fail_lem}
use Rattle.readings.proofs.tempting_errors_fail.Goals as goal

pub returns : goal.returns
returns c = tempting_errors_fail_lem
