use Rattle.runs.proofs.reach.Used.+make_on.Given as goal

abbrev pub decreases-make_on : goal.decreases-make_on
decreases-make_on l = l.path
