use Rattle.runs.proofs.reach.Used.+find.Given as goal

abbrev pub decreases-find : goal.decreases-find
decreases-find g l = l.at
