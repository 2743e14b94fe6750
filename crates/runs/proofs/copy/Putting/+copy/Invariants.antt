use Rattle.runs.proofs.copy.Putting.+copy.Given as goal

abbrev pub decreases-copy : goal.decreases-copy
decreases-copy l = l.at
