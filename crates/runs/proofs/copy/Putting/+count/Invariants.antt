use Rattle.runs.proofs.copy.Putting.+count.Given as goal

abbrev pub decreases-count : goal.decreases-count
decreases-count l = l.at
