use Rattle.scaled_fold.proofs.growing.+doublings.Given as goal

abbrev pub decreases-doublings : goal.decreases-doublings
decreases-doublings l = l.most
