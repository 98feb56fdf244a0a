use Rattle.enclose_fold.proofs.rounds.+in_rounds.Given as goal

abbrev pub decreases-in_rounds : goal.decreases-in_rounds
decreases-in_rounds l = l.rounds
