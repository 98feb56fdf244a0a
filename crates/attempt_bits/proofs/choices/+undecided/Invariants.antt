use Rattle.attempt_bits.proofs.choices.+undecided.Given as goal

abbrev pub decreases-undecided : goal.decreases-undecided
decreases-undecided l = l.depth
