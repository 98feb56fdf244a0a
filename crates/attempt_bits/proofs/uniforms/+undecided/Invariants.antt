use Rattle.attempt_bits.proofs.uniforms.+undecided.Given as goal

abbrev pub decreases-undecided : goal.decreases-undecided
decreases-undecided l = l.depth
