use Rattle.std.proofs.Common.{◌≡◌, drop, length}
use Rattle.formula.specs.Chains.{chain_value, ChainReads}
use Rattle.formula.proofs.chaining.truth_of.Given as goal

abbrev pub invariant-loop-t : goal.invariant-loop-t
invariant-loop-t l = record {
  reads : ChainReads (drop l.t-index l.tests) (length l.vars);
  same : chain_value l.settled (drop l.t-index l.tests) l.vars ≡ chain_value l.settled l.tests l.vars;
}
