-- The law of rounds: each costs 1.
use Rattle.std.proofs.Common.{ℕ, ◌<◌, arith}
use Rattle.gcl_core.specs.declared.answers.Limits.{Limits}
use Rattle.gcl_core.specs.meaning.Checked.{IsChecked}
use Rattle.gcl_core.specs.meaning.Syntax.{SourceProgram}
use Rattle.gcl_core.specs.weighing.Fractions.{one, AtMost, IsBelowOne, IsOne}
use Rattle.unlimited_law.specs.Settling.{Outflow}
use Rattle.unlimited_law.specs.SettledMasses.{ProgramSettles, settled_failed}
use Rattle.unlimited_law.proofs.Numbers.{below_refl, below_trans, add_below, add_nought, nought_below}
use Rattle.unlimited_law.proofs.FractionNumbers.{of}
use Rattle.bits_law.specs.Rounds.{RoundCost, expected_rounds}
use Rattle.bits_law.specs.InTheLimit.{NoLess, ComesTo, HasNoBound, rounds_in_the_limit}
use Rattle.bits_law.proofs.LimitedReads.{Approached}
use Rattle.bits_law.proofs.RunCosts.{cost_some, cost_rises, comes_to, grows_with_rounds}

abbrev each : RoundCost
each n r = one

each_some : (n r : ℕ) → 0 < (each n r).1
each_some n r = omega arith

exactly : Approached (λ n r. of (each n r)) (of one)
exactly = record {
  rises = λ n m r t a b. below_refl (of one);
  most = λ n r. below_refl (of one);
  near = λ j pos. (0, λ n r a b. below_trans (add_nought (of one)).above (add_below (below_refl (of one)) (nought_below (of (1, j)))));
}

module _ (p : SourceProgram) (ok : IsChecked p) where
  pub rounds_some : (l : Limits) → 0 < (expected_rounds p l).1
  rounds_some = cost_some p ok each each_some

  pub rounds_rise : (l m : Limits) → NoLess l m → AtMost (expected_rounds p l) (expected_rounds p m)
  rounds_rise = cost_rises p ok each each_some exactly.rises

  module _ (f : Outflow) (s : ProgramSettles p f) where
    pub rounds_come : IsBelowOne (settled_failed p f) → ComesTo (expected_rounds p) (rounds_in_the_limit p f)
    rounds_come = comes_to p ok each each_some one (omega arith) exactly f s

    pub rounds_grow : IsOne (settled_failed p f) → HasNoBound (expected_rounds p)
    rounds_grow h = grows_with_rounds p ok each each_some one (omega arith) exactly f s h (omega arith)
