use Rattle.std.proofs.Common.{◌≡◌, ◌≤◌, arith, ℕ}
use Rattle.numbers.proofs.Terms.{lowest_turned}
use Rattle.numbers.proofs.fraction.Frac.div.Goals as goal

nonzero : (m n k : ℕ) → m ≡ k → n ≡ k → ¬ (m ≡ 0) → 1 ≤ n
nonzero m n k e f h = omega (arith, h)

pub reduced_product-requires-clause-second : goal.reduced_product-requires-clause-second
reduced_product-requires-clause-second c = lowest_turned c.args.o.now _ _ c.num-3.ensures.lowest c.num-3.ensures.value c.den-2.ensures.value (nonzero c.num.result c.num-3.result c.args.o.now.0 c.num.ensures.value c.num-3.ensures.value c.if-num-eq0.false)
