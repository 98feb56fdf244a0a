-- Sums of weights in lowest terms, and a weight over what does not fail.
use Rattle.std.proofs.Common.{◌≡◌, ℕ, ◌+◌, ◌-◌, ◌*◌, ◌<◌, sym, ap, subst, arith}
use Rattle.gcl_core.specs.weighing.Fractions.{Fraction, plus, times}
use Rattle.numbers.specs.Fraction.{lowest}
use Rattle.numbers.proofs.Divisors.{product_pos, cancel, lowest_in_lowest, lowest_equal}
use Rattle.table_flow.specs.Scale.{whole, Whole}
use Rattle.table_flow.proofs.Wholes.{whole_from, whole_lowest}
use Rattle.mass_fold.specs.inner.Rounds.{ArePartsOfOne}
use Rattle.exact_fold.proofs.Sums.{Adds}
use Rattle.wide_fold.proofs.Insertion.{lowest_whole}

pub adds : (p q v : Fraction) → v ≡ lowest (plus p q) → Adds p q v
adds p q v e N a b = let r = lowest_whole N p q v a b e in (r.1, r.0)

-- i is 1 over what is left of f, and t is s times that
module _ (s f i t : Fraction) (below : f.0 < f.1) (is : i ≡ lowest (f.1, f.1 - f.0)) (same : t ≡ lowest (times s i)) where
  inverse : i.0 * (f.1 - f.0) ≡ f.1 * i.1
  inverse = subst (λ i. i.0 * (f.1 - f.0) ≡ f.1 * i.1) (sym is) (lowest_equal f.1 (f.1 - f.0))

  inverse_some : 0 < i.1
  inverse_some = subst (λ i. 0 < i.1) (sym is) (let l = lowest_in_lowest f.1 (f.1 - f.0) (omega arith) in omega (arith, l.positive))

  module _ (N : ℕ) (p : ArePartsOfOne N s f) where
    abbrev M : ℕ
    M = N - whole N f

    rest_exact : i.0 * M ≡ i.1 * N
    rest_exact = cancel f.1 _ _ p.second.positive (exact f.0 f.1 (f.1 - f.0) i.0 i.1 (whole N f) N M (omega arith) (let z = p.sum in omega arith) inverse p.second.exact)
      where
        exact : (n d c a b F N M : ℕ) → d ≡ n + c → N ≡ M + F → a * c ≡ d * b → d * F ≡ n * N → d * (a * M) ≡ d * (b * N)
        exact n d c a b F N M e g h k =
            let x = ap (λ z. z * N) h in
            let y = ap (λ z. z * (a * N)) e in
            let u = ap (λ z. d * a * z) g in
            let v = ap (λ z. a * z) k in
            omega arith

    times_is : (whole M (times s i) ≡ whole N s) × Whole M (times s i)
    times_is = whole_from M (times s i) (whole N s) (product_pos s.1 i.1 p.first.positive inverse_some) (exact s.0 s.1 i.0 i.1 (whole N s) N M p.first.exact rest_exact)
      where
        exact : (a b c d W N M : ℕ) → b * W ≡ a * N → c * M ≡ d * N → b * d * W ≡ a * c * M
        exact a b c d W N M e g = let x = ap (λ z. d * z) e in let y = ap (λ z. a * z) g in omega arith

    pub over_is : Whole M t × (whole M t ≡ 1 * whole N s)
    over_is =
        let l = whole_lowest M (times s i).0 (times s i).1 times_is.1 in
        subst (λ t. Whole M t × (whole M t ≡ 1 * whole N s)) (sym same) (l.1, let z = l.0 in let y = times_is.0 in omega arith)
