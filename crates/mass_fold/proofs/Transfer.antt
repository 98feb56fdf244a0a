-- Averages over lists whose weights are counted at a scale.
use Rattle.std.proofs.Common.{◌≡◌, ℕ, ◌+◌, ◌*◌, [], ◌∷◌, ap, arith}
use Rattle.gcl_core.specs.weighing.Fractions.{Fraction}
use Rattle.gcl_core.specs.weighing.WeightedEnds.{Weighted}
use Rattle.cost_law.specs.ExpectedBits.{on_average}
use Rattle.table_flow.specs.Scale.{whole, Wholes, amount}

-- so many of M parts are the share that each entry goes on to
abbrev pub EachShare : {A : Type 0} → ℕ → (A → Fraction) → (A → ℕ) → Weighted A → Type 0
EachShare M g H [] = Unit {0}
EachShare M g H (e ∷ m) = ((g e.1).1 * H e.1 ≡ (g e.1).0 * M) × EachShare M g H m

pub average_amount : {A : Type 0} (N M : ℕ) (g : A → Fraction) (H : A → ℕ) (m : Weighted A) → Wholes N m → EachShare M g H m → (on_average m g).1 * amount N H m ≡ (on_average m g).0 * (N * M)
average_amount N M g H [] w v = omega arith
average_amount N M g H (e ∷ m) w v =
    let a = on_average m g in
    joined e.0.0 e.0.1 (g e.1).0 (g e.1).1 a.0 a.1 (whole N e.0) (H e.1) (amount N H m) N M w.0.exact v.0 (average_amount N M g H m w.1 v.1)
  where
    joined : (w0 w1 g0 g1 a0 a1 U V B N M : ℕ) → w1 * U ≡ w0 * N → g1 * V ≡ g0 * M → a1 * B ≡ a0 * (N * M) → w1 * g1 * a1 * (U * V + B) ≡ (w0 * g0 * a1 + a0 * (w1 * g1)) * (N * M)
    joined w0 w1 g0 g1 a0 a1 U V B N M e f h = let x = ap (λ z. z * (g1 * V * a1)) e in let y = ap (λ z. w0 * N * z * a1) f in let u = ap (λ z. w1 * g1 * z) h in omega arith
