-- Sums of weights.
use Rattle.std.proofs.Common.{◌≡◌, ℕ, zero, suc, ◌+◌, ◌*◌, ◌≤◌, ◌<◌, Option, Some, None, IfSome, [], ◌∷◌, sym, subst, arith}
use Rattle.std.proofs.Math.Nat.{le_of_mul-le-mul_right, mul-le-mul_right}
use Rattle.gcl_core.specs.declared.answers.Outcome.{Outcome}
use Rattle.gcl_core.specs.weighing.Fractions.{Fraction}
use Rattle.numbers.specs.Arithmetic.{sum_of}
use Rattle.table_flow.specs.Scale.{whole, Whole}
use Rattle.table_flow.proofs.Wholes.{whole_from, sum_whole}
use Rattle.mass_fold.specs.Amounts.{held, AreHeld}
use Rattle.mass_fold.specs.inner.Rounds.{TableParts}
use Rattle.mass_fold.specs.Rows.{Rows}
use Rattle.exact_fold.specs.inner.Rounds.{SumsTo}

abbrev pub Adds : Fraction → Fraction → Fraction → Type 0
Adds p q v = (N : ℕ) → Whole N p → Whole N q → Whole N v × (whole N v ≡ whole N p + whole N q)

pub add_whole : (o : Option Fraction) (p q : Fraction) → o ≡ sum_of p q → IfSome o (Adds p q)
add_whole None p q e = tt
add_whole (Some v) p q e = λ N a b. let r = sum_whole N p q v a b (sym e) in (r.1, r.0)

-- so far in a walk
abbrev pub SumSoFar : Rows → Rows → Fraction → Type 0
SumSoFar es rest v = (N : ℕ) → 0 < N → AreHeld N es → AreHeld N rest × Whole N v × (whole N v + held N (λ x. 1) rest ≡ held N (λ x. 1) es)

pub sum_start : (es rest : Rows) (v : Fraction) → rest ≡ es → v.0 * 1 ≡ 0 * v.1 → 1 ≤ v.1 → SumSoFar es rest v
sum_start es rest v p e some = subst (λ z. SumSoFar es z v) (sym p) by
  where
    by : SumSoFar es es v
    by N n h = let w = whole_from N v 0 (omega arith) (let x : v.0 ≡ 0 = omega arith in rw x (omega arith)) in (h, w.1, let z = w.0 in omega arith)

pub sum_next : (es rest rest' : Rows) (v v' f : Fraction) (x : Outcome) → rest ≡ (x, f) ∷ rest' → Adds v f v' → SumSoFar es rest v → SumSoFar es rest' v'
sum_next es rest rest' v v' f x p a s = by (subst (λ z. SumSoFar es z v) p s)
  where
    by : SumSoFar es ((x, f) ∷ rest') v → SumSoFar es rest' v'
    by s N n h =
        let r = s N n h in
        let w = a N r.1 (r.0).1 in
        ((r.0).2, w.0, let y = r.2 in let z = w.1 in omega arith)

pub sum_end : (es rest : Rows) (v : Fraction) → rest ≡ [] → SumSoFar es rest v → SumsTo es v
sum_end es rest v p s N n h = let r = subst (λ z. SumSoFar es z v) p s N n h in (r.1, let z = r.2 in omega arith)

pub parts_of_one : (es : Rows) (v f all : Fraction) → SumsTo es v → Adds v f all → all.0 ≤ all.1 → (N : ℕ) → 0 < N → AreHeld N es → Whole N f → TableParts N es f
parts_of_one es v f all s a small N n h w =
    let r = s N n h in
    let o = a N r.0 w in
    let e = (o.0).exact in
    let m : whole N all ≤ N = le_of_mul-le-mul_right {m = whole N all} {n = N} {k = all.1} (let x = mul-le-mul_right N small in omega arith) (o.0).positive in
    record { positive = n; kept = h; failed = w; sum = let x = r.1 in let y = o.1 in omega arith }

pub some_part : (f : Fraction) (count : ℕ) → f.0 * count ≡ 1 * f.1 → 1 ≤ f.1 → 1 ≤ f.0
some_part f count e some = by f.0 f.1 e some
  where
    by : (a b : ℕ) → a * count ≡ 1 * b → 1 ≤ b → 1 ≤ a
    by zero b e h = absurd (omega arith)
    by (suc a) b e h = omega arith
