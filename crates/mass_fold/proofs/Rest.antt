-- A weight over what does not fail: that it is exact, and why it is refused.
use Rattle.std.proofs.Common.{◌≡◌, ℕ, zero, suc, ◌+◌, ◌-◌, ◌*◌, ◌^◌, ◌≤◌, ◌<◌, Bool, true, false, cond, Some, None, refl, sym, ap, ◌∙◌, arith}
use Rattle.std.specs.Prelude.{◌==◌}
use Rattle.std.proofs.lemmas.Bool.Decides.{nat_tests}
use Rattle.std.proofs.Math.Nat.{lt_of_mul-lt-mul_left, mul-lt-mul_of_pos_right}
use Rattle.gcl_core.specs.weighing.Fractions.{Fraction}
use Rattle.numbers.specs.Fraction.{IsEqual}
use Rattle.numbers.specs.Arithmetic.{product_of, quotient_of}
use Rattle.numbers.proofs.Divisors.{product_pos, cancel}
use Rattle.table_flow.specs.Scale.{whole, Whole}
use Rattle.table_flow.proofs.Wholes.{whole_from, product_whole, product_refused}
use Rattle.mass_fold.specs.declared.error.MassError.{MassError}
use Rattle.mass_fold.specs.declared.error.MassError.TheVariants.{TooWide, TooManyStates, AllFailed, OutOfMemory}
use Rattle.mass_fold.specs.inner.Amounts.{Blames}
use Rattle.mass_fold.specs.inner.Rounds.{ArePartsOfOne, TableParts, OverRestBlames}
use Rattle.mass_fold.specs.Rows.{Rows}

abbrev turned : Fraction → Fraction
turned p = (p.1, p.0)

-- a quotient is the product with the turned divisor
as_product : (s r : Fraction) → 0 < r.0 → quotient_of s r ≡ product_of s (turned r)
as_product s r pos = by (r.0 == 0) refl
  where
    by : (b : Bool) → (r.0 == 0) ≡ b → cond b None (product_of s (turned r)) ≡ product_of s (turned r)
    by true p = absurd (let z : r.0 ≡ 0 = grind (arith, nat_tests) in omega arith)
    by false p = refl

module _ (s f r : Fraction) (below : f.0 < f.1) (rp : 0 < r.1) (is : IsEqual r (f.1 - f.0, f.1)) where
  rest_pos : 0 < r.0
  rest_pos = above r.0 r.1 (f.1 - f.0) f.1 rp (omega arith) is
    where
      above : (a b c d : ℕ) → 0 < b → 0 < c → a * d ≡ c * b → 0 < a
      above zero b c d p q e = absurd (let z = product_pos c b q p in omega arith)
      above (suc a) b c d p q e = omega arith

  module _ (N : ℕ) (p : ArePartsOfOne N s f) where
    abbrev M : ℕ
    M = N - whole N f

    -- the rest is M of N
    rest_exact : r.1 * M ≡ r.0 * N
    rest_exact = cancel f.1 _ _ p.second.positive (exact f.0 f.1 (f.1 - f.0) r.0 r.1 (whole N f) N M (let z = below in omega arith) (let z = p.sum in omega arith) is p.second.exact)
      where
        exact : (n d c a b F N M : ℕ) → d ≡ n + c → N ≡ M + F → a * d ≡ c * b → d * F ≡ n * N → d * (b * M) ≡ d * (a * N)
        exact n d c a b F N M e g h k =
            let x = ap (λ z. z * N) h in
            let y = ap (λ z. z * (b * N)) e in
            let u = ap (λ z. d * b * z) g in
            let v = ap (λ z. b * z) k in
            omega arith

    over : (whole M (s.0 * r.1, s.1 * r.0) ≡ whole N s) × Whole M (s.0 * r.1, s.1 * r.0)
    over = whole_from M (s.0 * r.1, s.1 * r.0) (whole N s) (product_pos s.1 r.0 p.first.positive rest_pos) (exact s.0 s.1 r.0 r.1 (whole N s) N M p.first.exact rest_exact)
      where
        exact : (a b c d W N M : ℕ) → b * W ≡ a * N → d * M ≡ c * N → b * c * W ≡ a * d * M
        exact a b c d W N M e g = let x = ap (λ z. c * z) e in let y = ap (λ z. a * z) g in omega arith

    pub over_is : (t : Fraction) → quotient_of s r ≡ Some t → Whole M t × (whole M t ≡ 1 * whole N s)
    over_is t e =
        let q = product_whole M s (turned r) t over.1 (sym (as_product s r rest_pos) ∙ e) in
        (q.1, let z = over.0 in let y = q.0 in omega arith)

    pub over_refused : 0 < M → quotient_of s r ≡ None → 2 ^ 128 ≤ N
    over_refused pos e =
        let w = product_refused M s (turned r) pos over.1 (let z = over.0 in let y = p.sum in omega arith) (sym (as_product s r rest_pos) ∙ e) in
        omega arith

-- what does not fail is above 0
pub rest_above : (f : Fraction) (rows : Rows) → f.0 < f.1 → (N : ℕ) → TableParts N rows f → 0 < N - whole N f
rest_above f rows below N h = let l = less f.0 f.1 (whole N f) N below h.positive h.failed.exact in omega arith
  where
    less : (n d F N : ℕ) → n < d → 0 < N → d * F ≡ n * N → F < N
    less n d F N b p e = lt_of_mul-lt-mul_left d (let z = mul-lt-mul_of_pos_right b p in omega arith)

-- what is blamed on the rest is blamed on the whole
pub blames_more : (f : Fraction) (rows : Rows) (e : MassError) → ((N L : ℕ) → TableParts N rows f → Blames e (N - whole N f) L) → OverRestBlames e f rows
blames_more f rows TooWide b N L h = let z = b N L h in omega arith
blames_more f rows TooManyStates b N L h = b N L h
blames_more f rows AllFailed b N L h = b N L h
blames_more f rows OutOfMemory b N L h = b N L h
