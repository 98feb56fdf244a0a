-- Some rounds by halves of their number, and such that give nothing.
use Rattle.std.proofs.Common.{◌≡◌, ℕ, ◌/◌, ◌%◌, ◌<◌, Bool, true, false, cond, List, [], ◌∷◌, ◌++◌, refl, sym, ap, ◌∙◌, arith}
use Rattle.std.specs.Prelude.{◌==◌}
use Rattle.std.specs.Int.Digits.{digits_of}
use Rattle.std.proofs.lemmas.Int.Digits.{digits_of_step}
use Rattle.numbers.specs.Units.{shared}
use Rattle.units_law.specs.SomeRounds.{InRounds, no_round, followed, with_digit, with_digits, in_rounds}

digits_further : (one so_far : InRounds) (ds es : List ℕ) → with_digits one so_far (ds ++ es) ≡ with_digits one (with_digits one so_far ds) es
digits_further one so_far [] es = refl
digits_further one so_far (d ∷ ds) es = digits_further one (with_digit one so_far d) ds es

module _ (one : InRounds) (R : ℕ) where
  pub no_rounds : R ≡ 0 → no_round ≡ in_rounds one R
  no_rounds e = ap (in_rounds one) (sym e)

  last_digit : 0 < R → in_rounds one R ≡ with_digit one (in_rounds one (R / 2)) (R % 2)
  last_digit some = ap (with_digits one no_round) (digits_of_step 2 R (omega arith) some) ∙ digits_further one no_round (digits_of 2 (R / 2)) (R % 2 ∷ [])

  module _ (some : ¬ (R ≡ 0)) (half : InRounds) (h : half ≡ in_rounds one (R / 2)) (twice : InRounds) (t : twice ≡ followed half half) where
    by_digit : (d : ℕ) → R % 2 ≡ d → with_digit one half d ≡ in_rounds one R
    by_digit d e = ap (λ d. with_digit one half d) (sym e) ∙ ap (λ a. with_digit one a (R % 2)) h ∙ sym (last_digit (omega (arith, some)))

    pub even_rounds : R % 2 ≡ 0 → twice ≡ in_rounds one R
    even_rounds e = t ∙ by_digit 0 e

    pub odd_rounds : ¬ (R % 2 ≡ 0) → (all : InRounds) → all ≡ followed one twice → all ≡ in_rounds one R
    odd_rounds e all q = q ∙ ap (followed one) t ∙ by_digit 1 (omega (arith, e))

-- ---- nothing

shared_nothing : (a : ℕ) → shared a 0 ≡ 0
shared_nothing a = omega arith

followed_nothing : (a b : InRounds) → a.1 ≡ 0 → b.1 ≡ 0 → (followed a b).1 ≡ 0
followed_nothing a b h k = let x = ap (λ t. shared a.0 t) k in let y = shared_nothing a.0 in omega arith

module _ (f : ℕ) where
  digit_nothing : (d : ℕ) (a : InRounds) → a.1 ≡ 0 → (with_digit (f, 0) a d).1 ≡ 0
  digit_nothing d a h = by (d == 0)
    where
      by : (c : Bool) → (cond c (followed a a) (followed (f, 0) (followed a a))).1 ≡ 0
      by true = followed_nothing a a h h
      by false = followed_nothing (f, 0) (followed a a) refl (followed_nothing a a h h)

  digits_nothing : (ds : List ℕ) (a : InRounds) → a.1 ≡ 0 → (with_digits (f, 0) a ds).1 ≡ 0
  digits_nothing [] a h = h
  digits_nothing (d ∷ ds) a h = digits_nothing ds (with_digit (f, 0) a d) (digit_nothing d a h)

  pub rounds_nothing : (R : ℕ) → (in_rounds (f, 0) R).1 ≡ 0
  rounds_nothing R = digits_nothing (digits_of 2 R) no_round refl
