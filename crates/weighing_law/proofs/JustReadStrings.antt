-- What an outcome weighs is what the strings weigh that are just read to it, summed over their lengths.
use Rattle.std.proofs.Common.{◌≡◌, ℕ, zero, suc, ◌+◌, ◌*◌, ◌-◌, ◌^◌, Bool, true, false, ◌&&◌, cond, Option, List, [], ◌∷◌, refl, sym, ap, ◌∙◌, arith}
use Rattle.std.specs.Prelude.{if◌then◌else◌, sum_by}
use Rattle.std.specs.List.{range_with_len}
use Rattle.std.proofs.lemmas.List.Sums.{sum_by-cons}
use Rattle.gcl_core.specs.declared.answers.Answer.{Answer}
use Rattle.gcl_core.specs.declared.answers.Answer.TheVariants.{Ended, MoreBits}
use Rattle.gcl_core.specs.declared.answers.Outcome.{Outcome}
use Rattle.gcl_core.specs.meaning.Outcomes.{same_outcome}
use Rattle.gcl_core.specs.weighing.StringWeight.{string_weight_from, answer_in}
use Rattle.weighing_law.specs.Prefixes.{has_ended_in, needs_more, each_shorter_front, is_just_read}
use Rattle.weighing_law.specs.Counting.{strings_that}
use Rattle.weighing_law.specs.JustRead.{just_read_weight}
use Rattle.weighing_law.proofs.EndedStrings.{all_alike}
use Rattle.weighing_law.proofs.StringWeights.{weight_ended, weight_short, weight_goes_on, weight_behind}

-- ---- sums over lengths
sum_by-ext : (f g : ℕ → ℕ) (ks : List ℕ) → ((k : ℕ) → f k ≡ g k) → sum_by f ks ≡ sum_by g ks
sum_by-ext f g ks e = ap (λ (f : ℕ → ℕ). sum_by f ks) (λ i k. e k i)

sum_by-add : (f g : ℕ → ℕ) (ks : List ℕ) → sum_by (λ k. f k + g k) ks ≡ sum_by f ks + sum_by g ks
sum_by-add f g [] = refl
sum_by-add f g (k ∷ ks) = let h = sum_by-add f g ks in omega (arith, sum_by-cons (λ k. f k + g k) k ks, sum_by-cons f k ks, sum_by-cons g k ks)

sum_by-none : (ks : List ℕ) → sum_by (λ k. 0) ks ≡ 0
sum_by-none [] = refl
sum_by-none (k ∷ ks) = let h = sum_by-none ks in let q = sum_by-cons (λ k. 0) k ks in omega arith

sum_by-shift : (f : ℕ → ℕ) (a n : ℕ) → sum_by f (range_with_len (a + 1) n) ≡ sum_by (λ k. f (suc k)) (range_with_len a n)
sum_by-shift f a zero = refl
sum_by-shift f a (suc n) =
    let p : a + 1 ≡ suc a = omega arith in
    let h = sum_by-shift f (a + 1) n in
    let q = ap f p in
    omega (arith, sum_by-cons f (a + 1) (range_with_len (a + 1 + 1) n), sum_by-cons (λ k. f (suc k)) a (range_with_len (a + 1) n))

module _ (x : Outcome) where
  abbrev just_read : (List Bool → Answer) → ℕ → ℕ
  just_read answers k = strings_that (is_just_read answers x) k

  -- ---- strings that begin with a bit, by whether the empty string needs more
  with_first : (answers : List Bool → Answer) (needs b : Bool) (k : ℕ) → needs_more (answers []) ≡ needs →
      strings_that (λ v. is_just_read answers x (b ∷ v)) k
      ≡ strings_that (λ v. (needs && each_shorter_front (λ u. needs_more (answers (b ∷ u))) v) && has_ended_in x (answers (b ∷ v))) k
  with_first answers needs b k e =
      ap (λ n. strings_that (λ v. (n && each_shorter_front (λ u. needs_more (answers (b ∷ u))) v) && has_ended_in x (answers (b ∷ v))) k) e

  none_behind : (answers : List Bool → Answer) (k : ℕ) → needs_more (answers []) ≡ false → just_read answers (suc k) ≡ 0
  none_behind answers k e =
      let low = with_first answers false false k e ∙ all_alike false k in
      let high = with_first answers false true k e ∙ all_alike false k in
      omega arith

  some_behind : (answers : List Bool → Answer) (k : ℕ) → needs_more (answers []) ≡ true →
      just_read answers (suc k) ≡ just_read (λ v. answers (false ∷ v)) k + just_read (λ v. answers (true ∷ v)) k
  some_behind answers k e =
      let low = with_first answers true false k e in
      let high = with_first answers true true k e in
      omega arith

  -- ---- the sum: the empty string, and all others
  abbrev term : (List Bool → Answer) → ℕ → ℕ → ℕ
  term answers L k = 2 ^ (L - k) * just_read answers k

  abbrev others : (List Bool → Answer) → ℕ → ℕ
  others answers L = sum_by (λ k. term answers (suc L) (suc k)) (range_with_len 0 (suc L))

  split : (answers : List Bool → Answer) (L : ℕ) → just_read_weight answers x (suc L) ≡ 2 ^ suc L * just_read answers 0 + others answers L
  split answers L =
      let whole : suc L - 0 ≡ suc L = omega arith in
      sum_by-cons (term answers (suc L)) 0 (range_with_len 1 (suc L))
      ∙ ap (λ n. 2 ^ n * just_read answers 0 + sum_by (term answers (suc L)) (range_with_len 1 (suc L))) whole
      ∙ ap (λ n. 2 ^ suc L * just_read answers 0 + n) (sum_by-shift (term answers (suc L)) 0 (suc L))

  no_others : (answers : List Bool → Answer) (L : ℕ) → needs_more (answers []) ≡ false → others answers L ≡ 0
  no_others answers L e =
      sum_by-ext (λ k. term answers (suc L) (suc k)) (λ k. 0) (range_with_len 0 (suc L)) (λ k. ap (λ n. 2 ^ (suc L - suc k) * n) (none_behind answers k e) ∙ omega arith)
      ∙ sum_by-none (range_with_len 0 (suc L))

  all_others : (answers : List Bool → Answer) (L : ℕ) → needs_more (answers []) ≡ true →
      others answers L ≡ just_read_weight (λ v. answers (false ∷ v)) x L + just_read_weight (λ v. answers (true ∷ v)) x L
  all_others answers L e =
      let low = term (λ v. answers (false ∷ v)) L in
      let high = term (λ v. answers (true ∷ v)) L in
      sum_by-ext (λ k. term answers (suc L) (suc k)) (λ k. low k + high k) (range_with_len 0 (suc L))
      (λ k. let p : suc L - suc k ≡ L - k = omega arith in parts (2 ^ (suc L - suc k)) (2 ^ (L - k)) _ _ _ (ap (λ n. 2 ^ n) p) (some_behind answers k e))
      ∙ sum_by-add low high (range_with_len 0 (suc L))
    where
      parts : (n m a b c : ℕ) → n ≡ m → a ≡ b + c → n * a ≡ m * b + m * c
      parts n m a b c e f = rw (e, f) (omega arith)

  -- ---- by what the empty string is read to
  abbrev read : (List Bool → Answer) → List Bool → Option Bool
  read answers w = answer_in (same_outcome x) (answers w)

  at_once : (answers : List Bool → Answer) (y : Outcome) (n L : ℕ) → answers [] ≡ Ended y n → cond (same_outcome x y) (2 ^ L) 0 ≡ 2 ^ L * just_read answers 0
  at_once answers y n L e = by_test (same_outcome x y) (2 ^ L) ∙ sym (ap (λ a. 2 ^ L * (if has_ended_in x a then 1 else 0)) e)
    where
      by_test : (b : Bool) (n : ℕ) → cond b n 0 ≡ n * (if b then 1 else 0)
      by_test true n = omega arith
      by_test false n = omega arith

  none_yet : (answers : List Bool → Answer) (n : ℕ) → answers [] ≡ MoreBits n → just_read answers 0 ≡ 0
  none_yet answers n e = ap (λ a. if has_ended_in x a then 1 else 0) e

  pub weight_sums : (L : ℕ) (answers : List Bool → Answer) (a : Answer) → answers [] ≡ a → string_weight_from (read answers) L [] ≡ just_read_weight answers x L
  weight_sums zero answers (Ended y n) e = weight_ended (read answers) 0 [] (same_outcome x y) (ap (answer_in (same_outcome x)) e) ∙ at_once answers y n 0 e ∙ omega arith
  weight_sums zero answers (MoreBits n) e = weight_short (read answers) [] (ap (answer_in (same_outcome x)) e) ∙ (let h = none_yet answers n e in omega arith)
  weight_sums (suc L) answers (Ended y n) e =
      weight_ended (read answers) (suc L) [] (same_outcome x y) (ap (answer_in (same_outcome x)) e) ∙ at_once answers y n (suc L) e
      ∙ (let h = no_others answers L (ap needs_more e) in let s = split answers L in omega arith)
  weight_sums (suc L) answers (MoreBits n) e =
      let low = weight_behind (read answers) L false [] ∙ weight_sums L (λ v. answers (false ∷ v)) (answers (false ∷ [])) refl in
      let high = weight_behind (read answers) L true [] ∙ weight_sums L (λ v. answers (true ∷ v)) (answers (true ∷ [])) refl in
      let on = weight_goes_on (read answers) L [] (ap (answer_in (same_outcome x)) e) in
      let none = ap (λ n. 2 ^ suc L * n) (none_yet answers n e) in
      let h = all_others answers L (ap needs_more e) in
      let s = split answers L in
      omega arith
