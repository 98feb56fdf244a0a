-- How many strings of one length end in an outcome.
use Rattle.std.proofs.Common.{◌≡◌, ℕ, zero, suc, ◌+◌, ◌^◌, Bool, true, false, cond, Option, List, [], ◌∷◌, ◌++◌, refl, sym, ap, ◌∙◌, arith, append_assoc, append-nil}
use Rattle.std.specs.Prelude.{if◌then◌else◌}
use Rattle.gcl_core.specs.declared.answers.Answer.{Answer}
use Rattle.gcl_core.specs.declared.answers.Answer.TheVariants.{Ended, MoreBits}
use Rattle.gcl_core.specs.declared.answers.Outcome.{Outcome}
use Rattle.gcl_core.specs.meaning.Outcomes.{same_outcome}
use Rattle.gcl_core.specs.weighing.StringWeight.{string_weight_from, answer_in}
use Rattle.gcl_core.proofs.Sums.{two_more}
use Rattle.weighing_law.specs.Prefixes.{has_ended_in, ReadsInOrder}
use Rattle.weighing_law.specs.Counting.{strings_that}
use Rattle.weighing_law.proofs.StringWeights.{weight_ended, weight_short, weight_goes_on}

-- ---- strings that pass
pub strings_that-ext : (f g : List Bool → Bool) (h : ℕ) → ((v : List Bool) → f v ≡ g v) → strings_that f h ≡ strings_that g h
strings_that-ext f g h e = ap (λ (test : List Bool → Bool). strings_that test h) (λ i v. e v i)

-- a test that answers the same for all strings
pub all_alike : (b : Bool) (h : ℕ) → strings_that (λ v. b) h ≡ cond b (2 ^ h) 0
all_alike true zero = refl
all_alike false zero = refl
all_alike true (suc h) = let e = all_alike true h in omega (arith, two_more h)
all_alike false (suc h) = let e = all_alike false h in omega arith

-- ---- strings that end
module _ (x : Outcome) (answers : List Bool → Answer) (order : ReadsInOrder answers) where
  abbrev read : List Bool → Option Bool
  read w = answer_in (same_outcome x) (answers w)

  abbrev ended_behind : ℕ → List Bool → ℕ
  ended_behind h u = strings_that (λ v. has_ended_in x (answers (u ++ v))) h

  -- behind a string on which the run has ended, all strings end
  all_ended : (h : ℕ) (u : List Bool) (y : Outcome) (n : ℕ) → answers u ≡ Ended y n → ended_behind h u ≡ cond (same_outcome x y) (2 ^ h) 0
  all_ended h u y n e =
      strings_that-ext (λ v. has_ended_in x (answers (u ++ v))) (λ v. same_outcome x y) h (λ v. ap (has_ended_in x) (order.stays y n u v e))
      ∙ all_alike (same_outcome x y) h

  -- a bit more
  one_more : (h : ℕ) (u : List Bool) (b : Bool) → ended_behind h (u ++ b ∷ []) ≡ strings_that (λ v. has_ended_in x (answers (u ++ b ∷ v))) h
  one_more h u b = strings_that-ext (λ v. has_ended_in x (answers ((u ++ b ∷ []) ++ v))) _ h (λ v. ap (λ w. has_ended_in x (answers w)) (append_assoc u (b ∷ []) v))

  pub weight_counts : (h : ℕ) (u : List Bool) (a : Answer) → answers u ≡ a → string_weight_from read h u ≡ ended_behind h u
  weight_counts h u (Ended y n) e = weight_ended read h u (same_outcome x y) (ap (answer_in (same_outcome x)) e) ∙ sym (all_ended h u y n e)
  weight_counts zero u (MoreBits n) e =
      weight_short read u (ap (answer_in (same_outcome x)) e) ∙ sym (ap (λ a. if has_ended_in x a then 1 else 0) (ap answers (append-nil u) ∙ e))
  weight_counts (suc h) u (MoreBits n) e =
      let low = weight_counts h (u ++ false ∷ []) (answers (u ++ false ∷ [])) refl ∙ one_more h u false in
      let high = weight_counts h (u ++ true ∷ []) (answers (u ++ true ∷ [])) refl ∙ one_more h u true in
      weight_goes_on read h u (ap (answer_in (same_outcome x)) e) ∙ ap (λ n. n + string_weight_from read h (u ++ true ∷ [])) low
      ∙ ap (λ n. strings_that (λ v. has_ended_in x (answers (u ++ false ∷ v))) h + n) high
