-- What an outcome weighs falls short of its mass by no more than the strings that need more.
use Rattle.std.proofs.Common.{◌≡◌, ℕ, zero, suc, ◌+◌, ◌*◌, ◌^◌, ◌≤◌, Bool, true, false, cond, List, [], refl, sym, ap, ◌∙◌, subst, arith}
use Rattle.std.proofs.lemmas.Nat.{pow-add}
use Rattle.std.proofs.Math.Nat.{mul-le-mul_left}
use Rattle.gcl_core.specs.declared.answers.Answer.{Answer}
use Rattle.gcl_core.specs.declared.answers.Limits.{Limits}
use Rattle.gcl_core.specs.declared.answers.Outcome.{Outcome}
use Rattle.gcl_core.specs.meaning.Checked.{IsChecked}
use Rattle.gcl_core.specs.meaning.Outcomes.{same_outcome}
use Rattle.gcl_core.specs.meaning.Reading.{Reading, gives, more_bits}
use Rattle.gcl_core.specs.meaning.Runs.{answer_of, run_on}
use Rattle.gcl_core.specs.meaning.Syntax.{SourceProgram}
use Rattle.gcl_core.specs.weighing.Fractions.{Fraction}
use Rattle.gcl_core.specs.weighing.StringWeight.{answer_in, outcome_weight, reading_to}
use Rattle.gcl_core.proofs.Trees.{Tree, leaf, flip, run, Within, worth, worth-more}
use Rattle.gcl_core.proofs.TreeWeights.{chi, weight_tree}
use Rattle.weighing_law.specs.Counting.{strings_that}
use Rattle.weighing_law.specs.Prefixes.{needs_more}
use Rattle.weighing_law.specs.Weighing.{limited_mass}
use Rattle.weighing_law.proofs.EndedStrings.{strings_that-ext, all_alike}
use Rattle.weighing_law.proofs.Shares.{Share, cancel_le}
use Rattle.weighing_law.proofs.WholeRuns.{all_bits, run_tree, run_within, run_reads, tree_share, answer_reading}
use Rattle.many_runs.specs.Fronts.{undecided}

abbrev is_short : {A : Type 0} → Reading A → Bool
is_short (gives a rest) = false
is_short more_bits = true

needs_short : (w : List Bool) (r : Reading Outcome) → needs_more (answer_of w r) ≡ is_short r
needs_short w (gives x rest) = refl
needs_short w more_bits = refl

part : (b : Bool) (n : ℕ) → n * cond b 1 0 ≤ n
part true n = omega arith
part false n = omega arith

module _ {A : Type 0} (meant : A → Bool) where
  worth_most : (t : Tree A) (d : ℕ) → worth (chi meant) t d ≤ 2 ^ d
  worth_most (leaf a) d = part (meant a) (2 ^ d)
  worth_most (flip l r) zero = omega arith
  worth_most (flip l r) (suc d) = let a = worth_most l d in let b = worth_most r d in let two : 2 ^ suc d ≡ 2 ^ d + 2 ^ d = omega arith in omega arith

  short_in : Tree A → ℕ → ℕ
  short_in t L = strings_that (λ w. is_short (run t w)) L

  grows_by : (t : Tree A) (L D : ℕ) → worth (chi meant) t (L + D) ≤ 2 ^ D * (worth (chi meant) t L + short_in t L)
  unfolding short_in
  grows_by (leaf a) L D = let p = pow-add 2 L D in let q = all_alike false L in at_leaf (2 ^ (L + D)) (2 ^ L) (2 ^ D) (chi meant a) _ p
    where
      at_leaf : (n m k c s : ℕ) → n ≡ m * k → n * c ≤ k * (m * c + s)
      at_leaf n m k c s e = rw e (omega arith)
  grows_by (flip l r) zero D = let e : 0 + D ≡ D = omega arith in let h = worth_most (flip l r) D in subst (λ n. worth (chi meant) (flip l r) n ≤ 2 ^ D * 1) (sym e) (omega arith)
  grows_by (flip l r) (suc L) D =
      let e : suc L + D ≡ suc (L + D) = omega arith in
      let a = grows_by l L D in
      let b = grows_by r L D in
      subst (λ n. worth (chi meant) (flip l r) n ≤ 2 ^ D * (worth (chi meant) (flip l r) (suc L) + short_in (flip l r) (suc L))) (sym e)
      (both _ _ (2 ^ D) (worth (chi meant) l L) (worth (chi meant) r L) (short_in l L) (short_in r L) a b)
    where
      both : (x y k a b c d : ℕ) → x ≤ k * (a + c) → y ≤ k * (b + d) → x + y ≤ k * (a + b + (c + d))
      both x y k a b c d h i = omega arith

  pub share_short : (t : Tree A) (D : ℕ) → Within D t → (m : Fraction) → Share (2 ^ D) (worth (chi meant) t D) m → (L : ℕ) →
      m.0 * 2 ^ L ≤ m.1 * (worth (chi meant) t L + strings_that (λ w. is_short (run t w)) L)
  unfolding short_in
  share_short t D short m share L =
      let turned : L + D ≡ D + L = omega arith in
      let e = ap (worth (chi meant) t) turned ∙ worth-more (chi meant) t D L short in
      let h = subst (λ n. n ≤ 2 ^ D * (worth (chi meant) t L + short_in t L)) e (grows_by t L D) in
      cancel_le D _ _ (scaled (2 ^ D) (2 ^ L) (worth (chi meant) t D) (worth (chi meant) t L + short_in t L) m.0 m.1 share (mul-le-mul_left m.1 h))
    where
      scaled : (N T V S m0 m1 : ℕ) → m1 * V ≡ m0 * N → m1 * (T * V) ≤ m1 * (N * S) → m0 * T * N ≤ m1 * S * N
      scaled N T V S m0 m1 e h = let f = ap (λ x. T * x) e in omega arith

pub falls_short : (p : SourceProgram) (l : Limits) → IsChecked p → (answers : List Bool → Answer) → ((w : List Bool) → answers w ≡ run_on p l w) → (x : Outcome) (L : ℕ) →
    (limited_mass p l x).0 * 2 ^ L ≤ (limited_mass p l x).1 * (outcome_weight answers x L + undecided answers L)
falls_short p l ok answers same x L =
    let t = run_tree p l ok in
    let m = limited_mass p l x in
    let weight = weight_tree (same_outcome x) (λ w. answer_in (same_outcome x) (answers w)) t L []
    (λ w. ap (answer_in (same_outcome x)) (same w) ∙ answer_reading (same_outcome x) w _ ∙ ap (reading_to (same_outcome x)) (run_reads p l ok w)) in
    let rest = strings_that-ext (λ w. needs_more (answers w)) (λ w. is_short (run t w)) L (λ w. ap needs_more (same w) ∙ needs_short w _ ∙ ap is_short (run_reads p l ok w)) in
    subst (λ n. m.0 * 2 ^ L ≤ m.1 * (n + undecided answers L)) (sym weight)
    (subst (λ n. m.0 * 2 ^ L ≤ m.1 * (worth (chi (same_outcome x)) t L + n)) (sym rest)
    (share_short (same_outcome x) t (all_bits p l ok) (run_within p l ok) m (tree_share p l ok (same_outcome x)) L))
