-- Runs in a row: their tree, and what its leaves weigh.
use Rattle.std.proofs.Common.{◌≡◌, ℕ, zero, suc, ◌+◌, ◌*◌, ◌^◌, ◌≤◌, Bool, true, false, ◌&&◌, cond, List, [], ◌∷◌, length, refl, sym, ap, ◌∙◌, subst, arith}
use Rattle.std.proofs.lemmas.Nat.{pow-add}
use Rattle.gcl_core.specs.declared.answers.Limits.{Limits}
use Rattle.gcl_core.specs.declared.answers.Outcome.{Outcome}
use Rattle.gcl_core.specs.meaning.Checked.{IsChecked}
use Rattle.gcl_core.specs.meaning.Outcomes.{same_outcome}
use Rattle.gcl_core.specs.meaning.Reading.{Reading, gives, after}
use Rattle.gcl_core.specs.meaning.Runs.{reads}
use Rattle.gcl_core.specs.meaning.Syntax.{SourceProgram}
use Rattle.gcl_core.specs.weighing.Fractions.{Fraction, IsShare, IsWithinShare}
use Rattle.gcl_core.proofs.Trees.{Tree, leaf, flip, run, after-ext, grow, run-grow, spread-grow, spread-ext, spread-mul, Within, within_grow, within_not, worth, worth-more, worth-grow}
use Rattle.gcl_core.proofs.TreeWeights.{chi}
use Rattle.weighing_law.specs.Counting.{strings_that}
use Rattle.weighing_law.specs.Weighing.{limited_mass}
use Rattle.weighing_law.proofs.EndedStrings.{strings_that-ext, all_alike}
use Rattle.weighing_law.proofs.EveryLength.{worth-steps, within_from}
use Rattle.weighing_law.proofs.Shares.{Share, share-times, cancel, cancel_le, equal_at, below_at}
use Rattle.weighing_law.proofs.WholeRuns.{all_bits, run_tree, run_within, run_reads, tree_share}
use Rattle.many_runs.specs.InARow.{in_a_row, runs_in_a_row}
use Rattle.many_runs.specs.RowWeights.{same_outcomes, ends_as, ended_in_row, product, RowsWeighExactly}

-- ---- strings that a tree reads to what is meant
flat : (b : Bool) (n : ℕ) → cond b n 0 ≡ n * cond b 1 0
flat true n = omega arith
flat false n = omega arith

pub strings_tree : {A : Type 0} (meant : A → Bool) (t : Tree A) (L : ℕ) → strings_that (λ w. ends_as meant (run t w)) L ≡ worth (chi meant) t L
strings_tree meant (leaf a) L = all_alike (meant a) L ∙ flat (meant a) (2 ^ L)
strings_tree meant (flip l r) zero = refl
strings_tree meant (flip l r) (suc L) = let a = strings_tree meant l L in let b = strings_tree meant r L in omega arith

-- what a tree within D bits gives its share of is its share at every length
module _ {A : Type 0} (t : Tree A) (D : ℕ) (short : Within D t) (meant : A → Bool) (m : Fraction) (share : Share (2 ^ D) (worth (chi meant) t D) m) where
  pub exact_at : (L : ℕ) → Within L t → IsShare (worth (chi meant) t L) (2 ^ L) m
  exact_at L fits =
      let turned : D + L ≡ L + D = omega arith in
      let both = sym (worth-more (chi meant) t L D fits) ∙ ap (worth (chi meant) t) (sym turned) ∙ worth-more (chi meant) t D L short in
      cancel D _ _ (equal_at (2 ^ D) (2 ^ L) (worth (chi meant) t D) (worth (chi meant) t L) m.0 m.1 share both)

  pub within_at : (L : ℕ) → IsWithinShare (worth (chi meant) t L) (2 ^ L) m
  within_at L =
      let turned : L + D ≡ D + L = omega arith in
      let e = ap (worth (chi meant) t) turned ∙ worth-more (chi meant) t D L short in
      let both : 2 ^ D * worth (chi meant) t L ≤ 2 ^ L * worth (chi meant) t D = subst (λ x. 2 ^ D * worth (chi meant) t L ≤ x) e (worth-steps (chi meant) t L D) in
      cancel_le D _ _ (below_at (2 ^ D) (2 ^ L) (worth (chi meant) t D) (worth (chi meant) t L) m.0 m.1 share both)

-- ---- the tree of runs in a row
abbrev with_first : Outcome → Tree (List Outcome) → Tree (List Outcome)
with_first x t = grow t (λ xs. leaf (x ∷ xs))

abbrev pub row_tree : Tree Outcome → ℕ → Tree (List Outcome)
row_tree t zero = leaf []
row_tree t (suc k) = grow t (λ x. with_first x (row_tree t k))

pub row_runs : (t : Tree Outcome) (reader : List Bool → Reading Outcome) → ((w : List Bool) → reader w ≡ run t w) → (k : ℕ) (w : List Bool) → in_a_row reader k w ≡ run (row_tree t k) w
row_runs t reader same zero w = refl
row_runs t reader same (suc k) w =
    ap (λ r. after r (λ x rest. after (in_a_row reader k rest) (λ xs left. gives (x ∷ xs) left))) (same w)
    ∙ after-ext (run t w) (λ x rest. after (in_a_row reader k rest) (λ xs left. gives (x ∷ xs) left)) (λ x rest. run (with_first x (row_tree t k)) rest)
    (λ x rest. ap (λ r. after r (λ xs left. gives (x ∷ xs) left)) (row_runs t reader same k rest) ∙ sym (run-grow (row_tree t k) (λ xs. leaf (x ∷ xs)) rest))
    ∙ sym (run-grow t (λ x. with_first x (row_tree t k)) w)

first_within : (d : ℕ) (x : Outcome) (t : Tree (List Outcome)) → Within d t → Within d (with_first x t)
first_within d x t w = let e : d + 0 ≡ d = omega arith in subst (λ n. Within n (with_first x t)) e (within_grow t (λ xs. leaf (x ∷ xs)) d 0 w (λ xs. tt))

pub row_within : (t : Tree Outcome) (d : ℕ) → Within d t → (k : ℕ) → Within (k * d) (row_tree t k)
row_within t d w zero = tt
row_within t d w (suc k) =
    let e : d + k * d ≡ suc k * d = omega arith in
    subst (λ n. Within n (row_tree t (suc k))) e
    (within_grow t (λ x. with_first x (row_tree t k)) d (k * d) w (λ x. first_within (k * d) x (row_tree t k) (row_within t d w k)))

-- ---- what its leaves weigh
chi_both : (a b : Bool) → cond (a && b) 1 0 ≡ cond a 1 0 * cond b 1 0
chi_both true b = omega arith
chi_both false b = omega arith

first_worth : (x y : Outcome) (ys : List Outcome) (t : Tree (List Outcome)) (e : ℕ) →
    worth (chi (same_outcomes (y ∷ ys))) (with_first x t) e ≡ chi (same_outcome y) x * worth (chi (same_outcomes ys)) t e
first_worth x y ys t e =
    spread-grow t (λ xs. leaf (x ∷ xs)) e (λ zs h. 2 ^ h * chi (same_outcomes (y ∷ ys)) zs)
    ∙ spread-ext t e (λ xs h. 2 ^ h * chi (same_outcomes (y ∷ ys)) (x ∷ xs)) (λ xs h. chi (same_outcome y) x * (2 ^ h * chi (same_outcomes ys) xs))
    (λ xs h. let b = chi_both (same_outcome y x) (same_outcomes ys xs) in rw b (regroup (2 ^ h) (chi (same_outcome y) x) (chi (same_outcomes ys) xs)))
    ∙ spread-mul t e (chi (same_outcome y) x) (λ xs h. 2 ^ h * chi (same_outcomes ys) xs)
  where
    regroup : (h a b : ℕ) → h * (a * b) ≡ a * (h * b)
    regroup h a b = omega arith

pub row_share : (t : Tree Outcome) (d : ℕ) → Within d t → (mass : Outcome → Fraction) → ((x : Outcome) → Share (2 ^ d) (worth (chi (same_outcome x)) t d) (mass x)) →
    (xs : List Outcome) → Share (2 ^ (length xs * d)) (worth (chi (same_outcomes xs)) (row_tree t (length xs)) (length xs * d)) (product mass xs)
row_share t d w mass share [] = omega arith
row_share t d w mass share (x ∷ xs) =
    let k = length xs in
    let rt = row_tree t k in
    let W = worth (chi (same_outcomes xs)) rt (k * d) in
    let e : d + k * d ≡ suc k * d = omega arith in
    let grown = worth-grow (chi (same_outcomes (x ∷ xs))) t (λ y. with_first y rt) d (k * d) w (λ y. first_within (k * d) y rt (row_within t d w k)) in
    let parts =
    spread-ext t d (λ y h. 2 ^ h * worth (chi (same_outcomes (x ∷ xs))) (with_first y rt) (k * d)) (λ y h. W * (2 ^ h * chi (same_outcome x) y))
    (λ y h. let f = first_worth y x xs rt (k * d) in rw f (regroup (2 ^ h) (chi (same_outcome x) y) W)) in
    let whole = spread-mul t d W (λ y h. 2 ^ h * chi (same_outcome x) y) in
    let v = worth (chi (same_outcome x)) t d in
    let both = share-times (2 ^ d) (2 ^ (k * d)) v W (mass x) (product mass xs) (share x) (row_share t d w mass share xs) in
    let turned : W * v ≡ v * W = omega arith in
    subst (λ n. Share (2 ^ n) (worth (chi (same_outcomes (x ∷ xs))) (row_tree t (suc k)) n) (product mass (x ∷ xs))) e
    (subst (λ N. Share N (worth (chi (same_outcomes (x ∷ xs))) (row_tree t (suc k)) (d + k * d)) (product mass (x ∷ xs))) (sym (pow-add 2 d (k * d)))
    (subst (λ v. Share (2 ^ d * 2 ^ (k * d)) v (product mass (x ∷ xs))) (sym (grown ∙ parts ∙ whole ∙ turned)) both))
  where
    regroup : (h a b : ℕ) → h * (a * b) ≡ b * (h * a)
    regroup h a b = omega arith

-- ---- the law
module _ (p : SourceProgram) (l : Limits) (ok : IsChecked p) where
  abbrev t : Tree Outcome
  t = run_tree p l ok

  abbrev D : ℕ
  D = all_bits p l ok

  reads_tree : (k : ℕ) (w : List Bool) → runs_in_a_row p l k w ≡ run (row_tree t k) w
  reads_tree = row_runs t (reads p l) (run_reads p l ok)

  row_count : (xs : List Outcome) (L : ℕ) → ended_in_row p l xs L ≡ worth (chi (same_outcomes xs)) (row_tree t (length xs)) L
  row_count xs L =
      strings_that-ext (λ w. ends_as (same_outcomes xs) (runs_in_a_row p l (length xs) w)) (λ w. ends_as (same_outcomes xs) (run (row_tree t (length xs)) w)) L
      (λ w. ap (ends_as (same_outcomes xs)) (reads_tree (length xs) w))
      ∙ strings_tree (same_outcomes xs) (row_tree t (length xs)) L

  share_of : (xs : List Outcome) → Share (2 ^ (length xs * D)) (worth (chi (same_outcomes xs)) (row_tree t (length xs)) (length xs * D)) (product (limited_mass p l) xs)
  share_of = row_share t D (run_within p l ok) (limited_mass p l) (λ x. tree_share p l ok (same_outcome x))

  pub rows_weigh : RowsWeighExactly p l
  rows_weigh = record {
    within = λ xs L.
        let k = length xs in
        let m = product (limited_mass p l) xs in
        subst (λ n. IsWithinShare n (2 ^ L) m) (sym (row_count xs L)) (within_at (row_tree t k) (k * D) (row_within t D (run_within p l ok) k) (same_outcomes xs) m (share_of xs) L);
    exact = λ xs L suffices.
        let k = length xs in
        let m = product (limited_mass p l) xs in
        let fits = within_from (row_tree t k) L (λ w e q. suffices w e (reads_tree k w ∙ q)) in
        subst (λ n. IsShare n (2 ^ L) m) (sym (row_count xs L)) (exact_at (row_tree t k) (k * D) (row_within t D (run_within p l ok) k) (same_outcomes xs) m (share_of xs) L fits);
    enough = λ k w e q. within_not (row_tree t k) (k * D) w (row_within t D (run_within p l ok) k) e (sym (reads_tree k w) ∙ q);
  }
