-- Rows of masses without limits of attempts and of rounds add up to 1.
use Rattle.std.proofs.Common.{◌≡◌, ℕ, zero, suc, ◌+◌, ◌*◌, ◌<◌, Bool, true, cond, [], ◌∷◌, None, length, slice_index_or, refl, sym, ap, ◌∙◌, subst, arith}
use Rattle.std.specs.Prelude.{All, Contains}
use Rattle.numbers.specs.Fraction.{lowest}
use Rattle.numbers.proofs.Divisors.{lowest_equal, cancel}
use Rattle.gcl_core.specs.declared.answers.Outcome.{Outcome}
use Rattle.gcl_core.specs.declared.answers.Outcome.TheVariants as outcome
use Rattle.gcl_core.specs.meaning.Blocks.{End, on, failed, fault, limit}
use Rattle.gcl_core.specs.meaning.Order.{is_before}
use Rattle.gcl_core.specs.meaning.Outcomes.{same_outcome, outcome_of, zeros}
use Rattle.gcl_core.specs.meaning.Syntax.{SourceProgram}
use Rattle.gcl_core.specs.meaning.Value.{value_of}
use Rattle.gcl_core.specs.weighing.Fractions.{Fraction}
use Rattle.gcl_core.specs.weighing.Mass.{mass_of, ends_in, is_failed}
use Rattle.gcl_core.specs.weighing.WeightedEnds.{Weighted, weighted_ends}
use Rattle.gcl_core.proofs.OutcomeOrder.{before_differs, after_differs}
use Rattle.gcl_core.proofs.SameOutcomes.{outcome_itself}
use Rattle.gcl_core.proofs.TreeWeights.{chi}
use Rattle.weighing_law.proofs.Shares.{Share, share-plus, factor_pos, product_pos}
use Rattle.weighing_law.proofs.WeightedLists.{Counts}
use Rattle.mass_fold.specs.Rows.{Rows, outcomes_of, Ascending, AreMasses}
use Rattle.mass_fold.proofs.OutcomeRows.{ascending_rest, all_after, outcome_at, same_length}
use Rattle.bounds_law.proofs.EntrySums.{counts_join}
use Rattle.bounds_law.proofs.OneLimit.{Sums, sum_of_those, lower_share, lower_pos}
use Rattle.exact_fold.specs.Exact.{all_of}

-- how often an outcome has a row
abbrev times : Rows → Outcome → ℕ
times [] x = 0
times (row ∷ rows) x = chi (same_outcome row.0) x + times rows x

none_after : (x : Outcome) (rows : Rows) → All (λ y. is_before x y ≡ true) (outcomes_of rows) → times rows x ≡ 0
none_after x [] h = refl
none_after x (row ∷ rows) h =
    let b = after_differs x row.0 (h 0 x (omega arith)) in
    let i = none_after x rows (λ k d l. h (suc k) d (omega arith)) in
    let z : chi (same_outcome row.0) x ≡ 0 = ap (λ b. cond b 1 0) b in
    omega arith

once : (x : Outcome) (f : Fraction) (rows : Rows) (k : ℕ) → k < length rows → slice_index_or rows k (x, f) ≡ (x, f) → Ascending rows → times rows x ≡ 1
once x f [] k l e a = absurd (omega arith)
once x f (row ∷ rows) zero l e a =
    let z = none_after row.0 rows (all_after row.0 (outcomes_of rows) a) in
    let y : chi (same_outcome row.0) row.0 ≡ 1 = ap (λ b. cond b 1 0) (outcome_itself row.0) in
    let o : times (row ∷ rows) row.0 ≡ 1 = omega arith in
    subst (λ (r : Outcome × Fraction). times (row ∷ rows) r.0 ≡ 1) e o
once x f (row ∷ rows) (suc k) l e a =
    let r = once x f rows k (omega arith) e (ascending_rest row.0 (outcomes_of rows) a) in
    let s = same_length rows in
    let i : slice_index_or (outcomes_of rows) k x ≡ x = outcome_at rows k x f ∙ ap (λ r. r.0) e in
    let b : is_before row.0 x ≡ true = subst (λ y. is_before row.0 y ≡ true) i (all_after row.0 (outcomes_of rows) a k x (omega arith)) in
    let z : chi (same_outcome row.0) x ≡ 0 = ap (λ b. cond b 1 0) (before_differs row.0 x b) in
    omega arith

-- ---- sums over entries, of which those of weight 0 do not matter
abbrev Agree : (End → ℕ) → (End → ℕ) → Weighted End → Type 0
Agree G H [] = Unit {0}
Agree G H (e ∷ m) = (0 < e.0.0 → G e.1 + H e.1 ≡ 1) × Agree G H m

agreed : (N : ℕ) (G H : End → ℕ) (m : Weighted End) (v u w : ℕ) → 0 < N → Agree G H m → Counts N G m v → Counts N H m u → Counts N (λ e. 1) m w → v + u ≡ w
agreed N G H [] v u w some a h k l = omega (arith, h, k, l)
agreed N G H (x ∷ m) v u w some a h k l =
    let left : 0 < x.0.1 = factor_pos x.0.1 h.0 N h.2 some in
    let c = cancel x.0.1 k.0 h.0 left (k.2 ∙ sym h.2) in
    let d = cancel x.0.1 l.0 h.0 left (l.2 ∙ sym h.2) in
    by x.0.0 h.0 k.0 l.0 (G x.1) (H x.1) v u w h.1 k.1 l.1 a.0 c d (agreed N G H m h.1 k.1 l.1 some a.1 h.3 k.3 l.3) h.4 k.4 l.4
  where
    joined : (w c d e g h v u z v' u' z' : ℕ) → d ≡ c → e ≡ c → g + h ≡ 1 → v' + u' ≡ z' → v ≡ w * c * g + v' → u ≡ w * d * h + u' → z ≡ w * e * 1 + z' → v + u ≡ z
    joined w c d e g h v u z v' u' z' p q s t x y o = let k = ap (λ n. w * c * n) s in rw (x, y, o, p, q) (omega arith)

    by : (w : ℕ) → (c d e g h v u z v' u' z' : ℕ) → (0 < w → g + h ≡ 1) → d ≡ c → e ≡ c → v' + u' ≡ z' → v ≡ w * c * g + v' → u ≡ w * d * h + u' → z ≡ w * e * 1 + z' → v + u ≡ z
    by zero c d e g h v u z v' u' z' a p q t x y o = omega arith
    by (suc w) c d e g h v u z v' u' z' a p q t x y o = joined (suc w) c d e g h v u z v' u' z' p q (a (omega arith)) t x y o

module _ (p : SourceProgram) (n N : ℕ) (s : Sums p n N) (whole : s.sum (λ e. 1) ≡ N) where
  abbrev ends : Weighted End
  ends = weighted_ends n None p.body (zeros (length p.names))

  -- how often the outcome of an end has a row
  abbrev count : Rows → End → ℕ
  count [] e = 0
  count (row ∷ rows) e = chi (ends_in p.result (same_outcome row.0)) e + count rows e

  abbrev sum_all : Rows → ℕ
  sum_all [] = 0
  sum_all (row ∷ rows) = sum_of_those p n N s (same_outcome row.0) + sum_all rows

  none_counted : s.sum (λ e. 0) ≡ 0
  none_counted =
      let c = s.counts (λ e. 0) in
      let z = counts_join N (λ e. 0) (λ e. 0) (λ e. 0) ends _ _ _ s.some (λ e. refl) c c c in
      omega arith

  all_counted : (rows : Rows) → sum_all rows ≡ s.sum (count rows)
  all_counted [] = sym none_counted
  all_counted (row ∷ rows) =
      ap (λ z. sum_of_those p n N s (same_outcome row.0) + z) (all_counted rows)
      ∙ counts_join N (chi (ends_in p.result (same_outcome row.0))) (count rows) (count (row ∷ rows)) ends _ _ _ s.some (λ e. refl)
      (s.counts (chi (ends_in p.result (same_outcome row.0)))) (s.counts (count rows)) (s.counts (count (row ∷ rows)))

  all_share : (rows : Rows) → ((x : Outcome) (f : Fraction) → Contains rows (x, f) → f ≡ lowest (mass_of p n None None x)) → Share s.passed (sum_all rows) (all_of rows)
  all_share [] each = omega arith
  all_share (row ∷ rows) each =
      share-plus s.passed (sum_of_those p n N s (same_outcome row.0)) (sum_all rows) row.1 (all_of rows)
      (subst (Share s.passed (sum_of_those p n N s (same_outcome row.0))) (sym (each row.0 row.1 (0, omega arith, refl))) (low (mass_of p n None None row.0) (lower_pos p n N s (same_outcome row.0)) (lower_share p n N s (same_outcome row.0))))
      (all_share rows (λ x f c. each x f (suc c.0, let z = c.1 in omega arith, c.2)))
    where
      low : (m : Fraction) → 0 < m.1 → Share s.passed (sum_of_those p n N s (same_outcome row.0)) m → Share s.passed (sum_of_those p n N s (same_outcome row.0)) (lowest m)
      low m some h =
          let l = lowest m in
          let e = lowest_equal m.0 m.1 in
          cancel m.1 _ _ some (let x = ap (λ z. l.1 * z) h in let y = ap (λ z. z * s.passed) e in omega arith)

  module _ (rows : Rows) (are : AreMasses (mass_of p n None None) rows) where
    counted_as : (x : Outcome) (e : End) → ((meant : Outcome → Bool) → ends_in p.result meant e ≡ meant x) → (rows : Rows) → count rows e ≡ times rows x
    counted_as x e h [] = refl
    counted_as x e h (row ∷ rows) =
        let i = counted_as x e h rows in
        let z : chi (ends_in p.result (same_outcome row.0)) e ≡ chi (same_outcome row.0) x = ap (λ b. cond b 1 0) (h (same_outcome row.0)) in
        omega arith

    failed_not : (rows : Rows) → count rows failed ≡ 0
    failed_not [] = refl
    failed_not (row ∷ rows) = let i = failed_not rows in omega arith

    has_one : (x : Outcome) → 0 < sum_of_those p n N s (same_outcome x) → times rows x ≡ 1
    has_one x h =
        let m = mass_of p n None None x in
        let c = are.all x (factor_pos m.0 s.passed _ (sym (lower_share p n N s (same_outcome x))) (product_pos m.1 (sum_of_those p n N s (same_outcome x)) (lower_pos p n N s (same_outcome x)) h)) in
        once x (lowest m) rows c.0 c.1 c.2 are.ascending

    abbrev HasOne : Weighted End → Type 0
    HasOne m = (x : Outcome) → (v : ℕ) × Counts N (chi (ends_in p.result (same_outcome x))) m v × (0 < v → times rows x ≡ 1)

    agree : (m : Weighted End) → HasOne m → Agree (count rows) (chi is_failed) m
    agree [] h = tt
    agree (e ∷ m) h = (at e.1 refl, agree m (λ x. let r = h x in (r.1.1, r.1.3, λ some. r.2 (let z = r.1.4 in omega arith))))
      where
        of : (x : Outcome) (y : End) → e.1 ≡ y → ((meant : Outcome → Bool) → ends_in p.result meant y ≡ meant x) → chi is_failed y ≡ 0 → 0 < e.0.0 → count rows y + chi is_failed y ≡ 1
        of x y q g z some =
            let r = h x in
            let o = r.1 in
            let t : chi (ends_in p.result (same_outcome x)) e.1 ≡ 1 = ap (λ y. chi (ends_in p.result (same_outcome x)) y) q ∙ ap (λ b. cond b 1 0) (g (same_outcome x) ∙ outcome_itself x) in
            let pos : 0 < e.0.0 * o.0 = product_pos e.0.0 o.0 some (factor_pos o.0 e.0.1 N (let z = o.2 in omega arith) s.some) in
            let w : e.0.0 * o.0 * chi (ends_in p.result (same_outcome x)) e.1 ≡ e.0.0 * o.0 = ap (λ k. e.0.0 * o.0 * k) t ∙ omega arith in
            let one = r.2 (let k = o.4 in omega arith) in
            let c = counted_as x y g rows in
            omega arith

        at : (y : End) → e.1 ≡ y → 0 < e.0.0 → count rows e.1 + chi is_failed e.1 ≡ 1
        at (on s) q some = subst (λ y. count rows y + chi is_failed y ≡ 1) (sym q) (of (outcome_of (value_of p.result s)) (on s) q (λ meant. refl) refl some)
        at failed q some = subst (λ y. count rows y + chi is_failed y ≡ 1) (sym q) (let z = failed_not rows in omega arith)
        at (fault f) q some = subst (λ y. count rows y + chi is_failed y ≡ 1) (sym q) (of (outcome.Fault f) (fault f) q (λ meant. refl) refl some)
        at (limit l) q some = subst (λ y. count rows y + chi is_failed y ≡ 1) (sym q) (of (outcome.Limit l) (limit l) q (λ meant. refl) refl some)

    pub rows_are_all : 0 < s.passed → (all_of rows).1 ≡ (all_of rows).0
    rows_are_all some =
        let a = agreed N (count rows) (chi is_failed) ends _ _ _ s.some (agree ends (λ x. (_, s.counts (chi (ends_in p.result (same_outcome x))), has_one x))) (s.counts (count rows)) (s.counts (chi is_failed)) (s.counts (λ e. 1)) in
        let t : sum_all rows ≡ s.passed = let b = all_counted rows in let c = s.rest in omega arith in
        let h = all_share rows (λ x f c. (are.each x f c).1) in
        cancel s.passed _ _ some (let k = ap (λ z. (all_of rows).1 * z) t in omega arith)
