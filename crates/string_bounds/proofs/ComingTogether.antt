-- Where the bound of all others goes to 0, runs under great limits weigh alike.
use Rattle.std.proofs.Common.{◌≡◌, ℕ, zero, suc, ◌+◌, ◌*◌, ◌-◌, ◌≤◌, ◌<◌, false, None, refl, arith}
use Rattle.std.proofs.lemmas.Nat.{pow_pos}
use Rattle.std.proofs.Math.Nat.{mul-le-mul_left, mul-le-mul_right, le_of_mul-le-mul_left}
use Rattle.gcl_core.specs.declared.answers.Limit.TheVariants.{Turns}
use Rattle.gcl_core.specs.declared.answers.Outcome.TheVariants as outcome
use Rattle.gcl_core.specs.meaning.Checked.{IsChecked}
use Rattle.gcl_core.specs.meaning.Outcomes.{same_outcome}
use Rattle.gcl_core.specs.meaning.Syntax.{SourceProgram}
use Rattle.gcl_core.specs.weighing.Fractions.{Fraction, plus, AtMost, IsBelowOne}
use Rattle.gcl_core.specs.weighing.Mass.{ends_in, is_failed}
use Rattle.gcl_core.proofs.TreeWeights.{chi}
use Rattle.weighing_law.specs.LimitsCost.{cut_off}
use Rattle.weighing_law.proofs.LimitsLaw.{limits_cost}
use Rattle.weighing_law.proofs.Shares.{counts_sum, sum_pos, product_pos}
use Rattle.weighing_law.proofs.StatedMasses.{fails_in_part}
use Rattle.weighing_law.proofs.Fractions.{at_most_then, at_most_plus}
use Rattle.weighing_law.proofs.CutOffLaw.{cut_off_vanishes}
use Rattle.string_bounds.specs.ComingTogether.{OthersVanish, ComeTogether}
use Rattle.bounds_law.specs.PosteriorBounds.{fails, upper_of_others}
use Rattle.string_bounds.specs.StringBounds.{weight_at}
use Rattle.bounds_law.proofs.BoundsLaw.{bounds_hold, share_below_one}
use Rattle.bounds_law.proofs.Growth.{scale, scale_pos, growth, gains}
use Rattle.bounds_law.proofs.OneLimit.{Sums, others_share, lower_pos}
use Rattle.string_bounds.proofs.StringBounds.{are_near}

-- ---- where all others have at most half, a round fails in part at more turns too
half_left : (u M q0 q1 : ℕ) → 0 < q1 → q1 * u ≡ q0 * M → q0 * 2 ≤ 1 * q1 → 2 * u ≤ M
half_left u M q0 q1 some e h = le_of_mul-le-mul_left {k = q1} (let x = mul-le-mul_right M h in omega (arith, e)) some

still_passes : (p : SourceProgram) (n n' : ℕ) → IsChecked p → n ≤ n' → IsBelowOne (fails p n) → AtMost (upper_of_others p n) (1, 2) → IsBelowOne (fails p n')
still_passes p n n' ok more passes small =
    let N = scale p ok n n' more None in
    let g = growth p ok n n' more None in
    let some = scale_pos p ok n n' more None in
    let turns = same_outcome (outcome.Limit Turns) in
    let F = g.low (chi is_failed) in
    let u = g.low (chi (ends_in p.result turns)) in
    let gained = gains p ok n n' more None (λ x. false) refl in
    let rest : N - F + F ≡ N = omega (arith, gained.all) in
    let before : Sums p n N = record { sum = g.low; counts = g.low_counts; some = some; passed = N - F; rest = rest; passes = passes } in
    let q = upper_of_others p n in
    let left = half_left u (N - F) q.0 q.1 (lower_pos p n N before turns) (others_share p n N before) small in
    let part = fails_in_part N F (N - F) (fails p n).0 (fails p n).1 (counts_sum N is_failed _ _ (g.low_counts (chi is_failed))) passes some (omega (arith, rest)) in
    share_below_one N (g.high (chi is_failed)) (fails p n').0 (fails p n').1 (counts_sum N is_failed _ _ (g.high_counts (chi is_failed)))
    (omega (arith, rest, left, part, gained.three_less, gained.meant_more)) (sum_pos N is_failed (λ e. 1) _ _ some (g.high_counts (λ e. 1)))

-- ---- two halves of 1 / k
at_most_half : (q : Fraction) (k : ℕ) → AtMost q (1, 2 * suc k) → AtMost q (1, 2)
at_most_half q k h = let x = mul-le-mul_left q.0 (let le : 2 ≤ 2 * suc k = omega arith in le) in omega arith

two_halves : (w : Fraction) (k : ℕ) → AtMost (plus (plus w (1, 2 * k)) (1, 2 * k)) (plus w (1, k))
two_halves w k = omega arith

same_at_most : (w : Fraction) → AtMost w w
same_at_most w = omega arith

pub come_together : (p : SourceProgram) → IsChecked p → OthersVanish p → (k : ℕ) → ComeTogether p k
come_together p ok vanish zero = (0, λ l l' run other same same' great great' x L M settled enough enough'. omega arith)
come_together p ok vanish (suc k) =
    let m = 2 * suc k in
    let h = vanish m in
    let small = at_most_half (upper_of_others p h.0) k h.2 in (
      h.0,
      λ l l' run other same same' great great' x L M settled enough enough'.
          let passes = still_passes p h.0 l.turns ok great.turns h.1 small in
          let passes' = still_passes p h.0 l'.turns ok great'.turns h.1 small in
          let near = are_near p l l' run other ok same same' passes passes' h.0 great.turns great'.turns x L M settled enough' in
          let w = weight_at other x M in
          let c = cut_off p l' in
          let o = upper_of_others p h.0 in
          let cut = cut_off_vanishes p l' m ok passes' great'.attempts great'.rounds in
          let some_w : 0 < w.1 = pow_pos M in
          let some_o : 0 < o.1 = omega (arith, (bounds_hold p h.0 l'.turns ok great'.turns passes').others_before) in
          let some_c : 0 < c.1 = omega (arith, (limits_cost p l' ok passes').cut) in
          at_most_then (weight_at run x L) (plus (plus w c) o) (plus w (1, suc k)) (product_pos (w.1 * c.1) o.1 (product_pos w.1 c.1 some_w some_c) some_o) near
          (at_most_then (plus (plus w c) o) (plus (plus w (1, m)) (1, m)) (plus w (1, suc k)) (product_pos (w.1 * m) m (product_pos w.1 m some_w (omega arith)) (omega arith))
          (at_most_plus (plus w c) (plus w (1, m)) o (1, m) (at_most_plus w w c (1, m) (same_at_most w) cut) h.2) (two_halves w (suc k))),
    )
