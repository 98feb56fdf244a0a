-- What strings of bits weigh tends to the exact masses.
use Rattle.std.proofs.Common.{◌≡◌, ℕ, ◌+◌, ◌*◌, ◌-◌, ◌^◌, ◌≤◌, ◌<◌, Bool, true, false, List, None, refl, sym, arith, true≢false}
use Rattle.std.specs.List.{Contains}
use Rattle.std.proofs.lemmas.Nat.{pow_pos}
use Rattle.std.proofs.Math.Nat.{mul-le-mul_left}
use Rattle.gcl_core.specs.declared.answers.Answer.{Answer}
use Rattle.gcl_core.specs.declared.answers.Limit.TheVariants.{Turns}
use Rattle.gcl_core.specs.declared.answers.Limits.{Limits}
use Rattle.gcl_core.specs.declared.answers.Outcome.{Outcome}
use Rattle.gcl_core.specs.declared.answers.Outcome.TheVariants as outcome
use Rattle.gcl_core.specs.meaning.Checked.{IsChecked}
use Rattle.gcl_core.specs.meaning.Outcomes.{same_outcome, is_settled}
use Rattle.gcl_core.specs.meaning.Runs.{run_on}
use Rattle.gcl_core.specs.meaning.Syntax.{SourceProgram}
use Rattle.gcl_core.specs.weighing.Fractions.{Fraction, plus, AtMost}
use Rattle.gcl_core.specs.weighing.Mass.{round_mass}
use Rattle.gcl_core.specs.weighing.StringWeight.{outcome_weight}
use Rattle.weighing_law.specs.LimitsCost.{MayPass, stated_mass, is_cut_off, cut_off, LimitsCost}
use Rattle.weighing_law.specs.Weighing.{limited_mass, WeighsExactly}
use Rattle.weighing_law.proofs.LimitsLaw.{limits_cost}
use Rattle.weighing_law.proofs.Shares.{product_pos}
use Rattle.weighing_law.proofs.WeighingLaw.{weighs_exactly}
use Rattle.weighing_law.proofs.CutOffLaw.{cut_off_vanishes}
use Rattle.weighing_law.proofs.Fractions.{at_most_then, at_most_plus}
use Rattle.mass_fold.specs.Rows.{Rows}
use Rattle.string_bounds.specs.ComingTogether.{AreGreat}
use Rattle.bounds_law.specs.PosteriorBounds.{fails}
use Rattle.string_bounds.specs.StringBounds.{weight_at}
use Rattle.bounds_law.proofs.Between.{share_below}
use Rattle.string_bounds.proofs.StringBounds.{lies_between}
use Rattle.unlimited_law.specs.SettledMasses.{nth_part}
use Rattle.exact_fold.specs.Exact.{IsExact}
use Rattle.exact_fold.specs.Limits.{AreLimits, rate_of}
use Rattle.exact_fold.specs.Strings.{StayBelow, AreWithin, StringsTend}
use Rattle.exact_fold.proofs.MassLimits.{are_limits, settled, factors_pos, nothing}

not_cut : (x : Outcome) → is_settled x ≡ true → is_cut_off x ≡ false
not_cut (outcome.Value v) e = refl
not_cut (outcome.Fault f) e = refl
not_cut (outcome.Limit k) e = absurd (true≢false (sym e))

-- an n-th of a rate, where n is great
small_part : (r s n k : ℕ) → 1 ≤ s → k * r + 1 ≤ n → 1 * r * k ≤ 1 * (n * s)
small_part r s n k some h = let x = mul-le-mul_left n some in omega arith

two_halves : (w : Fraction) (k : ℕ) → AtMost (plus (plus w (1, 2 * k)) (1, 2 * k)) (plus w (1, k))
two_halves w k = omega arith

same_at_most : (w : Fraction) → AtMost w w
same_at_most w = omega arith

module _ (p : SourceProgram) (rows : Rows) (endless : Fraction) (ok : IsChecked p) (e : IsExact p rows endless) where
  abbrev rate : Fraction
  rate = rate_of p e.settled

  limits : AreLimits p rows endless rate
  limits = are_limits p rows endless ok e

  is_row : (x : Outcome) (f : Fraction) → Contains rows (x, f) → is_settled x ≡ true
  is_row x f has = settled p rows endless ok e x (e.masses.each x f has).0

  module _ (l : Limits) (run : List Bool → Answer) (same : (w : List Bool) → run w ≡ run_on p l w) (some : 1 ≤ l.turns) where
    passes : MayPass p l
    passes =
        let f = fails p l.turns in
        let h = factors_pos (round_mass p l.turns None (same_outcome (outcome.Limit Turns))).1 (f.1 - f.0) (limits.never l.turns some).settled_fraction in
        omega (arith, h.1)

    weighs : WeighsExactly run p l
    weighs = weighs_exactly p l run ok same

    cost : LimitsCost p l
    cost = limits_cost p l ok passes

    -- what is stated is at most this, so what is weighed is
    below : (x : Outcome) (q : Fraction) (L : ℕ) → is_settled x ≡ true → AtMost (stated_mass p l x) q → AtMost (weight_at run x L) q
    below x q L is h =
        share_below (outcome_weight run x L) (2 ^ L) (limited_mass p l x) q (omega (arith, weighs.fraction x)) (weighs.within x L)
        (at_most_then (limited_mass p l x) (stated_mass p l x) q (omega (arith, cost.stated x)) (cost.at_most x (not_cut x is)) h)

    stay_below : StayBelow run p l rows
    stay_below = record {
      row = λ x f has L. below x f L (is_row x f has) (limits.row x f has l.turns some).from_below;
      others = λ x is none L.
          let m = stated_mass p l x in
          nothing (weight_at run x L) m (cost.stated x) (limits.others x is none l.turns some) (below x m L is (same_at_most m));
      enough = weighs.enough;
    }

    module _ (k : ℕ) (any : 1 ≤ k) (great : AreGreat p (2 * k * rate.0 + 1) (2 * k) l) where
      are_within : AreWithin k run rows
      are_within x f has L enough =
          let m = stated_mass p l x in
          let w = weight_at run x L in
          let c = cut_off p l in
          let h : Fraction = (1, 2 * k) in
          let part = nth_part l.turns rate in
          let near = limits.row x f has l.turns some in
          let shrinks : AtMost part h = small_part rate.0 rate.1 l.turns (2 * k) near.cost_fraction great.turns in
          let weighed = (lies_between p l run ok same passes l.turns (omega arith)).from_below x L (is_row x f has) enough in
          let cut = cut_off_vanishes p l (2 * k) ok passes great.attempts great.rounds in
          let some_m : 0 < m.1 = omega (arith, cost.stated x) in
          let some_part : 0 < part.1 = product_pos l.turns rate.1 (omega (arith, some)) (omega (arith, near.cost_fraction)) in
          let some_w : 0 < w.1 = pow_pos L in
          let some_c : 0 < c.1 = omega (arith, cost.cut) in
          let some_h : 0 < h.1 = omega (arith, any) in
          let some_wc = product_pos w.1 c.1 some_w some_c in
          let some_wh = product_pos w.1 h.1 some_w some_h in
          at_most_then f (plus m part) (plus w (1, k)) (product_pos m.1 part.1 some_m some_part) near.from_above
          (at_most_then (plus m part) (plus (plus w c) h) (plus w (1, k)) (product_pos (w.1 * c.1) h.1 some_wc some_h) (at_most_plus m (plus w c) part h weighed shrinks)
          (at_most_then (plus (plus w c) h) (plus (plus w h) h) (plus w (1, k)) (product_pos (w.1 * h.1) h.1 some_wh some_h)
          (at_most_plus (plus w c) (plus w h) h h (at_most_plus w w c h (same_at_most w) cut) (same_at_most h)) (two_halves w k)))

  pub strings_tend : (k : ℕ) → 1 ≤ k → StringsTend p rows k
  strings_tend k any = record {
    below = stay_below;
    least = 2 * k * rate.0 + 1;
    within = λ l run same great. are_within l run same (omega (arith, great.turns)) k any great;
  }
