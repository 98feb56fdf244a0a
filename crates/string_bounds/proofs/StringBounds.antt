-- The weighing law, what the limits cost, and the bounds, in one.
use Rattle.std.proofs.Common.{◌≡◌, ℕ, ◌^◌, ◌≤◌, ◌<◌, Bool, true, false, List, refl, arith, true≢false, sym}
use Rattle.gcl_core.specs.declared.answers.Answer.{Answer}
use Rattle.gcl_core.specs.declared.answers.Limits.{Limits}
use Rattle.gcl_core.specs.declared.answers.Outcome.{Outcome}
use Rattle.gcl_core.specs.declared.answers.Outcome.TheVariants as outcome
use Rattle.gcl_core.specs.meaning.Checked.{IsChecked}
use Rattle.gcl_core.specs.meaning.Outcomes.{same_outcome, is_settled}
use Rattle.gcl_core.specs.meaning.Runs.{run_on}
use Rattle.gcl_core.specs.meaning.Syntax.{SourceProgram}
use Rattle.gcl_core.specs.weighing.Fractions.{Fraction, plus, AtMost}
use Rattle.gcl_core.specs.weighing.StringWeight.{outcome_weight}
use Rattle.weighing_law.specs.LimitsCost.{MayPass, stated_mass, is_cut_off, cut_off, LimitsCost}
use Rattle.weighing_law.specs.Weighing.{Suffices, limited_mass, WeighsExactly}
use Rattle.weighing_law.proofs.LimitsLaw.{limits_cost}
use Rattle.weighing_law.proofs.Shares.{product_pos}
use Rattle.weighing_law.proofs.WeighingLaw.{weighs_exactly}
use Rattle.weighing_law.proofs.Fractions.{at_most_then, at_most_plus}
use Rattle.bounds_law.specs.PosteriorBounds.{lower_of, upper_of, upper_of_others}
use Rattle.bounds_law.specs.Holding.{IsBounded, BoundsHold}
use Rattle.bounds_law.proofs.BoundsLaw.{bounds_hold}
use Rattle.many_runs.specs.Fronts.{undecided}
use Rattle.many_runs.proofs.Undecided.{falls_short}
use Rattle.string_bounds.specs.StringBounds.{weight_at, rest_at, LiesBetween, AreNear}
use Rattle.bounds_law.proofs.Between.{share_below, share_above, share_above_parts, equal_at_most}

-- a value or a fault is cut off by no limit
not_cut : (x : Outcome) → is_settled x ≡ true → is_cut_off x ≡ false
not_cut (outcome.Value v) e = refl
not_cut (outcome.Fault f) e = refl
not_cut (outcome.Limit k) e = absurd (true≢false (sym e))

module _ (p : SourceProgram) (l : Limits) (answers : List Bool → Answer) (ok : IsChecked p) (same : (w : List Bool) → answers w ≡ run_on p l w) (passes : MayPass p l) where
  weighs : WeighsExactly answers p l
  weighs = weighs_exactly p l answers ok same

  cost : LimitsCost p l
  cost = limits_cost p l ok passes

  module _ (n : ℕ) (le : n ≤ l.turns) where
    bounds : BoundsHold p n l.turns
    bounds = bounds_hold p n l.turns ok le passes

    module _ (x : Outcome) (settled : is_settled x ≡ true) where
      bounded : IsBounded p n l.turns (same_outcome x)
      bounded = bounds.outcomes x settled

      below_stated : (q : Fraction) → AtMost (stated_mass p l x) q → AtMost (limited_mass p l x) q
      below_stated q h = at_most_then (limited_mass p l x) (stated_mass p l x) q (omega (arith, bounded.fraction)) (cost.at_most x (not_cut x settled)) h

      below : (q : Fraction) (L : ℕ) → AtMost (stated_mass p l x) q → AtMost (weight_at answers x L) q
      below q L h = share_below (outcome_weight answers x L) (2 ^ L) (limited_mass p l x) q (omega (arith, weighs.fraction x)) (weighs.within x L) (below_stated q h)

      above : (L : ℕ) → Suffices answers L → AtMost (lower_of p n x) (plus (weight_at answers x L) (cut_off p l))
      above L suffices =
          share_above (outcome_weight answers x L) (2 ^ L) (limited_mass p l x) (cut_off p l) (lower_of p n x) (omega (arith, weighs.fraction x)) (weighs.exact x L suffices)
          (at_most_then (lower_of p n x) (stated_mass p l x) (plus (limited_mass p l x) (cut_off p l)) (omega (arith, bounded.fraction)) bounded.from_below (cost.short_by x (not_cut x settled)))

      above_early : (L : ℕ) → AtMost (lower_of p n x) (plus (plus (weight_at answers x L) (rest_at answers L)) (cut_off p l))
      above_early L =
          share_above_parts (outcome_weight answers x L) (undecided answers L) (2 ^ L) (limited_mass p l x) (cut_off p l) (lower_of p n x) (omega (arith, weighs.fraction x)) (falls_short p l ok answers same x L)
          (at_most_then (lower_of p n x) (stated_mass p l x) (plus (limited_mass p l x) (cut_off p l)) (omega (arith, bounded.fraction)) bounded.from_below (cost.short_by x (not_cut x settled)))

    pub lies_between : LiesBetween answers p l n
    lies_between = record {
      from_below = λ x L settled suffices. above x settled L suffices;
      from_below_early = λ x L settled. above_early x settled L;
      from_above = λ x L settled. below x settled (upper_of p n x) L (bounded x settled).from_above;
      among_others = λ x L settled none. below x settled (upper_of_others p n) L ((bounded x settled).among_others none);
    }

-- what is between the same bounds is near
pub are_near : (p : SourceProgram) (l l' : Limits) (answers others : List Bool → Answer) → IsChecked p → ((w : List Bool) → answers w ≡ run_on p l w) → ((w : List Bool) → others w ≡ run_on p l' w) →
    MayPass p l → MayPass p l' → (n : ℕ) → n ≤ l.turns → n ≤ l'.turns → AreNear answers others p l' n
are_near p l l' answers others ok same same' passes passes' n le le' x L M settled suffices =
    let b = bounded p l answers ok same passes n le x settled in
    let low = lower_of p n x in
    let high = upper_of p n x in
    let rest = upper_of_others p n in
    let other = plus (weight_at others x M) (cut_off p l') in
    let up = (lies_between p l answers ok same passes n le).from_above x L settled in
    let down = (lies_between p l' others ok same' passes' n le').from_below x M settled suffices in
    let some : 0 < rest.1 = omega (arith, (bounds p l answers ok same passes n le).others_before) in
    at_most_then (weight_at answers x L) high (plus other rest) (omega (arith, b.before.upper_fraction)) up
    (at_most_then high (plus low rest) (plus other rest) (product_pos low.1 rest.1 (omega (arith, b.before.lower_fraction)) some) (equal_at_most (plus low rest) high b.before.width) (at_most_plus low other rest rest down (omega arith)))
