-- What a meter counts in a choice among several, arm by arm.
use Rattle.std.proofs.Common.{◌≡◌, ℕ, ◌*◌, ◌<◌, Option, subst}
use Rattle.std.specs.List.{sum}
use Rattle.gcl_core.specs.meaning.Arms.{parts_of}
use Rattle.gcl_core.specs.meaning.Parts.{partial_sums}
use Rattle.gcl_core.specs.meaning.Bounds.{AreParts}
use Rattle.gcl_core.specs.meaning.Syntax.{Choose, Statements, ArmList, no_arm, arm}
use Rattle.gcl_core.specs.meaning.Blocks.{End}
use Rattle.gcl_core.specs.weighing.Fractions.{Fraction}
use Rattle.gcl_core.specs.weighing.WeightedEnds.{Weighted, scaled, class_weight}
use Rattle.gcl_core.proofs.PartialSums.{last_is}
use Rattle.numbers.specs.Fraction.{IsEqual}
use Rattle.table_flow.specs.Tables.{Table, Flow, statement_flow, block_flow, ReachedDraws}
use Rattle.table_flow.specs.Scale.{amount}
use Rattle.table_flow.proofs.FlowWords.{arms_flow, drawn_each, statement_draws, block_draws, arms_draws}
use Rattle.table_flow.proofs.InsideFlows.{first_arm}
use Rattle.mass_fold.specs.declared.ended.Ended.{Ended}
use Rattle.mass_fold.specs.declared.meter.Meter.{Meter}
use Rattle.mass_fold.specs.inner.Amounts.{Entries}
use Rattle.mass_fold.specs.inner.Fold.{Stands, EndStands, Around, WeighedBy}
use Rattle.mass_fold.specs.Metering.{Priced, price}
use Rattle.mass_fold.specs.inner.Metering.{Counted, CountsDraws, Meters, MetersOne}
use Rattle.mass_fold.proofs.ArmFolds.{ArmsOn, side_stands}
use Rattle.mass_fold.proofs.Meters.{counted_none}
use Rattle.mass_fold.proofs.MeterFolds.{priced_first, priced_second, both_counted, draw_counts}

-- in the midst of the arms: whatever the draws of the others count, all do
pub record ArmsMetered (r : Option ℕ) (whole : Table → Flow) (draws rest : Table → ReachedDraws) (es : Entries) (E : Ended) (m mid : Meter) : Type 0 where
  pub left : (M : ℕ) (I : Table) → Priced r M (draws I) → Priced r M (rest I)
  pub counted : (m' : Meter) (N M L : ℕ) (I : Table) (J : Weighted End) → 0 < N → 0 < M → Stands N es I → EndStands N E J → Around N L I (whole I) → Priced r M (draws I) →
      Counted (N * M) (amount N (price r M) (rest I)) mid m' → Counted (N * M) (amount N (price r M) (draws I)) m m'

module _ (n : ℕ) (r : Option ℕ) (all : ArmList) (ps : AreParts (parts_of all)) (es : Entries) (E : Ended) (m : Meter) where
  abbrev b : ℕ
  b = sum (parts_of all)

  abbrev whole : Table → Flow
  whole I = statement_flow n r (Choose all) I

  abbrev draws : Table → ReachedDraws
  draws I = statement_draws n r (Choose all) I

  pub metered_start : (mid : Meter) → CountsDraws r b (partial_sums (parts_of all)) es m mid → ArmsMetered r whole draws (arms_draws n r b all) es E m mid
  metered_start mid x = record {
    left = λ M I k. priced_second r M (drawn_each (partial_sums (parts_of all)) I) (arms_draws n r b all I) k;
    counted = λ m' N M L I J Np Mp s t h k y.
        let D = drawn_each (partial_sums (parts_of all)) I in
        let A = arms_draws n r b all I in
        both_counted N (N * M) (price r M) D A m mid m' (draw_counts r (partial_sums (parts_of all)) b (last_is (parts_of all)) es m mid N M I Np Mp s (priced_first r M D A k) x) y;
  }

  pub metered_as : (rest rest' : ArmList) (mid : Meter) → rest ≡ rest' → ArmsMetered r whole draws (arms_draws n r b rest) es E m mid → ArmsMetered r whole draws (arms_draws n r b rest') es E m mid
  metered_as rest rest' mid e c = subst (λ rest. ArmsMetered r whole draws (arms_draws n r b rest) es E m mid) e c

  pub metered_turn : (p : ℕ) (a : Statements) (rest : ArmList) (out : Entries) (F : Ended) (l : ArmsOn whole (arms_flow n r b (arm p a rest)) es E out F) (part : Fraction) (is : IsEqual part (class_weight b r 1)) (side : Entries) (x : WeighedBy part p es side)
      (mid mid' : Meter) → ArmsMetered r whole draws (arms_draws n r b (arm p a rest)) es E m mid → Meters r (block_flow n r a) (block_draws n r a) side F mid mid' → ArmsMetered r whole draws (arms_draws n r b rest) es E m mid'
  metered_turn p a rest out F l part is side x mid mid' c y = record {
    left = λ M I k. priced_second r M (block_draws n r a (scaled (class_weight b r p) I)) (arms_draws n r b rest I) (c.left M I k);
    counted = λ m' N M L I J Np Mp s t h k z.
        let A = scaled (class_weight b r p) I in
        let D = block_draws n r a A in
        let R = arms_draws n r b rest I in
        let at = l N L I J Np s t h in
        let o = y N M L A at.gone Np Mp (side_stands n r all ps es E p a rest out F l part is side x N L I J Np s h at) at.stopped (first_arm n r N L b p a rest I at.inside) (priced_first r M D R (c.left M I k)) in
        c.counted m' N M L I J Np Mp s t h k (both_counted N (N * M) (price r M) D R mid mid' m' o z);
  }

  pub metered_end : (mid : Meter) → ArmsMetered r whole draws (arms_draws n r b no_arm) es E m mid → MetersOne r whole draws es E m mid
  metered_end mid c N M L I J Np Mp s t h k = c.counted mid N M L I J Np Mp s t h k (counted_none (N * M) mid)
