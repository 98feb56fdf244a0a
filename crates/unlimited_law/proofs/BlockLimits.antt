-- What events weigh at n turns and in the limit, as fractions.
use Rattle.std.proofs.Common.{◌≡◌, ℕ, ◌<◌, Bool, true, false, cond, [], ◌∷◌, ◌++◌, None, sym, subst, arith}
use Rattle.gcl_core.specs.declared.answers.Limit.TheVariants.{Turns}
use Rattle.gcl_core.specs.meaning.Bounds.{BlockIsWeighed}
use Rattle.gcl_core.specs.meaning.Syntax.{Statements, done, ◌▸◌}
use Rattle.gcl_core.specs.meaning.Blocks.{End, on, failed, fault, limit}
use Rattle.gcl_core.specs.weighing.Fractions.{plus}
use Rattle.gcl_core.specs.weighing.Mass.{sum_of}
use Rattle.gcl_core.specs.weighing.WeightedEnds.{Weighted, taken_on, weighted_ends}
use Rattle.table_flow.specs.Tables.{Table}
use Rattle.table_flow.proofs.Positive.{Positive, p_taken}
use Rattle.table_flow.proofs.Paths.{ends_positive}
use Rattle.unlimited_law.specs.Alike.{AreFractions, Alike}
use Rattle.unlimited_law.specs.Settling.{Outflow}
use Rattle.unlimited_law.specs.SettledMasses.{Settles, over, settled_weight, nth_part, IsNear}
use Rattle.weighing_law.proofs.Shares.{product_pos}
use Rattle.unlimited_law.proofs.Numbers.{Rational, ◌⊑◌, ◌≃◌, nought, unit, below_refl, same_refl, below_trans, same_trans, add_below, add_same, nought_below}
use Rattle.unlimited_law.proofs.FractionNumbers.{of, of_plus, of_times, below_of}
use Rattle.unlimited_law.proofs.Integrals.{integral, integral_same, integral_taken, stop}
use Rattle.unlimited_law.proofs.Rising.{IsTest}
use Rattle.unlimited_law.proofs.Near.{Near, near_same}
use Rattle.unlimited_law.proofs.Covers.{sign}
use Rattle.unlimited_law.proofs.SameWeights.{sum_some, sum_is, alike_integral}
use Rattle.unlimited_law.proofs.SettledBlocks.{Means, worth, block_tends}

-- ---- fractions of lists
pub all_fractions : {A : Type 0} (m : Weighted A) → Positive m → AreFractions m
all_fractions [] h = tt
all_fractions (e ∷ m) h = ((let z = h.0 in omega arith), all_fractions m h.1)

pub all_positive : {A : Type 0} (m : Weighted A) → AreFractions m → Positive m
all_positive [] h = tt
all_positive (e ∷ m) h = ((let z = h.0 in omega arith), all_positive m h.1)

pub behind_fractions : {A : Type 0} (m o : Weighted A) → AreFractions (m ++ o) → AreFractions o
behind_fractions [] o h = h
behind_fractions (e ∷ m) o h = behind_fractions m o h.1

-- what is alike has one integral
pub alike_means : Means Alike Alike
alike_means = record {
  tables = λ I J h K. alike_integral I J h K;
  ends = λ m o h H. alike_integral m o h (stop H);
  back = λ V I J h. (sum_is (λ s. true) J (behind_fractions I J h.second)).above;
  back_some = λ V I J h. sum_some (λ s. true) J (behind_fractions I J h.second);
}

next_fractions : (b : Statements) (I : Table) (f : Outflow) → Settles b I f → AreFractions f.next
next_fractions done I f o = o.next.first
next_fractions (st ▸ b) I f o = o.4.next.first

ended_fractions : (b : Statements) (I : Table) (f : Outflow) → Settles b I f → AreFractions f.ended
ended_fractions done I f o = o.ended.first
ended_fractions (st ▸ b) I f o = o.4.ended.first

-- ---- events
sign_small : (b : Bool) → cond b unit nought ⊑ unit
sign_small true = below_refl unit
sign_small false = nought_below unit

pub event_test : (event : End → Bool) → event (limit Turns) ≡ false → IsTest (sign event)
event_test event spared = record {
  small = λ e. sign_small (event e);
  spared = subst (λ b. cond b unit nought ⊑ nought) (sym spared) (below_refl nought);
}

module _ (b : Statements) (I : Table) (f : Outflow) (w : BlockIsWeighed b) (o : Settles b I f) where
  pub settled_some : (event : End → Bool) → 0 < (settled_weight event f).1
  settled_some event = product_pos _ _ (sum_some (λ s. event (on s)) f.next (next_fractions b I f o)) (sum_some (over event) f.ended (ended_fractions b I f o))

  pub settled_is : (event : End → Bool) → of (settled_weight event f) ≃ worth (sign event) f
  settled_is event =
      same_trans (of_plus _ _ (sum_some (λ s. event (on s)) f.next (next_fractions b I f o)) (sum_some (over event) f.ended (ended_fractions b I f o)))
      (add_same (sum_is (λ s. event (on s)) f.next (next_fractions b I f o))
      (same_trans (sum_is (over event) f.ended (ended_fractions b I f o)) (integral_same (sign (over event)) (stop (sign event)) f.ended same_event)))
    where
      same_event : (e : End) → sign (over event) e ≃ stop (sign event) e
      same_event (on s) = same_refl nought
      same_event failed = same_refl _
      same_event (fault g) = same_refl _
      same_event (limit l) = same_refl _

  pub test_near : (n : ℕ) → 0 < n → (H : End → Rational) → IsTest H → Near n (integral (λ s. integral H (weighted_ends n None b s)) I) (worth H f) f.turns
  test_near n some H t = block_tends Alike Alike alike_means n some b w I f o H t

  module _ (n : ℕ) (some : 0 < n) (event : End → Bool) (spared : event (limit Turns) ≡ false) where
    event_near : (ends : Weighted End) → AreFractions ends → integral (sign event) ends ≃ integral (λ s. integral (sign event) (weighted_ends n None b s)) I →
        IsNear n f.turns (sum_of event ends) (settled_weight event f)
    event_near ends h e =
        let near = near_same n (same_trans (sum_is event ends h) e) (settled_is event) (test_near n some (sign event) (event_test event spared)) in
        let weight_some = sum_some event ends h in
        let part_some : 0 < (nth_part n f.turns).1 = product_pos n f.turns.1 some near.some in
        record {
          from_below = below_of (sum_of event ends) (settled_weight event f) weight_some (settled_some event) near.low;
          from_above = below_of (settled_weight event f) (plus (sum_of event ends) (nth_part n f.turns)) (settled_some event) (product_pos _ _ weight_some part_some)
              (below_trans near.high (below_trans (add_below (below_refl (of (sum_of event ends))) (of_times (1, n) f.turns).above) (of_plus (sum_of event ends) (nth_part n f.turns) weight_some part_some).above));
          weight_fraction = omega arith;
          settled_fraction = let z = settled_some event in omega arith;
          cost_fraction = let z = near.some in omega arith;
        }

    pub table_near : AreFractions I → IsNear n f.turns (sum_of event (taken_on I (weighted_ends n None b))) (settled_weight event f)
    table_near h =
        event_near (taken_on I (weighted_ends n None b)) (all_fractions _ (p_taken I (weighted_ends n None b) (all_positive I h) (λ s. ends_positive n None b s w)))
        (integral_taken (sign event) I (weighted_ends n None b))
