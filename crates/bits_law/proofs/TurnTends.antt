-- One turn of a loop tends to what it costs where its body does: that of the body, and where each turn costs 1, the weight of the table.
use Rattle.std.proofs.Common.{ℕ, ◌<◌, Bool, true, false, arith}
use Rattle.gcl_core.specs.meaning.Value.{State}
use Rattle.gcl_core.specs.weighing.Fractions.{Fraction, plus}
use Rattle.table_flow.specs.Tables.{Table}
use Rattle.table_flow.proofs.Positive.{Positive}
use Rattle.weighing_law.proofs.Shares.{product_pos}
use Rattle.unlimited_law.specs.Settling.{total}
use Rattle.unlimited_law.proofs.Numbers.{Rational, ◌⊕◌, ◌⊑◌, unit, below_refl, below_trans, same_refl, same_sym, same_trans, add_below, add_same, add_assoc, nought_below, nought_add}
use Rattle.unlimited_law.proofs.FractionNumbers.{of, of_plus, of_equal}
use Rattle.unlimited_law.proofs.Integrals.{integral, integral_sum}
use Rattle.unlimited_law.proofs.SameWeights.{sum_some, sum_is}
use Rattle.unlimited_law.proofs.BlockLimits.{all_fractions}
use Rattle.bits_law.specs.Reading.{TurnCosts}
use Rattle.bits_law.proofs.Readers.{Reads, turn_reads}
use Rattle.bits_law.proofs.Tends.{Rising, Tends, tends_same, tends_beside}

pub turned_rising : (turns : Bool) (B : ℕ → State → Reads) → ((s : State) → Rising (λ n. B n s)) → (s : State) → Rising (λ n. turn_reads turns (B n s))
turned_rising false B h s = h s
turned_rising true B h s = record { rises = λ n m le F G g. add_below (below_refl unit) ((h s).rises n m le F G g) }

pub turn_above : (turns : Bool) (m : Reads) (F : State → Rational) → m F ⊑ turn_reads turns m F
turn_above false m F = below_refl (m F)
turn_above true m F = below_trans (nought_add (m F)).above (add_below (nought_below unit) (below_refl (m F)))

module _ (Body : Table → Table → Fraction → Type 0) where
  pub turn_some : (turns : Bool) → ((I J : Table) (cost : Fraction) → Body I J cost → 0 < cost.1) → (I J : Table) (cost : Fraction) → TurnCosts turns Body I J cost → 0 < cost.1
  turn_some false some I J cost o = some I J cost o
  turn_some true some I J cost o = let z = o.3 in omega arith

  pub turn_left : (turns : Bool) → ((I J : Table) (cost : Fraction) → Body I J cost → Positive J) → (I J : Table) (cost : Fraction) → TurnCosts turns Body I J cost → Positive J
  turn_left false left I J cost o = left I J cost o
  turn_left true left I J cost o = left I J o.0 o.1

  module _ (B : ℕ → State → Reads) (some : (I J : Table) (cost : Fraction) → Body I J cost → 0 < cost.1)
      (tends : (I J : Table) (cost : Fraction) → Positive I → Body I J cost → Tends (λ n F. integral (λ s. B n s F) I) (λ F. of cost ⊕ integral F J)) where
    pub turn_tends : (turns : Bool) (I J : Table) (cost : Fraction) → Positive I → TurnCosts turns Body I J cost → Tends (λ n F. integral (λ s. turn_reads turns (B n s) F) I) (λ F. of cost ⊕ integral F J)
    turn_tends false I J cost p o = tends I J cost p o
    turn_tends true I J cost p o =
        let w = o.0 in
        let T = total I in
        let ts = sum_some (λ s. true) I (all_fractions I p) in
        let ws = some I J w o.1 in
        tends_same (λ n F. of T ⊕ integral (λ s. B n s F) I) (λ n F. integral (λ s. unit ⊕ B n s F) I) (λ F. of T ⊕ (of w ⊕ integral F J)) (λ F. of cost ⊕ integral F J)
        (λ n F. same_sym (same_trans (integral_sum (λ s. unit) (λ s. B n s F) I) (add_same (same_sym (sum_is (λ s. true) I (all_fractions I p))) (same_refl _))))
        (λ F. same_trans (same_sym (add_assoc (of T) (of w) (integral F J)))
        (add_same (same_trans (same_sym (of_plus T w ts ws)) (same_sym (of_equal cost (plus T w) (let z = o.3 in omega arith) (product_pos T.1 w.1 ts ws) o.2))) (same_refl (integral F J))))
        (tends_beside (of T) (λ n F. integral (λ s. B n s F) I) (λ F. of w ⊕ integral F J) (tends I J w p o.1))
