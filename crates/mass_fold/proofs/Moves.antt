-- What an assignment makes of one state.
use Rattle.std.proofs.Common.{◌≡◌, ℕ, zero, suc, pos, negsuc, ℤ, length, Ok, Err, Bool, true, false, cond, not, ◌≤◌, arith, refl, sym, ap, ◌∙◌, subst, slice_set}
use Rattle.gcl_core.specs.declared.answers.Fault.{Fault}
use Rattle.gcl_core.specs.meaning.Syntax.{Expression}
use Rattle.gcl_core.specs.meaning.Value.{State, Value, is_zero}
use Rattle.gcl_core.specs.meaning.Bounds.{ExpressionBelow}
use Rattle.gcl_core.specs.meaning.Blocks.{End, by_value}
use Rattle.table_flow.specs.Tables.{holds, fails}
use Rattle.mass_fold.specs.declared.ended.Gone.{Gone}
use Rattle.mass_fold.specs.inner.Ended.{end_of, fault_end}
use Rattle.table_flow.specs.Counts.{moved, stopped, kept_if}

pub moved_ok : (x : ℕ) (v : State → Value) (s s' t : State) (z : ℤ) → Ok z ≡ v s' → s' ≡ s → t ≡ slice_set s x z → (G : State → ℕ) → moved x v G s ≡ G t
moved_ok x v s s' t z p q r G = ap (λ o. by_value o (λ f. 0) (λ z. G (slice_set s x z))) (ap v (sym q) ∙ sym p) ∙ ap G (sym r)

pub stopped_ok : (v : State → Value) (s s' : State) (z : ℤ) → Ok z ≡ v s' → s' ≡ s → (G : End → ℕ) → stopped v G s ≡ 0
stopped_ok v s s' z p q G = ap (λ o. by_value o (λ f. G (fault_end f)) (λ z. 0)) (ap v (sym q) ∙ sym p)

pub moved_err : (x : ℕ) (v : State → Value) (s s' : State) (f : Fault) → Err f ≡ v s' → s' ≡ s → (G : State → ℕ) → moved x v G s ≡ 0
moved_err x v s s' f p q G = ap (λ o. by_value o (λ f. 0) (λ z. G (slice_set s x z))) (ap v (sym q) ∙ sym p)

pub stopped_err : (v : State → Value) (s s' : State) (f : Fault) (k : Gone) → Err f ≡ v s' → s' ≡ s → end_of k ≡ fault_end f → (G : End → ℕ) → stopped v G s ≡ G (end_of k)
stopped_err v s s' f k p q r G = ap (λ o. by_value o (λ f. G (fault_end f)) (λ z. 0)) (ap v (sym q) ∙ sym p) ∙ ap G (sym r)

pub reads_at : (e : Expression) (m : ℕ) (s' : State) → length s' ≡ m → ExpressionBelow e m → ExpressionBelow e (length s')
reads_at e m s' p h = subst (ExpressionBelow e) (sym p) h

pub kept_ok : (test : State → Bool) (b : Bool) (s : State) → test s ≡ b → (G : State → ℕ) → kept_if test G s ≡ cond b (G s) 0
kept_ok test b s p G = ap (λ b. cond b (G s) 0) p

pub kept_most : (test : State → Bool) (G : State → ℕ) (s : State) → kept_if test G s ≤ G s
kept_most test G s = by (test s)
  where
    by : (b : Bool) → cond b (G s) 0 ≤ G s
    by true = omega arith
    by false = omega arith

-- what a guard's value says
pub holds_ok : (v : State → Value) (s s' : State) (z : ℤ) → Ok z ≡ v s' → s' ≡ s → (holds v s ≡ not (is_zero z)) × (fails v s ≡ is_zero z)
holds_ok v s s' z p q = (ap (λ o. by_value o (λ f. false) (λ v. not (is_zero v))) (ap v (sym q) ∙ sym p), ap (λ o. by_value o (λ f. false) is_zero) (ap v (sym q) ∙ sym p))

pub holds_err : (v : State → Value) (s s' : State) (f : Fault) → Err f ≡ v s' → s' ≡ s → (holds v s ≡ false) × (fails v s ≡ false)
holds_err v s s' f p q = (ap (λ o. by_value o (λ f. false) (λ v. not (is_zero v))) (ap v (sym q) ∙ sym p), ap (λ o. by_value o (λ f. false) is_zero) (ap v (sym q) ∙ sym p))

zero_yes : (z : ℤ) → z ≡ pos 0 → is_zero z ≡ true
zero_yes z e = ap is_zero e

zero_no : (z : ℤ) → ¬ (z ≡ pos 0) → is_zero z ≡ false
zero_no (pos zero) h = absurd (h refl)
zero_no (pos (suc n)) h = refl
zero_no (negsuc n) h = refl

-- what a guard counts at a state: where its value is 0, where it is not, and where it is a fault
pub first_zero : (v : State → Value) (s s' : State) (z : ℤ) → Ok z ≡ v s' → s' ≡ s → z ≡ pos 0 → (G : State → ℕ) → kept_if (holds v) G s ≡ 0
first_zero v s s' z p q e G = kept_ok (holds v) false s ((holds_ok v s s' z p q).0 ∙ ap not (zero_yes z e)) G

pub second_zero : (v : State → Value) (s s' : State) (z : ℤ) → Ok z ≡ v s' → s' ≡ s → z ≡ pos 0 → (G : State → ℕ) → kept_if (fails v) G s ≡ G s
second_zero v s s' z p q e G = kept_ok (fails v) true s ((holds_ok v s s' z p q).1 ∙ zero_yes z e) G

pub first_not : (v : State → Value) (s s' : State) (z : ℤ) → Ok z ≡ v s' → s' ≡ s → ¬ (z ≡ pos 0) → (G : State → ℕ) → kept_if (holds v) G s ≡ G s
first_not v s s' z p q e G = kept_ok (holds v) true s ((holds_ok v s s' z p q).0 ∙ ap not (zero_no z e)) G

pub second_not : (v : State → Value) (s s' : State) (z : ℤ) → Ok z ≡ v s' → s' ≡ s → ¬ (z ≡ pos 0) → (G : State → ℕ) → kept_if (fails v) G s ≡ 0
second_not v s s' z p q e G = kept_ok (fails v) false s ((holds_ok v s s' z p q).1 ∙ zero_no z e) G

pub first_err : (v : State → Value) (s s' : State) (f : Fault) → Err f ≡ v s' → s' ≡ s → (G : State → ℕ) → kept_if (holds v) G s ≡ 0
first_err v s s' f p q G = kept_ok (holds v) false s (holds_err v s s' f p q).0 G

pub second_err : (v : State → Value) (s s' : State) (f : Fault) → Err f ≡ v s' → s' ≡ s → (G : State → ℕ) → kept_if (fails v) G s ≡ 0
second_err v s s' f p q G = kept_ok (fails v) false s (holds_err v s s' f p q).1 G
