-- What single entries give: of an assignment, a guard and its faults.
use Rattle.std.proofs.Common.{◌≡◌, ℕ, zero, suc, ℤ, pos, negsuc, Ok, Err, Bool, true, false, not, ◌∷◌, refl, sym, ap, ◌∙◌, slice_set}
use Rattle.gcl_core.specs.declared.answers.Fault.{Fault}
use Rattle.gcl_core.specs.meaning.Blocks.{fault, by_value}
use Rattle.gcl_core.specs.meaning.Value.{State, Value, is_zero}
use Rattle.table_flow.specs.Tables.{holds, fails, set_go, only_go, faults_go}
use Rattle.mass_fold.proofs.Moves.{holds_ok, holds_err}
use Rattle.scaled_law.specs.Pairs.{Pair, Pairs, counted_pairs}

zero_yes : (z : ℤ) → z ≡ pos 0 → is_zero z ≡ true
zero_yes z e = ap is_zero e

zero_no : (z : ℤ) → ¬ (z ≡ pos 0) → is_zero z ≡ false
zero_no (pos zero) h = absurd (h refl)
zero_no (pos (suc n)) h = refl
zero_no (negsuc n) h = refl

pub only_yes : (test : State → Bool) (s : State) (w : Pair) (J : Pairs State) → test s ≡ true → only_go counted_pairs test ((s, w) ∷ J) ≡ (s, w) ∷ only_go counted_pairs test J
only_yes test s w J e = rw e refl

pub only_no : (test : State → Bool) (s : State) (w : Pair) (J : Pairs State) → test s ≡ false → only_go counted_pairs test ((s, w) ∷ J) ≡ only_go counted_pairs test J
only_no test s w J e = rw e refl

module _ (v : State → Value) (s s' : State) (w : Pair) (J : Pairs State) where
  module _ (z : ℤ) (p : Ok z ≡ v s') (q : s' ≡ s) where
    is_ok : v s ≡ Ok z
    is_ok = ap v (sym q) ∙ sym p

    pub set_ok : (x : ℕ) (t : State) → t ≡ slice_set s x z → set_go counted_pairs x v ((s, w) ∷ J) ≡ (t, w) ∷ set_go counted_pairs x v J
    set_ok x t r =
        ap (λ o. by_value o (λ f. set_go counted_pairs x v J) (λ z. (slice_set s x z, w) ∷ set_go counted_pairs x v J)) is_ok ∙ ap (λ t. (t, w) ∷ set_go counted_pairs x v J) (sym r)

    pub fault_ok : faults_go counted_pairs v ((s, w) ∷ J) ≡ faults_go counted_pairs v J
    fault_ok = ap (λ o. by_value o (λ f. (fault f, w) ∷ faults_go counted_pairs v J) (λ z. faults_go counted_pairs v J)) is_ok

    pub zero_holds : z ≡ pos 0 → only_go counted_pairs (holds v) ((s, w) ∷ J) ≡ only_go counted_pairs (holds v) J
    zero_holds e = only_no (holds v) s w J ((holds_ok v s s' z p q).0 ∙ ap not (zero_yes z e))

    pub zero_fails : z ≡ pos 0 → only_go counted_pairs (fails v) ((s, w) ∷ J) ≡ (s, w) ∷ only_go counted_pairs (fails v) J
    zero_fails e = only_yes (fails v) s w J ((holds_ok v s s' z p q).1 ∙ zero_yes z e)

    pub not_holds : ¬ (z ≡ pos 0) → only_go counted_pairs (holds v) ((s, w) ∷ J) ≡ (s, w) ∷ only_go counted_pairs (holds v) J
    not_holds e = only_yes (holds v) s w J ((holds_ok v s s' z p q).0 ∙ ap not (zero_no z e))

    pub not_fails : ¬ (z ≡ pos 0) → only_go counted_pairs (fails v) ((s, w) ∷ J) ≡ only_go counted_pairs (fails v) J
    not_fails e = only_no (fails v) s w J ((holds_ok v s s' z p q).1 ∙ zero_no z e)

  module _ (f : Fault) (p : Err f ≡ v s') (q : s' ≡ s) where
    is_err : v s ≡ Err f
    is_err = ap v (sym q) ∙ sym p

    pub set_err : (x : ℕ) → set_go counted_pairs x v ((s, w) ∷ J) ≡ set_go counted_pairs x v J
    set_err x = ap (λ o. by_value o (λ f. set_go counted_pairs x v J) (λ z. (slice_set s x z, w) ∷ set_go counted_pairs x v J)) is_err

    pub fault_err : faults_go counted_pairs v ((s, w) ∷ J) ≡ (fault f, w) ∷ faults_go counted_pairs v J
    fault_err = ap (λ o. by_value o (λ f. (fault f, w) ∷ faults_go counted_pairs v J) (λ z. faults_go counted_pairs v J)) is_err

    pub err_holds : only_go counted_pairs (holds v) ((s, w) ∷ J) ≡ only_go counted_pairs (holds v) J
    err_holds = only_no (holds v) s w J (holds_err v s s' f p q).0

    pub err_fails : only_go counted_pairs (fails v) ((s, w) ∷ J) ≡ only_go counted_pairs (fails v) J
    err_fails = only_no (fails v) s w J (holds_err v s s' f p q).1
