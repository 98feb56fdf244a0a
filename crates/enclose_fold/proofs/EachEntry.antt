-- What single entries give: of an assignment, a guard and its faults, and the sides of a draw.
use Rattle.std.proofs.Common.{◌≡◌, ℕ, ◌+◌, ◌*◌, ℤ, pos, Ok, Err, Option, [], ◌∷◌, ◌++◌, refl, sym, ap, ◌∙◌, arith, slice_set}
use Rattle.gcl_core.specs.declared.answers.Fault.{Fault}
use Rattle.gcl_core.specs.declared.answers.Limit.TheVariants.{Attempts}
use Rattle.gcl_core.specs.meaning.Value.{State, Value}
use Rattle.gcl_core.specs.meaning.Blocks.{End, fault, limit, by_value}
use Rattle.table_flow.specs.Tables.{holds, fails}
use Rattle.table_flow.specs.Counts.{stopped}
use Rattle.mass_fold.proofs.Moves.{moved_ok, moved_err, stopped_ok, first_zero, second_zero, first_not, second_not, first_err, second_err}
use Rattle.units_law.specs.Down.{down, share_of}
use Rattle.units_law.specs.Rounding.{class_units, rest_units}
use Rattle.units_law.specs.Units.{Units, held, set_units, only_units, fault_units, end_units}
use Rattle.units_law.proofs.UnitWords.{drawn_units, undrawn_units}
use Rattle.units_law.proofs.Held.{held_append}
use Rattle.units_law.proofs.Parts.{held_set, held_only, held_faults}
use Rattle.enclose_fold.proofs.Passing.{IsEach}

pub each_itself : IsEach (λ J. J)
each_itself = record { none = refl; more = λ e J G. omega arith }

pub each_set : (x : ℕ) (v : State → Value) → IsEach (set_units x v)
each_set x v = record {
  none = refl;
  more = λ e J G. let a = held_set G x v (e ∷ J) in let b = held_set G x v (e ∷ []) in let c = held_set G x v J in omega arith;
}

pub each_only : (test : State → _) → IsEach (only_units test)
each_only test = record {
  none = refl;
  more = λ e J G. let a = held_only G test (e ∷ J) in let b = held_only G test (e ∷ []) in let c = held_only G test J in omega arith;
}

pub each_fault : (v : State → Value) → IsEach (fault_units v)
each_fault v = record {
  none = refl;
  more = λ e J G. let a = held_faults G v (e ∷ J) in let b = held_faults G v (e ∷ []) in let c = held_faults G v J in omega arith;
}

pub each_class : (b : ℕ) (r : Option ℕ) (count : ℕ) → IsEach (class_units down b r count)
each_class b r count = record { none = refl; more = λ e J G. omega arith }

-- what no attempt decides, ended
abbrev pub undecided : ℕ → Option ℕ → Units State → Units End
undecided b r J = end_units (limit Attempts) (rest_units down b r J)

pub each_rest : (b : ℕ) (r : Option ℕ) → IsEach (undecided b r)
each_rest b r = record { none = refl; more = λ e J G. omega arith }

append_more : {A : Type 0} (G : A → ℕ) (H C : Units A) → held G (H ++ C) ≡ held G (H ++ []) + held G C
append_more G H C = let a = held_append G H C in let b = held_append G H [] in omega arith

pub each_drawn : (x : ℕ) (v : State → Value) (r : Option ℕ) → IsEach (drawn_units down x v r)
each_drawn x v r = record { none = refl; more = λ e J G. append_more G _ (drawn_units down x v r J) }

pub each_undrawn : (x : ℕ) (v : State → Value) (r : Option ℕ) → IsEach (undrawn_units down x v r)
each_undrawn x v r = record { none = refl; more = λ e J G. append_more G _ (undrawn_units down x v r J) }

-- ---- one entry, by the value of an expression at its state

module _ (v : State → Value) (s s' : State) (w : ℕ) where
  module _ (z : ℤ) (p : Ok z ≡ v s') (q : s' ≡ s) where
    pub set_ok : (x : ℕ) (t : State) → t ≡ slice_set s x z → (G : State → ℕ) → held G (set_units x v ((s, w) ∷ [])) ≡ w * G t
    set_ok x t r G = let a = held_set G x v ((s, w) ∷ []) in let b = ap (λ u. w * u) (moved_ok x v s s' t z p q r G) in omega arith

    pub fault_ok : (G : End → ℕ) → held G (fault_units v ((s, w) ∷ [])) ≡ 0
    fault_ok G = let a = held_faults G v ((s, w) ∷ []) in let b = ap (λ u. w * u) (stopped_ok v s s' z p q G) in omega arith

    pub zero_holds : z ≡ pos 0 → (G : State → ℕ) → held G (only_units (holds v) ((s, w) ∷ [])) ≡ 0
    zero_holds e G = let a = held_only G (holds v) ((s, w) ∷ []) in let b = ap (λ u. w * u) (first_zero v s s' z p q e G) in omega arith

    pub zero_fails : z ≡ pos 0 → (G : State → ℕ) → held G (only_units (fails v) ((s, w) ∷ [])) ≡ w * G s
    zero_fails e G = let a = held_only G (fails v) ((s, w) ∷ []) in let b = ap (λ u. w * u) (second_zero v s s' z p q e G) in omega arith

    pub not_holds : ¬ (z ≡ pos 0) → (G : State → ℕ) → held G (only_units (holds v) ((s, w) ∷ [])) ≡ w * G s
    not_holds e G = let a = held_only G (holds v) ((s, w) ∷ []) in let b = ap (λ u. w * u) (first_not v s s' z p q e G) in omega arith

    pub not_fails : ¬ (z ≡ pos 0) → (G : State → ℕ) → held G (only_units (fails v) ((s, w) ∷ [])) ≡ 0
    not_fails e G = let a = held_only G (fails v) ((s, w) ∷ []) in let b = ap (λ u. w * u) (second_not v s s' z p q e G) in omega arith

  module _ (f : Fault) (p : Err f ≡ v s') (q : s' ≡ s) where
    pub set_err : (x : ℕ) (G : State → ℕ) → held G (set_units x v ((s, w) ∷ [])) ≡ 0
    set_err x G = let a = held_set G x v ((s, w) ∷ []) in let b = ap (λ u. w * u) (moved_err x v s s' f p q G) in omega arith

    pub fault_err : (G : End → ℕ) → held G (fault_units v ((s, w) ∷ [])) ≡ w * G (fault f)
    fault_err G =
        let e : stopped v G s ≡ G (fault f) = ap (λ o. by_value o (λ f. G (fault f)) (λ z. 0)) (ap v (sym q) ∙ sym p) in
        let a = held_faults G v ((s, w) ∷ []) in
        let b = ap (λ u. w * u) e in
        omega arith

    pub err_holds : (G : State → ℕ) → held G (only_units (holds v) ((s, w) ∷ [])) ≡ 0
    err_holds G = let a = held_only G (holds v) ((s, w) ∷ []) in let b = ap (λ u. w * u) (first_err v s s' f p q G) in omega arith

    pub err_fails : (G : State → ℕ) → held G (only_units (fails v) ((s, w) ∷ [])) ≡ 0
    err_fails G = let a = held_only G (fails v) ((s, w) ∷ []) in let b = ap (λ u. w * u) (second_err v s s' f p q G) in omega arith

pub class_one : (b : ℕ) (r : Option ℕ) (count : ℕ) (s t : State) (w h : ℕ) → t ≡ s → h ≡ share_of b r count w → (G : State → ℕ) → held G (class_units down b r count ((s, w) ∷ [])) ≡ h * G t
class_one b r count s t w h p q G = rw (p, q) (omega arith)
