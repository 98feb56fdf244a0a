-- What each statement makes of a table, by what its calls do.
use Rattle.std.proofs.Common.{◌≡◌, ℕ, ◌+◌, ◌-◌, ◌*◌, ◌≤◌, List, [], ◌∷◌, length, drop, Option, Result, Ok, Err, IfOk, refl, sym, ap, ◌∙◌, subst, arith}
use Rattle.std.proofs.Math.ListN.{drop_of_length-le}
use Rattle.gcl_core.specs.declared.answers.Limit.TheVariants.{Attempts}
use Rattle.gcl_core.specs.declared.syntax.Stmt.{Stmt}
use Rattle.gcl_core.specs.declared.syntax.Weight.{Weight}
use Rattle.gcl_core.specs.meaning.Blocks.{End, failed, limit}
use Rattle.gcl_core.specs.meaning.Bounds.{IsWeight}
use Rattle.gcl_core.specs.meaning.Syntax.{Expression, Statement, Skip, Set, Choice, Uniform, Observe, Statements, done}
use Rattle.gcl_core.specs.meaning.Value.{State, Value, value_of}
use Rattle.gcl_core.specs.meaning.Views.{list_of}
use Rattle.table_flow.specs.Tables.{holds, fails}
use Rattle.units_law.specs.Down.{down}
use Rattle.units_law.specs.Flows.{statement_units, block_units}
use Rattle.units_law.specs.Merged.{merged, IsMerged}
use Rattle.units_law.specs.Rounding.{class_units, rest_units}
use Rattle.units_law.specs.Units.{Units, held, total, only_units, fault_units, end_units, set_units}
use Rattle.units_law.proofs.UnitWords.{drawn_units, undrawn_units}
use Rattle.units_law.proofs.Held.{held_append}
use Rattle.units_law.proofs.Losses.{guard_total}
use Rattle.units_law.proofs.Merging.{held_merged, merged_again}
use Rattle.enclose_fold.specs.declared.error.EncloseError.{EncloseError}
use Rattle.enclose_fold.specs.declared.error.EncloseError.TheVariants.{OutOfMemory}
use Rattle.enclose_fold.specs.declared.ended.Ended.{Ended}
use Rattle.enclose_fold.specs.inner.Ended.{units_of, EndsWith}
use Rattle.enclose_fold.specs.inner.Folding.{Gives, StepRefused}
use Rattle.enclose_fold.specs.inner.Refusals.{RefusedAt}
use Rattle.enclose_fold.proofs.CycleFlows.{Goes, goes_end, statement_spends, total_merged}
use Rattle.enclose_fold.proofs.Putting.{no_memory, refused_more}

pub no_states : (es : Units State) → length es ≡ 0 → es ≡ []
no_states [] e = refl
no_states (d ∷ es) e = absurd (omega arith)

-- all end in one way
pub held_ended : (G : End → ℕ) (x : End) (J : Units State) → held G (end_units x J) ≡ total J * G x
held_ended G x [] = omega arith
held_ended G x (e ∷ J) = let i = held_ended G x J in omega arith

-- both sides of a guard, and its faults, are what there was
pub guard_room : (v : State → Value) (es first second : Units State) (E F : Ended) → first ≡ merged (only_units (holds v) es) → second ≡ merged (only_units (fails v) es) → EndsWith E (fault_units v es) F →
    total first + total second + total (units_of F) ≡ total es + total (units_of E)
guard_room v es first second E F p q h =
    let a = total_merged first (only_units (holds v) es) p in
    let b = total_merged second (only_units (fails v) es) q in
    let c = h (λ x. 1) in
    let d = guard_total v es in
    omega arith

module _ (n : ℕ) (r : Option ℕ) where
  -- ---- along the view of a statement, and along the statements that are left
  pub gives_as : (st st' : Statement) (es fs : Units State) (E F : Ended) → st ≡ st' → Gives (statement_units down n r st' es) E fs F → Gives (statement_units down n r st es) E fs F
  gives_as st st' es fs E F p h = subst (λ st. Gives (statement_units down n r st es) E fs F) (sym p) h

  pub refused_as : (st st' : Statement) (es : Units State) (e : EncloseError) → st ≡ st' → StepRefused (statement_units down n r st' es) e → StepRefused (statement_units down n r st es) e
  refused_as st st' es e p h = subst (λ st. StepRefused (statement_units down n r st es) e) (sym p) h

  pub goes_as : (b rest rest' : Statements) (J es : Units State) (E F : Ended) → rest ≡ rest' → Goes n r b J E rest es F → Goes n r b J E rest' es F
  goes_as b rest rest' J es E F p h = subst (λ rest. Goes n r b J E rest es F) p h

  pub goes_done : (xs ys : List Stmt) (i : ℕ) (J es : Units State) (E F : Ended) → length xs ≤ i → xs ≡ ys → IsMerged es → Goes n r (list_of xs) J E (list_of (drop i xs)) es F → Gives (block_units down n r (list_of ys) J) E es F
  goes_done xs ys i J es E F h p m g =
      let q = drop_of_length-le xs h in
      let k : Goes n r (list_of xs) J E done es F = subst (λ z. Goes n r (list_of xs) J E (list_of z) es F) q g in
      subst (λ z. Gives (block_units down n r (list_of z) J) E es F) p (goes_end n r (list_of xs) J E es F m k)

  -- ---- refusals
  pub memory_refused : (st : Statement) (es : Units State) (e : EncloseError) → e ≡ OutOfMemory → StepRefused (statement_units down n r st es) e
  memory_refused st es e p L few k = no_memory e L p

  pub draw_refused : (x : ℕ) (e : Expression) (es : Units State) (error : EncloseError) → RefusedAt (drawn_units down x (value_of e) r es) error → StepRefused (statement_units down n r (Uniform x e) es) error
  draw_refused x e es error h L few k = refused_more error (length (merged (drawn_units down x (value_of e) r es))) L k h

  -- ---- statements
  pub skip_gives : (es : Units State) (E : Ended) → IsMerged es → Gives (statement_units down n r Skip es) E es E
  skip_gives es E m = record { next = sym (merged_again es m); ended = λ G. omega arith }

  pub set_gives : (x : ℕ) (e : Expression) (es fs : Units State) (E F : Ended) → fs ≡ merged (set_units x (value_of e) es) → EndsWith E (fault_units (value_of e) es) F → Gives (statement_units down n r (Set x e) es) E fs F
  set_gives x e es fs E F p h = record { next = p; ended = h }

  pub draw_gives : (x : ℕ) (e : Expression) (es fs : Units State) (E F : Ended) → fs ≡ merged (drawn_units down x (value_of e) r es) → EndsWith E (undrawn_units down x (value_of e) r es) F → Gives (statement_units down n r (Uniform x e) es) E fs F
  draw_gives x e es fs E F p h = record { next = p; ended = h }

  pub observe_gives : (e : Expression) (es first second : Units State) (E F F' : Ended) (w : ℕ) → first ≡ merged (only_units (holds (value_of e)) es) → second ≡ merged (only_units (fails (value_of e)) es) →
      EndsWith E (fault_units (value_of e) es) F → w ≡ total second → EndsWith F ((failed, w) ∷ []) F' → Gives (statement_units down n r (Observe e) es) E first F'
  observe_gives e es first second E F F' w p q h k l = record {
    next = p;
    ended = λ G.
        let v = value_of e in
        let a = h G in
        let b = l G in
        let c = held_append G (fault_units v es) (end_units failed (only_units (fails v) es)) in
        let d = held_ended G failed (only_units (fails v) es) in
        let i = total_merged second (only_units (fails v) es) q in
        let j = ap (λ t. t * G failed) (k ∙ i) in
        omega arith;
  }

  -- ---- a choice: both sides, and what no attempt decides, are no more than there was
  pub choice_room : (p : Weight) → IsWeight p → (es first second : Units State) (E F : Ended) → IsMerged es →
      first ≡ merged (class_units down p.den r p.num es) → second ≡ merged (class_units down p.den r (p.den - p.num) es) → EndsWith E (end_units (limit Attempts) (rest_units down p.den r es)) F →
      total first + total second + total (units_of F) ≤ total es + total (units_of E)
  choice_room p w es first second E F m a b h =
      let A = class_units down p.den r p.num es in
      let B = class_units down p.den r (p.den - p.num) es in
      let C = end_units (limit Attempts) (rest_units down p.den r es) in
      let x = statement_spends n r (Choice p done done) (w, tt, tt) es m in
      let y = held_append (λ s. 1) (merged A) (merged B) in
      let z = held_append (λ s. 1) C [] in
      let u = total_merged first A a in
      let v = total_merged second B b in
      let k = held_merged A (λ s. 1) in
      let l = held_merged B (λ s. 1) in
      let i = h (λ x. 1) in
      omega arith

-- two facts of one answer
pub ok_both : {A B : Type 0} (r : Result A B) (P Q R : A → Type 0) → ((x : A) → P x → Q x → R x) → IfOk r P → IfOk r Q → IfOk r R
ok_both (Ok x) P Q R h p q = h x p q
ok_both (Err e) P Q R h p q = tt

-- what no attempt decides, by the odds of a choice
pub rest_as : (J : Units State) (b b' : ℕ) (r r' : Option ℕ) (E F : Ended) → b ≡ b' → r ≡ r' → EndsWith E (end_units (limit Attempts) (rest_units down b r J)) F → EndsWith E (end_units (limit Attempts) (rest_units down b' r' J)) F
rest_as J b b' r r' E F p e h = subst (λ r. EndsWith E (end_units (limit Attempts) (rest_units down b' r J)) F) e (subst (λ b. EndsWith E (end_units (limit Attempts) (rest_units down b r J)) F) p h)
