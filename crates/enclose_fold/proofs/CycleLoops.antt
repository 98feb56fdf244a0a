-- A loop, turn by turn: what is left of it from the table at hand makes up for what the whole makes.
use Rattle.std.proofs.Common.{◌≡◌, ℕ, zero, suc, ◌+◌, ◌*◌, ◌≤◌, [], ◌∷◌, ◌++◌, length, Option, refl, ap, ◌∙◌, subst, sym, arith}
use Rattle.numbers.specs.declared.units.TheConstants.{ALL}
use Rattle.gcl_core.specs.declared.answers.Limit.TheVariants.{Turns}
use Rattle.gcl_core.specs.meaning.Bounds.{BlockIsWeighed}
use Rattle.gcl_core.specs.meaning.Syntax.{Statements}
use Rattle.gcl_core.specs.meaning.Blocks.{End, limit}
use Rattle.gcl_core.specs.meaning.Value.{State, Value}
use Rattle.table_flow.specs.Tables.{holds, fails}
use Rattle.units_law.specs.Down.{down}
use Rattle.units_law.specs.Flows.{UnitFlow, block_units}
use Rattle.units_law.specs.Merged.{merged, IsMerged}
use Rattle.units_law.specs.Units.{Units, held, total, only_units, fault_units, end_units}
use Rattle.units_law.proofs.UnitWords.{loop_units}
use Rattle.units_law.proofs.Downs.{rounds_down}
use Rattle.units_law.proofs.Held.{held_append}
use Rattle.units_law.proofs.Losses.{guard_total, end_total}
use Rattle.units_law.proofs.Merging.{held_merged, merged_again}
use Rattle.units_law.proofs.Spent.{none_made}
use Rattle.enclose_fold.specs.declared.error.EncloseError.{EncloseError}
use Rattle.enclose_fold.specs.declared.error.EncloseError.TheVariants.{OutOfMemory}
use Rattle.enclose_fold.specs.declared.ended.Ended.{Ended}
use Rattle.enclose_fold.specs.inner.Ended.{units_of, EndsWith}
use Rattle.enclose_fold.specs.inner.Folding.{Gives, FlowRefused, StepRefused}
use Rattle.enclose_fold.specs.inner.Refusals.{RefusedAt}
use Rattle.enclose_fold.proofs.CycleFlows.{Few, few_left, few_right, nothing, block_merged, block_spends, next_once}
use Rattle.enclose_fold.proofs.CycleSteps.{held_ended}
use Rattle.enclose_fold.proofs.Drawing.{both_hold}
use Rattle.enclose_fold.proofs.Putting.{is_merged, no_memory, refused_more, wider}

module _ (n : ℕ) (r : Option ℕ) (v : State → Value) (b : Statements) where
  abbrev pub body : Units State → UnitFlow
  body = block_units down n r b

  abbrev pub turns : ℕ → Units State → UnitFlow
  turns t K = loop_units v body t K

  -- no turn makes a unit
  loop_spends : BlockIsWeighed b → (t : ℕ) (K : Units State) → total (turns t K).next + total (turns t K).ended ≤ total K
  loop_spends w zero K =
      let g = guard_total v K in
      let a = held_append (λ x. 1) (fault_units v K) (end_units (limit Turns) (only_units (holds v) K)) in
      let e = end_total (limit Turns) (only_units (holds v) K) in
      omega arith
  loop_spends w (suc t) K =
      let A = only_units (holds v) K in
      let f = body A in
      let l = turns t f.next in
      let g = guard_total v K in
      let x = none_made down rounds_down n r b w A in
      let y = loop_spends w t f.next in
      let a = held_append (λ s. 1) (only_units (fails v) K) l.next in
      let d = held_append (λ x. 1) (fault_units v K) (f.ended ++ l.ended) in
      let e = held_append (λ x. 1) f.ended l.ended in
      omega arith

  module _ (J : Units State) (E : Ended) where
    pub record LoopAt (t : ℕ) (now exits : Units State) (F : Ended) : Type 0 where
      pub going : (G : State → ℕ) → held G exits + held G (turns t now).next ≡ held G (turns n J).next
      pub ended : (G : End → ℕ) → held G (units_of F) + held G (turns t now).ended ≡ held G (units_of E) + held G (turns n J).ended
      pub few : (L : ℕ) → Few L (turns n J).tables → Few L (turns t now).tables
      pub within : total exits + (total (units_of F) + total now) ≤ ALL

    pub loop_start : (exits : Units State) → exits ≡ [] → total J + total (units_of E) ≤ ALL → LoopAt n J exits E
    loop_start exits p w = record {
      going = λ G. let a = ap (held G) p in omega arith;
      ended = λ G. refl;
      few = λ L h. h;
      within = let a = ap total p in omega (arith, w);
    }

    pub loop_as : (t t' : ℕ) (now exits : Units State) (F : Ended) → t ≡ t' → LoopAt t now exits F → LoopAt t' now exits F
    loop_as t t' now exits F p h = subst (λ t. LoopAt t now exits F) p h

    -- where nothing goes on, nothing is left to come
    pub loop_dry : BlockIsWeighed b → (t : ℕ) (now exits : Units State) (F : Ended) → now ≡ [] → IsMerged exits → LoopAt t now exits F → Gives (turns n J) E exits F
    loop_dry w t now exits F p m h =
        let s = loop_spends w t now in
        let z = ap total p in
        record {
          next = is_merged exits (turns n J).next m (λ G. let a = h.going G in let k = nothing G (turns t now).next (omega arith) in omega arith);
          ended = λ G. let a = h.ended G in let k = nothing G (turns t now).ended (omega arith) in omega arith;
        }

    pub loop_fails : (e : EncloseError) → e ≡ OutOfMemory → StepRefused (turns n J) e
    loop_fails e p L few k = no_memory e L p

    module _ (now exits : Units State) (F : Ended) (first second : Units State) (F1 : Ended)
        (p : first ≡ merged (only_units (holds v) now)) (q : second ≡ merged (only_units (fails v) now)) (s : EndsWith F (fault_units v now) F1) where
      first_holds : (G : State → ℕ) → held G first ≡ held G (only_units (holds v) now)
      first_holds G = ap (held G) p ∙ held_merged (only_units (holds v) now) G

      second_holds : (G : State → ℕ) → held G second ≡ held G (only_units (fails v) now)
      second_holds G = ap (held G) q ∙ held_merged (only_units (fails v) now) G

      -- what a guard leaves of room
      pub loop_room : total exits + (total (units_of F) + total now) ≤ ALL → total exits + total second + (total first + total (units_of F1)) ≤ ALL
      loop_room w =
          let g = guard_total v now in
          let a = first_holds (λ s. 1) in
          let b = second_holds (λ s. 1) in
          let c = s (λ x. 1) in
          omega (arith, w)

      pub exits_fail : (t : ℕ) → LoopAt t now exits F → (e : EncloseError) → RefusedAt (exits ++ second) e → StepRefused (turns n J) e
      exits_fail zero h e x L few k =
          let w = wider (exits ++ second) [] (turns n J).next
          (λ G. let u = h.going G in let d = held_append G exits second in let l = second_holds G in omega arith) in
          refused_more e (length (merged (exits ++ second))) L (omega (arith, w, k)) x
      exits_fail (suc t) h e x L few k =
          let g = turns t (body (only_units (holds v) now)).next in
          let w = wider (exits ++ second) g.next (turns n J).next
          (λ G. let u = h.going G in let d = held_append G exits second in let l = second_holds G in let y = held_append G (only_units (fails v) now) g.next in omega arith) in
          refused_more e (length (merged (exits ++ second))) L (omega (arith, w, k)) x

      same : body first ≡ body (only_units (holds v) now)
      same = block_merged n r b first (only_units (holds v) now) p

      module _ (t : ℕ) (h : LoopAt (suc t) now exits F) where
        pub body_fails : (e : EncloseError) → FlowRefused (body first) e → StepRefused (turns n J) e
        body_fails e x L few k =
            let f = body (only_units (holds v) now) in
            x L (subst (λ f. Few L f.tables) (sym same) (few_left L f.tables (turns t f.next).tables (h.few L few)))

        pub loop_turn : BlockIsWeighed b → (exits' now' : Units State) (F2 : Ended) → exits' ≡ merged (exits ++ second) → Gives (body first) F1 now' F2 → LoopAt t now' exits' F2
        loop_turn w exits' now' F2 o g =
            let A = only_units (holds v) now in
            let f = body A in
            let k = turns t f.next in
            let is : now' ≡ f.next = g.next ∙ ap (λ f. merged f.next) same ∙ merged_again f.next (next_once n r b A) in
            let left : turns t now' ≡ k = ap (turns t) is in
            record {
              going = λ G.
                  let u = h.going G in
                  let d = both_hold exits second exits' o G in
                  let l = second_holds G in
                  let y = held_append G (only_units (fails v) now) k.next in
                  let z = ap (λ f. held G f.next) left in
                  omega arith;
              ended = λ G.
                  let u = h.ended G in
                  let d = g.ended G in
                  let l = s G in
                  let x = ap (λ f. held G f.ended) same in
                  let y = held_append G (fault_units v now) (f.ended ++ k.ended) in
                  let o = held_append G f.ended k.ended in
                  let z = ap (λ f. held G f.ended) left in
                  omega arith;
              few = λ L few. subst (λ f. Few L f.tables) (sym left) (few_right L f.tables k.tables (h.few L few));
              within =
                  let a = loop_room h.within in
                  let d = block_spends n r b w first now' F1 F2 g in
                  let y = both_hold exits second exits' o (λ s. 1) in
                  omega arith;
            }

      pub loop_end : LoopAt 0 now exits F → (exits' : Units State) (F2 : Ended) (units : ℕ) → IsMerged exits' → exits' ≡ merged (exits ++ second) → units ≡ total first →
          EndsWith F1 ((limit Turns, units) ∷ []) F2 → Gives (turns n J) E exits' F2
      loop_end h exits' F2 units m o e g = record {
        next = is_merged exits' (turns n J).next m (λ G. let u = h.going G in let d = both_hold exits second exits' o G in let l = second_holds G in omega arith);
        ended = λ G.
            let A = only_units (holds v) now in
            let u = h.ended G in
            let d = g G in
            let l = s G in
            let y = held_append G (fault_units v now) (end_units (limit Turns) A) in
            let x = held_ended G (limit Turns) A in
            let z = ap (λ t. t * G (limit Turns)) (e ∙ first_holds (λ s. 1)) in
            omega arith;
      }
