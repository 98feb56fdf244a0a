-- The body of a program, from all units at the state of zeros.
use Rattle.std.proofs.Common.{◌≡◌, ℕ, ◌+◌, ◌≤◌, [], ◌∷◌, length, Option, ap, ◌∙◌, subst, arith}
use Rattle.numbers.specs.declared.units.TheConstants.{ALL}
use Rattle.gcl_core.specs.meaning.Bounds.{BlockIsWeighed}
use Rattle.gcl_core.specs.meaning.Outcomes.{zeros}
use Rattle.gcl_core.specs.meaning.Syntax.{SourceProgram}
use Rattle.gcl_core.specs.meaning.Value.{State}
use Rattle.table_flow.specs.Tables.{peak_of}
use Rattle.units_law.specs.Down.{down}
use Rattle.units_law.specs.Flows.{block_units}
use Rattle.units_law.specs.Merged.{merged}
use Rattle.units_law.specs.Rounds.{round_units}
use Rattle.units_law.specs.Units.{Units, held, total}
use Rattle.units_law.proofs.Downs.{rounds_down}
use Rattle.units_law.proofs.Merging.{merged_again}
use Rattle.units_law.proofs.Rounds.{round_below}
use Rattle.enclose_fold.specs.declared.error.EncloseError.{EncloseError}
use Rattle.enclose_fold.specs.declared.ended.Ended.{Ended}
use Rattle.enclose_fold.specs.inner.Body.{BodyGives}
use Rattle.enclose_fold.specs.inner.Ended.{units_of, IsNone}
use Rattle.enclose_fold.specs.inner.Folding.{Gives, FlowRefused}
use Rattle.enclose_fold.specs.inner.Refusals.{Refuses}
use Rattle.enclose_fold.proofs.CycleFlows.{next_once}

module _ (p : SourceProgram) (n : ℕ) (r : Option ℕ) (es : Units State) (E : Ended) (one : es ≡ (zeros (length p.names), ALL) ∷ []) (none : IsNone E) where
  -- at the start there is room for all
  pub body_room : total es + total (units_of E) ≤ ALL
  body_room = let a = ap total one in let b = none (λ x. 1) in omega arith

  pub body_gives : (fs : Units State) (F : Ended) → Gives (block_units down n r p.body es) E fs F → BodyGives p n r fs F
  body_gives fs F g = record {
    next = g.next ∙ ap (λ es. merged (block_units down n r p.body es).next) one ∙ merged_again (round_units down p n r).next (next_once n r p.body ((zeros (length p.names), ALL) ∷ []));
    ended = λ G.
        let a = g.ended G in
        let b = none G in
        let c = ap (λ es. held G (block_units down n r p.body es).ended) one in
        omega arith;
  }

  pub body_refused : BlockIsWeighed p.body → (e : EncloseError) → FlowRefused (block_units down n r p.body es) e → Refuses e (peak_of p n r)
  body_refused w e h = subst (λ es. FlowRefused (block_units down n r p.body es) e) one h (peak_of p n r) (round_below down rounds_down p n r w).few
