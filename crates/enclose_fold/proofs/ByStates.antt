-- A table that is walked state by state: what the states so far give, merged, makes up with what those that are left give for what all give.
use Rattle.std.proofs.Common.{◌≡◌, ℕ, zero, suc, ◌+◌, ◌-◌, ◌≤◌, ◌<◌, List, [], ◌∷◌, ◌++◌, take, drop, length, Option, refl, sym, ap, ◌∙◌, subst, arith}
use Rattle.std.proofs.lemmas.List.Elements.{All-nil, All-cons, All-head, All-tail, All-append}
use Rattle.numbers.specs.declared.units.TheConstants.{ALL}
use Rattle.gcl_core.specs.declared.syntax.Stmt.{Stmt}
use Rattle.gcl_core.specs.meaning.Bounds.{BlockIsWeighed}
use Rattle.gcl_core.specs.meaning.Blocks.{End}
use Rattle.gcl_core.specs.meaning.Syntax.{Skip, Set, If, While, Choice, Choose, Uniform, Observe, Statements, done, ◌▸◌}
use Rattle.gcl_core.specs.meaning.Value.{State}
use Rattle.gcl_core.specs.meaning.Views.{statement_of, list_of}
use Rattle.units_law.specs.Down.{down}
use Rattle.units_law.specs.Flows.{UnitFlow, statement_units, block_units}
use Rattle.units_law.specs.Merged.{merged, put, IsMerged}
use Rattle.units_law.specs.Units.{Units, held, total}
use Rattle.units_law.proofs.Held.{held_append}
use Rattle.units_law.proofs.Merging.{held_merged, merged_once, merged_again}
use Rattle.enclose_fold.specs.declared.error.EncloseError.{EncloseError}
use Rattle.enclose_fold.specs.declared.error.EncloseError.TheVariants.{OutOfMemory}
use Rattle.enclose_fold.specs.declared.ended.Ended.{Ended}
use Rattle.enclose_fold.specs.inner.Between.{between}
use Rattle.enclose_fold.specs.inner.Ended.{units_of}
use Rattle.enclose_fold.specs.inner.Exact.{DrawsOnce}
use Rattle.enclose_fold.specs.inner.Folding.{Gives, FlowRefused, StepRefused}
use Rattle.enclose_fold.specs.inner.Refusals.{RefusedAt}
use Rattle.enclose_fold.proofs.CycleFlows.{Few, few_left, few_right, nothing, from_table, first_few, block_merged, block_spends, Goes, goes_end}
use Rattle.enclose_fold.proofs.Drawing.{both_hold}
use Rattle.enclose_fold.proofs.Parted.{InEntries, draw_in_entries}
use Rattle.enclose_fold.proofs.Putting.{is_merged, no_memory, refused_more, wider}

-- ---- a flow, entry by entry

module _ (f : Units State → UnitFlow) (M : Units State) (E : Ended) where
  pub record EntriesAt (rest out : Units State) (F : Ended) : Type 0 where
    pub going : (G : State → ℕ) → held G out + held G (f rest).next ≡ held G (f M).next
    pub ended : (G : End → ℕ) → held G (units_of F) + held G (f rest).ended ≡ held G (units_of E) + held G (f M).ended
    pub few : (L : ℕ) → Few L (f M).tables → Few L (f rest).tables
    pub parts : InEntries f rest
    pub within : total out + (total (units_of F) + total rest) ≤ ALL

  pub entries_start : (rest out : Units State) → out ≡ [] → rest ≡ M → InEntries f M → total M + total (units_of E) ≤ ALL → EntriesAt rest out E
  entries_start rest out p q i w = rw (p, q) (record { going = λ G. omega arith; ended = λ G. refl; few = λ L k. k; parts = i; within = omega (arith, w) })

  pub entries_as : (rest rest' out : Units State) (F : Ended) → rest ≡ rest' → EntriesAt rest out F → EntriesAt rest' out F
  entries_as rest rest' out F p h = subst (λ rest. EntriesAt rest out F) p h

  pub entries_end : (rest out : Units State) (F : Ended) → rest ≡ [] → IsMerged out → EntriesAt rest out F → Gives (f M) E out F
  entries_end rest out F p m at =
      let h = entries_as rest [] out F p at in
      record {
        next = is_merged out (f M).next m (λ G. let a = h.going G in let b = nothing G (f []).next h.parts.0 in omega arith);
        ended = λ G. let a = h.ended G in let b = nothing G (f []).ended h.parts.1 in omega arith;
      }

  module _ (s : State) (w : ℕ) (rest out : Units State) (F : Ended) (h : EntriesAt ((s, w) ∷ rest) out F) where
    pub entry_room : w + total (units_of F) ≤ ALL
    entry_room = let a = h.within in omega (arith, a)

    pub entry_fails : (e : EncloseError) → FlowRefused (f ((s, w) ∷ [])) e → StepRefused (f M) e
    entry_fails e x L few k = x L (h.parts.1.first L (h.few L few))

    module _ (left : Units State) (F' : Ended) (g : Gives (f ((s, w) ∷ [])) F left F') where
      left_holds : (G : State → ℕ) → held G left ≡ held G (f ((s, w) ∷ [])).next
      left_holds G = let a = ap (held G) g.next in let b = held_merged (f ((s, w) ∷ [])).next G in omega arith

      pub entry_merge_fails : (e : EncloseError) → RefusedAt (out ++ left) e → StepRefused (f M) e
      entry_merge_fails e x L few k =
          let v = wider (out ++ left) (f rest).next (f M).next
          (λ G. let a = h.going G in let b = h.parts.1.next G in let c = left_holds G in let d = held_append G out left in omega arith) in
          refused_more e (length (merged (out ++ left))) L (omega (arith, v, k)) x

      module _ (spends : total left + total (units_of F') ≤ w + total (units_of F)) where
        pub entry_merge_room : total out + total left ≤ ALL
        entry_merge_room = let a = h.within in omega (arith, a, spends)

        pub entry_turn : (out' : Units State) → out' ≡ merged (out ++ left) → EntriesAt rest out' F'
        entry_turn out' p = record {
          going = λ G. let a = h.going G in let b = h.parts.1.next G in let c = left_holds G in let d = both_hold out left out' p G in omega arith;
          ended = λ G. let a = h.ended G in let b = h.parts.1.ended G in let c = g.ended G in omega arith;
          few = λ L k. h.parts.1.second L (h.few L k);
          parts = h.parts.2;
          within = let a = h.within in let d = both_hold out left out' p (λ s. 1) in omega (arith, a, d, spends);
        }

-- ---- statements, one after the other

module _ (n : ℕ) (r : Option ℕ) where
  -- what some statements, and others behind them, make of a table
  record Behind (xs ys : List Stmt) (J : Units State) : Type 0 where
    next : (block_units down n r (list_of (xs ++ ys)) J).next ≡ (block_units down n r (list_of ys) (block_units down n r (list_of xs) J).next).next
    ended : (G : End → ℕ) → held G (block_units down n r (list_of (xs ++ ys)) J).ended
        ≡ held G (block_units down n r (list_of xs) J).ended + held G (block_units down n r (list_of ys) (block_units down n r (list_of xs) J).next).ended
    few : (L : ℕ) → Few L (block_units down n r (list_of (xs ++ ys)) J).tables →
        Few L (block_units down n r (list_of xs) J).tables × Few L (block_units down n r (list_of ys) (block_units down n r (list_of xs) J).next).tables

  behind : (xs ys : List Stmt) (J : Units State) → Behind xs ys J
  behind [] ys J =
      let e = block_merged n r (list_of ys) (merged J) J refl in
      record {
        next = ap (λ f. f.next) (sym e);
        ended = λ G. let a = ap (λ f. held G f.ended) e in omega arith;
        few = λ L k. (All-cons (λ J. length J ≤ L) (merged J) [] (first_few n r L (list_of ys) J k) (All-nil (λ J. length J ≤ L)), subst (λ f. Few L f.tables) (sym e) k);
      }
  behind (x ∷ xs) ys J =
      let f = statement_units down n r (statement_of x) (merged J) in
      let a = block_units down n r (list_of xs) f.next in
      let b = block_units down n r (list_of ys) a.next in
      let c = block_units down n r (list_of (xs ++ ys)) f.next in
      let i = behind xs ys f.next in
      record {
        next = i.next;
        ended = λ G. let p = i.ended G in let q = held_append G f.ended c.ended in let s = held_append G f.ended a.ended in omega arith;
        few = λ L k.
            let m = All-head (λ J. length J ≤ L) (merged J) (f.tables ++ c.tables) k in
            let t = All-tail (λ J. length J ≤ L) (merged J) (f.tables ++ c.tables) k in
            let p = i.few L (few_right L f.tables c.tables t) in
            (All-cons (λ J. length J ≤ L) (merged J) (f.tables ++ a.tables) m (All-append (λ J. length J ≤ L) f.tables a.tables (few_left L f.tables c.tables t) p.0), p.1);
      }

  pub goes_on : (b : Statements) (J : Units State) (E : Ended) (xs ys : List Stmt) (es es' : Units State) (F F' : Ended) → BlockIsWeighed (list_of xs) →
      Goes n r b J E (list_of (xs ++ ys)) es F → Gives (block_units down n r (list_of xs) es) F es' F' → Goes n r b J E (list_of ys) es' F'
  goes_on b J E xs ys es es' F F' w h g =
      let i = behind xs ys es in
      let a = block_units down n r (list_of xs) es in
      let e = block_merged n r (list_of ys) es' a.next g.next in
      record {
        next = ap (λ f. f.next) e ∙ sym i.next ∙ h.next;
        ended = λ G. let p = h.ended G in let q = i.ended G in let s = g.ended G in let t = ap (λ f. held G f.ended) e in omega arith;
        few = λ L k. subst (λ f. Few L f.tables) (sym e) (i.few L (h.few L k)).1;
        within = let p = h.within in let q = block_spends n r (list_of xs) w es es' F F' g in omega arith;
      }

  pub goes_on_fails : (b : Statements) (J : Units State) (E : Ended) (xs ys : List Stmt) (es : Units State) (F : Ended) → Goes n r b J E (list_of (xs ++ ys)) es F →
      (e : EncloseError) → FlowRefused (block_units down n r (list_of xs) es) e → FlowRefused (block_units down n r b J) e
  goes_on_fails b J E xs ys es F h e x L k = let i = behind xs ys es in x L (i.few L (h.few L k)).0

  last_few : (L : ℕ) (b : Statements) (J : Units State) → Few L (block_units down n r b J).tables → length (merged (block_units down n r b J).next) ≤ L
  last_few L done J k = let e = merged_again (merged J) (merged_once J) in subst (λ z. length z ≤ L) (sym e) (All-head (λ J. length J ≤ L) (merged J) [] k)
  last_few L (st ▸ b) J k =
      let f = statement_units down n r st (merged J) in
      let g = block_units down n r b f.next in
      last_few L b f.next (few_right L f.tables g.tables (All-tail (λ J. length J ≤ L) (merged J) (f.tables ++ g.tables) k))

  -- ---- a block from a table that is merged already

  abbrev pub from_merged : Statements → Units State → UnitFlow
  from_merged done M = record { next = M; ended = []; tables = M ∷ []; draws = []; reached = [] }
  from_merged (st ▸ b) M = from_table n r st b M

  as_merged : (b : Statements) (M : Units State) → IsMerged M → block_units down n r b M ≡ from_merged b M
  as_merged done M m = ap (from_merged done) (merged_again M m)
  as_merged (st ▸ b) M m = ap (from_merged (st ▸ b)) (merged_again M m)

  -- one state by itself
  one_is : (s : State) (w : ℕ) → 0 < w → put [] s w ≡ (s, w) ∷ []
  one_is s zero h = absurd (omega (arith, h))
  one_is s (suc w) h = let e : 0 + suc w ≡ suc w = omega arith in ap (λ k. (s, k) ∷ []) e

  once_in_entries : (b : Statements) → DrawsOnce b → BlockIsWeighed b → (M : Units State) → IsMerged M → InEntries (from_merged b) M
  once_in_entries done d w M m = absurd d
  once_in_entries (Uniform x e ▸ b) d w M m = draw_in_entries n r x e b w.1 d M m.some
  once_in_entries (Skip ▸ b) d w M m = absurd d
  once_in_entries (Set x e ▸ b) d w M m = absurd d
  once_in_entries (If e a c ▸ b) d w M m = absurd d
  once_in_entries (While e a ▸ b) d w M m = absurd d
  once_in_entries (Choice p a c ▸ b) d w M m = absurd d
  once_in_entries (Choose arms ▸ b) d w M m = absurd d
  once_in_entries (Observe e ▸ b) d w M m = absurd d

  -- ---- the walk of a merged table through a block
  module _ (b : Statements) (M : Units State) (E : Ended) (once : IsMerged M) where
    abbrev pub StatesAt : Units State → Units State → Ended → Type 0
    StatesAt = EntriesAt (from_merged b) M E

    pub states_start : DrawsOnce b → BlockIsWeighed b → (now out : Units State) → out ≡ [] → now ≡ M → total M + total (units_of E) ≤ ALL → StatesAt now out E
    states_start d w now out p q h = entries_start (from_merged b) M E now out p q (once_in_entries b d w M once) h

    pub states_end : (now out : Units State) (F : Ended) → now ≡ [] → IsMerged out → StatesAt now out F → Gives (block_units down n r b M) E out F
    states_end now out F p m h = subst (λ f. Gives f E out F) (sym (as_merged b M once)) (entries_end (from_merged b) M E now out F p m h)

    fails : (e : EncloseError) → StepRefused (from_merged b M) e → FlowRefused (block_units down n r b M) e
    fails e x L k =
        let q = as_merged b M once in
        x L (subst (λ f. Few L f.tables) q k) (subst (λ f. length (merged f.next) ≤ L) q (last_few L b M k))

    pub states_short : (e : EncloseError) → e ≡ OutOfMemory → FlowRefused (block_units down n r b M) e
    states_short e p L k = no_memory e L p

    module _ (now rest out : Units State) (s : State) (w : ℕ) (F : Ended) (q : now ≡ (s, w) ∷ rest) (h : StatesAt now out F) where
      at_entry : StatesAt ((s, w) ∷ rest) out F
      at_entry = entries_as (from_merged b) M E now ((s, w) ∷ rest) out F q h

      pub units_room : w ≤ ALL
      units_room = let a = entry_room (from_merged b) M E s w rest out F at_entry in omega (arith, a)

      module _ (one : Units State) (m : IsMerged one) (p : one ≡ put [] s w) where
        alone : one ≡ (s, w) ∷ []
        alone = p ∙ one_is s w at_entry.parts.0

        same : block_units down n r b one ≡ from_merged b ((s, w) ∷ [])
        same = as_merged b one m ∙ ap (from_merged b) alone

        pub state_room : total one + total (units_of F) ≤ ALL
        state_room = let a = entry_room (from_merged b) M E s w rest out F at_entry in let e = ap total alone in omega (arith, a)

        pub state_fails : (e : EncloseError) → FlowRefused (block_units down n r b one) e → FlowRefused (block_units down n r b M) e
        state_fails e x = fails e (entry_fails (from_merged b) M E s w rest out F at_entry e (subst (λ f. FlowRefused f e) same x))

        module _ (left : Units State) (F' : Ended) (g : Gives (block_units down n r b one) F left F') where
          here : Gives (from_merged b ((s, w) ∷ [])) F left F'
          here = subst (λ f. Gives f F left F') same g

          pub state_merge_fails : (e : EncloseError) → RefusedAt (out ++ left) e → FlowRefused (block_units down n r b M) e
          state_merge_fails e x = fails e (entry_merge_fails (from_merged b) M E s w rest out F at_entry left F' here e x)

          module _ (weighed : BlockIsWeighed b) where
            spends : total left + total (units_of F') ≤ w + total (units_of F)
            spends = let a = block_spends n r b weighed one left F F' g in let e = ap total alone in omega (arith, a)

            pub state_merge_room : total out + total left ≤ ALL
            state_merge_room = entry_merge_room (from_merged b) M E s w rest out F at_entry left F' here spends

            pub state_turn : (out' : Units State) → out' ≡ merged (out ++ left) → StatesAt rest out' F'
            state_turn out' e = entry_turn (from_merged b) M E s w rest out F at_entry left F' here spends out' e

-- where none is left between two places
pub goes_between : (n : ℕ) (r : Option ℕ) (from at to : ℕ) (xs : List Stmt) (J es : Units State) (E F : Ended) → to ≤ at → IsMerged es →
    Goes n r (between from to xs) J E (between at to xs) es F → Gives (block_units down n r (between from to xs) J) E es F
goes_between n r from at to xs J es E F h m g =
    let q : to - at ≡ 0 = omega arith in
    goes_end n r (between from to xs) J E es F m (subst (λ k. Goes n r (between from to xs) J E (list_of (take k (drop at xs))) es F) q g)
