-- What a block makes of a table and what had ended, statement by statement, and why it is refused.
use Rattle.std.proofs.Common.{◌≡◌, ℕ, ◌+◌, ◌*◌, ◌≤◌, All, List, [], ◌∷◌, ◌++◌, length, Option, refl, sym, ap, ◌∙◌, subst, arith}
use Rattle.std.proofs.lemmas.List.Elements.{All-nil, All-cons, All-head, All-tail}
use Rattle.gcl_core.specs.meaning.Bounds.{StatementIsWeighed, BlockIsWeighed}
use Rattle.gcl_core.specs.meaning.Syntax.{Statement, Statements, done, ◌▸◌}
use Rattle.gcl_core.specs.meaning.Value.{State}
use Rattle.gcl_core.specs.meaning.Blocks.{End}
use Rattle.units_law.specs.Down.{down}
use Rattle.units_law.specs.Flows.{UnitFlow, statement_units, block_units}
use Rattle.units_law.specs.Merged.{merged, IsMerged}
use Rattle.units_law.specs.Units.{Units, held, total}
use Rattle.units_law.proofs.UnitWords.{both_units}
use Rattle.units_law.proofs.Downs.{rounds_down}
use Rattle.units_law.proofs.Held.{held_append}
use Rattle.units_law.proofs.Merging.{held_merged, merged_once, merged_again, merged_same}
use Rattle.units_law.proofs.Spent.{none_made}
use Rattle.enclose_fold.specs.declared.error.EncloseError.{EncloseError}
use Rattle.enclose_fold.specs.declared.ended.Ended.{Ended}
use Rattle.enclose_fold.specs.inner.Ended.{units_of, EndsWith}
use Rattle.enclose_fold.specs.inner.Folding.{Gives, FlowRefused, StepRefused}
use Rattle.enclose_fold.specs.inner.Refusals.{RefusedAt}
use Rattle.enclose_fold.proofs.Putting.{refused_more}

-- no table has more states
abbrev pub Few : ℕ → List (Units State) → Type 0
Few L Js = All (λ J. length J ≤ L) Js

pub few_left : (L : ℕ) (Js Ks : List (Units State)) → Few L (Js ++ Ks) → Few L Js
few_left L [] Ks h = All-nil (λ J. length J ≤ L)
few_left L (J ∷ Js) Ks h = All-cons (λ J. length J ≤ L) J Js (All-head (λ J. length J ≤ L) J (Js ++ Ks) h) (few_left L Js Ks (All-tail (λ J. length J ≤ L) J (Js ++ Ks) h))

pub few_right : (L : ℕ) (Js Ks : List (Units State)) → Few L (Js ++ Ks) → Few L Ks
few_right L [] Ks h = h
few_right L (J ∷ Js) Ks h = few_right L Js Ks (All-tail (λ J. length J ≤ L) J (Js ++ Ks) h)

-- a table that holds nothing
pub nothing : {A : Type 0} (G : A → ℕ) (J : Units A) → total J ≡ 0 → held G J ≡ 0
nothing G [] h = refl
nothing G (e ∷ J) h = let i = nothing G J (omega arith) in let z : e.1 ≡ 0 = omega arith in let y = ap (λ t. t * G e.0) z in omega arith

pub none_merged : (J : Units State) → total J ≡ 0 → merged J ≡ []
none_merged J h = merged_same J [] (λ G. nothing G J h)

-- ---- two tables beside each other

pub total_merged : (J K : Units State) → J ≡ merged K → total J ≡ total K
total_merged J K e = ap total e ∙ held_merged K (λ s. 1)

pub merged_beside : (A B J K : Units State) → A ≡ merged J → B ≡ merged K → merged (A ++ B) ≡ merged (J ++ K)
merged_beside A B J K p q =
    merged_same (A ++ B) (J ++ K) (λ G.
    let a = held_append G A B in
    let b = held_append G J K in
    let c = ap (held G) p ∙ held_merged J G in
    let d = ap (held G) q ∙ held_merged K G in
    omega arith)

module _ (n : ℕ) (r : Option ℕ) where
  -- a statement, and a block behind it, from a merged table
  abbrev pub from_table : Statement → Statements → Units State → UnitFlow
  from_table st b M =
      let f = statement_units down n r st M in
      let g = block_units down n r b f.next in
      record { next = g.next; ended = f.ended ++ g.ended; tables = M ∷ (f.tables ++ g.tables); draws = f.draws ++ g.draws; reached = f.reached ++ g.reached }

  abbrev at_end : Units State → UnitFlow
  at_end M = record { next = M; ended = []; tables = M ∷ []; draws = []; reached = [] }

  -- what a block makes of a table is what it makes of the merged one
  pub block_of : (b : Statements) (J K : Units State) → merged J ≡ merged K → block_units down n r b J ≡ block_units down n r b K
  block_of done J K e = ap at_end e
  block_of (st ▸ b) J K e = ap (from_table st b) e

  pub block_merged : (b : Statements) (es J : Units State) → es ≡ merged J → block_units down n r b es ≡ block_units down n r b J
  block_merged b es J e = block_of b es J (ap merged e ∙ merged_again (merged J) (merged_once J))

  pub opened : (st : Statement) (b : Statements) (es : Units State) → IsMerged es → block_units down n r (st ▸ b) es ≡ from_table st b es
  opened st b es m = ap (from_table st b) (merged_again es m)

  pub first_few : (L : ℕ) (b : Statements) (J : Units State) → Few L (block_units down n r b J).tables → length (merged J) ≤ L
  first_few L done J h = All-head (λ J. length J ≤ L) (merged J) [] h
  first_few L (st ▸ b) J h = All-head (λ J. length J ≤ L) (merged J) _ h

  pub next_once : (b : Statements) (J : Units State) → IsMerged (block_units down n r b J).next
  next_once done J = merged_once J
  next_once (st ▸ b) J = next_once b (statement_units down n r st (merged J)).next

  -- no statement makes a unit
  pub statement_spends : (st : Statement) → StatementIsWeighed st → (es : Units State) → IsMerged es →
      total (statement_units down n r st es).next + total (statement_units down n r st es).ended ≤ total es
  statement_spends st w es m =
      let f = statement_units down n r st es in
      let x = none_made down rounds_down n r (st ▸ done) (w, tt) es in
      let o = opened st done es m in
      let a = ap (λ f. total f.next + total f.ended) o in
      let b = held_merged f.next (λ s. 1) in
      let c = held_append (λ x. 1) f.ended [] in
      omega arith

  -- ---- a block, statement by statement: what is left of it from a table makes up for what the whole makes
  pub record Goes (b : Statements) (J : Units State) (E : Ended) (rest : Statements) (es : Units State) (F : Ended) : Type 0 where
    pub next : (block_units down n r rest es).next ≡ (block_units down n r b J).next
    pub ended : (G : End → ℕ) → held G (units_of F) + held G (block_units down n r rest es).ended ≡ held G (units_of E) + held G (block_units down n r b J).ended
    pub few : (L : ℕ) → Few L (block_units down n r b J).tables → Few L (block_units down n r rest es).tables
    pub within : total es + total (units_of F) ≤ total J + total (units_of E)

  module _ (b : Statements) (J : Units State) (E : Ended) (st : Statement) (rest : Statements) (es : Units State) (F : Ended) (m : IsMerged es) (h : Goes b J E (st ▸ rest) es F) where
    few_from : (L : ℕ) → Few L (block_units down n r b J).tables → Few L (from_table st rest es).tables
    few_from L k = subst (λ f. Few L f.tables) (opened st rest es m) (h.few L k)

    few_after : (L : ℕ) → Few L (block_units down n r b J).tables → Few L (statement_units down n r st es).tables × Few L (block_units down n r rest (statement_units down n r st es).next).tables
    few_after L k =
        let f = statement_units down n r st es in
        let g = block_units down n r rest f.next in
        let t = All-tail (λ J. length J ≤ L) es (f.tables ++ g.tables) (few_from L k) in
        (few_left L f.tables g.tables t, few_right L f.tables g.tables t)

    pub goes_next : StatementIsWeighed st → (es' : Units State) (F' : Ended) → Gives (statement_units down n r st es) F es' F' → Goes b J E rest es' F'
    goes_next w es' F' g =
        let f = statement_units down n r st es in
        let e = block_merged rest es' f.next g.next in
        let o = opened st rest es m in
        record {
          next = ap (λ f. f.next) e ∙ sym (ap (λ f. f.next) o) ∙ h.next;
          ended = λ G.
              let a = g.ended G in
              let c = h.ended G in
              let d = ap (λ f. held G f.ended) o in
              let i = held_append G f.ended (block_units down n r rest f.next).ended in
              let k = ap (λ f. held G f.ended) e in
              omega arith;
          few = λ L k. subst (λ f. Few L f.tables) (sym e) (few_after L k).1;
          within =
              let a = g.ended (λ x. 1) in
              let c = total_merged es' f.next g.next in
              let d = statement_spends st w es m in
              let i = h.within in
              omega arith;
        }

    pub goes_fails : (e : EncloseError) → StepRefused (statement_units down n r st es) e → FlowRefused (block_units down n r b J) e
    goes_fails e s L k = let f = few_after L k in s L f.0 (first_few L rest (statement_units down n r st es).next f.1)

  pub goes_end : (b : Statements) (J : Units State) (E : Ended) (es : Units State) (F : Ended) → IsMerged es → Goes b J E done es F → Gives (block_units down n r b J) E es F
  goes_end b J E es F m h = record {
    next = let e : es ≡ (block_units down n r b J).next = sym (merged_again es m) ∙ h.next in sym (merged_again es m) ∙ ap merged e;
    ended = λ G. let a = h.ended G in omega arith;
  }

  -- ---- both sides of a statement

  module _ (x : Units End) (a c : Statements) (A C : Units State) (first second left right out : Units State) (e1 : first ≡ merged A) (e2 : second ≡ merged C) where
    pub both_give : (E F F1 F2 : Ended) → EndsWith E x F → Gives (block_units down n r a first) F left F1 → Gives (block_units down n r c second) F1 right F2 → out ≡ merged (left ++ right) →
        Gives (both_units x (block_units down n r a A) (block_units down n r c C)) E out F2
    both_give E F F1 F2 h g k o =
        let f1 = block_units down n r a A in
        let f2 = block_units down n r c C in
        let p = block_merged a first A e1 in
        let q = block_merged c second C e2 in
        record {
          next = o ∙ merged_beside left right f1.next f2.next (g.next ∙ ap (λ f. merged f.next) p) (k.next ∙ ap (λ f. merged f.next) q);
          ended = λ G.
              let u = h G in
              let v = g.ended G in
              let w = k.ended G in
              let y = ap (λ f. held G f.ended) p in
              let z = ap (λ f. held G f.ended) q in
              let s = held_append G x (f1.ended ++ f2.ended) in
              let t = held_append G f1.ended f2.ended in
              omega arith;
        }

    pub first_refused : (e : EncloseError) → FlowRefused (block_units down n r a first) e → StepRefused (both_units x (block_units down n r a A) (block_units down n r c C)) e
    first_refused e h L few k =
        h L (subst (λ f. Few L f.tables) (sym (block_merged a first A e1)) (few_left L (block_units down n r a A).tables (block_units down n r c C).tables few))

    pub second_refused : (e : EncloseError) → FlowRefused (block_units down n r c second) e → StepRefused (both_units x (block_units down n r a A) (block_units down n r c C)) e
    second_refused e h L few k =
        h L (subst (λ f. Few L f.tables) (sym (block_merged c second C e2)) (few_right L (block_units down n r a A).tables (block_units down n r c C).tables few))

    pub merge_refused : (e : EncloseError) (F F1 F2 : Ended) → Gives (block_units down n r a first) F left F1 → Gives (block_units down n r c second) F1 right F2 → RefusedAt (left ++ right) e →
        StepRefused (both_units x (block_units down n r a A) (block_units down n r c C)) e
    merge_refused e F F1 F2 g k h L few l =
        let f1 = block_units down n r a A in
        let f2 = block_units down n r c C in
        let p = block_merged a first A e1 in
        let q = block_merged c second C e2 in
        let s = merged_beside left right f1.next f2.next (g.next ∙ ap (λ f. merged f.next) p) (k.next ∙ ap (λ f. merged f.next) q) in
        refused_more e (length (merged (left ++ right))) L (subst (λ t. length t ≤ L) (sym s) l) h

  -- a block leaves room
  pub block_spends : (b : Statements) → BlockIsWeighed b → (es fs : Units State) (E F : Ended) → Gives (block_units down n r b es) E fs F → total fs + total (units_of F) ≤ total es + total (units_of E)
  block_spends b w es fs E F g =
      let x = none_made down rounds_down n r b w es in
      let y = g.ended (λ x. 1) in
      let z = total_merged fs (block_units down n r b es).next g.next in
      omega arith

  -- a statement on a table with no state
  pub empty_gives : (st : Statement) → StatementIsWeighed st → (es : Units State) (E : Ended) → es ≡ [] → IsMerged es → Gives (statement_units down n r st es) E es E
  empty_gives st w es E e m =
      let f = statement_units down n r st es in
      let x = statement_spends st w es m in
      let z : total es ≡ 0 = ap total e in
      record {
        next = e ∙ sym (none_merged f.next (omega arith));
        ended = λ G. let y = nothing G f.ended (omega arith) in omega arith;
      }
