-- A table in parts: what a block that rounds nothing makes of two tables is what it makes of both together, and so does one draw before it
-- of the entries of a table.
use Rattle.std.proofs.Common.{◌≡◌, ℕ, ◌+◌, ◌*◌, ◌≤◌, ◌<◌, Bool, true, false, cond, All, List, [], ◌∷◌, ◌++◌, length, Option, refl, ap, arith}
use Rattle.std.specs.Map.{values_of}
use Rattle.std.proofs.lemmas.List.{length-append}
use Rattle.std.proofs.lemmas.List.Elements.{All-nil, All-cons, All-head, All-tail, All-append}
use Rattle.gcl_core.specs.meaning.Blocks.{End, failed}
use Rattle.gcl_core.specs.meaning.Bounds.{BlockIsWeighed}
use Rattle.gcl_core.specs.meaning.Syntax.{Expression, Statement, Skip, Set, If, While, Choice, Choose, Uniform, Observe, Statements, done, ◌▸◌}
use Rattle.gcl_core.specs.meaning.Value.{State, Value, value_of}
use Rattle.table_flow.specs.Counts.{moved, stopped, kept_if}
use Rattle.table_flow.specs.Tables.{holds, fails, uniform_go}
use Rattle.table_flow.proofs.UniformLists.{by_lists}
use Rattle.units_law.specs.Down.{down}
use Rattle.units_law.specs.Flows.{UnitFlow, statement_units, block_units}
use Rattle.units_law.specs.Merged.{merged}
use Rattle.units_law.specs.Units.{Units, held, total, only_units, fault_units, end_units}
use Rattle.units_law.specs.Rounding.{units_kind}
use Rattle.units_law.proofs.UnitWords.{both_units, drawn_units, undrawn_units}
use Rattle.units_law.proofs.Downs.{rounds_down}
use Rattle.units_law.proofs.Held.{held_append}
use Rattle.units_law.proofs.Merging.{held_merged}
use Rattle.units_law.proofs.Parts.{held_set, held_only, held_faults}
use Rattle.units_law.proofs.Spent.{none_made}
use Rattle.enclose_fold.specs.inner.Exact.{one_rounds, any_rounds}
use Rattle.enclose_fold.proofs.CycleFlows.{Few, few_left, few_right, nothing, from_table}
use Rattle.enclose_fold.proofs.CycleSteps.{held_ended}
use Rattle.enclose_fold.proofs.EachEntry.{each_drawn, each_undrawn}
use Rattle.enclose_fold.proofs.Passing.{IsEach}
use Rattle.enclose_fold.proofs.Putting.{wider}

-- C holds what A and B hold
abbrev pub Sums : Units State → Units State → Units State → Type 0
Sums A B C = (G : State → ℕ) → held G A + held G B ≡ held G C

-- what is made of C is what is made of A and of B, and no table on the way to them is longer
pub record Parts (f : Units State → UnitFlow) (A B C : Units State) : Type 0 where
  pub next : Sums (f A).next (f B).next (f C).next
  pub ended : (G : End → ℕ) → held G (f A).ended + held G (f B).ended ≡ held G (f C).ended
  pub first : (L : ℕ) → Few L (f C).tables → Few L (f A).tables
  pub second : (L : ℕ) → Few L (f C).tables → Few L (f B).tables

-- what is made of a table is what is made of its entries, which have some units each
abbrev pub InEntries : (Units State → UnitFlow) → Units State → Type 0
InEntries f [] = (total (f []).next ≡ 0) × (total (f []).ended ≡ 0)
InEntries f (e ∷ J) = (0 < e.1) × Parts f (e ∷ []) J (e ∷ J) × InEntries f J

pub neither : (a b : Bool) → cond a true b ≡ false → (a ≡ false) × (b ≡ false)
neither false b h = (refl, h)
neither true b h = absurd (cc)

few_both : (L : ℕ) (Js Ks : List (Units State)) → Few L Js → Few L Ks → Few L (Js ++ Ks)
few_both L Js Ks h k = All-append (λ J. length J ≤ L) Js Ks h k

only_sums : (test : State → Bool) (A B C : Units State) → Sums A B C → Sums (only_units test A) (only_units test B) (only_units test C)
only_sums test A B C s G =
    let a = held_only G test A in
    let b = held_only G test B in
    let c = held_only G test C in
    let d = s (kept_if test G) in
    omega arith

fault_sums : (v : State → Value) (A B C : Units State) → Sums A B C → (G : End → ℕ) → held G (fault_units v A) + held G (fault_units v B) ≡ held G (fault_units v C)
fault_sums v A B C s G =
    let a = held_faults G v A in
    let b = held_faults G v B in
    let c = held_faults G v C in
    let d = s (stopped v G) in
    omega arith

end_sums : (x : End) (A B C : Units State) → Sums A B C → (G : End → ℕ) → held G (end_units x A) + held G (end_units x B) ≡ held G (end_units x C)
end_sums x A B C s G =
    let a = held_ended G x A in
    let b = held_ended G x B in
    let c = held_ended G x C in
    let d : total A + total B ≡ total C = s (λ s. 1) in
    let e = ap (λ t. t * G x) d in
    omega arith

sums_back : (A B C : Units State) → Sums A B C → Sums B A C
sums_back A B C s G = let d = s G in omega arith

merged_sums : (A B C : Units State) → Sums A B C → Sums (merged A) (merged B) (merged C)
merged_sums A B C s G =
    let a = held_merged A G in
    let b = held_merged B G in
    let c = held_merged C G in
    let d = s G in
    omega arith

few_merged : (L : ℕ) (A B C : Units State) → Sums A B C → length (merged C) ≤ L → length (merged A) ≤ L
few_merged L A B C s h = let w = wider A B C s in omega (arith, w, h)

each_sums : {X : Type 0} (step : Units State → Units X) → IsEach step → (A B : Units State) (G : X → ℕ) → held G (step A) + held G (step B) ≡ held G (step (A ++ B))
each_sums step each [] B G = let a = ap (held G) each.none in omega arith
each_sums step each (e ∷ A) B G = let a = each.more e A G in let b = each.more e (A ++ B) G in let i = each_sums step each A B G in omega arith

longer : (A B : Units State) → (length A ≤ length (A ++ B)) × (length B ≤ length (A ++ B))
longer A B = let e = length-append A B in (omega arith, omega arith)

module _ (n : ℕ) (r : Option ℕ) where
  both_parts : (v : State → Value) (a c : Statements) (A B C : Units State) → Sums A B C → Parts (block_units down n r a) (only_units (holds v) A) (only_units (holds v) B) (only_units (holds v) C) →
      Parts (block_units down n r c) (only_units (fails v) A) (only_units (fails v) B) (only_units (fails v) C) →
      Parts (λ J. both_units (fault_units v J) (block_units down n r a (only_units (holds v) J)) (block_units down n r c (only_units (fails v) J))) A B C
  both_parts v a c A B C s p q =
      let f : Units State → UnitFlow = λ J. block_units down n r a (only_units (holds v) J) in
      let g : Units State → UnitFlow = λ J. block_units down n r c (only_units (fails v) J) in
      record {
        next = λ G.
            let i = held_append G (f A).next (g A).next in
            let j = held_append G (f B).next (g B).next in
            let k = held_append G (f C).next (g C).next in
            let x = p.next G in
            let y = q.next G in
            omega arith;
        ended = λ G.
            let i = held_append G (fault_units v A) ((f A).ended ++ (g A).ended) in
            let j = held_append G (fault_units v B) ((f B).ended ++ (g B).ended) in
            let k = held_append G (fault_units v C) ((f C).ended ++ (g C).ended) in
            let i' = held_append G (f A).ended (g A).ended in
            let j' = held_append G (f B).ended (g B).ended in
            let k' = held_append G (f C).ended (g C).ended in
            let w = fault_sums v A B C s G in
            let x = p.ended G in
            let y = q.ended G in
            omega arith;
        first = λ L k. few_both L (f A).tables (g A).tables (p.first L (few_left L (f C).tables (g C).tables k)) (q.first L (few_right L (f C).tables (g C).tables k));
        second = λ L k. few_both L (f B).tables (g B).tables (p.second L (few_left L (f C).tables (g C).tables k)) (q.second L (few_right L (f C).tables (g C).tables k));
      }

  -- a statement, and a block behind it
  behind_parts : (st : Statement) (b : Statements) (A B C : Units State) → length A ≤ length C → length B ≤ length C → Parts (statement_units down n r st) A B C →
      Parts (block_units down n r b) (statement_units down n r st A).next (statement_units down n r st B).next (statement_units down n r st C).next → Parts (from_table n r st b) A B C
  behind_parts st b A B C l m p q =
      let f : Units State → UnitFlow = statement_units down n r st in
      let g : Units State → UnitFlow = λ J. block_units down n r b (f J).next in
      let whole : (L : ℕ) → Few L (from_table n r st b C).tables → length C ≤ L = λ L k. All-head (λ J. length J ≤ L) C ((f C).tables ++ (g C).tables) k in
      let rest : (L : ℕ) → Few L (from_table n r st b C).tables → Few L ((f C).tables ++ (g C).tables) = λ L k. All-tail (λ J. length J ≤ L) C ((f C).tables ++ (g C).tables) k in
      record {
        next = q.next;
        ended = λ G.
            let i = held_append G (f A).ended (g A).ended in
            let j = held_append G (f B).ended (g B).ended in
            let k = held_append G (f C).ended (g C).ended in
            let x = p.ended G in
            let y = q.ended G in
            omega arith;
        first = λ L k.
            All-cons (λ J. length J ≤ L) A ((f A).tables ++ (g A).tables) (let w = whole L k in omega (arith, w, l))
            (few_both L (f A).tables (g A).tables (p.first L (few_left L (f C).tables (g C).tables (rest L k))) (q.first L (few_right L (f C).tables (g C).tables (rest L k))));
        second = λ L k.
            All-cons (λ J. length J ≤ L) B ((f B).tables ++ (g B).tables) (let w = whole L k in omega (arith, w, m))
            (few_both L (f B).tables (g B).tables (p.second L (few_left L (f C).tables (g C).tables (rest L k))) (q.second L (few_right L (f C).tables (g C).tables (rest L k))));
      }

  mutual
    statement_parts : (st : Statement) → one_rounds st ≡ false → (A B C : Units State) → Sums A B C → Parts (statement_units down n r st) A B C
    statement_parts Skip h A B C s = record { next = s; ended = λ G. refl; first = λ L k. k; second = λ L k. k }
    statement_parts (Set x e) h A B C s = record {
      next = λ G.
          let v = value_of e in
          let a = held_set G x v A in
          let b = held_set G x v B in
          let c = held_set G x v C in
          let d = s (moved x v G) in
          omega arith;
      ended = fault_sums (value_of e) A B C s;
      first = λ L k. k;
      second = λ L k. k;
    }
    statement_parts (Observe e) h A B C s = record {
      next = only_sums (holds (value_of e)) A B C s;
      ended = λ G.
          let v = value_of e in
          let a = held_append G (fault_units v A) (end_units failed (only_units (fails v) A)) in
          let b = held_append G (fault_units v B) (end_units failed (only_units (fails v) B)) in
          let c = held_append G (fault_units v C) (end_units failed (only_units (fails v) C)) in
          let d = fault_sums v A B C s G in
          let e = end_sums failed (only_units (fails v) A) (only_units (fails v) B) (only_units (fails v) C) (only_sums (fails v) A B C s) G in
          omega arith;
      first = λ L k. k;
      second = λ L k. k;
    }
    statement_parts (If e a c) h A B C s =
        let v = value_of e in
        let z = neither (any_rounds a) (any_rounds c) h in
        let p = block_parts a z.0 (only_units (holds v) A) (only_units (holds v) B) (only_units (holds v) C) (only_sums (holds v) A B C s) in
        let q = block_parts c z.1 (only_units (fails v) A) (only_units (fails v) B) (only_units (fails v) C) (only_sums (fails v) A B C s) in
        both_parts v a c A B C s p q
    statement_parts (While e a) h A B C s = absurd (cc)
    statement_parts (Choice p a c) h A B C s = absurd (cc)
    statement_parts (Choose arms) h A B C s = absurd (cc)
    statement_parts (Uniform x e) h A B C s = absurd (cc)

    pub block_parts : (b : Statements) → any_rounds b ≡ false → (A B C : Units State) → Sums A B C → Parts (block_units down n r b) A B C
    block_parts done h A B C s = record {
      next = merged_sums A B C s;
      ended = λ G. refl;
      first = λ L k. All-cons (λ J. length J ≤ L) (merged A) [] (few_merged L A B C s (All-head (λ J. length J ≤ L) (merged C) [] k)) (All-nil (λ J. length J ≤ L));
      second = λ L k. All-cons (λ J. length J ≤ L) (merged B) [] (few_merged L B A C (sums_back A B C s) (All-head (λ J. length J ≤ L) (merged C) [] k)) (All-nil (λ J. length J ≤ L));
    }
    block_parts (st ▸ b) h A B C s =
        let z = neither (one_rounds st) (any_rounds b) h in
        let p = statement_parts st z.0 (merged A) (merged B) (merged C) (merged_sums A B C s) in
        let f = statement_units down n r st in
        let q = block_parts b z.1 (f (merged A)).next (f (merged B)).next (f (merged C)).next p.next in
        let x = behind_parts st b (merged A) (merged B) (merged C) (wider A B C s) (wider B A C (sums_back A B C s)) p q in
        record { next = x.next; ended = x.ended; first = x.first; second = x.second }

  -- ---- one draw, and what rounds nothing behind it
  draw_parts : (x : ℕ) (e : Expression) (b : Statements) → any_rounds b ≡ false → (A B : Units State) → Parts (from_table n r (Uniform x e) b) A B (A ++ B)
  draw_parts x e b h A B =
      let v = value_of e in
      let drawn : Sums (drawn_units down x v r A) (drawn_units down x v r B) (drawn_units down x v r (A ++ B)) = each_sums (drawn_units down x v r) (each_drawn x v r) A B in
      let l = longer A B in
      behind_parts (Uniform x e) b A B (A ++ B) l.0 l.1
      (record { next = drawn; ended = each_sums (undrawn_units down x v r) (each_undrawn x v r) A B; first = λ L k. rw (no_tables A) (All-nil (λ J. length J ≤ L)); second = λ L k. rw (no_tables B) (All-nil (λ J. length J ≤ L)) })
      (block_parts b h (drawn_units down x v r A) (drawn_units down x v r B) (drawn_units down x v r (A ++ B)) drawn)
    where
      no_tables : (J : Units State) → (uniform_go (units_kind down) r x (value_of e) J).tables ≡ []
      no_tables J = ap (λ f. f.tables) (by_lists (units_kind down) r x (value_of e) J)

  pub draw_in_entries : (x : ℕ) (e : Expression) (b : Statements) → BlockIsWeighed b → any_rounds b ≡ false → (M : Units State) → All (λ w. 0 < w) (values_of M) → InEntries (from_table n r (Uniform x e) b) M
  draw_in_entries x e b w h [] k = let z = none_made down rounds_down n r (Uniform x e ▸ b) (tt, w) [] in (omega arith, omega arith)
  draw_in_entries x e b w h (d ∷ M) k =
      (All-head (λ w. 0 < w) d.1 (values_of M) k, draw_parts x e b h (d ∷ []) M, draw_in_entries x e b w h M (All-tail (λ w. 0 < w) d.1 (values_of M) k))
