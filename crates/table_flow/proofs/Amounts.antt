-- Amounts of tables and of what ended.
use Rattle.std.proofs.Common.{◌≡◌, ℕ, ◌+◌, ◌*◌, Bool, true, false, List, [], ◌∷◌, ◌++◌, Ok, Err, refl, ap, arith}
use Rattle.gcl_core.specs.meaning.Blocks.{End}
use Rattle.gcl_core.specs.meaning.Value.{State, Value}
use Rattle.gcl_core.specs.weighing.Fractions.{Fraction}
use Rattle.gcl_core.specs.weighing.WeightedEnds.{Weighted}
use Rattle.table_flow.specs.Counts.{stopped, kept_if, all_stopped, moved}
use Rattle.table_flow.specs.Tables.{Table, Flow, only, faults, all_end}
use Rattle.table_flow.specs.Scale.{whole, amount, Wholes, AllWhole, TablesWithin, Within}
use Rattle.table_flow.proofs.FlowWords.{both, set_to}

-- ---- amounts

pub amount_append : {A : Type 0} (N : ℕ) (G : A → ℕ) (m n : Weighted A) → amount N G (m ++ n) ≡ amount N G m + amount N G n
amount_append N G [] n = omega arith
amount_append N G (e ∷ m) n = let i = amount_append N G m n in omega arith

pub amount_sum : {A : Type 0} (N : ℕ) (G H : A → ℕ) (m : Weighted A) → amount N G m + amount N H m ≡ amount N (λ s. G s + H s) m
amount_sum N G H [] = refl
amount_sum N G H (e ∷ m) = let i = amount_sum N G H m in omega arith

pub amount_none : {A : Type 0} (N : ℕ) (m : Weighted A) → amount N (λ s. 0) m ≡ 0
amount_none N [] = refl
amount_none N (e ∷ m) = let i = amount_none N m in omega arith

pub amount_only : (N : ℕ) (G : State → ℕ) (test : State → Bool) (I : Table) → amount N G (only test I) ≡ amount N (kept_if test G) I
amount_only N G test [] = refl
amount_only N G test (e ∷ I) = at_head (test e.1) refl (amount_only N G test I)
  where
    at_head : (b : Bool) → test e.1 ≡ b → amount N G (only test I) ≡ amount N (kept_if test G) I → amount N G (only test (e ∷ I)) ≡ amount N (kept_if test G) (e ∷ I)
    at_head true p i = rw p (omega arith)
    at_head false p i = rw p (omega arith)

pub amount_faults : (N : ℕ) (G : End → ℕ) (v : State → Value) (I : Table) → amount N G (faults v I) ≡ amount N (stopped v G) I
amount_faults N G v [] = refl
amount_faults N G v (e ∷ I) = at_head (v e.1) refl (amount_faults N G v I)
  where
    at_head : (o : Value) → v e.1 ≡ o → amount N G (faults v I) ≡ amount N (stopped v G) I → amount N G (faults v (e ∷ I)) ≡ amount N (stopped v G) (e ∷ I)
    at_head (Ok z) p i = rw p (omega arith)
    at_head (Err f) p i = rw p (omega arith)

pub amount_all_end : (N : ℕ) (G : End → ℕ) (x : End) (I : Table) → amount N G (all_end x I) ≡ amount N (all_stopped x G) I
amount_all_end N G x [] = refl
amount_all_end N G x (e ∷ I) = let i = amount_all_end N G x I in omega arith

pub amount_set : (N : ℕ) (G : State → ℕ) (x : ℕ) (v : State → Value) (I : Table) → amount N G (set_to x v I) ≡ amount N (moved x v G) I
amount_set N G x v [] = refl
amount_set N G x v (e ∷ I) = at_head (v e.1) refl (amount_set N G x v I)
  where
    at_head : (o : Value) → v e.1 ≡ o → amount N G (set_to x v I) ≡ amount N (moved x v G) I → amount N G (set_to x v (e ∷ I)) ≡ amount N (moved x v G) (e ∷ I)
    at_head (Ok z) p i = rw p (omega arith)
    at_head (Err f) p i = rw p (omega arith)

pub whole_zero : (N d : ℕ) → whole N (0, d) ≡ 0
whole_zero N d = grind arith

pub amount_ext : {A : Type 0} (N : ℕ) (G H : A → ℕ) (I : Weighted A) → ((s : A) → G s ≡ H s) → amount N G I ≡ amount N H I
amount_ext N G H [] h = refl
amount_ext N G H (e ∷ I) h = let i = amount_ext N G H I h in let j = ap (λ x. whole N e.0 * x) (h e.1) in omega arith

-- ---- what is whole

pub tables_first : (N L : ℕ) (Is Js : List Table) → TablesWithin N L (Is ++ Js) → TablesWithin N L Is
tables_first N L [] Js w = tt
tables_first N L (I ∷ Is) Js w = (w.0, w.1, tables_first N L Is Js w.2)

pub tables_second : (N L : ℕ) (Is Js : List Table) → TablesWithin N L (Is ++ Js) → TablesWithin N L Js
tables_second N L [] Js w = w
tables_second N L (I ∷ Is) Js w = tables_second N L Is Js w.2

pub ends_first : {A : Type 0} (N : ℕ) (m n : Weighted A) → Wholes N (m ++ n) → Wholes N m
ends_first N [] n w = tt
ends_first N (e ∷ m) n w = (w.0, ends_first N m n w.1)

pub ends_second : {A : Type 0} (N : ℕ) (m n : Weighted A) → Wholes N (m ++ n) → Wholes N n
ends_second N [] n w = w
ends_second N (e ∷ m) n w = ends_second N m n w.1

pub all_first : (N : ℕ) (ps qs : List Fraction) → AllWhole N (ps ++ qs) → AllWhole N ps
all_first N [] qs w = tt
all_first N (p ∷ ps) qs w = (w.0, all_first N ps qs w.1)

pub all_second : (N : ℕ) (ps qs : List Fraction) → AllWhole N (ps ++ qs) → AllWhole N qs
all_second N [] qs w = w
all_second N (p ∷ ps) qs w = all_second N ps qs w.1

pub ends_whole : (N : ℕ) (x : End) (I : Table) → Wholes N (all_end x I) → Wholes N I
ends_whole N x [] h = tt
ends_whole N x (e ∷ I) h = (h.0, ends_whole N x I h.1)

pub both_first : (N L : ℕ) (x : Weighted End) (f g : Flow) → Within N L (both x f g) → Within N L f
both_first N L x f g s = record { tables = tables_first N L f.tables g.tables s.tables; ended = ends_first N f.ended g.ended (ends_second N x (f.ended ++ g.ended) s.ended); draws = all_first N f.draws g.draws s.draws }

pub both_second : (N L : ℕ) (x : Weighted End) (f g : Flow) → Within N L (both x f g) → Within N L g
both_second N L x f g s = record { tables = tables_second N L f.tables g.tables s.tables; ended = ends_second N f.ended g.ended (ends_second N x (f.ended ++ g.ended) s.ended); draws = all_second N f.draws g.draws s.draws }

-- ---- statements

pub regroup : (H : End → ℕ) (N : ℕ) (J x y : Weighted End) → amount N H ((J ++ x) ++ y) ≡ amount N H (J ++ (x ++ y))
regroup H N J x y =
    let a = amount_append N H (J ++ x) y in
    let b = amount_append N H J x in
    let c = amount_append N H J (x ++ y) in
    let d = amount_append N H x y in
    omega arith

abbrev pub joined : Table → Flow → Flow → Flow
joined I f g = record { next = g.next; ended = f.ended ++ g.ended; tables = I ∷ (f.tables ++ g.tables); draws = f.draws ++ g.draws; reached = f.reached ++ g.reached }
