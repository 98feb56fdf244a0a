-- What a fold asks of a program, and statements as their views.
use Rattle.std.proofs.Common.{◌≡◌, ℕ, suc, ◌+◌, ◌≤◌, ◌<◌, List, [], ◌∷◌, Option, length, drop, get_or, drop-cons, refl, sym, ap, ◌∙◌, subst, arith}
use Rattle.gcl_core.specs.declared.syntax.Stmt.{Stmt}
use Rattle.gcl_core.specs.meaning.Views.{statement_of, list_of}
use Rattle.gcl_core.specs.meaning.Syntax.{Statement, Statements, ◌▸◌}
use Rattle.gcl_core.specs.meaning.Bounds.{StatementIsWeighed, BlockIsWeighed, StatementBelow, BlockBelow}
use Rattle.table_flow.specs.Tables.{statement_flow}
use Rattle.mass_fold.specs.declared.error.MassError.{MassError}
use Rattle.mass_fold.specs.declared.ended.Ended.{Ended}
use Rattle.mass_fold.specs.inner.Amounts.{Entries}
use Rattle.mass_fold.specs.inner.Fold.{FoldsOne, OneBlames}

pub below_as : (m : ℕ) (st st' : Statement) → st ≡ st' → StatementBelow m st → StatementBelow m st'
below_as m st st' p h = subst (StatementBelow m) p h

pub weights_as : (st st' : Statement) → st ≡ st' → StatementIsWeighed st → StatementIsWeighed st'
weights_as st st' p h = subst StatementIsWeighed p h

pub folds_as : (n : ℕ) (r : Option ℕ) (st st' : Statement) (es fs : Entries) (E F : Ended) → st ≡ st' → FoldsOne (statement_flow n r st') es E fs F → FoldsOne (statement_flow n r st) es E fs F
folds_as n r st st' es fs E F p h = subst (λ st. FoldsOne (statement_flow n r st) es E fs F) (sym p) h

pub blames_as : (n : ℕ) (r : Option ℕ) (st st' : Statement) (es : Entries) (E : Ended) (e : MassError) → st ≡ st' → OneBlames (statement_flow n r st') es E e → OneBlames (statement_flow n r st) es E e
blames_as n r st st' es E e p h = subst (λ st. OneBlames (statement_flow n r st) es E e) (sym p) h

pub list_step : (xs : List Stmt) (i : ℕ) (d : Stmt) → i < length xs → d ≡ get_or xs i d → list_of (drop i xs) ≡ statement_of d ▸ list_of (drop (i + 1) xs)
list_step xs i d h e =
    let p : drop i xs ≡ get_or xs i d ∷ drop (suc i) xs = drop-cons xs i d h in
    let q : i + 1 ≡ suc i = omega arith in
    ap list_of p ∙ ap (λ x. statement_of x ▸ list_of (drop (suc i) xs)) (sym e) ∙ ap (λ k. statement_of d ▸ list_of (drop k xs)) (sym q)

pub below_next : (m : ℕ) (b rest : Statements) (st : Statement) → b ≡ st ▸ rest → BlockBelow m b → StatementBelow m st × BlockBelow m rest
below_next m b rest st p h = let k : BlockBelow m (st ▸ rest) = subst (BlockBelow m) p h in (k.0, k.1)

pub weights_next : (b rest : Statements) (st : Statement) → b ≡ st ▸ rest → BlockIsWeighed b → StatementIsWeighed st × BlockIsWeighed rest
weights_next b rest st p h = let k : BlockIsWeighed (st ▸ rest) = subst BlockIsWeighed p h in (k.0, k.1)

pub along_list : (xs ys : List Stmt) → xs ≡ ys → BlockIsWeighed (list_of ys) → BlockIsWeighed (list_of xs)
along_list xs ys p h = subst (λ z. BlockIsWeighed (list_of z)) (sym p) h

pub below_list : (m : ℕ) (xs ys : List Stmt) → xs ≡ ys → BlockBelow m (list_of ys) → BlockBelow m (list_of xs)
below_list m xs ys p h = subst (λ z. BlockBelow m (list_of z)) (sym p) h

pub empty_of : (es : Entries) → length es ≡ 0 → es ≡ []
empty_of [] e = refl
empty_of (d ∷ es) e = absurd (omega arith)

pub some_states : (es : Entries) → 1 ≤ length es → es ≡ [] → ⊥
some_states es h e = let k = ap length e in omega (arith, h, k)
