-- A flow from one state holds what the paths from it weigh.
use Rattle.std.proofs.Common.{◌≡◌, ℕ, ◌+◌, ◌*◌, ◌≤◌, Bool, true, false, cond, [], ◌∷◌, Option, refl, ap, ◌∙◌, subst, arith}
use Rattle.std.specs.Prelude.{◌==◌}
use Rattle.std.proofs.lemmas.Bool.Decides.{nat_tests}
use Rattle.gcl_core.specs.meaning.Syntax.{Statements, done, ◌▸◌}
use Rattle.gcl_core.specs.meaning.Value.{State}
use Rattle.gcl_core.specs.meaning.Blocks.{End, on}
use Rattle.gcl_core.specs.weighing.Fractions.{Fraction, one, times}
use Rattle.gcl_core.specs.weighing.WeightedEnds.{Weighted, sure, scaled, weighted_ends}
use Rattle.gcl_core.specs.weighing.Mass.{sum_of}
use Rattle.table_flow.specs.Tables.{Table, states, statement_flow, block_flow}
use Rattle.table_flow.specs.Scale.{whole, Wholes, Within, TablesWithin, amount}
use Rattle.table_flow.proofs.Amounts.{amount_append, whole_zero, tables_second}
use Rattle.table_flow.proofs.Spreads.{sum_of_all, after_weight, Zero}
use Rattle.table_flow.proofs.Linear.{flow_paths, amounts_paths, counted}

-- each weight is exact at a scale
abbrev Exact : ℕ → Fraction → Type 0
Exact N w = w.1 * whole N w ≡ w.0 * N

abbrev Exacts : {A : Type 0} → ℕ → Weighted A → Type 0
Exacts N [] = Unit {0}
Exacts N (e ∷ m) = Exact N e.0 × Exacts N m

one_times : (w : Fraction) → times one w ≡ w
one_times w = let a : 1 * w.0 ≡ w.0 = omega arith in let b : 1 * w.1 ≡ w.1 = omega arith in ap (λ x. (x, 1 * w.1)) a ∙ ap (λ y. (w.0, y)) b

amount_one : {A : Type 0} (N : ℕ) (H : A → ℕ) (m : Weighted A) → amount N H (scaled one m) ≡ amount N H m
amount_one N H [] = refl
amount_one N H (e ∷ m) = let i = amount_one N H m in let x = ap (λ w. whole N w * H e.1) (one_times e.0) in omega arith

abbrev flag : Bool → ℕ
flag b = cond b 0 1

-- what counts the weights that are not exact
abbrev wrong : ℕ → Fraction → End → ℕ
wrong N w x = flag (w.1 * whole N w == w.0 * N)

wrong_zero : (N : ℕ) → Zero (wrong N)
wrong_zero N d x = let z = whole_zero N d in let y = ap (λ u. d * u) z in let t : (d * whole N (0, d) == 0 * N) ≡ true = grind (arith, nat_tests) in ap flag t

right_none : (N : ℕ) (w : Fraction) (x : End) → Exact N w → wrong N w x ≡ 0
right_none N w x e = let t : (w.1 * whole N w == w.0 * N) ≡ true = grind (arith, nat_tests) in ap flag t

none_right : (N : ℕ) (w : Fraction) (x : End) → wrong N w x ≡ 0 → Exact N w
none_right N w x h = by_test (w.1 * whole N w == w.0 * N) refl h
  where
    by_test : (b : Bool) → (w.1 * whole N w == w.0 * N) ≡ b → flag b ≡ 0 → Exact N w
    by_test true p h = grind (arith, nat_tests)
    by_test false p h = absurd (omega arith)

table_right : (N : ℕ) (I : Table) → Wholes N I → sum_of_all (λ w s. wrong N w (on s)) I ≡ 0
table_right N [] h = refl
table_right N (e ∷ I) h = let i = table_right N I h.1 in let x = right_none N e.0 (on e.1) h.0.exact in omega arith

ended_right : (N : ℕ) (m : Weighted End) → Wholes N m → sum_of_all (wrong N) m ≡ 0
ended_right N [] h = refl
ended_right N (e ∷ m) h = let i = ended_right N m h.1 in let x = right_none N e.0 e.1 h.0.exact in omega arith

paths_right : (N : ℕ) (m : Weighted End) → sum_of_all (after_weight one (wrong N)) m ≡ 0 → Exacts N m
paths_right N [] h = tt
paths_right N (e ∷ m) h = (subst (Exact N) (one_times e.0) (none_right N (times one e.0) e.1 (omega arith)), paths_right N m (omega arith))

-- the sum of the weights that are meant, at a scale
exact_sum : {A : Type 0} (N : ℕ) (is : A → Bool) (m : Weighted A) → Exacts N m → (sum_of is m).1 * amount N (λ x. cond (is x) 1 0) m ≡ (sum_of is m).0 * N
exact_sum N is [] w = omega arith
exact_sum N is (e ∷ m) w = counted (is e.1) N (whole N e.0) (amount N (λ x. cond (is x) 1 0) m) e.0 (sum_of is m) w.0 (exact_sum N is m w.1)

-- the last table of a block is one of its tables
pub last_few : (n : ℕ) (r : Option ℕ) (N L : ℕ) (b : Statements) (I : Table) → TablesWithin N L (block_flow n r b I).tables → Wholes N (block_flow n r b I).next × (states (block_flow n r b I).next ≤ L)
last_few n r N L done I w = (w.0, w.1)
last_few n r N L (st ▸ b) I w = last_few n r N L b (statement_flow n r st I).next (tables_second N L (statement_flow n r st I).tables _ w.2)

pub sum_held : (n : ℕ) (r : Option ℕ) (N L : ℕ) (b : Statements) (s : State) → Within N L (block_flow n r b (sure s)) → (is : End → Bool) →
    (sum_of is (weighted_ends n r b s)).1 * (amount N (λ s. cond (is (on s)) 1 0) (block_flow n r b (sure s)).next + amount N (λ x. cond (is x) 1 0) (block_flow n r b (sure s)).ended)
    ≡ (sum_of is (weighted_ends n r b s)).0 * N
sum_held n r N L b s w is =
    let m = weighted_ends n r b s in
    let f = block_flow n r b (sure s) in
    let H : End → ℕ = λ x. cond (is x) 1 0 in
    let x = flow_paths n r b (wrong N) (sure s) (wrong_zero N) in
    let t = table_right N f.next (last_few n r N L b (sure s) w.tables).0 in
    let u = ended_right N f.ended w.ended in
    let exact = paths_right N m (omega arith) in
    let q = amounts_paths n r N H b (sure s) in
    let a = amount_append N H (scaled one m) [] in
    let o = amount_one N H m in
    let e : amount N (λ s. H (on s)) f.next + amount N H f.ended ≡ amount N H m = omega arith in
    ap (λ z. (sum_of is m).1 * z) e ∙ exact_sum N is m exact
