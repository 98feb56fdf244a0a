-- Marks, and the sets that they stand for.
use Rattle.std.proofs.Common.{◌≡◌, ⊎_elim, ℕ, zero, suc, ◌<◌, ◌≤◌, Bool, true, false, ◌||◌, List, [], ◌∷◌, length, replicate, get_or, drop, refl, ap, arith}
use Rattle.std.proofs.lemmas.Bool.{cases_lt}
use Rattle.std.proofs.lemmas.List.{get_or-replicate, get_or_past, length-replicate}
use Rattle.std.proofs.Math.Seq.{drop-cons}
use Rattle.gcl_core.specs.declared.syntax.Block.{Block}
use Rattle.gcl_core.specs.declared.syntax.Stmt.{Stmt}
use Rattle.gcl_core.specs.meaning.Bounds.{StatementBelow, BlockBelow, ArmsBelow}
use Rattle.gcl_core.specs.meaning.Syntax.{◌▸◌, arm}
use Rattle.gcl_core.specs.meaning.Views.{statement_of, list_of, statements_of, arm_list_of}
use Rattle.forgetting.specs.Marks.{marked}

pub unmarked : (n x : ℕ) → marked (replicate n false) x ≡ false
unmarked n x =
    ⊎_elim (λ (lt : x < n). get_or-replicate n x false false lt)
    (λ (ge : n ≤ x). let l = length-replicate n false in get_or_past (replicate n false) x false (omega (arith, l)))
    (cases_lt x n)

pub past : (marks : List Bool) (x : ℕ) → length marks ≤ x → marked marks x ≡ false
past marks x le = get_or_past marks x false le

-- ---- statements at places
pub below_at : (n : ℕ) (statements : List Stmt) (k : ℕ) (d : Stmt) → k < length statements → BlockBelow n (list_of statements) → StatementBelow n (statement_of (get_or statements k d))
below_at n [] k d lt all = absurd (omega arith)
below_at n (s ∷ ss) zero d lt all = all.0
below_at n (s ∷ ss) (suc k) d lt all = below_at n ss k d (omega arith) all.1

pub arm_below_at : (n : ℕ) (arms : List (ℕ × Block)) (k : ℕ) (d : ℕ × Block) → k < length arms → ArmsBelow n (arm_list_of arms) → BlockBelow n (statements_of (get_or arms k d).1)
arm_below_at n [] k d lt all = absurd (omega arith)
arm_below_at n (a ∷ arms) zero d lt all = all.0
arm_below_at n (a ∷ arms) (suc k) d lt all = arm_below_at n arms k d (omega arith) all.1

-- what is left from a place on is the statement there and what is left behind it
pub next_of : (statements : List Stmt) (i : ℕ) (d : Stmt) → i < length statements → list_of (drop i statements) ≡ statement_of (get_or statements i d) ▸ list_of (drop (suc i) statements)
next_of statements i d lt = ap list_of (drop-cons statements i d lt)

pub next_arm_of : (arms : List (ℕ × Block)) (i : ℕ) (d : ℕ × Block) → i < length arms → arm_list_of (drop i arms) ≡ arm (get_or arms i d).0 (statements_of (get_or arms i d).1) (arm_list_of (drop (suc i) arms))
next_arm_of arms i d lt = ap arm_list_of (drop-cons arms i d lt)

pub or_false : (a : Bool) → (a || false) ≡ a
or_false true = refl
or_false false = refl
