-- The members of a row, by place.
use Rattle.std.proofs.Common.{◌≡◌, ℕ, zero, suc, ◌<◌, List, [], ◌∷◌, length, get_or, Some, refl, arith}
use Rattle.choice_tree.specs.declared.tree.Cf.{Cf}
use Rattle.choice_tree.specs.TreeRows.{count, tree_at}
use Rattle.choice_tree.specs.Views.{choice_tree_of, list_of}

pub as_many : (ts : List Cf) → count (list_of ts) ≡ length ts
as_many [] = refl
as_many (t ∷ ts) = let e = as_many ts in omega arith

pub at_place : (ts : List Cf) (i : ℕ) (d : Cf) → i < length ts → tree_at (list_of ts) i ≡ Some (choice_tree_of (get_or ts i d))
at_place [] i d lt = absurd (omega arith)
at_place (t ∷ ts) zero d lt = refl
at_place (t ∷ ts) (suc i) d lt = at_place ts i d (omega arith)
