-- Two rows are merged entry by entry: what is put by, and what is left of both, gives the same parts all the time. Order does not matter.
use Rattle.std.proofs.Common.{◌≡◌, ℕ, ◌+◌, ◌*◌, Bool, true, false, if◌then◌else◌, List, [], ◌∷◌, ◌++◌, refl, arith}
use Rattle.std.specs.Prelude.{◌==◌}
use Rattle.narrow_fractions.specs.Remainders.{Same}
use Rattle.narrow_fractions.specs.Rows.{part_in, merging}
use Rattle.narrow_fractions.proofs.Congruence.{equal, chained, added}

pub part_in_both : (xs ys : List (ℕ × ℕ)) (s : ℕ) → part_in (xs ++ ys) s ≡ part_in xs s + part_in ys s
part_in_both [] ys s = omega arith
part_in_both (x ∷ xs) ys s = let e = part_in_both xs ys s in omega arith

pub part_in_pushed : (xs : List (ℕ × ℕ)) (k p s : ℕ) → part_in (xs ++ (k, p) ∷ []) s ≡ part_in xs s + (if k == s then p else 0)
part_in_pushed xs k p s = let e = part_in_both xs ((k, p) ∷ []) s in omega arith

pub row_moves : (f k p s : ℕ) (done row other : List (ℕ × ℕ)) → merging f (done ++ (k, p) ∷ []) row other s ≡ merging f done ((k, p) ∷ row) other s
row_moves f k p s done row other = let e = part_in_pushed done k p s in omega arith

one_part : (m : ℕ) (b : Bool) (x y : ℕ) → Same m x y → Same m (if b then x else 0) (if b then y else 0)
one_part m true x y h = h
one_part m false x y h = equal m 0 0 refl

pub other_moves : (m f k p q s : ℕ) (done row other : List (ℕ × ℕ)) → Same m q (f * p)
    → Same m (merging f (done ++ (k, q) ∷ []) row other s) (merging f done row ((k, p) ∷ other) s)
other_moves m f k p q s done row other h =
    chained m _ _ _ (equal m _ (part_in done s + (part_in row s + f * part_in other s) + (if k == s then q else 0)) (let e = part_in_pushed done k q s in omega arith))
    (chained m _ _ _ (added m _ _ (if k == s then q else 0) (if k == s then f * p else 0) (equal m (part_in done s + (part_in row s + f * part_in other s)) _ refl) (one_part m (k == s) q (f * p) h))
    (equal m _ _ (by (k == s) (part_in done s) (part_in row s) (part_in other s))))
  where
    by : (b : Bool) (x y z : ℕ) → x + (y + f * z) + (if b then f * p else 0) ≡ x + (y + f * ((if b then p else 0) + z))
    by true x y z = omega arith
    by false x y z = omega arith

pub both_move : (m f k p o q s : ℕ) (done row other : List (ℕ × ℕ)) → Same m q (o + f * p)
    → Same m (merging f (done ++ (k, q) ∷ []) row other s) (merging f done ((k, o) ∷ row) ((k, p) ∷ other) s)
both_move m f k p o q s done row other h =
    chained m _ _ _ (equal m _ (part_in done s + (part_in row s + f * part_in other s) + (if k == s then q else 0)) (let e = part_in_pushed done k q s in omega arith))
    (chained m _ _ _ (added m _ _ (if k == s then q else 0) (if k == s then o + f * p else 0) (equal m (part_in done s + (part_in row s + f * part_in other s)) _ refl) (one_part m (k == s) q (o + f * p) h))
    (equal m _ _ (by (k == s) (part_in done s) (part_in row s) (part_in other s))))
  where
    by : (b : Bool) (x y z : ℕ) → x + (y + f * z) + (if b then o + f * p else 0) ≡ x + ((if b then o else 0) + y + f * ((if b then p else 0) + z))
    by true x y z = omega arith
    by false x y z = omega arith
