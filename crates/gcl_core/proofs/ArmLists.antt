-- The arms of the code, one by one: how many there are, and what each has.
use Rattle.std.proofs.Common.{◌≡◌, ℕ, zero, suc, ◌+◌, ◌≤◌, ◌<◌, ◌/◌, List, [], ◌∷◌, length, get_or, drop, refl, ap, sym, ◌∙◌, arith}
use Rattle.std.proofs.lemmas.List.{at_drop_more, drop_all}
use Rattle.std.specs.Prelude.{Some}
use Rattle.gcl_core.specs.declared.syntax.Block.{Block}
use Rattle.gcl_core.specs.meaning.Arms.{parts_of, block_at}
use Rattle.gcl_core.specs.meaning.Lowest.{divided}
use Rattle.gcl_core.specs.meaning.Syntax.{arm}
use Rattle.gcl_core.specs.meaning.Views.{arm_list_of, statements_of}

pub as_many_arms : (arms : List (ℕ × Block)) → length (parts_of (arm_list_of arms)) ≡ length arms
as_many_arms [] = refl
as_many_arms (a ∷ arms) = let e = as_many_arms arms in omega (arith, e)

pub part_there : (arms : List (ℕ × Block)) (i : ℕ) (d : ℕ × Block) → i < length arms → (get_or arms i d).0 ≡ get_or (parts_of (arm_list_of arms)) i 0
part_there [] i d lt = absurd (omega (arith, lt))
part_there (a ∷ arms) zero d lt = refl
part_there (a ∷ arms) (suc i) d lt = part_there arms i d (omega (arith, lt))

pub block_there : (arms : List (ℕ × Block)) (i : ℕ) (d : ℕ × Block) → i < length arms → block_at (arm_list_of arms) i ≡ Some (statements_of (get_or arms i d).1)
block_there [] i d lt = absurd (omega (arith, lt))
block_there (a ∷ arms) zero d lt = refl
block_there (a ∷ arms) (suc i) d lt = block_there arms i d (omega (arith, lt))

-- where each part was divided by g, and each block left as it was
pub all_divided : (g : ℕ) (xs ys : List (ℕ × Block)) → length xs ≡ length ys → ((k : ℕ) (d : ℕ × Block) → k < length ys → (get_or xs k d).0 ≡ (get_or ys k d).0 / g) →
    ((k : ℕ) (d : ℕ × Block) → k < length ys → (get_or xs k d).1 ≡ (get_or ys k d).1) → arm_list_of xs ≡ divided g (arm_list_of ys)
all_divided g [] [] e h same = refl
all_divided g [] (y ∷ ys) e h same = absurd (omega (arith, e))
all_divided g (x ∷ xs) [] e h same = absurd (omega (arith, e))
all_divided g (x ∷ xs) (y ∷ ys) e h same =
    ap (λ p. arm p (statements_of x.1) (arm_list_of xs)) (h zero x (omega arith)) ∙ ap (λ b. arm (y.0 / g) (statements_of b) (arm_list_of xs)) (same zero x (omega arith))
    ∙ ap (arm (y.0 / g) (statements_of y.1)) (all_divided g xs ys (omega (arith, e)) (λ k d lt. h (suc k) d (omega (arith, lt))) (λ k d lt. same (suc k) d (omega (arith, lt))))

pub parts_more : (arms : List (ℕ × Block)) (i : ℕ) (a : ℕ × Block) → i < length arms → a ≡ get_or arms i a → parts_of (arm_list_of (drop i arms)) ≡ a.0 ∷ parts_of (arm_list_of (drop (i + 1) arms))
parts_more arms i a lt is = at_drop_more (λ l. parts_of (arm_list_of l)) arms i a lt ∙ ap (λ x. x.0 ∷ parts_of (arm_list_of (drop (i + 1) arms))) (sym is)

pub no_parts : (arms : List (ℕ × Block)) (i : ℕ) → length arms ≤ i → parts_of (arm_list_of (drop i arms)) ≡ []
no_parts arms i le = ap (λ l. parts_of (arm_list_of l)) (drop_all i arms le)
