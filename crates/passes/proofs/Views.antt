-- What is known of each view, after one was put in the place of another, and after one more.
use Rattle.std.proofs.Common.{◌≡◌, ℕ, zero, suc, ◌+◌, ◌≢◌, List, [], ◌∷◌, ◌++◌, set, sym, subst, ⊎_elim, arith}
use mathlib.Core.Option.{some, some-injective, some-ne-none}
use lib.ListN.{get_elem?}
use Rattle.atomic_table.proofs.Lists.{at_set, at_snoc}
use Rattle.passes.specs.Total.{total}
use Rattle.passes.specs.Numbering.{EachView}
use Rattle.passes.proofs.Totals.{total_set}

module _ {V : Type 0} (Fact : V → Type 0) where
  -- one that took a step, where the others are known apart from it
  pub each_set : (views : List V) (id : ℕ) (w : V) → Fact w → ((j : ℕ) (u : V) → j ≢ id → get_elem? views j ≡ some u → Fact u) → EachView Fact (set views id w)
  each_set views id w here others j u e = ⊎_elim
      (λ (t : (j ≡ id) × (w ≡ u)). subst Fact t.1 here)
      (λ (t : (j ≢ id) × (get_elem? views j ≡ some u)). others j u t.0 t.1)
      (at_set views id j w u e)

  pub each_played : (views : List V) (id : ℕ) (w : V) → Fact w → EachView Fact views → EachView Fact (set views id w)
  each_played views id w here all = each_set views id w here (λ j u _ e. all j u e)

  pub each_split : (views : List V) (id : ℕ) (w new : V) → Fact w → Fact new → EachView Fact views → EachView Fact (set views id w ++ new ∷ [])
  each_split views id w new here there all j u e = ⊎_elim
      (λ (was : get_elem? (set views id w) j ≡ some u). each_played views id w here all j u was)
      (λ (is : new ≡ u). subst Fact is there)
      (at_snoc (set views id w) new u j e)

  pub each_joined : (views : List V) (id other : ℕ) (both spent : V) → Fact both → Fact spent → EachView Fact views → EachView Fact (set (set views id both) other spent)
  each_joined views id other both spent here there all = each_played (set views id both) other spent there (each_played views id both here all)

  pub each_alone : (v : V) → Fact v → EachView Fact (v ∷ [])
  each_alone v here zero u e = subst Fact (some-injective v u e) here
  each_alone v here (suc j) u e = absurd (some-ne-none u (sym e))

-- the seat that is joined to another stood there before
pub other_there : {V : Type 0} (views : List V) (id other : ℕ) (both w : V) → ¬ (other ≡ id) → get_elem? (set views id both) other ≡ some w → get_elem? views other ≡ some w
other_there views id other both w ne there = ⊎_elim
    (λ (t : (other ≡ id) × (both ≡ w)). absurd (ne t.0))
    (λ (t : (other ≢ id) × (get_elem? views other ≡ some w)). t.1)
    (at_set views id other both w there)

pub total_joined : {V : Type 0} (f : V → ℕ) (views : List V) (id other : ℕ) (v w both spent : V) → get_elem? views id ≡ some v → get_elem? (set views id both) other ≡ some w
    → total f (set (set views id both) other spent) + (f v + f w) ≡ total f views + (f both + f spent)
total_joined f views id other v w both spent at there = let a = total_set f views id v both at in let b = total_set f (set views id both) other w spent there in omega arith
