-- The tables of a stack: one more on top, all multiplied, and what all have at most.
use Rattle.std.proofs.Common.{◌≡◌, ℕ, ◌+◌, List, [], ◌∷◌, ◌++◌, map, refl, arith}
use Rattle.gcl_core.specs.meaning.Value.{State}
use Rattle.units_law.specs.Units.{total}
use Rattle.scaled_law.specs.Growth.{all_most}
use Rattle.scaled_law.specs.Pairs.{Pairs, at_most, merged_pairs}
use Rattle.scaled_law.specs.Scaled.{times_pairs}
use Rattle.scaled_fold.specs.declared.table.Table.{Table}
use Rattle.scaled_fold.specs.inner.Stack.{stacked}

pub stack_push : (ts : List Table) (t : Table) (Ks : List (Pairs State)) → stacked (ts ++ t ∷ []) Ks ≡ t.states.entries ∷ stacked ts Ks
stack_push [] t Ks = refl
stack_push (s ∷ ts) t Ks = stack_push ts t (s.states.entries ∷ Ks)

abbrev pub most_in : List Table → ℕ
most_in [] = 0
most_in (t ∷ ts) = total (at_most t.states.entries) + most_in ts

pub most_stacked : (ts : List Table) (Ks : List (Pairs State)) → all_most (stacked ts Ks) ≡ most_in ts + all_most Ks
most_stacked [] Ks = omega arith
most_stacked (t ∷ ts) Ks = let i = most_stacked ts (t.states.entries ∷ Ks) in omega arith

abbrev times : ℕ → Pairs State → Pairs State
times k J = merged_pairs (times_pairs (k, 1) J)

-- those of a list, multiplied, on others
abbrev pub timed : ℕ → List Table → List (Pairs State) → List (Pairs State)
timed k [] Ks = Ks
timed k (t ∷ ts) Ks = timed k ts (times k t.states.entries ∷ Ks)

pub timed_all : (k : ℕ) (ts : List Table) (Ks : List (Pairs State)) → timed k ts (map (times k) Ks) ≡ map (times k) (stacked ts Ks)
timed_all k [] Ks = refl
timed_all k (t ∷ ts) Ks = timed_all k ts (t.states.entries ∷ Ks)
