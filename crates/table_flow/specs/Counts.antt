-- What a state counts once a statement has passed, where what counts is given for what goes on or for what ended.
use Rattle.std.specs.Prelude.{ℕ, zero, suc, ◌+◌, pos, Bool, cond, Option, slice_set}
use Rattle.gcl_core.specs.declared.answers.Fault.TheVariants.{BadBound}
use Rattle.gcl_core.specs.declared.answers.Limit.TheVariants.{Attempts}
use Rattle.gcl_core.specs.meaning.Value.{State, Value}
use Rattle.gcl_core.specs.meaning.Blocks.{End, fault, limit, by_value, by_bound}
use Rattle.gcl_core.specs.weighing.Fractions.{Fraction, one}
use Rattle.gcl_core.specs.weighing.WeightedEnds.{class_weight, no_class_weight}

-- a state with x set to a value; none, where the value is a fault
abbrev pub moved : ℕ → (State → Value) → (State → ℕ) → State → ℕ
moved x v G s = by_value (v s) (λ f. 0) (λ z. G (slice_set s x z))

-- the fault of a value
abbrev pub stopped : (State → Value) → (End → ℕ) → State → ℕ
stopped v G s = by_value (v s) (λ f. G (fault f)) (λ z. 0)

-- a state that stays in the table, where it passes
abbrev pub kept_if : (State → Bool) → (State → ℕ) → State → ℕ
kept_if test G s = cond (test s) (G s) 0

abbrev pub all_kept : (State → ℕ) → State → ℕ
all_kept G s = G s

abbrev pub none_kept : (State → ℕ) → State → ℕ
none_kept G s = 0

abbrev pub none_stopped : (End → ℕ) → State → ℕ
none_stopped G s = 0

-- all end in one way
abbrev pub all_stopped : End → (End → ℕ) → State → ℕ
all_stopped x G s = G x

-- ---- uniform draws

abbrev pub sum_below : ℕ → (ℕ → ℕ) → ℕ
sum_below zero F = 0
sum_below (suc n) F = sum_below n F + F n

-- the weight of each number that a state's draw may give, and of none of them; all weight, where the state ends before a draw
abbrev pub part_at : (State → Value) → Option ℕ → State → Fraction
part_at v r s = by_value (v s) (λ f. one) (λ z. by_bound z one (λ m. class_weight m r 1))

abbrev pub rest_at : (State → Value) → Option ℕ → State → Fraction
rest_at v r s = by_value (v s) (λ f. one) (λ z. by_bound z one (λ m. no_class_weight m r))

-- x set to each number below a bound
abbrev pub drawn : ℕ → (State → Value) → (State → ℕ) → State → ℕ
drawn x v G s = by_value (v s) (λ f. 0) (λ z. by_bound z 0 (λ m. sum_below m (λ i. G (slice_set s x (pos i)))))

abbrev pub undrawn : (State → Value) → (End → ℕ) → State → ℕ
undrawn v G s = by_value (v s) (λ f. G (fault f)) (λ z. by_bound z (G (fault BadBound)) (λ m. G (limit Attempts)))
