-- What trees do on a list of bits with a value, at a uniform draw and in a repetition: the same as a block with a value, at a
-- uniform draw and in a loop. Here the bits stand inside each case, where the proofs of trees need them.
use Rattle.std.specs.Prelude.{ℕ, zero, suc, ℤ, pos, Bool, List, slice_set}
use Rattle.gcl_core.specs.declared.answers.Fault.TheVariants.{BadBound}
use Rattle.gcl_core.specs.declared.answers.Limit.TheVariants.{Turns}
use Rattle.gcl_core.specs.meaning.Value.{State, Value}
use Rattle.gcl_core.specs.meaning.Reading.{Reading, gives}
use Rattle.gcl_core.specs.meaning.Draw.{draw_on, uniform_ends}
use Rattle.gcl_core.specs.meaning.Blocks.{End, on, fault, limit, by_value, by_truth, by_bound, class_on, end_on}

-- with a value, before the bits w; a fault ends the tree
abbrev pub value_on : Value → List Bool → (ℤ → Reading End) → Reading End
value_on v w go = by_value v (λ f. gives (fault f) w) go

-- x is set to a number below the bound v, each with the same weight, by at most r attempts
abbrev pub uniform_on : (r x : ℕ) (v : ℤ) → State → List Bool → Reading End
uniform_on r x v s w =
    by_bound v (gives (fault BadBound) w)
    (λ m. class_on (draw_on (uniform_ends m) r w) (λ i rest. gives (on (slice_set s x (pos i))) rest))

-- at most t turns of a repetition
abbrev pub repeated_on : (State → Value) → (State → List Bool → Reading End) → ℕ → State → List Bool → Reading End
repeated_on guard body zero s w = value_on (guard s) w (λ v. by_truth v (gives (limit Turns) w) (gives (on s) w))
repeated_on guard body (suc t) s w =
    value_on (guard s) w (λ v. by_truth v (end_on (body s w) (repeated_on guard body t)) (gives (on s) w))
