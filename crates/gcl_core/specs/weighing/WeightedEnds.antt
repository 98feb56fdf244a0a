-- The ends of a block, each with its weight, by the same statements as on bits, of which none is seen. It is the weighted sum by
-- which cpGCL says what a program means, cut off at the limits; all paths are listed, and none of weight 0.
use Rattle.std.specs.Prelude.{ℕ, zero, suc, ◌+◌, ◌-◌, ◌*◌, ◌^◌, List, [], ◌∷◌, ◌++◌, map, Option, Some, None}
use Rattle.gcl_core.specs.declared.answers.Limit.TheVariants.{Attempts}
use Rattle.gcl_core.specs.meaning.Syntax.{Statement, Statements}
use Rattle.gcl_core.specs.meaning.Value.{State}
use Rattle.gcl_core.specs.meaning.Draw.{bits_for, last_end, rejected_numbers, strings_to_a_number}
use Rattle.gcl_core.specs.meaning.Blocks.{End, limit, by_class, by_end, statement_in, block_in}
use Rattle.gcl_core.specs.weighing.Fractions.{Fraction, zero_share, one, times}

-- ---- weighted lists: `sure` is their unit, and `taken_on` goes on from each entry
abbrev pub Weighted : Type 0 → Type 0
Weighted A = List (Fraction × A)

abbrev pub sure : {A : Type 0} → A → Weighted A
sure a = (one, a) ∷ []

-- with its weights multiplied by p; entries of weight 0 are left out
abbrev pub scaled : {A : Type 0} → Fraction → Weighted A → Weighted A
scaled (zero, d) m = []
scaled (suc n, d) m = map (λ e. (times (suc n, d) e.0, e.1)) m

-- each entry is taken on by what follows it
abbrev pub taken_on : {A B : Type 0} → Weighted A → (A → Weighted B) → Weighted B
taken_on [] go = []
taken_on (e ∷ m) go = scaled e.0 (go e.1) ++ taken_on m go

-- ---- a draw

-- the weight of a class with `size` of the b numbers, by at most r attempts; or by as many as it takes
abbrev pub class_weight : ℕ → Option ℕ → ℕ → Fraction
class_weight b (Some r) size = (size * strings_to_a_number (bits_for b) (rejected_numbers b) r, 2 ^ (bits_for b * r))
class_weight b None size = (size, b)

-- the weight of no class: each attempt was rejected
abbrev pub no_class_weight : ℕ → Option ℕ → Fraction
no_class_weight b (Some r) = (rejected_numbers b ^ r, 2 ^ (bits_for b * r))
no_class_weight b None = zero_share

-- class i and those after it, where the end before is c
abbrev pub classes_from : (ℕ → Fraction) → ℕ → ℕ → List ℕ → Weighted (Option ℕ)
classes_from weight i c [] = []
classes_from weight i c (d ∷ ends) = (weight (d - c), Some i) ∷ classes_from weight (i + 1) d ends

abbrev pub weighted_classes : List ℕ → Option ℕ → Weighted (Option ℕ)
weighted_classes ends r = classes_from (class_weight (last_end ends) r) 0 0 ends ++ (no_class_weight (last_end ends) r, None) ∷ []

-- ---- blocks

-- with each state in which a part of the block ends; every other end of it is the block's
abbrev pub end_weighted : Weighted End → (State → Weighted End) → Weighted End
end_weighted m go = taken_on m (λ e. by_end e sure go)

-- with each class of a draw; where no attempt gave one, the limit of attempts ends the block
abbrev pub class_weighted : Weighted (Option ℕ) → (ℕ → Weighted End) → Weighted End
class_weighted m go = taken_on m (λ class. by_class class (sure (limit Attempts)) go)

-- by at most r attempts, or by as many as it takes
abbrev pub draw_weighted : Option ℕ → List ℕ → (ℕ → Weighted End) → Weighted End
draw_weighted r cs go = class_weighted (weighted_classes cs r) go

-- under a limit of n turns for each entry of a loop, and of r attempts for each draw or none
abbrev pub statement_weighted : ℕ → Option ℕ → Statement → State → Weighted End
statement_weighted n r = statement_in sure end_weighted (draw_weighted r) (λ m. m) n

abbrev pub weighted_ends : ℕ → Option ℕ → Statements → State → Weighted End
weighted_ends n r = block_in sure end_weighted (draw_weighted r) (λ m. m) n
