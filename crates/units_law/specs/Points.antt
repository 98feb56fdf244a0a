-- The points of a round: before each statement, at the end of each block, and at the head of each turn of a loop; and the states with
-- which each is reached. This project's own rule.
use Rattle.std.specs.Prelude.{ℕ, zero, suc, ◌-◌, max, ℤ, Bool, false, not, List, [], ◌∷◌, ◌++◌, map, Option, length}
use Rattle.std.specs.List.{filter, sum}
use Rattle.std.specs.Ordering.{int_eq}
use Rattle.std.specs.Set.{distinct_count}
use Rattle.std.specs.Cmp.Lexicographic.{pointwise}
use Rattle.gcl_core.specs.meaning.Arms.{parts_of}
use Rattle.gcl_core.specs.meaning.Blocks.{End, by_value, by_end}
use Rattle.gcl_core.specs.meaning.Outcomes.{zeros}
use Rattle.gcl_core.specs.meaning.Syntax.{Statement, If, While, Choice, Choose, Statements, done, ◌▸◌, ArmList, no_arm, arm, SourceProgram}
use Rattle.gcl_core.specs.meaning.Value.{State, Value, value_of, is_zero}
use Rattle.gcl_core.specs.weighing.WeightedEnds.{Weighted, sure, scaled, taken_on, class_weight, statement_weighted, weighted_ends}

-- a point, by the states with which it is reached, each with its weight; one that is reached by several ways stands in it more than once
abbrev pub Point : Type 0
Point = Weighted State

-- the states that go on, among ends
abbrev pub going_on : Weighted End → Point
going_on [] = []
going_on (e ∷ m) = by_end e.1 (λ x. []) (λ s. (e.0, s) ∷ []) ++ going_on m

-- those in which the value of an expression passes a test
abbrev pub those : (ℤ → Bool) → (State → Value) → Point → Point
those test v I = filter (λ e. by_value (v e.1) (λ f. false) test) I

abbrev pub where_true : (State → Value) → Point → Point
where_true = those (λ z. not (is_zero z))

-- at most t turns of a loop, from its head on, with the points and the ends of its body
abbrev pub loop_points : (State → Value) → (Point → List Point) → (State → Weighted End) → ℕ → Point → List Point
loop_points guard points ends zero I = I ∷ []
loop_points guard points ends (suc t) I =
    I ∷ (points (where_true guard I) ++ loop_points guard points ends t (going_on (taken_on (where_true guard I) ends)))

-- under a limit of n turns, and of r attempts or none
module _ (n : ℕ) (r : Option ℕ) where
  abbrev mutual
    pub statement_points : Statement → Point → List Point
    statement_points (If e a c) I = block_points a (where_true (value_of e) I) ++ block_points c (those is_zero (value_of e) I)
    statement_points (Choice p a c) I =
        block_points a (scaled (class_weight p.den r p.num) I) ++ block_points c (scaled (class_weight p.den r (p.den - p.num)) I)
    statement_points (Choose arms) I = arms_points (sum (parts_of arms)) arms I
    statement_points (While e a) I = loop_points (value_of e) (block_points a) (weighted_ends n r a) n I
    statement_points _ I = []

    pub block_points : Statements → Point → List Point
    block_points done I = I ∷ []
    block_points (st ▸ b) I = I ∷ (statement_points st I ++ block_points b (going_on (taken_on I (statement_weighted n r st))))

    -- those of the arms of a draw with b parts
    pub arms_points : ℕ → ArmList → Point → List Point
    arms_points b no_arm I = []
    arms_points b (arm p a arms) I = block_points a (scaled (class_weight b r p) I) ++ arms_points b arms I

-- of a round, which begins with the state of zeros
abbrev pub points_of : SourceProgram → ℕ → Option ℕ → List Point
points_of p n r = block_points n r p.body (sure (zeros (length p.names)))

-- the most different states with which one point is reached
abbrev pub most_states : List Point → ℕ
most_states [] = 0
most_states (I ∷ Is) = max (distinct_count (pointwise int_eq) (map (λ e. e.1) I)) (most_states Is)
