-- A roll by weights on bits: the walk down Knuth and Yao's tree (1976), column by column. It keeps for each label the remainder
-- of 2 ^ t * a by the sum b, and the number of the string so far among those of t bits that have no label.
use Rattle.std.specs.Prelude.{ℕ, zero, suc, ◌+◌, ◌*◌, Bool, List, [], ◌∷◌, length, map, Option}
use Rattle.std.specs.List.{sum}
use Rattle.std.specs.Int.{from_bool}
use Rattle.dice_roll.specs.declared.answers.Roll.{Roll}
use Rattle.dice_roll.specs.declared.answers.Roll.TheVariants.{Label, Limit, MoreBits}
use Rattle.weighted_roll.specs.declared.columns.Column.{Column}
use Rattle.weighted_roll.specs.declared.columns.Column.TheVariants.{Leaf, Rest}
use Rattle.weighted_roll.specs.Columns.{column, next_of}
use Rattle.weighted_roll.specs.Rollers.{label_in}

-- the label, after n flips, or what follows
abbrev pub go_on : Column → ℕ → (ℕ → Roll) → Roll
go_on (Leaf i) n rolls = Label i n
go_on (Rest k) n rolls = rolls k

-- the roll on w from the string of number k, after n flips, with at most h more
abbrev pub weighted_from : ℕ → ℕ → List ℕ → ℕ → ℕ → List Bool → Roll
weighted_from b zero rs k n w = Limit n
weighted_from b (suc h) rs k n [] = MoreBits n
weighted_from b (suc h) rs k n (x ∷ w) =
    go_on (column b rs 0 (2 * k + from_bool x)) (n + 1) (λ j. weighted_from b h (map (next_of b) rs) j (n + 1) w)

-- a roll by the weights ws on the bits of w, with at most so many flips
abbrev pub weighted_roll : List ℕ → ℕ → List Bool → Roll
weighted_roll ws flips w = weighted_from (sum ws) flips ws 0 0 w

-- the label that a string gives
abbrev pub weighted : List ℕ → List Bool → Option ℕ
weighted ws w = label_in (weighted_roll ws (length w) w)
