-- The Fast Dice Roller (Lumbroso 2013): one of m labels, each as likely, by fair bits. It is said of the strings of
-- bits that were read, and of no state.
use Rattle.std.specs.Prelude.{ℕ, zero, suc, ◌+◌, ◌-◌, ◌*◌, ◌/◌, ◌%◌, ◌^◌, Bool, ◌&&◌, ◌==◌, List, [], ◌∷◌, ◌++◌, length, Option, Some, None, nat_le, nat_lt, if◌then◌else◌}
use Rattle.std.specs.Int.{from_bool}
use Rattle.dice_roll.specs.declared.answers.Roll.{Roll}
use Rattle.dice_roll.specs.declared.answers.Roll.TheVariants.{Label, Limit, MoreBits}

-- the number that a string spells, most significant bit first, behind what spells a
abbrev pub spelled_from : ℕ → List Bool → ℕ
spelled_from a [] = a
spelled_from a (b ∷ u) = spelled_from (2 * a + from_bool b) u

abbrev pub spelled : List Bool → ℕ
spelled u = spelled_from 0 u

-- how often m goes into 2 ^ t: each of the m labels has that many of the strings of t bits
unfoldable pub quota : ℕ → ℕ → ℕ
quota m t = 2 ^ t / m

-- the least number of t bits that has no label after fewer bits: all below it have one
abbrev pub first_undecided : ℕ → ℕ → ℕ
first_undecided m t = 2 * (m * quota m (t - 1))

-- the string is just read to the label c: it is, and no shorter one that it begins with
abbrev pub is_read_to : ℕ → ℕ → List Bool → Bool
is_read_to m c u =
    nat_le 1 (length u) && nat_lt c m && quota m (length u) % 2 == 1
    && spelled u == first_undecided m (length u) + c

-- the one label to which the string may be just read
abbrev pub label_at : ℕ → List Bool → Option ℕ
label_at m u = let c = spelled u - first_undecided m (length u) in if is_read_to m c u then Some c else None

-- the string is read to no label
abbrev pub has_no_label : ℕ → List Bool → Bool
has_no_label m u = nat_le (m * quota m (length u)) (spelled u)

-- the label after `flips` flips where there is one, or else what follows
abbrev pub label_or : Option ℕ → ℕ → Roll → Roll
label_or (Some c) n otherwise = Label c n
label_or None n otherwise = otherwise

-- the label of the shortest string that is just read to one, among u and what goes on from u with at most h bits of w
abbrev pub roll_from : ℕ → ℕ → List Bool → List Bool → Roll
roll_from m zero u w = label_or (label_at m u) (length u) (Limit (length u))
roll_from m (suc h) u [] = label_or (label_at m u) (length u) (MoreBits (length u))
roll_from m (suc h) u (b ∷ w) = label_or (label_at m u) (length u) (roll_from m h (u ++ b ∷ []) w)

-- A roll among m labels on the bits of w, with a limit of flips: the label of the shortest string at the front of
-- w that is just read to one; the limit, where that many bits give none; else w has too few bits.
abbrev pub fast_roll : ℕ → ℕ → List Bool → Roll
fast_roll m flips w = roll_from m flips [] w
