-- One flip of a roll by weights, as a column of a tree of bits whose leaves are labels (Knuth and Yao 1976). At each depth t the
-- label of the weight a has a leaf where the bit of a / b for 2 ^ -t is 1, in order of the labels; b is the sum of the weights.
use Rattle.std.specs.Prelude.{ℕ, zero, suc, ◌+◌, ◌-◌, ◌*◌, Bool, true, false, List, [], ◌∷◌, nat_le, if◌then◌else◌}
use Rattle.weighted_roll.specs.declared.columns.Column.{Column}
use Rattle.weighted_roll.specs.declared.columns.Column.TheVariants.{Leaf, Rest}

-- 2 * r modulo b, where r is below b
abbrev pub next_of : ℕ → ℕ → ℕ
next_of b r = if nat_le b (2 * r) then 2 * r - b else 2 * r

-- where the label i has a leaf, the string of number 0 is at it, and each other has one number less from there on; where it has
-- none, nothing changes
abbrev pub past_label : Bool → ℕ → ℕ → (ℕ → Column) → Column
past_label true i zero on = Leaf i
past_label true i (suc k) on = on k
past_label false i k on = on k

-- where the string of number k stands, among labels from i on whose remainders are rs
abbrev pub column : ℕ → List ℕ → ℕ → ℕ → Column
column b [] i k = Rest k
column b (r ∷ rs) i k = past_label (nat_le b (2 * r)) i k (column b rs (i + 1))

-- the string has no label, and then this
abbrev pub IfRest : Column → Type 0 → Type 0
IfRest (Leaf i) P = Unit {0}
IfRest (Rest k) P = P
