-- Which classes a draw has, and how many flips.
use Rattle.std.specs.Prelude.{ℕ, ◌+◌, Option, Some, None, ◌<◌}
use Rattle.draw_tree.specs.Flips.{Flips, leaf, flip}

abbrev pub ClassBelow : ℕ → Option ℕ → Type 0
ClassBelow count None = Unit {0}
ClassBelow count (Some i) = i < count

-- each class is below a count
abbrev pub ClassesBelow : ℕ → Flips → Type 0
ClassesBelow count (leaf x) = ClassBelow count x
ClassesBelow count (flip l r) = ClassesBelow count l × ClassesBelow count r

-- how many flips a draw has
abbrev pub flip_count : Flips → ℕ
flip_count (leaf x) = 0
flip_count (flip l r) = 1 + flip_count l + flip_count r
