-- The parts of a choice among several arms: arm i has the weight of its part over the sum of all. A part may be 0.
use Rattle.std.specs.Prelude.{ℕ, ◌+◌, List, [], ◌∷◌}

-- each part added to c and to the parts before it
abbrev pub sums_from : ℕ → List ℕ → List ℕ
sums_from c [] = []
sums_from c (p ∷ ps) = (c + p) ∷ sums_from (c + p) ps

-- p0, p0 + p1, up to the sum of all: the ends of the draw, whose class i is arm i
abbrev pub partial_sums : List ℕ → List ℕ
partial_sums ps = sums_from 0 ps
