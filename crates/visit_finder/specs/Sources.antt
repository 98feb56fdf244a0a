-- From which states of a loop a turn leads to each.
use Rattle.std.specs.Prelude.{ℕ, List, [], Contains}
use Rattle.std.specs.Global.{Vec}
use Rattle.std.specs.BTreeMap.{is_at}
use Rattle.std.specs.Map.{lookup}
use Rattle.std.specs.Option.{option_map, unwrap_or}
use Rattle.std.specs.Ordering.{nat_cmp}
use Rattle.numbers.specs.Fraction.{Fraction}
use Rattle.visit_finder.specs.Exact.{Turn}

-- lists of states, each under a state
abbrev pub Sources : Type 0
Sources = List (ℕ × Vec ℕ)

-- the states under s
abbrev pub sources_of : Sources → ℕ → List ℕ
sources_of sources s = unwrap_or (option_map (λ v. v.items) (lookup (is_at (nat_cmp s)) sources)) []

-- under the state to which a turn leads is the one from which it leads
abbrev pub HaveTurns : Sources → List Turn → Type 0
HaveTurns sources turns = (t s : ℕ) (f : Fraction) → Contains turns (t, s, f) → Contains (sources_of sources s) t

-- what is under one of these states is one of them
abbrev pub AreClosedUnder : List ℕ → Sources → Type 0
AreClosedUnder states sources = (t s : ℕ) → Contains (sources_of sources s) t → Contains states s → Contains states t
