-- A loop of one state, of which each turn goes on with 1/2: an example of a table that balances.
use Rattle.std.specs.Prelude.{ℕ, zero, suc}

-- what is entered with, and what goes on, over 2
abbrev pub halves : ℕ → ℕ → ℕ
halves zero (suc zero) = 2
halves (suc zero) (suc zero) = 1
halves t s = 0

-- how often each is visited, once for what is entered with
abbrev pub visits : ℕ → ℕ
visits zero = 1
visits (suc t) = 2
