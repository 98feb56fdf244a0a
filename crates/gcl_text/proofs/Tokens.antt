-- How many tokens a text has.
use Rattle.std.proofs.Common.{ℕ, ◌-◌, ◌≤◌, List, [], ◌∷◌, length, arith}
use Rattle.gcl_core.specs.declared.tokens.Token.{Token}
use Rattle.gcl_core.specs.text.Spans.{StandInOrder}

-- there are no more tokens than bytes from the first to the end
pub tokens_fewer : (from : ℕ) (ts : List Token) (end : ℕ) → StandInOrder from ts end → length ts ≤ end - from
tokens_fewer from [] end h = omega arith
tokens_fewer from (t ∷ ts) end h = let rest = tokens_fewer t.end ts end h.4 in omega (arith, h.0, h.1, h.2)
