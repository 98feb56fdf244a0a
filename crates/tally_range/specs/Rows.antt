-- Rows of a key and a count, keys ascending and counts above 0.
use Rattle.std.specs.Prelude.{◌≡◌, ◌<◌, ℕ, true, List, if◌then◌else◌, ◌↔◌, AllPairs, Contains}
use Rattle.gcl_core.specs.declared.answers.TallyKey.{TallyKey}
use Rattle.gcl_core.specs.meaning.Order.{is_key_before, same_key}

abbrev pub Rows : Type 0
Rows = List (TallyKey × ℕ)

-- n, where the key is the other, and else 0
abbrev pub counted_at : TallyKey → ℕ → TallyKey → ℕ
counted_at key n other = if same_key key other then n else 0

-- Exactly the rows of a count that are above 0, keys ascending.
pub record IsTallyOf (count : TallyKey → ℕ) (rows : Rows) : Type 0 where
  pub ascending : AllPairs (λ r s. is_key_before r.0 s.0 ≡ true) rows
  pub exact : (key : TallyKey) (n : ℕ) → Contains rows (key, n) ↔ ((n ≡ count key) × (0 < n))
