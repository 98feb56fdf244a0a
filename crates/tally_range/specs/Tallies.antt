-- Rows that are a tally: keys ascending, and counts above 0.
use Rattle.std.specs.Prelude.{◌≡◌, ◌&&◌, Bool, true, nat_lt, [], ◌∷◌}
use Rattle.gcl_core.specs.declared.answers.TallyKey.{TallyKey}
use Rattle.gcl_core.specs.meaning.Order.{is_key_before}
use Rattle.tally_range.specs.Rows.{Rows}

-- the key is before that of each row
abbrev pub is_before_all : TallyKey → Rows → Bool
is_before_all key [] = true
is_before_all key (r ∷ rows) = is_key_before key r.0 && is_before_all key rows

-- each key is before all that come after it
abbrev pub keys_ascend : Rows → Bool
keys_ascend [] = true
keys_ascend (r ∷ rows) = is_before_all r.0 rows && keys_ascend rows

abbrev pub counts_are_above_zero : Rows → Bool
counts_are_above_zero [] = true
counts_are_above_zero (r ∷ rows) = nat_lt 0 r.1 && counts_are_above_zero rows

pub record IsTally (rows : Rows) : Type 0 where
  pub ascending : keys_ascend rows ≡ true
  pub above_zero : counts_are_above_zero rows ≡ true
