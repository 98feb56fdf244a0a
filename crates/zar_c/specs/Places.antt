-- What a call is asked that is to fill the places of two arrays by streams.
use Rattle.std.specs.Prelude.{◌≡◌, ℕ, ◌+◌, ◌≤◌, ◌^◌}
use Rattle.zar_io.specs.declared.stream_bits.TheConstants.{MOST_BUDGET}

-- The budget is in range, the two arrays have one length, and each stream has a number of 64 bits.
pub record CanFill (budget first values ends : ℕ) : Type 0 where
  pub budget_in : budget ≤ MOST_BUDGET
  pub alike : ends ≡ values
  pub fits : first + values ≤ 2 ^ 64
