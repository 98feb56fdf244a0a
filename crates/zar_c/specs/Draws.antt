-- What a call for draws is asked.
use Rattle.std.specs.Prelude.{◌≡◌, ℕ, ◌≤◌}
use Rattle.gcl_core.specs.declared.answers.Limits.{Limits}
use Rattle.gcl_core.specs.meaning.LimitRange.{InRange}
use Rattle.zar_c.specs.Places.{CanFill}
use Rattle.zar_c.specs.declared.asking.ZarLimits.{ZarLimits}
use Rattle.zar_io.specs.declared.stream_bits.TheConstants.{MOST_BUDGET}

abbrev pub limits_of : ZarLimits → Limits
limits_of l = record { turns = l.turns; attempts = l.attempts; rounds = l.rounds }

-- the limits are in range, and the places can be filled
pub record CanDraw (l : ZarLimits) (first values ends : ℕ) : Type 0 where
  pub limits : InRange (limits_of l)
  pub places : CanFill l.budget first values ends

-- the limits and the budget are in range, and the two arrays have one length
pub record CanDrawInARow (l : ZarLimits) (values ends : ℕ) : Type 0 where
  pub limits : InRange (limits_of l)
  pub budget_in : l.budget ≤ MOST_BUDGET
  pub alike : ends ≡ values
