-- What a roll over a source of bits says of its answer and of the source. This project's own rule.
use Rattle.std.specs.Prelude.{◌≡◌, ℕ, ◌<◌, ◌≤◌, Bool, true, List, length, take, drop, Result, Ok, Err}
use Rattle.zar_io.specs.declared.outside.Failed.{Failed}
use Rattle.dice_roll.specs.declared.answers.Roll.{Roll}
use Rattle.dice_roll.specs.declared.answers.Roll.TheVariants.{Label, Limit, MoreBits}

-- the flips that were made
abbrev pub flips_made : Roll → ℕ
flips_made (Label c n) = n
flips_made (Limit n) = n
flips_made (MoreBits n) = n

-- Of these bits a roll took those that it counts, and the others are left. It needed each: on those before it the same roll, as a
-- function of its bits, gives no label.
pub record TookEach (rolls : List Bool → Roll) (r : Roll) (bits left : List Bool) : Type 0 where
  pub enough : flips_made r ≤ length bits
  pub left_is : left ≡ drop (flips_made r) bits
  pub needed : (k : ℕ) → k < flips_made r → rolls (take k bits) ≡ MoreBits k

-- an answer of a roll among m labels with a limit of flips: a label is one of the m, the limit is reached at the
-- last flip, and where bits are missing a flip was still to be made
abbrev pub IsWithin : ℕ → ℕ → Roll → Type 0
IsWithin m flips (Label c n) = (c < m) × (n ≤ flips)
IsWithin m flips (Limit n) = n ≡ flips
IsWithin m flips (MoreBits n) = n < flips

-- the same by an answer
abbrev ended_at : Roll → Bool → Bool
ended_at (MoreBits n) had_ended = true
ended_at (Label c n) had_ended = had_ended
ended_at (Limit n) had_ended = had_ended

-- the bits have ended where a flip needed one that was not there
abbrev pub ended_by : Result Roll Failed → Bool → Bool
ended_by (Ok r) had_ended = ended_at r had_ended
ended_by (Err _) had_ended = had_ended
