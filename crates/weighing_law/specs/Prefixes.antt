-- Where a string of bits is just read to an end: the run ends on it, and needs more bits on each shorter front of it. Samplers on
-- fair bits read so, bit by bit and no further than to their end.
use Rattle.std.specs.Prelude.{◌≡◌, ℕ, ◌≤◌, Bool, true, false, ◌&&◌, List, [], ◌∷◌, ◌++◌, length, take, IsTrue}
use Rattle.gcl_core.specs.declared.answers.Answer.{Answer}
use Rattle.gcl_core.specs.declared.answers.Answer.TheVariants.{Ended, MoreBits}
use Rattle.gcl_core.specs.declared.answers.Outcome.{Outcome}
use Rattle.gcl_core.specs.meaning.Outcomes.{same_outcome}
use Rattle.gcl_core.specs.meaning.Runs.{capped}

abbrev pub has_ended_in : Outcome → Answer → Bool
has_ended_in x (Ended y read) = same_outcome x y
has_ended_in x (MoreBits read) = false

abbrev pub needs_more : Answer → Bool
needs_more (Ended x read) = false
needs_more (MoreBits read) = true

-- the test passes for each front of the string that is shorter than it
abbrev pub each_shorter_front : (List Bool → Bool) → List Bool → Bool
each_shorter_front test [] = true
each_shorter_front test (b ∷ w) = test [] && each_shorter_front (λ u. test (b ∷ u)) w

abbrev pub is_just_read : (List Bool → Answer) → Outcome → List Bool → Bool
is_just_read run x w = each_shorter_front (λ u. needs_more (run u)) w && has_ended_in x (run w)

-- some number of first bits of the string, which is the count, is just read to the outcome; the count saturates at 2 ^ 64 - 1
abbrev pub IsReadTo : (List Bool → Answer) → Outcome → ℕ → List Bool → Type 0
IsReadTo run x read w = (k : ℕ) × (k ≤ length w) × (read ≡ capped k) × IsTrue (is_just_read run x (take k w))

-- A run that has ended stays as it is on every longer string, its count of bits included, and the bits that it has read are a
-- string that is just read to its end. One that needs more has read all bits. No string that is just read to an end is the front
-- of another that is.
pub record ReadsInOrder (run : List Bool → Answer) : Type 0 where
  pub stays : (x : Outcome) (read : ℕ) (u v : List Bool) → run u ≡ Ended x read → run (u ++ v) ≡ Ended x read
  pub just_read : (x : Outcome) (read : ℕ) (w : List Bool) → run w ≡ Ended x read → IsReadTo run x read w
  pub all_read : (read : ℕ) (w : List Bool) → run w ≡ MoreBits read → read ≡ capped (length w)
  pub apart : (x y : Outcome) (u v : List Bool) → IsTrue (is_just_read run x u) → IsTrue (is_just_read run y (u ++ v)) → v ≡ []
