-- The value and the end of a run go by its outcome, and not by how many bits it read.
use Rattle.std.proofs.Common.{◌≡◌, ℕ, refl}
use Rattle.gcl_core.specs.declared.answers.Answer.TheVariants.{Ended}
use Rattle.gcl_core.specs.declared.answers.Fault.TheVariants.{Overflow, ZeroDivisor, BadBound}
use Rattle.gcl_core.specs.declared.answers.Limit.TheVariants.{Turns, Attempts, Rounds}
use Rattle.gcl_core.specs.declared.answers.Outcome.{Outcome}
use Rattle.gcl_core.specs.declared.answers.Outcome.TheVariants.{Value, Fault, Limit}
use Rattle.stream_runs.specs.Ends.{end_of, value_of}

pub value_alike : (x : Outcome) (m n : ℕ) → value_of (Ended x m) ≡ value_of (Ended x n)
value_alike (Value v) m n = refl
value_alike (Fault f) m n = refl
value_alike (Limit l) m n = refl

pub end_alike : (x : Outcome) (m n : ℕ) → end_of (Ended x m) ≡ end_of (Ended x n)
end_alike (Value v) m n = refl
end_alike (Fault Overflow) m n = refl
end_alike (Fault ZeroDivisor) m n = refl
end_alike (Fault BadBound) m n = refl
end_alike (Limit Turns) m n = refl
end_alike (Limit Attempts) m n = refl
end_alike (Limit Rounds) m n = refl
