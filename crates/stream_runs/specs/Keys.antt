-- The key of a run, by which runs are counted and sought. Which key a run has is this project's own rule.
use Rattle.std.specs.Prelude.{ℕ, Bool, List}
use Rattle.gcl_core.specs.declared.answers.Answer.{Answer}
use Rattle.gcl_core.specs.declared.answers.Answer.TheVariants.{Ended}
use Rattle.gcl_core.specs.declared.answers.Answer.TheVariants as answer
use Rattle.gcl_core.specs.declared.answers.TallyKey.{TallyKey}
use Rattle.gcl_core.specs.declared.answers.TallyKey.TheVariants.{Outcome, MoreBits}
use Rattle.zar_io.specs.StreamBits.{stream_bits}

-- the key of a run by its answer: the outcome, or that it needed more bits
abbrev pub key_of_answer : Answer → TallyKey
key_of_answer (Ended x used) = Outcome x
key_of_answer (answer.MoreBits used) = MoreBits

-- the key of a run on the first bits of a stream
abbrev pub key_on : (List Bool → Answer) → ℕ → ℕ → ℕ → TallyKey
key_on run seed budget stream = key_of_answer (run (stream_bits seed stream budget))
