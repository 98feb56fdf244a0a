-- The most bits that a run still reads within the bound on its steps: a number that falls with each bit that it is fed.
use Rattle.std.specs.Prelude.{ℕ, zero, suc, max, Bool, true, false, List, [], ◌∷◌, Option, Some, None}
use Rattle.gcl_core.specs.declared.answers.Answer.{Answer}
use Rattle.gcl_core.specs.declared.answers.Answer.TheVariants.{Ended, MoreBits}
use Rattle.sampler_code.specs.Running.{Reached}
use Rattle.sampler_code.specs.inner.Bounded.{most_steps, rest_of}
use Rattle.sampler_run.specs.Held.{Held}

abbrev pub more_after : Answer → ℕ → ℕ
more_after (MoreBits u) n = suc n
more_after (Ended x u) n = 0

abbrev pub more_of : Option Reached → ℕ → ℕ
more_of None n = 0
more_of (Some s) n = more_after s.answer n

-- of at most k
unfoldable pub deepest : ℕ → (List Bool → Option Reached) → ℕ
deepest zero f = 0
deepest (suc k) f = more_of (f []) (max (deepest k (λ v. f (false ∷ v))) (deepest k (λ v. f (true ∷ v))))

abbrev pub most_bits_to_come : Held → ℕ
most_bits_to_come s = deepest (most_steps s.code s.limits) (rest_of s.code s.limits s.machine)
