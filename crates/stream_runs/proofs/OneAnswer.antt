-- A run has one answer on each string, so what a state reaches is what any run of the code says.
use Rattle.std.proofs.Common.{◌≡◌, Bool, List, [], ap}
use Rattle.gcl_core.specs.declared.answers.Answer.{Answer}
use Rattle.sampler_code.specs.Running.{Reached}
use Rattle.sampler_code.proofs.Steps.{one_reached}
use Rattle.sampler_run.specs.Held.{Held, Ahead, IsRestOf, StandsAfter}

-- what is reached is what a function that is the run gives
pub reached_run : (s : Held) (run : List Bool → Answer) (w : List Bool) (a : Reached) → IsRestOf s run → Ahead s w a → a.answer ≡ run w
reached_run s run w a is reached = ap (λ (b : Reached). b.answer) (one_reached s.code s.limits s.machine w a (record { answer = run w; place = (is w).0 }) reached (is w).1)

-- two functions that are the run agree
pub runs_agree : (s : Held) (run other : List Bool → Answer) → IsRestOf s run → IsRestOf s other → (w : List Bool) → run w ≡ other w
runs_agree s run other is also w = reached_run s other w (record { answer = run w; place = (is w).0 }) also (is w).1

-- a run from the start reaches what a state reaches that stands before its first bit
pub answer_reached : (s t : Held) (run : List Bool → Answer) (w : List Bool) (a : Reached) → StandsAfter [] s t → Ahead t w a → IsRestOf s run → a.answer ≡ run w
answer_reached s t run w a stands reached is = reached_run s run w a is ((stands w a).0 reached)
