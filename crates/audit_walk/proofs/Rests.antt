-- The rest of a run: behind a bit, where it has ended and where it needs one.
use Rattle.std.proofs.Common.{◌≡◌, ℕ, Bool, List, [], ◌∷◌, refl, sym, ap}
use Rattle.std.specs.Prelude.{◌↔◌}
use Rattle.gcl_core.specs.declared.answers.Answer.{Answer}
use Rattle.gcl_core.specs.declared.answers.Answer.TheVariants.{Ended, MoreBits}
use Rattle.gcl_core.specs.declared.answers.Outcome.{Outcome}
use Rattle.sampler_code.specs.Running.{Reached}
use Rattle.sampler_run.specs.declared.machine.Progress.TheVariants as progress
use Rattle.sampler_run.specs.Held.{Held, Ahead, IsRestOf, StandsAfter}
use Rattle.sampler_run.specs.Telling.{Tells, progress_in}

-- ---- another state

pub rest_here : (s t : Held) (run : List Bool → Answer) → StandsAfter [] s t → IsRestOf s run → IsRestOf t run
rest_here s t run h r v = let d = r v in (d.0, (h v (record { answer = run v; place = d.0 })).1 d.1)

pub rest_behind : (b : Bool) (s t : Held) (run : List Bool → Answer) → StandsAfter (b ∷ []) s t → IsRestOf s run →
    IsRestOf t (λ v. run (b ∷ v))
rest_behind b s t run h r v = let d = r (b ∷ v) in (d.0, (h v (record { answer = run (b ∷ v); place = d.0 })).1 d.1)

-- ---- what a state tells

ended_by : (a : Answer) (x : Outcome) → progress.Ended x ≡ progress_in a → (read : ℕ) × (a ≡ Ended x read)
ended_by (MoreBits n) x h = absurd (cc)
ended_by (Ended y n) x h = (n, let e : x ≡ y = cc in ap (λ z. Ended z n) (sym e))

more_by : (a : Answer) → progress.NeedBit ≡ progress_in a → (read : ℕ) × (a ≡ MoreBits read)
more_by (MoreBits n) h = (n, refl)
more_by (Ended y n) h = absurd (cc)

-- where it has ended, it answers its end on all further bits
pub ends_on : (s : Held) (run : List Bool → Answer) (x : Outcome) → IsRestOf s run → Tells s (progress.Ended x) →
    ((v : List Bool) (a : Reached) → Ahead s v a ↔ Ahead s [] a) → (v : List Bool) → (read : ℕ) × (run v ≡ Ended x read)
ends_on s run x r told stays v =
    let d = r v in
    let a : Reached = record { answer = run v; place = d.0 } in
    ended_by (run v) x (told a ((stays v a).0 d.1))

pub needs_on : (s : Held) (run : List Bool → Answer) → IsRestOf s run → Tells s progress.NeedBit → (read : ℕ) × (run [] ≡ MoreBits read)
needs_on s run r told = let d = r [] in more_by (run []) (told (record { answer = run []; place = d.0 }) d.1)
