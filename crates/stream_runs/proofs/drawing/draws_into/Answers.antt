use Rattle.std.proofs.Common.{[], sym, subst, ◌∙◌}
use Rattle.sampler_run.specs.Held.{Held, IsRestOf, StandsAfter}
use Rattle.stream_runs.proofs.drawing.draws_into.Goals as goal

pub fill-requires-clause-home : goal.fill-requires-clause-home
fill-requires-clause-home c =
    let start = c.in_ok-home.ensures.start in
    record { stands = subst (λ (s : Held). StandsAfter [] s c.in_ok-home.home) (sym start) c.in_ok-home.ensures.rest; same = c.in_ok-state.ensures.same_start }

pub returns-clause-drawn : goal.returns-clause-drawn
returns-clause-drawn c = λ run is. c.fill.ensures run (subst (λ (h : Held). IsRestOf h run) (sym (c.in_ok-state.ensures.same_start ∙ c.in_ok-home.ensures.start)) is)
