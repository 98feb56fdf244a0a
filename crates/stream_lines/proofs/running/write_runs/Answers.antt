use Rattle.std.proofs.Common.{refl, [], sym, subst}
use Rattle.gcl_core.specs.meaning.Runs.{run_on}
use Rattle.gcl_core.specs.meaning.Views.{source_of}
use Rattle.sampler_run.specs.Held.{Held, IsRestOf, StandsAfter, set_back}
use Rattle.stream_lines.proofs.running.write_runs.Goals as goal

pub workers_of-requires : goal.workers_of-requires
workers_of-requires g c =
    let start = c.in_ok-home.ensures.start in
    record { stands = subst (λ (s : Held). StandsAfter [] s c.in_ok-home.home) (sym start) c.in_ok-home.ensures.rest; same = refl }

pub returns-clause-written : goal.returns-clause-written
returns-clause-written g c =
    let is : IsRestOf (set_back c.in_ok-home.home) (run_on (source_of c.args.program.now) c.args.limits.now) =
    subst (λ (h : Held). IsRestOf h (run_on (source_of c.args.program.now) c.args.limits.now)) (sym c.in_ok-home.ensures.start)
    (c.in_ok-sampler.ensures.sampler.runs c.args.limits.now c.requires.limits) in
    c.write_behind.ensures (run_on (source_of c.args.program.now) c.args.limits.now) is
