use Rattle.std.proofs.Common.{[], None, Bool, List, sym, subst}
use Rattle.zar_io.specs.Trace.{World}
use Rattle.zar_io.specs.StreamBits.{stream_bits}
use Rattle.sampler_run.specs.Held.{Held, Ahead, StandsAfter, set_back}
use Rattle.sampler_run.specs.Sampled.{reached_by}
use Rattle.stream_runs.proofs.OneAnswer.{answer_reached}
use Rattle.stream_runs.proofs.running.answer_on_stream.Goals as goal

pub returns-clause-answer : goal.returns-clause-answer
returns-clause-answer c = λ run is. let none : World = λ name. None in let a = reached_by c.in-Ok.stop in let bits : List Bool = stream_bits c.args.seed c.args.stream c.args.budget in
    let start = set_back c.args.state.now in
    let stands = subst (λ (s : Held). StandsAfter [] s c.args.home.now) (sym c.requires.home.same) c.requires.home.stands in
    let reached = subst (λ (w : List Bool). Ahead c.fork_from.new.self w a) (c.begin.ensures.left none) (c.in-Ok.ensures.answer none tt) in
    answer_reached start c.fork_from.new.self run bits a (subst (λ (s : Held). StandsAfter [] start s) (sym c.fork_from.ensures) stands) reached is
