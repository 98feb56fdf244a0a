use Rattle.std.proofs.Common.{◌∙◌, ap}
use Rattle.stream_runs.specs.Keys.{key_of_answer}
use Rattle.stream_runs.proofs.running.run_on_stream.Goals as goal

pub returns-clause-key : goal.returns-clause-key
returns-clause-key c = λ run is. c.key_of_answer.ensures ∙ ap key_of_answer (c.answer_on_stream.ensures.answer run is)
