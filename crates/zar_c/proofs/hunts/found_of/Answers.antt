use Rattle.gcl_core.specs.meaning.Runs.{run_on}
use Rattle.gcl_core.specs.meaning.Views.{source_of}
use Rattle.zar_c.proofs.hunts.found_of.Goals as goal

pub returns : goal.returns
returns c =
    let l = c.args.l.now in
    record {
      stream = c.in_ok-stream.stream;
      least = c.in_ok-stream.ensures.found (run_on (source_of c.args.program.now) l) (c.in_ok-sampler.ensures.sampler.runs l c.requires.limits);
      told = c.found_by.ensures;
    }
