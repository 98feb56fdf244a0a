use Rattle.count_lines.proofs.Counted.{counted_keys}
use Rattle.gcl_core.specs.meaning.Runs.{run_on}
use Rattle.gcl_core.specs.meaning.Views.{source_of}
use Rattle.zar_cli.proofs.counting.tally_text.Goals as goal

pub returns : goal.returns
returns g c =
    let p = source_of c.args.program.now in
    let l = c.args.limits.now in
    record {
      rows = c.in_ok-found.found;
      counted = counted_keys p l c.args.range.now c.in_ok-found.found (c.in_ok-found.ensures.rows (run_on p l) (c.in_ok-sampler.ensures.sampler.runs l c.requires.limits));
      lines = c.in_ok-text.ensures;
    }
