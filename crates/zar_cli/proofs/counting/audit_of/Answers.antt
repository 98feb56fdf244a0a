use Rattle.std.proofs.Common.{refl}
use Rattle.count_lines.specs.AuditLines.{AreAuditLines}
use Rattle.gcl_core.specs.meaning.Runs.{run_on}
use Rattle.gcl_core.specs.meaning.Views.{source_of}
use Rattle.zar_cli.proofs.counting.audit_of.Goals as goal

pub returns : goal.returns
returns g c =
    let p = source_of c.args.program.now in
    let l = c.args.limits.now in
    let is : AreAuditLines p c.args.depth l c.args.decimals c.in_ok-text.text = record {
      rows = c.in_ok-found.found.rows;
      undecided = c.in_ok-found.found.undecided;
      counted = c.in_ok-found.ensures.runs (run_on p l) (c.in_ok-sampler.ensures.sampler.runs l c.requires.limits);
      lines = c.in_ok-text.ensures;
    } in
    record { gives = λ file. (c.in_ok-text.text, is, refl) }
