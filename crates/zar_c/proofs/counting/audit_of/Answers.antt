use Rattle.std.proofs.Common.{◌≡◌, subst}
use Rattle.count_lines.specs.AuditLines.{audit_text}
use Rattle.gcl_core.specs.meaning.Runs.{run_on}
use Rattle.gcl_core.specs.meaning.Views.{source_of}
use Rattle.zar_c.proofs.counting.audit_of.Goals as goal

pub returns : goal.returns
returns c =
    let p = source_of c.args.program.now in
    let l = c.args.l.now in
    record {
      rows = c.in_ok-found.found.rows;
      undecided = c.in_ok-found.found.undecided;
      counted = c.in_ok-found.ensures.runs (run_on p l) (c.in_ok-sampler.ensures.sampler.runs l c.requires.limits);
      lines = subst (λ d. c.in_ok-text.text ≡ audit_text c.args.depth d c.in_ok-found.found.rows c.in_ok-found.found.undecided) c.none.ensures c.in_ok-text.ensures;
    }
