use Rattle.terminal.specs.declared.keeping.TheConstants.{MOST_KEPT}
use Rattle.terminal.proofs.KeptLemmas.{kept_then}
use Rattle.terminal.proofs.keeping.keep.Goals as goal

pub returns-clause-kept : goal.returns-clause-kept
returns-clause-kept c =
    kept_then MOST_KEPT c.args.length c.min-n.result _ c.args.kept.now c.copy_from_slice.new.self c.args.piece.now
    c.told-kept c.requires c.min-n.ensures c.copy_from_slice.ensures.after
