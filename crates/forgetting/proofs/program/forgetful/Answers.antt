use Rattle.std.proofs.Common.{◌∙◌, ap, sym, subst}
use Rattle.gcl_core.specs.meaning.Checked.{IsChecked}
use Rattle.gcl_core.specs.meaning.Views.{source_of}
use Rattle.forgetting.proofs.program.forgetful.Goals as goal

pub of-requires : goal.of-requires
of-requires c = subst IsChecked (sym c.in_ok-program.ensures) (c.forgetting_keeps_programs_checked.ensures (source_of c.args.p.now) c.is_kept.ensures.kept)

pub returns : goal.returns
returns c = ap source_of c.of.ensures ∙ c.in_ok-program.ensures
