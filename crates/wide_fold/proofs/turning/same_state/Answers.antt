use Rattle.std.proofs.Common.{sym, ◌∙◌}
use Rattle.mass_fold.proofs.Entries.{same_is}
use Rattle.wide_fold.proofs.turning.same_state.Goals as goal

pub returns : goal.returns
returns c = λ e. (same_is c.args.state.now c.args.other.now).0 (sym c.eq.ensures ∙ e)
