use Rattle.std.proofs.Common.{◌∙◌}
use Rattle.visit_finder.proofs.Members.{found_among}
use Rattle.visit_finder.proofs.turns.may_leave.Goals as goal

pub returns : goal.returns
returns c = c.contains_key.ensures ∙ found_among c.args.number c.args.leaving.now.entries
