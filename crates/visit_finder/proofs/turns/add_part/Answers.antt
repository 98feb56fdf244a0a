use Rattle.std.proofs.Common.{rules}
use Rattle.visit_finder.proofs.turns.add_part.Goals as goal

pub returns-in-Vacant-clause-ok : goal.returns-in-Vacant-clause-ok
returns-in-Vacant-clause-ok c = (search rules, (c.args.part.now, search rules, search rules))
