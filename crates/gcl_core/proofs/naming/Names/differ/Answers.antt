use Rattle.std.proofs.Common.{subst}
use Rattle.std.specs.List.{IsDistinct}
use Rattle.gcl_core.specs.text.Names.{same_name}
use Rattle.gcl_core.proofs.DistinctNames.{distinct_seen}
use Rattle.gcl_core.proofs.naming.Names.differ.Goals as goal

pub returns : goal.returns
returns c = subst (IsDistinct same_name) c.self.view_is (distinct_seen (λ v. v.items) same_name c.self.inside.set.keys c.len.ensures.unique)
