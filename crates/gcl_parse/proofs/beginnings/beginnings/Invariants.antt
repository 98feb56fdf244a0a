use Rattle.std.proofs.Common.{◌≡◌, ◌++◌, length}
use Rattle.gcl_parse.specs.inner.Beginnings.{beginnings}
use Rattle.gcl_parse.proofs.beginnings.beginnings.Given as goal

abbrev pub invariant-loop-token : goal.invariant-loop-token
invariant-loop-token l = l.places.items ++ beginnings l.rest ≡ beginnings l.tokens

abbrev pub decreases-loop-token : goal.decreases-loop-token
decreases-loop-token l = length l.rest
