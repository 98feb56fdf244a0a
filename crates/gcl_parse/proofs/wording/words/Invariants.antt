use Rattle.std.proofs.Common.{drop}
use Rattle.gcl_parse.proofs.Naming.{Reading}
use Rattle.gcl_parse.proofs.wording.words.Given as goal

abbrev pub invariant-loop-token : goal.invariant-loop-token
invariant-loop-token l = Reading l.text l.tokens (drop l.token-index l.tokens) l.words.items l.names
