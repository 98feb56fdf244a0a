use Rattle.gcl_lex.proofs.OnePiece.{longest_here}
use Rattle.gcl_lex.proofs.lexing.ends_here.Goals as goal

pub returns : goal.returns
returns c k bytes rest h e = longest_here k bytes rest h e
