use Rattle.std.proofs.Common.{length}
use Rattle.gcl_lex.proofs.PieceByPiece.{Reading}
use Rattle.gcl_lex.proofs.lexing.lex.Given as goal

abbrev pub invariant-loop-front : goal.invariant-loop-front
invariant-loop-front l = Reading l.text l.rest l.start l.tokens.items

abbrev pub decreases-loop-front : goal.decreases-loop-front
decreases-loop-front l = length l.rest
