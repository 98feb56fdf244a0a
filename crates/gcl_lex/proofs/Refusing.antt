-- What the errors of `lex` say of a text.
use Rattle.std.proofs.Common.{◌≡◌, ℕ, ◌<◌, ◌≤◌, refl, List, length, take, Some}
use Rattle.gcl_core.specs.declared.tokens.PieceKind.{PieceKind}
use Rattle.gcl_core.specs.declared.tokens.Token.{Token}
use Rattle.gcl_core.specs.text.Pieces.{Longest, NoPiece}
use Rattle.gcl_core.specs.text.Lexing.{LexRefusal, bad_byte, IsRefused, no_piece, wide_number, long_name}
use Rattle.gcl_core.specs.declared.rules.TheConstants.{LONGEST_TEXT}
use Rattle.gcl_lex.specs.declared.error.LexError.{LexError}
use Rattle.gcl_lex.specs.Lexes.{refusal_named, Refuses}
use Rattle.gcl_lex.specs.inner.Reads.{Stops, too_wide, too_long}
use Rattle.gcl_lex.proofs.PieceByPiece.{taken, Reading, reached}
use Rattle.gcl_lex.proofs.OneReading.{apart, refusal_once}

pub refuses : {text : List ℕ} {r : LexRefusal} {e : LexError} → IsRefused text r → refusal_named e ≡ Some r → Refuses text e
refuses {text} {r} i h = record {
  refused = λ x q. let same : x ≡ r = cc in rw same i;
  only = λ x q s j. let same : x ≡ r = cc in rw same (refusal_once text s r j i);
  no_tokens = λ x q ts l. apart text ts r l i;
}

-- a piece that may not stand
pub piece_stops : {text rest : List ℕ} {at : ℕ} {found : List Token} {k : PieceKind} {n : ℕ} {e : LexError} → length text ≤ LONGEST_TEXT → Reading text rest at found → Longest k rest n → Stops k (take n rest) at e → Refuses text e
piece_stops h r l (too_wide w) = refuses (wide_number (reached h r) l w) refl
piece_stops h r l (too_long w) = refuses (long_name (reached h r) l (rw (taken l) at w)) refl

-- no piece begins at the rest
pub rest_stops : {text rest : List ℕ} {at : ℕ} {found : List Token} → length text ≤ LONGEST_TEXT → Reading text rest at found → 0 < length rest → NoPiece rest → IsRefused text (bad_byte at)
rest_stops h r some none = no_piece (reached h r) some none
