-- A text has tokens or a refusal.
use Rattle.std.proofs.Common.{◌≡◌, ℕ, zero, suc, ◌<◌, ◌≤◌, refl, arith, Bool, true, false, nat_le, List, [], ◌∷◌, length, take, drop, length-drop, Option, Some, None, ◌⊎◌, inl, inr}
use Rattle.std.specs.Str.Parse.{digits_value}
use Rattle.std.proofs.lemmas.Bool.{cases_lt}
use Rattle.std.proofs.lemmas.Bool.Decides.{nat_tests}
use Rattle.gcl_core.specs.declared.tokens.PieceKind.{PieceKind}
use Rattle.gcl_core.specs.declared.tokens.PieceKind.TheVariants as kind
use Rattle.gcl_core.specs.declared.tokens.Token.{Token}
use Rattle.gcl_core.specs.text.Pieces.{Longest}
use Rattle.gcl_core.specs.text.Lexing.{may_stand, IsLexed, LexRefusal, text_too_long, bad_byte, number_too_wide, name_too_long, PiecesReach, IsRefused, long_text, wide_number, long_name}
use Rattle.gcl_core.specs.declared.rules.TheConstants.{LONGEST_TEXT, GREATEST_LITERAL, LONGEST_NAME}
use Rattle.gcl_lex.specs.declared.cutting.Front.{Front}
use Rattle.gcl_lex.specs.inner.Cutting.{front_of}
use Rattle.gcl_lex.proofs.Cuts.{front_is, no_front, some_len}
use Rattle.gcl_lex.proofs.PieceByPiece.{taken, Reading, nothing_read, piece_read, reached, text_read}
use Rattle.gcl_lex.proofs.Refusing.{rest_stops}

abbrev Answered : List ℕ → Type 0
Answered text = ((ts : List Token) × IsLexed text ts) ⊎ ((r : LexRefusal) × IsRefused text r)

failing_is_above : (n most : ℕ) → nat_le n most ≡ false → most < n
failing_is_above n most h = grind (arith, nat_tests)

-- a piece that may not stand is a number that is too wide or a name that is too long
piece_refused : {text rest : List ℕ} {at n : ℕ} (k : PieceKind) → PiecesReach text at rest → Longest k rest n → may_stand k (take n rest) ≡ false → (r : LexRefusal) × IsRefused text r
piece_refused kind.Blank r l h = cc
piece_refused kind.Comment r l h = cc
piece_refused {rest = rest} {at = at} {n = n} kind.Number r l h = (number_too_wide at, wide_number r l (failing_is_above (digits_value 10 (take n rest)) GREATEST_LITERAL h))
piece_refused {rest = rest} {at = at} {n = n} kind.Name r l h = (name_too_long at, long_name r l (failing_is_above n LONGEST_NAME (rw (taken l) at h)))
piece_refused kind.Symbol r l h = cc

-- the longest piece at the front of a rest, where there is one, may stand or not, and what follows it is shorter
one_more : {text : List ℕ} (n : ℕ) (rest : List ℕ) {at : ℕ} {found : List Token} → length text ≤ LONGEST_TEXT → 0 < length rest → length rest ≤ suc n → Reading text rest at found
    → ((shorter : List ℕ) (at : ℕ) (found : List Token) → length shorter ≤ n → Reading text shorter at found → Answered text) → (front : Option Front) → front_of rest ≡ front → Answered text
one_more n rest {at} {found} short some le r go None e = inr (bad_byte at, rest_stops short r some (no_front rest e))
one_more {text} n rest {at} {found} short some le r go (Some f) e = by_piece (front_is rest f e) (may_stand f.kind (take f.len rest)) refl
  where
    by_piece : Longest f.kind rest f.len → (b : Bool) → may_stand f.kind (take f.len rest) ≡ b → Answered text
    by_piece l true h =
        let less = some_len f.kind rest f.len l in
        let behind = length-drop f.len rest in
        go (drop f.len rest) _ _ (omega (arith, le, less, behind)) (piece_read r l (record { stands = h; kind = refl }))
    by_piece l false h = inr (piece_refused f.kind (reached short r) l h)

read_on : {text : List ℕ} (n : ℕ) (rest : List ℕ) (at : ℕ) (found : List Token) → length text ≤ LONGEST_TEXT → length rest ≤ n → Reading text rest at found → Answered text
read_on n [] at found short le r = inl (found, text_read short r refl)
read_on zero (b ∷ rest) at found short le r = absurd (omega arith)
read_on (suc n) (b ∷ rest) at found short le r = one_more n (b ∷ rest) short (omega arith) le r (λ shorter at found. read_on n shorter at found short) (front_of (b ∷ rest)) refl

pub answered : (text : List ℕ) → Answered text
answered text = elim (cases_lt LONGEST_TEXT (length text)) [ inl h ↦ inr (text_too_long, long_text h) | inr h ↦ read_on (length text) text 0 [] h (omega arith) (nothing_read text) ]
