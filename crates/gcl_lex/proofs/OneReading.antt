-- A text has one list of tokens or one refusal.
use Rattle.std.proofs.Common.{◌≡◌, ℕ, ◌<◌, ◌∙◌, refl, ap, sym, arith, true, false, nat_le, List, [], length, take}
use Rattle.std.specs.List.{list_all}
use Rattle.std.specs.Str.Parse.{digits_value}
use Rattle.std.proofs.lemmas.Bool.Decides.{nat_tests}
use Rattle.gcl_core.specs.declared.tokens.PieceKind.{PieceKind}
use Rattle.gcl_core.specs.declared.tokens.PieceKind.TheVariants as kind
use Rattle.gcl_core.specs.declared.tokens.Token.{Token}
use Rattle.gcl_core.specs.text.Pieces.{Longest, NoPiece, Piece, Leads, no_piece_more, one_piece_more}
use Rattle.gcl_core.specs.text.Tokens.{tokens_of}
use Rattle.gcl_core.specs.text.Lexing.{may_stand, stands, IsLexed, LexRefusal, bad_byte, number_too_wide, name_too_long, PiecesReach, IsRefused, long_text, no_piece, wide_number, long_name}
use Rattle.gcl_core.specs.declared.rules.TheConstants.{LONGEST_TEXT, GREATEST_LITERAL, LONGEST_NAME}
use Rattle.gcl_core.proofs.Booleans.{both}
use Rattle.gcl_lex.proofs.Cuts.{some_len}
use Rattle.gcl_lex.proofs.OneCut.{one_length, one_kind, no_longest}
use Rattle.gcl_lex.proofs.PieceByPiece.{taken}

-- no piece that may stand begins at the front
record Ends (text : List ℕ) : Type 0 where
  ends : {k : PieceKind} {n : ℕ} → Longest k text n → may_stand k (take n text) ≡ false

ends_empty : Ends []
ends_empty = record { ends = λ {k} {n} l. absurd (let z = some_len k [] n l in let w = l.within in omega (arith, z, w)) }

ends_nowhere : {text : List ℕ} → NoPiece text → Ends text
ends_nowhere h = record { ends = λ {k} {n} l. absurd (let e = h k n l.within in let i = l.is in cc) }

-- the one piece at the front
same_piece : {k other : PieceKind} {text : List ℕ} {n m : ℕ} → Longest k text n → Longest other text m → (k ≡ other) × (n ≡ m)
same_piece {text = text} {n = n} {m = m} p q =
    let e = one_length text n m p q in
    (one_kind text n p (rw (← e) at q), e)

above_fails : (n most : ℕ) → most < n → nat_le n most ≡ false
above_fails n most h = grind (arith, nat_tests)

ends_at : {k : PieceKind} {text : List ℕ} {n : ℕ} → Longest k text n → may_stand k (take n text) ≡ false → Ends text
ends_at {text = text} p h = record { ends = λ {k = other} {n = m} q. let e = same_piece p q in rw (← e.0, ← e.1) h }

record Same (ps qs : List Piece) (a b : List ℕ) : Type 0 where
  pieces : ps ≡ qs
  rest : a ≡ b

one_way : {text a b : List ℕ} {ps qs : List Piece} → Leads text ps a → list_all stands ps ≡ true → Ends a → Leads text qs b → list_all stands qs ≡ true → Ends b → Same ps qs a b
one_way no_piece_more h e no_piece_more g f = record { pieces = refl; rest = refl }
one_way no_piece_more h e (one_piece_more {text = text} {k = k} {n = n} {ps = ps} l r) g f =
    absurd (let x = e.ends l in let z = (both (may_stand k (take n text)) (list_all stands ps) g).0 in cc)
one_way (one_piece_more {text = text} {k = k} {n = n} {ps = ps} l r) h e no_piece_more g f =
    absurd (let x = f.ends l in let z = (both (may_stand k (take n text)) (list_all stands ps) h).0 in cc)
one_way (one_piece_more {text = text} {k = k} {n = n} {ps = ps} l r) h e (one_piece_more {k = other} {n = m} {ps = qs} p q) g f =
    let s = same_piece l p in
    let x = (both (may_stand k (take n text)) (list_all stands ps) h).1 in
    let y = (both (may_stand other (take m text)) (list_all stands qs) g).1 in
    let i = one_way r x e (rw (← s.1) at q) y f in
    record { pieces = (let u = i.pieces in let v = s.0 in let w = s.1 in cc); rest = i.rest }

-- ---- the answers

pub tokens_once : (text : List ℕ) (ts us : List Token) → IsLexed text ts → IsLexed text us → ts ≡ us
tokens_once text ts us a b = a.all ∙ ap tokens_of (one_way a.cut a.stand ends_empty b.cut b.stand ends_empty).pieces ∙ sym b.all

none_stands : {text : List ℕ} {k : PieceKind} {n : ℕ} → NoPiece text → Longest k text n → ⊥
none_stands {k = k} {n = n} h l = let e = h k n l.within in let i = l.is in cc

wide_ends : {rest : List ℕ} {n : ℕ} → Longest kind.Number rest n → GREATEST_LITERAL < digits_value 10 (take n rest) → Ends rest
wide_ends l w = ends_at l (above_fails _ GREATEST_LITERAL w)

long_ends : {rest : List ℕ} {n : ℕ} → Longest kind.Name rest n → LONGEST_NAME < n → Ends rest
long_ends {rest} {n} l w = ends_at l (above_fails _ LONGEST_NAME (let t = taken l in omega (arith, t, w)))

not_empty : (text : List ℕ) → 0 < length text → text ≡ [] → ⊥
not_empty text h e = let n = ap length e in omega (arith, h, n)

pub apart : (text : List ℕ) (ts : List Token) (r : LexRefusal) → IsLexed text ts → IsRefused text r → ⊥
apart text ts _ a (long_text h) = let s = a.short in omega (arith, h, s)
apart text ts _ a (no_piece r some none) = not_empty _ some (sym (one_way a.cut a.stand ends_empty r.leads r.stand (ends_nowhere none)).rest)
apart text ts _ a (wide_number r l w) = let e = (one_way a.cut a.stand ends_empty r.leads r.stand (wide_ends l w)).rest in no_longest (rw (← e) at l)
apart text ts _ a (long_name r l w) = let e = (one_way a.cut a.stand ends_empty r.leads r.stand (long_ends l w)).rest in no_longest (rw (← e) at l)

-- two readings that end were read up to the same rest
record SameRest (a b : ℕ) (x z : List ℕ) : Type 0 where
  place : a ≡ b
  rest : x ≡ z

same_rest : {text x z : List ℕ} {a b : ℕ} → PiecesReach text a x → Ends x → PiecesReach text b z → Ends z → SameRest a b x z
same_rest r e q f =
    let s = (one_way r.leads r.stand e q.leads q.stand f).rest in
    let n = ap length s in
    record { place = (let u = r.place in let v = q.place in omega (arith, n, u, v)); rest = s }

not_both : {text : List ℕ} {n m : ℕ} → Longest kind.Number text n → Longest kind.Name text m → ⊥
not_both p q = let e = (same_piece p q).0 in cc

too_short : {text rest : List ℕ} {at : ℕ} → LONGEST_TEXT < length text → PiecesReach text at rest → ⊥
too_short h r = let s = r.short in omega (arith, h, s)

pub refusal_once : (text : List ℕ) (r s : LexRefusal) → IsRefused text r → IsRefused text s → r ≡ s
refusal_once text _ _ (long_text h) (long_text k) = refl
refusal_once text _ _ (long_text h) (no_piece r _ _) = absurd (too_short h r)
refusal_once text _ _ (long_text h) (wide_number r _ _) = absurd (too_short h r)
refusal_once text _ _ (long_text h) (long_name r _ _) = absurd (too_short h r)
refusal_once text _ _ (no_piece r _ _) (long_text h) = absurd (too_short h r)
refusal_once text _ _ (wide_number r _ _) (long_text h) = absurd (too_short h r)
refusal_once text _ _ (long_name r _ _) (long_text h) = absurd (too_short h r)
refusal_once text _ _ (no_piece r _ n) (no_piece q _ m) = ap bad_byte (same_rest r (ends_nowhere n) q (ends_nowhere m)).place
refusal_once text _ _ (no_piece r _ n) (wide_number q l w) = let s = same_rest r (ends_nowhere n) q (wide_ends l w) in absurd (none_stands (rw s.rest at n) l)
refusal_once text _ _ (no_piece r _ n) (long_name q l w) = let s = same_rest r (ends_nowhere n) q (long_ends l w) in absurd (none_stands (rw s.rest at n) l)
refusal_once text _ _ (wide_number r l w) (no_piece q _ n) = let s = same_rest r (wide_ends l w) q (ends_nowhere n) in absurd (none_stands n (rw s.rest at l))
refusal_once text _ _ (wide_number r l w) (wide_number q m v) = ap number_too_wide (same_rest r (wide_ends l w) q (wide_ends m v)).place
refusal_once text _ _ (wide_number r l w) (long_name q m v) = let s = same_rest r (wide_ends l w) q (long_ends m v) in absurd (not_both (rw s.rest at l) m)
refusal_once text _ _ (long_name r l w) (no_piece q _ n) = let s = same_rest r (long_ends l w) q (ends_nowhere n) in absurd (none_stands n (rw s.rest at l))
refusal_once text _ _ (long_name r l w) (wide_number q m v) = let s = same_rest r (long_ends l w) q (wide_ends m v) in absurd (not_both m (rw s.rest at l))
refusal_once text _ _ (long_name r l w) (long_name q m v) = ap name_too_long (same_rest r (long_ends l w) q (long_ends m v)).place
