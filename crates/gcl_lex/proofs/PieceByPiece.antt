-- Reading the tokens of a text piece by piece.
use Rattle.std.proofs.Common.{◌≡◌, ℕ, ◌≤◌, ◌+◌, ◌∙◌, refl, ap, sym, arith, true, List, [], ◌∷◌, ◌++◌, length, take, drop, length-drop, Option, Some, None, option_map}
use Rattle.std.specs.List.{list_all, cons_option}
use Rattle.std.proofs.lemmas.List.{length-take-le}
use Rattle.std.proofs.lemmas.List.Folds.{list_all-append}
use Rattle.gcl_core.specs.declared.tokens.PieceKind.{PieceKind}
use Rattle.gcl_core.specs.declared.tokens.TokenKind.{TokenKind}
use Rattle.gcl_core.specs.declared.tokens.Token.{Token}
use Rattle.gcl_core.specs.text.Pieces.{Longest, Piece, Leads, no_piece_more, one_piece_more}
use Rattle.gcl_core.specs.text.Tokens.{token_at, tokens_from, tokens_of}
use Rattle.gcl_core.specs.text.Lexing.{stands, IsLexed, PiecesReach}
use Rattle.gcl_core.specs.declared.rules.TheConstants.{LONGEST_TEXT}
use Rattle.gcl_lex.specs.inner.Reads.{StandsAs}

-- one more piece
leads_on : {text rest : List ℕ} {k : PieceKind} {n : ℕ} {ps : List Piece} → Leads text ps rest → Longest k rest n → Leads text (ps ++ record { kind = k; bytes = take n rest } ∷ []) (drop n rest)
leads_on no_piece_more l = one_piece_more l no_piece_more
leads_on (one_piece_more q r) l = one_piece_more q (leads_on r l)

-- where pieces end that begin at a place
abbrev pub place_after : ℕ → List Piece → ℕ
place_after at [] = at
place_after at (p ∷ ps) = place_after (at + length p.bytes) ps

pub taken : {k : PieceKind} {text : List ℕ} {n : ℕ} → Longest k text n → length (take n text) ≡ n
taken {text = text} {n = n} l = length-take-le n text l.within

place_reached : {text rest : List ℕ} {ps : List Piece} (at : ℕ) → Leads text ps rest → place_after at ps + length rest ≡ at + length text
place_reached at no_piece_more = refl
place_reached at (one_piece_more {text = text} {n = n} l r) =
    let i = place_reached (at + length (take n text)) r in
    let t = taken l in
    let d = length-drop n text in
    omega (arith, i, t, d, l.within)

cons_option-append : (o : Option Token) (xs ys : List Token) → cons_option o (xs ++ ys) ≡ cons_option o xs ++ ys
cons_option-append None xs ys = refl
cons_option-append (Some x) xs ys = refl

tokens_from-append : (at : ℕ) (ps : List Piece) (p : Piece) → tokens_from at (ps ++ p ∷ []) ≡ tokens_from at ps ++ cons_option (token_at (place_after at ps) p) []
tokens_from-append at [] p = refl
tokens_from-append at (q ∷ ps) p =
    ap (λ ts. cons_option (token_at at q) ts) (tokens_from-append (at + length q.bytes) ps p)
    ∙ cons_option-append (token_at at q) (tokens_from (at + length q.bytes) ps) (cons_option (token_at (place_after at (q ∷ ps)) p) [])

-- pieces that may stand were read up to the rest, and these are their tokens
pub record Reading (text rest : List ℕ) (at : ℕ) (found : List Token) : Type 0 where
  pub pieces : List Piece
  pub leads : Leads text pieces rest
  pub stand : list_all stands pieces ≡ true
  pub tokens : found ≡ tokens_of pieces
  pub place : at + length rest ≡ length text

pub nothing_read : (text : List ℕ) → Reading text text 0 []
nothing_read text = record { pieces = []; leads = no_piece_more; stand = refl; tokens = refl; place = omega arith }

abbrev pub placed : ℕ → ℕ → TokenKind → Token
placed start end k = record { kind = k; start = start; end = end }

-- one more piece
pub piece_read : {text rest : List ℕ} {at : ℕ} {found : List Token} {k : PieceKind} {n : ℕ} {kind : Option TokenKind}
    → Reading text rest at found → Longest k rest n → StandsAs k (take n rest) kind → Reading text (drop n rest) (at + n) (found ++ cons_option (option_map (placed at (at + n)) kind) [])
piece_read {text} {rest} {at} {found} {k} {n} {kind} r l s =
    let p : Piece = record { kind = k; bytes = take n rest } in
    let here_is : place_after 0 r.pieces ≡ at = let e = place_reached 0 r.leads in omega (arith, e, r.place) in
    let one : token_at at p ≡ option_map (placed at (at + n)) kind = rw (taken l, s.kind) in
    record {
      pieces = r.pieces ++ p ∷ [];
      leads = leads_on r.leads l;
      stand = rw (list_all-append stands r.pieces (p ∷ []), r.stand, s.stands);
      tokens = sym (tokens_from-append 0 r.pieces p ∙ rw (here_is, one, r.tokens));
      place = let d = length-drop n rest in omega (arith, d, l.within, r.place);
    }

pub reached : {text rest : List ℕ} {at : ℕ} {found : List Token} → length text ≤ LONGEST_TEXT → Reading text rest at found → PiecesReach text at rest
reached h r = record { short = h; pieces = r.pieces; leads = r.leads; stand = r.stand; place = r.place }

-- all pieces were read
pub text_read : {text rest : List ℕ} {at : ℕ} {found : List Token} → length text ≤ LONGEST_TEXT → Reading text rest at found → rest ≡ [] → IsLexed text found
text_read h r e = record { short = h; pieces = r.pieces; cut = rw e at r.leads; stand = r.stand; all = r.tokens }
