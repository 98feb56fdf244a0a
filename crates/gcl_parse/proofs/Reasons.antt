-- Why a text has no program: a refusal of its bytes, of the nesting of its tokens, or of the tokens by the grammar.
use Rattle.std.proofs.Common.{◌≡◌, ◌∙◌, ℕ, refl, ap, sym, subst, List, Option}
use Rattle.gcl_core.specs.declared.tokens.Token.{Token}
use Rattle.gcl_core.specs.text.Words.{kinds_of}
use Rattle.gcl_core.specs.text.Lexing.{IsLexed, IsRefused, LexRefusal, text_too_long, bad_byte, number_too_wide, name_too_long}
use Rattle.gcl_core.specs.text.Nesting.{Nests, IsTooDeep}
use Rattle.gcl_core.specs.text.Offsets.{place_of}
use Rattle.gcl_core.specs.text.GrammarRefusal.{IsUnexpected}
use Rattle.gcl_core.specs.text.Texts.{IsRefusedText, too_long, no_piece, wide_number, long_name, unexpected, too_deep}
use Rattle.gcl_parse.proofs.Excludes.{one_refusal}

pub data Reason : Type 0 where
  of_bytes : LexRefusal → Reason
  of_nesting : ℕ → Reason
  of_grammar : ℕ → Reason

pub record TooDeep (text : List ℕ) (at : ℕ) : Type 0 where
  pub tokens : List Token
  pub lexed : IsLexed text tokens
  pub deep : IsTooDeep text tokens at

pub record Unexpected (text : List ℕ) (at : ℕ) : Type 0 where
  pub tokens : List Token
  pub lexed : IsLexed text tokens
  pub nested : Nests (kinds_of tokens)
  pub refused : IsUnexpected text tokens at

-- the text has no program for this reason
abbrev pub Holds : List ℕ → Reason → Type 0
Holds text (of_bytes r) = IsRefused text r
Holds text (of_nesting at) = TooDeep text at
Holds text (of_grammar at) = Unexpected text at

-- ---- a reason, its code and its place

abbrev pub Refused : List ℕ → Type 0
Refused text = (code : ℕ) × (at : Option ℕ) × IsRefusedText text code at

abbrev pub said : {text : List ℕ} (r : Reason) → Holds text r → Refused text
said (of_bytes text_too_long) h = (_, _, too_long h)
said (of_bytes (bad_byte at)) h = (_, _, no_piece h)
said (of_bytes (number_too_wide at)) h = (_, _, wide_number h)
said (of_bytes (name_too_long at)) h = (_, _, long_name h)
said (of_nesting at) h = (_, _, too_deep h.lexed h.deep)
said (of_grammar at) h = (_, _, unexpected h.lexed h.nested h.refused)

said_once : (text : List ℕ) (r : Reason) (h k : Holds text r) → ((said r h).0 ≡ (said r k).0) × ((said r h).1 ≡ (said r k).1)
said_once text (of_bytes text_too_long) h k = (refl, refl)
said_once text (of_bytes (bad_byte at)) h k = (refl, refl)
said_once text (of_bytes (number_too_wide at)) h k = (refl, refl)
said_once text (of_bytes (name_too_long at)) h k = (refl, refl)
said_once text (of_nesting at) h k = (refl, refl)
said_once text (of_grammar at) h k = (refl, refl)

-- why the text is refused with this code at this place
pub record Why (text : List ℕ) (code : ℕ) (at : Option ℕ) : Type 0 where
  pub reason : Reason
  pub holds : Holds text reason
  pub code_is : (said reason holds).0 ≡ code
  pub place_is : (said reason holds).1 ≡ at

pub why : {text : List ℕ} {code : ℕ} {at : Option ℕ} → IsRefusedText text code at → Why text code at
why (too_long h) = record { reason = of_bytes text_too_long; holds = h; code_is = refl; place_is = refl }
why (no_piece {at = at} h) = record { reason = of_bytes (bad_byte at); holds = h; code_is = refl; place_is = refl }
why (wide_number {at = at} h) = record { reason = of_bytes (number_too_wide at); holds = h; code_is = refl; place_is = refl }
why (long_name {at = at} h) = record { reason = of_bytes (name_too_long at); holds = h; code_is = refl; place_is = refl }
why (too_deep {at = at} {tokens = tokens} l d) = record { reason = of_nesting at; holds = record { tokens = tokens; lexed = l; deep = d }; code_is = refl; place_is = refl }
why (unexpected {at = at} {tokens = tokens} l n u) = record { reason = of_grammar at; holds = record { tokens = tokens; lexed = l; nested = n; refused = u }; code_is = refl; place_is = refl }

-- one reason gives one code and one place
pub one_answer : {text : List ℕ} {code other : ℕ} {at place : Option ℕ} (w : Why text code at) (x : Why text other place) → w.reason ≡ x.reason → (code ≡ other) × (at ≡ place)
one_answer {text} w x e =
    let same = subst (λ r. (k : Holds text r) → ((said w.reason w.holds).0 ≡ (said r k).0) × ((said w.reason w.holds).1 ≡ (said r k).1)) e (said_once text w.reason w.holds) x.holds in
    (sym w.code_is ∙ same.0 ∙ x.code_is, sym w.place_is ∙ same.1 ∙ x.place_is)

-- ---- tokens are refused at one place

-- tokens that nest break no rule of nesting
pub nests_not_deep : {text : List ℕ} {tokens : List Token} {at : ℕ} → Nests (kinds_of tokens) → IsTooDeep text tokens at → ⊥
nests_not_deep n d = let b = d.breaks in cc

pub deep_once : {text : List ℕ} {tokens : List Token} {at place : ℕ} → IsTooDeep text tokens at → IsTooDeep text tokens place → at ≡ place
deep_once {text} {tokens} d e =
    let b = d.breaks in
    let c = e.breaks in
    let same : d.index ≡ e.index = cc in
    d.place ∙ ap (place_of text tokens) same ∙ sym e.place

pub unexpected_once : {text : List ℕ} {tokens : List Token} {at place : ℕ} → IsUnexpected text tokens at → IsUnexpected text tokens place → at ≡ place
unexpected_once {text} {tokens} u v = u.place ∙ ap (place_of text tokens) (one_refusal (kinds_of tokens) u.index v.index u.refused v.refused) ∙ sym v.place
