-- Where the tokens of a text stop being a program. It is said of the tokens' kinds alone. This project's own rule.
use Rattle.std.specs.Prelude.{◌≡◌, ℕ, suc, ◌<◌, ◌≤◌, List, [], ◌++◌, length, map, take}
use Rattle.gcl_core.specs.declared.tokens.Token.{Token}
use Rattle.gcl_core.specs.declared.tokens.TokenKind.{TokenKind}
use Rattle.gcl_core.specs.declared.words.Word.{Word}
use Rattle.gcl_core.specs.meaning.Syntax.{Expression, Statements}
use Rattle.gcl_core.specs.text.Offsets.{place_of}
use Rattle.gcl_core.specs.text.Words.{kind_of_word, kinds_of}
use Rattle.gcl_core.specs.text.Grammar.{ReadsProgram}

-- some words of these kinds are a program
pub record IsProgram (ks : List TokenKind) : Type 0 where
  pub words : List Word
  pub kinds : map kind_of_word words ≡ ks
  pub body : Statements
  pub result : Expression
  pub reads : ReadsProgram words body result []

-- these kinds are the beginning of a program
pub record Begins (ks : List TokenKind) : Type 0 where
  pub rest : List TokenKind
  pub program : IsProgram (ks ++ rest)

-- The tokens before this index are the beginning of some program, and with the token at this index they are the beginning of
-- none. Where the index is the number of tokens, all of them are the beginning of a program, but no program.
pub record RefusedAt (ks : List TokenKind) (index : ℕ) : Type 0 where
  pub within : index ≤ length ks
  pub before : (i : ℕ) → i < index → Begins (take (suc i) ks)
  pub here : index < length ks → Begins (take (suc index) ks) → ⊥
  pub short : index ≡ length ks → IsProgram ks → ⊥

-- the first token with which the tokens begin no program stands at this place, or else the text ends there
pub record IsUnexpected (text : List ℕ) (tokens : List Token) (at : ℕ) : Type 0 where
  pub index : ℕ
  pub refused : RefusedAt (kinds_of tokens) index
  pub place : at ≡ place_of text tokens index
