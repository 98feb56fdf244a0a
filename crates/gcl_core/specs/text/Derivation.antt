-- The program that the tokens of a text derive, with the places of its statements in the text. This project's own rule.
use Rattle.std.specs.Prelude.{◌≡◌, ℕ, ◌-◌, List, [], map, length}
use Rattle.gcl_core.specs.declared.tokens.Token.{Token}
use Rattle.gcl_core.specs.meaning.Syntax.{SourceProgram}
use Rattle.gcl_core.specs.text.Offsets.{place_of}
use Rattle.gcl_core.specs.text.Words.{names_of, words_of}
use Rattle.gcl_core.specs.text.Grammar.{ReadsProgram}
use Rattle.gcl_core.specs.text.Places.{places_in_program}

-- the place of the token from which on `left` tokens are left
abbrev pub place_before : List ℕ → List Token → ℕ → ℕ
place_before text tokens left = place_of text tokens (length tokens - left)

-- The words are those of the program, by the grammar, with nothing behind them; its names are those of the text; and the places
-- are those of its statements, and of `return`.
pub record Derives (text : List ℕ) (tokens : List Token) (p : SourceProgram) (places : List ℕ) : Type 0 where
  pub names : p.names ≡ names_of text tokens
  pub program : ReadsProgram (words_of text tokens) p.body p.result []
  pub stand : places ≡ map (place_before text tokens) (places_in_program program)
