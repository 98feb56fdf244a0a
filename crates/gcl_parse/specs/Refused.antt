-- Why the parser refuses the tokens of a text: for their nesting, and else for the grammar. This project's own rule.
use Rattle.std.specs.Prelude.{ℕ, List}
use Rattle.gcl_core.specs.declared.tokens.Token.{Token}
use Rattle.gcl_core.specs.meaning.Syntax.{SourceProgram}
use Rattle.gcl_core.specs.text.Words.{kinds_of}
use Rattle.gcl_core.specs.text.Derivation.{Derives}
use Rattle.gcl_core.specs.text.Nesting.{Nests, IsTooDeep}
use Rattle.gcl_core.specs.text.GrammarRefusal.{IsUnexpected}
use Rattle.gcl_parse.specs.declared.error.ParseError.{ParseError}
use Rattle.gcl_parse.specs.declared.error.ParseError.TheVariants.{TooDeep, Unexpected, OutOfMemory}

-- memory may run out at any tokens
abbrev pub IsGrammarRefused : List ℕ → List Token → ParseError → Type 0
IsGrammarRefused text tokens (TooDeep at) = IsTooDeep text tokens at
IsGrammarRefused text tokens (Unexpected at) = Nests (kinds_of tokens) × IsUnexpected text tokens at
IsGrammarRefused text tokens OutOfMemory = Unit {0}

-- the tokens of the text derive a program
pub record IsDerived (text : List ℕ) (tokens : List Token) : Type 0 where
  pub program : SourceProgram
  pub places : List ℕ
  pub derives : Derives text tokens program places
