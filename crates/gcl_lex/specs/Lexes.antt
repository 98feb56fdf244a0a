-- What the errors of `lex` say of a text.
use Rattle.std.specs.Prelude.{◌≡◌, List, ℕ, Option, Some, None}
use Rattle.gcl_core.specs.declared.tokens.Token.{Token}
use Rattle.gcl_core.specs.text.Lexing.{LexRefusal, text_too_long, bad_byte, number_too_wide, name_too_long, IsLexed, IsRefused}
use Rattle.gcl_lex.specs.declared.error.LexError.{LexError}
use Rattle.gcl_lex.specs.declared.error.LexError.TheVariants.{TextTooLong, BadByte, NumberTooWide, NameTooLong, OutOfMemory}

-- the refusal that an error names; running out of memory is none
abbrev pub refusal_named : LexError → Option LexRefusal
refusal_named TextTooLong = Some text_too_long
refusal_named (BadByte at) = Some (bad_byte at)
refusal_named (NumberTooWide at) = Some (number_too_wide at)
refusal_named (NameTooLong at) = Some (name_too_long at)
refusal_named OutOfMemory = None

-- unless memory ran out, the text is refused as the error says, and not otherwise, and has no tokens
pub record Refuses (text : List ℕ) (e : LexError) : Type 0 where
  pub refused : (r : LexRefusal) → refusal_named e ≡ Some r → IsRefused text r
  pub only : (r : LexRefusal) → refusal_named e ≡ Some r → (other : LexRefusal) → IsRefused text other → other ≡ r
  pub no_tokens : (r : LexRefusal) → refusal_named e ≡ Some r → (tokens : List Token) → IsLexed text tokens → ⊥
