-- The codes of the refusals of the lexer, the parser and the checker.
use Rattle.std.specs.Prelude.{ℕ, ◌<◌, List, length, Some, None}
use Rattle.std.specs.List.{slice_get}
use Rattle.gcl_core.specs.declared.refusals.TheConstants.{TEXT_TOO_LONG, BAD_BYTE, NUMBER_TOO_WIDE, NAME_TOO_LONG, UNEXPECTED, TOO_DEEP, TOO_MANY_NAMES}
use Rattle.gcl_core.specs.text.Acceptance.{ProgramRefusal, too_many_names, flawed}
use Rattle.gcl_core.specs.text.Texts.{flaw_code}
use Rattle.gcl_lex.specs.declared.error.LexError.{LexError}
use Rattle.gcl_lex.specs.declared.error.LexError.TheVariants as lexed
use Rattle.gcl_parse.specs.declared.error.ParseError.{ParseError}
use Rattle.gcl_parse.specs.declared.error.ParseError.TheVariants as parsed
use Rattle.gcl_text.specs.declared.refusing.TextRefusal.{TextRefusal}
use Rattle.gcl_text.specs.declared.refusing.TextRefusal.TheVariants.{Coded, OutOfMemory}

abbrev pub lex_code : LexError → TextRefusal
lex_code lexed.TextTooLong = Coded TEXT_TOO_LONG None
lex_code (lexed.BadByte at) = Coded BAD_BYTE (Some at)
lex_code (lexed.NumberTooWide at) = Coded NUMBER_TOO_WIDE (Some at)
lex_code (lexed.NameTooLong at) = Coded NAME_TOO_LONG (Some at)
lex_code lexed.OutOfMemory = OutOfMemory

abbrev pub parse_code : ParseError → TextRefusal
parse_code (parsed.Unexpected at) = Coded UNEXPECTED (Some at)
parse_code (parsed.TooDeep at) = Coded TOO_DEEP (Some at)
parse_code parsed.OutOfMemory = OutOfMemory

-- a program is refused at the place of the statement that has the flaw
abbrev pub check_code : List ℕ → ProgramRefusal → TextRefusal
check_code places too_many_names = Coded TOO_MANY_NAMES None
check_code places (flawed flaw n) = Coded (flaw_code flaw) (slice_get places n)

-- that statement has a place
abbrev pub HasPlace : ProgramRefusal → List ℕ → Type 0
HasPlace too_many_names places = Unit {0}
HasPlace (flawed flaw n) places = n < length places
