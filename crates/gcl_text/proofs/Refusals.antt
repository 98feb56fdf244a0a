-- Why a text has no program, from what the lexer and the parser answer.
use Rattle.std.proofs.Common.{ℕ, List, refl}
use Rattle.gcl_core.specs.declared.tokens.Token.{Token}
use Rattle.gcl_core.specs.text.Lexing.{IsLexed, text_too_long, bad_byte, number_too_wide, name_too_long}
use Rattle.gcl_core.specs.text.Texts.{IsRefusedText, too_long, no_piece, wide_number, long_name, unexpected, too_deep}
use Rattle.gcl_lex.specs.declared.error.LexError.{LexError}
use Rattle.gcl_lex.specs.declared.error.LexError.TheVariants as lexed
use Rattle.gcl_lex.specs.Lexes.{Refuses}
use Rattle.gcl_parse.specs.declared.error.ParseError.{ParseError}
use Rattle.gcl_parse.specs.declared.error.ParseError.TheVariants as parsed
use Rattle.gcl_parse.specs.Refused.{IsGrammarRefused}
use Rattle.gcl_text.specs.Readings.{NoneInText}
use Rattle.gcl_text.specs.inner.Codes.{lex_code, parse_code}

-- ---- the lexer

pub lex_refuses : (text : List ℕ) (e : LexError) → Refuses text e → NoneInText (IsRefusedText text) (lex_code e)
lex_refuses text lexed.TextTooLong h = too_long (h.refused text_too_long refl)
lex_refuses text (lexed.BadByte at) h = no_piece (h.refused (bad_byte at) refl)
lex_refuses text (lexed.NumberTooWide at) h = wide_number (h.refused (number_too_wide at) refl)
lex_refuses text (lexed.NameTooLong at) h = long_name (h.refused (name_too_long at) refl)
lex_refuses text lexed.OutOfMemory h = tt

-- ---- the parser

pub parse_refuses : (text : List ℕ) (tokens : List Token) → IsLexed text tokens → (e : ParseError) → IsGrammarRefused text tokens e → NoneInText (IsRefusedText text) (parse_code e)
parse_refuses text tokens is (parsed.Unexpected at) h = unexpected is h.0 h.1
parse_refuses text tokens is (parsed.TooDeep at) h = too_deep is h
parse_refuses text tokens is parsed.OutOfMemory h = tt
