-- Marks, of which a canonical text is written: words and blanks. A mark's bytes are a token, a space or a line feed. This
-- project's own rule.
use Rattle.std.specs.Prelude.{ℕ, List, [], ◌∷◌, flat_map, codes, decimal, slice_index_or}
use Rattle.gcl_core.specs.declared.tokens.Key.{Key}
use Rattle.gcl_core.specs.declared.tokens.Sym.{Sym}
use Rattle.gcl_core.specs.declared.words.Word.{Word}
use Rattle.gcl_core.specs.declared.words.Word.TheVariants as word
use Rattle.gcl_core.specs.text.Names.{Name, name_where}
use Rattle.gcl_core.specs.text.Pieces.{same_symbol, symbols}
use Rattle.gcl_core.specs.text.Tokens.{reserved_names, same_keyword}

pub data Mark : Type 0 where
  a_word : Word → Mark
  a_space : Mark
  a_line_feed : Mark

-- ---- words

-- the words among marks, in their order
abbrev pub words_among : List Mark → List Word
words_among [] = []
words_among (a_word w ∷ ms) = w ∷ words_among ms
words_among (a_space ∷ ms) = words_among ms
words_among (a_line_feed ∷ ms) = words_among ms

-- ---- bytes

abbrev pub key_text : Key → List ℕ
key_text k = name_where (same_keyword k) reserved_names

abbrev pub symbol_text : Sym → List ℕ
symbol_text s = name_where (same_symbol s) symbols

-- a number by its digits, without leading zeros; a name by its bytes, and by none where there is no name of its number
abbrev pub word_text : List Name → Word → List ℕ
word_text names (word.Number n) = decimal n
word_text names (word.Name x) = slice_index_or names x []
word_text names (word.Key k) = key_text k
word_text names (word.Sym s) = symbol_text s

abbrev pub mark_text : List Name → Mark → List ℕ
mark_text names (a_word w) = word_text names w
mark_text names a_space = codes " "
mark_text names a_line_feed = codes "\n"

-- the bytes of the marks, joined
abbrev pub marks_text : List Name → List Mark → List ℕ
marks_text names ms = flat_map (mark_text names) ms
