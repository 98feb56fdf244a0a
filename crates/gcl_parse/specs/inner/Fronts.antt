-- What stands at the front of a list of words.
use Rattle.std.specs.Prelude.{ℕ, Bool, false, List, [], ◌∷◌, Option, Some, None}
use Rattle.gcl_core.specs.declared.tokens.Key.{Key}
use Rattle.gcl_core.specs.declared.tokens.Sym.{Sym}
use Rattle.gcl_core.specs.declared.words.Word.{Word}
use Rattle.gcl_core.specs.declared.words.Word.TheVariants as w
use Rattle.gcl_core.specs.text.Pieces.{same_symbol}
use Rattle.gcl_core.specs.text.Spans.{IsInRange}
use Rattle.gcl_core.specs.text.Tokens.{same_keyword}
use Rattle.gcl_core.specs.text.Words.{kind_of_word}

abbrev pub first : List Word → Option Word
first [] = None
first (v ∷ ws) = Some v

abbrev pub behind : List Word → List Word
behind [] = []
behind (v ∷ ws) = ws

-- the numbers of these words have 63 bits
abbrev pub AreInRange : List Word → Type 0
AreInRange [] = Unit {0}
AreInRange (v ∷ ws) = IsInRange (kind_of_word v) × AreInRange ws

-- the word is this symbol, or this reserved name
abbrev pub is_sym : Sym → Word → Bool
is_sym a (w.Sym b) = same_symbol b a
is_sym a _ = false

abbrev pub is_key : Key → Word → Bool
is_key a (w.Key b) = same_keyword b a
is_key a _ = false

abbrev pub number_at : Option Word → Option ℕ
number_at (Some (w.Number n)) = Some n
number_at _ = None
