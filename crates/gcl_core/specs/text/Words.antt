-- The words of a text: its tokens, each name by its number. A name is the bytes that its token spans, and names are numbered in
-- the order of their first appearance. This project's own rule.
use Rattle.std.specs.Prelude.{ℕ, ◌-◌, List, [], ◌∷◌, map, take, drop}
use Rattle.gcl_core.specs.declared.tokens.Token.{Token}
use Rattle.gcl_core.specs.declared.tokens.TokenKind.{TokenKind}
use Rattle.gcl_core.specs.declared.tokens.TokenKind.TheVariants as token
use Rattle.gcl_core.specs.declared.words.Word.{Word}
use Rattle.gcl_core.specs.declared.words.Word.TheVariants as word
use Rattle.gcl_core.specs.text.Names.{Name, number_of, with_name}

-- the bytes that a token spans
abbrev pub slice_of : List ℕ → Token → List ℕ
slice_of text t = take (t.end - t.start) (drop t.start text)

-- ---- names

-- the names with that of one more token, where it is one
abbrev pub with_token : List Name → TokenKind → List ℕ → List Name
with_token names token.Name bytes = with_name names bytes
with_token names _ bytes = names

abbrev pub names_from : List Name → List ℕ → List Token → List Name
names_from names text [] = names
names_from names text (t ∷ ts) = names_from (with_token names t.kind (slice_of text t)) text ts

-- the names of the tokens, in the order of their first appearance
abbrev pub names_of : List ℕ → List Token → List Name
names_of text tokens = names_from [] text tokens

-- ---- words

-- a token's word, where this is the number of its name
abbrev pub as_word : TokenKind → ℕ → Word
as_word (token.Number n) i = word.Number n
as_word token.Name i = word.Name i
as_word (token.Key key) i = word.Key key
as_word (token.Sym symbol) i = word.Sym symbol

abbrev pub word_of : List Name → List ℕ → Token → Word
word_of names text t = as_word t.kind (number_of names (slice_of text t))

abbrev pub words_of : List ℕ → List Token → List Word
words_of text tokens = map (word_of (names_of text tokens) text) tokens

-- ---- kinds

-- what a word is, whatever the number of its name
abbrev pub kind_of_word : Word → TokenKind
kind_of_word (word.Number n) = token.Number n
kind_of_word (word.Name i) = token.Name
kind_of_word (word.Key key) = token.Key key
kind_of_word (word.Sym symbol) = token.Sym symbol

abbrev pub kinds_of : List Token → List TokenKind
kinds_of tokens = map (λ t. t.kind) tokens
