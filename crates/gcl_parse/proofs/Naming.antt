-- Reading the words of a text token by token.
use Rattle.std.proofs.Common.{◌≡◌, ℕ, ◌<◌, ◌≤◌, ◌+◌, ◌∙◌, refl, ap, sym, arith, List, [], ◌∷◌, ◌++◌, length, append_assoc, map, drop, get_or, subst}
use Rattle.gcl_core.specs.declared.tokens.Token.{Token}
use Rattle.gcl_core.specs.declared.words.Word.{Word}
use Rattle.gcl_core.specs.text.Names.{Name}
use Rattle.gcl_core.specs.text.Spans.{StandInOrder}
use Rattle.gcl_core.specs.text.Words.{slice_of, with_token, names_from, names_of, word_of, words_of}
use Rattle.gcl_core.proofs.TokenWords.{longer_by_one, word_stays}
use Rattle.gcl_parse.proofs.Nests.{next}

few : (at end : ℕ) (ts : List Token) → at ≤ end → StandInOrder at ts end → at + length ts ≤ end
few at end [] n h = omega (arith, n)
few at end (t ∷ ts) n h = let i = few t.end end ts h.2 h.4 in omega (arith, i, h.0, h.1)

-- tokens of the text were read up to the rest, which have these words and names
pub record Reading (text : List ℕ) (tokens rest : List Token) (words : List Word) (names : List Name) : Type 0 where
  pub at : ℕ
  pub order : StandInOrder at rest (length text)
  pub room : length names + length rest ≤ length text
  pub names_then : names_from names text rest ≡ names_of text tokens
  pub words_then : words ++ map (word_of (names_of text tokens) text) rest ≡ words_of text tokens

pub nothing_read : (text : List ℕ) (tokens : List Token) → StandInOrder 0 tokens (length text) → Reading text tokens tokens [] []
nothing_read text tokens h = let n = few 0 (length text) tokens (omega arith) h in record { at = 0; order = h; room = omega (arith, n); names_then = refl; words_then = refl }

pub token_read : {text : List ℕ} {tokens : List Token} {words : List Word} {names new : List Name} {v : Word} (t : Token) (rest : List Token) → Reading text tokens (t ∷ rest) words names
    → new ≡ with_token names t.kind (slice_of text t) → v ≡ word_of new text t → Reading text tokens rest (words ++ v ∷ []) new
token_read {text} {tokens} {words} {names} {new} {v} t rest r n h =
    let then : names_from new text rest ≡ names_of text tokens = rw n r.names_then in
    let long = longer_by_one names t.kind (slice_of text t) in
    let longer = ap length n in
    let final : v ≡ word_of (names_of text tokens) text t = h ∙ ap (λ x. word_of x text t) n ∙ sym (word_stays names text t rest) ∙ ap (λ x. word_of x text t) r.names_then in
    record {
      at = t.end;
      order = r.order.4;
      room = omega (arith, r.room, long, longer);
      names_then = then;
      words_then = append_assoc words (v ∷ []) (map (word_of (names_of text tokens) text) rest) ∙ ap (λ x. words ++ (x ∷ map (word_of (names_of text tokens) text) rest)) final ∙ r.words_then;
    }

-- the next token ends in the text
pub end_within : {text : List ℕ} {words : List Word} {names : List Name} (tokens : List Token) (i : ℕ) (d : Token) → Reading text tokens (drop i tokens) words names → i < length tokens
    → (get_or tokens i d).end ≤ length text
end_within tokens i d r h = (rw (next tokens i d h) at r.order).2

pub next_read : {text : List ℕ} {words : List Word} {names new : List Name} {v : Word} (tokens : List Token) (i : ℕ) (d : Token) → Reading text tokens (drop i tokens) words names → i < length tokens
    → new ≡ with_token names (get_or tokens i d).kind (slice_of text (get_or tokens i d)) → v ≡ word_of new text (get_or tokens i d)
    → Reading text tokens (drop (i + 1) tokens) (words ++ v ∷ []) new
next_read {text} {words} {names} tokens i d r h n e = token_read (get_or tokens i d) (drop (i + 1) tokens) (subst (λ ts. Reading text tokens ts words names) (next tokens i d h) r) n e
