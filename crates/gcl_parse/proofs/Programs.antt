-- Of a text's tokens to what is derived from them.
use Rattle.std.proofs.Common.{◌≡◌, ◌∙◌, ℕ, suc, ◌-◌, ◌<◌, ◌≤◌, refl, ap, sym, subst, arith, Bool, true, false, cond, List, [], ◌∷◌, ◌++◌, length, map, append_assoc, Some, length-append}
use Rattle.std.specs.List.{slice_get}
use Rattle.std.proofs.lemmas.List.{length-map}
use Rattle.gcl_core.specs.declared.tokens.Token.{Token}
use Rattle.gcl_core.specs.declared.tokens.TokenKind.{TokenKind}
use Rattle.gcl_core.specs.declared.tokens.TokenKind.TheVariants as token
use Rattle.gcl_core.specs.declared.words.Word.{Word}
use Rattle.gcl_core.specs.meaning.Syntax.{Expression, Statements, SourceProgram}
use Rattle.gcl_core.specs.text.Names.{Name, number_of}
use Rattle.gcl_core.specs.meaning.Bounds.{VariablesBelow, BlockCounted}
use Rattle.gcl_core.specs.text.StatementCounts.{count_all}
use Rattle.gcl_core.specs.text.NoNegative.{HasNoNegative}
use Rattle.gcl_core.specs.text.Offsets.{place_of, start_or}
use Rattle.gcl_core.specs.text.Spans.{IsInRange, StandInOrder}
use Rattle.gcl_core.specs.text.Words.{as_word, kind_of_word, kinds_of, slice_of, with_token, names_from, names_of, word_of, words_of}
use Rattle.gcl_core.specs.text.Grammar.{ReadsProgram}
use Rattle.gcl_core.specs.text.Places.{places_in_program}
use Rattle.gcl_core.specs.text.Derivation.{Derives, place_before}
use Rattle.gcl_core.specs.text.GrammarRefusal.{IsUnexpected}
use Rattle.gcl_core.proofs.TokenWords.{Has, has_own, has_later, number_within, kind-as, kinds-by, kinds-words}
use Rattle.gcl_parse.specs.inner.Beginnings.{begins, beginnings}
use Rattle.gcl_parse.specs.inner.Fronts.{AreInRange}
use Rattle.gcl_parse.specs.inner.Pushdown.{run, stops, a_program}
use Rattle.gcl_parse.proofs.OneProgram.{one_program}
use Rattle.gcl_parse.proofs.Placed.{lefts, program_placed}
use Rattle.gcl_parse.proofs.Kept.{WordBelow, WordsBelow, program_below, program_written, program_bounded, program_counted}
use Rattle.gcl_parse.proofs.Refuses.{refused, stops_within}

-- ---- numbers

in_range : (k : TokenKind) (i : ℕ) → IsInRange k → IsInRange (kind_of_word (as_word k i))
in_range k i h = rw (kind-as k i) h

in_range_by : (names : List Name) (text : List ℕ) (ts : List Token) (at end : ℕ) → StandInOrder at ts end → AreInRange (map (word_of names text) ts)
in_range_by names text [] at end h = tt
in_range_by names text (t ∷ ts) at end h = (in_range t.kind (number_of names (slice_of text t)) h.3, in_range_by names text ts t.end end h.4)

pub words_in_range : (text : List ℕ) (tokens : List Token) → StandInOrder 0 tokens (length text) → AreInRange (words_of text tokens)
words_in_range text tokens h = in_range_by (names_of text tokens) text tokens 0 (length text) h

-- ---- places

at_index : {A : Type 0} (done : List A) (x : A) (rest : List A) → slice_get (done ++ x ∷ rest) (length done) ≡ Some x
at_index [] x rest = refl
at_index (y ∷ done) x rest = at_index done x rest

place_at : (text : List ℕ) (done : List Token) (t : Token) (ts : List Token) → place_before text (done ++ t ∷ ts) (suc (length ts)) ≡ t.start
place_at text done t ts =
    let n = length-append done (t ∷ ts) in
    let e : length (done ++ t ∷ ts) - suc (length ts) ≡ length done = omega (arith, n) in
    rw e (ap (start_or (length text)) (at_index done t ts))

places_from : (names : List Name) (text : List ℕ) (done ts : List Token) → map (place_before text (done ++ ts)) (lefts (map (word_of names text) ts)) ≡ beginnings ts
places_from names text done [] = refl
places_from names text done (t ∷ ts) =
    let rest : map (place_before text (done ++ t ∷ ts)) (lefts (map (word_of names text) ts)) ≡ beginnings ts =
    subst (λ x. map (place_before text x) (lefts (map (word_of names text) ts)) ≡ beginnings ts) (append_assoc done (t ∷ []) ts) (places_from names text (done ++ t ∷ []) ts) in
    rw (kind-as t.kind (number_of names (slice_of text t)), kinds-by names text ts) (go (begins t.kind (kinds_of ts)) rest)
  where
    go : (b : Bool) → map (place_before text (done ++ t ∷ ts)) (lefts (map (word_of names text) ts)) ≡ beginnings ts
        → map (place_before text (done ++ t ∷ ts)) (cond b (suc (length (map (word_of names text) ts)) ∷ lefts (map (word_of names text) ts)) (lefts (map (word_of names text) ts)))
        ≡ cond b (t.start ∷ beginnings ts) (beginnings ts)
    go true rest = let n = length-map ts (word_of names text) in rw (n, rest, place_at text done t ts)
    go false rest = rest

-- the places of a program that the tokens derive
pub derived_places : (text : List ℕ) (tokens : List Token) {body : Statements} {e : Expression} (d : ReadsProgram (words_of text tokens) body e [])
    → map (place_before text tokens) (places_in_program d) ≡ beginnings tokens
derived_places text tokens d = ap (map (place_before text tokens)) (sym (program_placed d)) ∙ places_from (names_of text tokens) text [] tokens

pub derives : (text : List ℕ) (tokens : List Token) {words : List Word} {names : List Name} {body : Statements} {e : Expression} {places : List ℕ} → words ≡ words_of text tokens → names ≡ names_of text tokens
    → ReadsProgram words body e [] → places ≡ beginnings tokens → Derives text tokens (record { names = names; body = body; result = e }) places
derives text tokens h n r p =
    let d = rw h at r in
    record { names = n; program = d; stand = p ∙ sym (derived_places text tokens d) }

-- ---- at most one

source_is : (p q : SourceProgram) → q.names ≡ p.names → q.body ≡ p.body → q.result ≡ p.result → q ≡ p
source_is p q n b e = ap (λ x. record { names = x; body = q.body; result = q.result }) n ∙ ap (λ x. record { names = p.names; body = x; result = q.result }) b ∙ ap (λ x. record { names = p.names; body = p.body; result = x }) e

pub one_derivation : (text : List ℕ) (tokens : List Token) {p q : SourceProgram} {at places : List ℕ} → Derives text tokens p places → Derives text tokens q at → (q ≡ p) × (at ≡ places)
one_derivation text tokens {p} {q} d c =
    let same = one_program c.program d.program in
    (source_is p q (c.names ∙ sym d.names) same.0 same.1, c.stand ∙ derived_places text tokens c.program ∙ sym (derived_places text tokens d.program) ∙ sym d.stand)

-- ---- what it keeps

word_below : (text : List ℕ) (t : Token) (names final : List Name) (k : TokenKind) → t.kind ≡ k → (k ≡ token.Name → Has final (slice_of text t)) → WordBelow (length final) (as_word k (number_of final (slice_of text t)))
word_below text t names final (token.Number n) e h = tt
word_below text t names final token.Name e h = number_within (h refl)
word_below text t names final (token.Key n) e h = tt
word_below text t names final (token.Sym n) e h = tt

words_below : (text : List ℕ) (ts : List Token) (names final : List Name) → names_from names text ts ≡ final → WordsBelow (length final) (map (word_of final text) ts)
words_below text [] names final h = tt
words_below text (t ∷ ts) names final h = (
  word_below text t names final t.kind refl (λ e. rw (← h) (has_later text ts (has_own names text t e))),
  words_below text ts (with_token names t.kind (slice_of text t)) final h,
)

pub variables_below : {text : List ℕ} {tokens : List Token} {p : SourceProgram} {places : List ℕ} → Derives text tokens p places → VariablesBelow p
variables_below {text} {tokens} d =
    let b = program_below (length (names_of text tokens)) d.program (words_below text tokens [] (names_of text tokens) refl) in
    record { body = rw d.names b.0; result = rw d.names b.1 }

pub is_written : {text : List ℕ} {tokens : List Token} {p : SourceProgram} {places : List ℕ} → Derives text tokens p places → HasNoNegative p
is_written d = let w = program_written d.program in record { body = w.0; result = w.1 }

pub arms_counted : {text : List ℕ} {tokens : List Token} {p : SourceProgram} {places : List ℕ} → Derives text tokens p places → BlockCounted p.body
arms_counted d = program_bounded d.program

pub few_statements : {text : List ℕ} {tokens : List Token} {p : SourceProgram} {places : List ℕ} → Derives text tokens p places → count_all p.body < length tokens
few_statements {text} {tokens} d = let n = program_counted d.program in let m = length-map tokens (word_of (names_of text tokens) text) in omega (arith, n, m)

-- ---- refusals

-- where the reading stops, the tokens are refused
pub unexpected : (text : List ℕ) (tokens : List Token) {at : ℕ} (words left : List Word) → words ≡ words_of text tokens → run words a_program ≡ stops left → at ≡ place_of text tokens (length tokens - length left)
    → IsUnexpected text tokens at
unexpected text tokens words left h s p =
    let r = refused words left s in
    let n = length-map tokens (word_of (names_of text tokens) text) in
    let m = ap length h in
    record {
      index = length tokens - length left;
      refused = rw (← kinds-words text tokens, ← h, ← n, ← m) r;
      place = p;
    }

pub left_within : (text : List ℕ) (tokens : List Token) (words left : List Word) → words ≡ words_of text tokens → run words a_program ≡ stops left → length left ≤ length tokens
left_within text tokens words left h s =
    let n = length-map tokens (word_of (names_of text tokens) text) in
    let m = ap length h in
    let k = stops_within words left s in
    omega (arith, n, m, k)
