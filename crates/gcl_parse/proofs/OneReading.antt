-- A text is read in exactly one way, as it is written.
use Rattle.std.proofs.Common.{◌≡◌, ℕ, refl, ap, subst, List, Option, Some, None, ◌⊎◌, inl, inr}
use Rattle.gcl_core.specs.declared.tokens.Token.{Token}
use Rattle.gcl_core.specs.meaning.Syntax.{SourceProgram}
use Rattle.gcl_core.specs.text.Words.{kinds_of}
use Rattle.gcl_core.specs.text.Lexing.{IsLexed, IsRefused, LexRefusal}
use Rattle.gcl_core.specs.text.Nesting.{nesting_break, Nests, IsTooDeep}
use Rattle.gcl_core.specs.text.GrammarRefusal.{IsProgram, RefusedAt, IsUnexpected}
use Rattle.gcl_core.specs.text.Derivation.{Derives}
use Rattle.gcl_core.specs.text.Texts.{IsWrittenIn}
use Rattle.gcl_parse.specs.OneReading.{HasOneReadingAsWritten}
use Rattle.gcl_parse.proofs.Refuses.{program_or_refused}
use Rattle.gcl_parse.proofs.Excludes.{is_program, kinds_derive, not_refused}
use Rattle.gcl_parse.proofs.Programs.{one_derivation}
use Rattle.gcl_parse.proofs.Reasons.{Reason, of_bytes, of_nesting, of_grammar, Holds, Refused, said, why, one_answer, nests_not_deep, deep_once, unexpected_once}

abbrev pub Written : List ℕ → Type 0
Written text = ((p : SourceProgram) × (places : List ℕ) × IsWrittenIn text p places) ⊎ Refused text

-- tokens keep the rules of nesting or break one, and then are a program or are refused by the grammar
tokens_read : (text : List ℕ) (tokens : List Token) → IsLexed text tokens → Written text
tokens_read text tokens lexed = by_nesting (nesting_break (kinds_of tokens)) refl
  where
    by_grammar : Nests (kinds_of tokens) → IsProgram (kinds_of tokens) ⊎ ((index : ℕ) × RefusedAt (kinds_of tokens) index) → Written text
    by_grammar nested (inl p) =
        let d = kinds_derive text tokens p in
        inl (d.program, d.places, record { tokens = tokens; lexed = lexed; nested = nested; derived = d.derives })
    by_grammar nested (inr (index, r)) =
        inr (said (of_grammar _) (record { tokens = tokens; lexed = lexed; nested = nested; refused = record { index = index; refused = r; place = refl } }))

    by_nesting : (o : Option ℕ) → nesting_break (kinds_of tokens) ≡ o → Written text
    by_nesting None e = by_grammar e (program_or_refused (kinds_of tokens))
    by_nesting (Some index) e = inr (said (of_nesting _) (record { tokens = tokens; lexed = lexed; deep = record { index = index; breaks = e; place = refl } }))

-- by the law of the lexer
module _
    (some_answer : (text : List ℕ) → ((ts : List Token) × IsLexed text ts) ⊎ ((r : LexRefusal) × IsRefused text r))
    (one_list : (text : List ℕ) (ts us : List Token) → IsLexed text ts → IsLexed text us → ts ≡ us)
    (one_refusal : (text : List ℕ) (r s : LexRefusal) → IsRefused text r → IsRefused text s → r ≡ s)
    (lexed_not_refused : (text : List ℕ) (ts : List Token) (r : LexRefusal) → IsLexed text ts → IsRefused text r → ⊥) where
  some_written : (text : List ℕ) → Written text
  some_written text = elim (some_answer text) [ inl l ↦ tokens_read text l.0 l.1 | inr r ↦ inr (said (of_bytes r.0) r.1) ]

  one_written : {text : List ℕ} {p q : SourceProgram} {places others : List ℕ} → IsWrittenIn text p places → IsWrittenIn text q others → (p ≡ q) × (places ≡ others)
  one_written {text} {q = q} {others = others} w x =
      let same = one_list text x.tokens w.tokens x.lexed w.lexed in
      one_derivation text w.tokens (subst (λ ts. Derives text ts q others) same x.derived) w.derived

  -- what is said of the one list of tokens
  of_tokens : {text : List ℕ} {ts us : List Token} (P : List Token → Type 0) → IsLexed text ts → IsLexed text us → P us → P ts
  of_tokens {text} {ts} {us} P l m h = subst P (one_list text us ts m l) h

  one_reason : (text : List ℕ) (r s : Reason) → Holds text r → Holds text s → r ≡ s
  one_reason text (of_bytes r) (of_bytes s) h k = ap of_bytes (one_refusal text r s h k)
  one_reason text (of_bytes r) (of_nesting at) h k = absurd (lexed_not_refused text k.tokens r k.lexed h)
  one_reason text (of_bytes r) (of_grammar at) h k = absurd (lexed_not_refused text k.tokens r k.lexed h)
  one_reason text (of_nesting at) (of_bytes s) h k = absurd (lexed_not_refused text h.tokens s h.lexed k)
  one_reason text (of_nesting at) (of_nesting place) h k = ap of_nesting (deep_once h.deep (of_tokens (λ ts. IsTooDeep text ts place) h.lexed k.lexed k.deep))
  one_reason text (of_nesting at) (of_grammar place) h k = absurd (nests_not_deep (of_tokens (λ ts. Nests (kinds_of ts)) h.lexed k.lexed k.nested) h.deep)
  one_reason text (of_grammar at) (of_bytes s) h k = absurd (lexed_not_refused text h.tokens s h.lexed k)
  one_reason text (of_grammar at) (of_nesting place) h k = absurd (nests_not_deep (of_tokens (λ ts. Nests (kinds_of ts)) k.lexed h.lexed h.nested) k.deep)
  one_reason text (of_grammar at) (of_grammar place) h k = ap of_grammar (unexpected_once h.refused (of_tokens (λ ts. IsUnexpected text ts place) h.lexed k.lexed k.refused))

  not_both : {text : List ℕ} {p : SourceProgram} {places : List ℕ} → IsWrittenIn text p places → (r : Reason) → Holds text r → ⊥
  not_both {text} w (of_bytes r) h = lexed_not_refused text w.tokens r w.lexed h
  not_both {text} w (of_nesting at) h = nests_not_deep w.nested (of_tokens (λ ts. IsTooDeep text ts at) w.lexed h.lexed h.deep)
  not_both {text} w (of_grammar at) h =
      let u = of_tokens (λ ts. IsUnexpected text ts at) w.lexed h.lexed h.refused in
      not_refused (kinds_of w.tokens) u.index u.refused (is_program text w.tokens w.derived)

  pub read_as_written : (text : List ℕ) → HasOneReadingAsWritten text
  read_as_written text = record {
    some = some_written text;
    one_program = λ p q places others w x. one_written w x;
    one_refusal = λ code other at place h k. one_answer (why h) (why k) (one_reason text (why h).reason (why k).reason (why h).holds (why k).holds);
    apart = λ p places code at w h. not_both w (why h).reason (why h).holds;
  }
