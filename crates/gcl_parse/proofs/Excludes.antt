-- What is derived is not refused, and the grammar refuses at one place.
use Rattle.std.proofs.Common.{◌≡◌, ℕ, suc, ◌<◌, refl, sym, subst, arith, List, drop, inl, inr}
use Rattle.std.proofs.lemmas.List.{take-append-drop}
use Rattle.std.proofs.lemmas.Bool.{cases_order}
use Rattle.std.proofs.Math.Nat.{eq-or-lt_of_le}
use Rattle.gcl_core.specs.declared.tokens.Token.{Token}
use Rattle.gcl_core.specs.declared.tokens.TokenKind.{TokenKind}
use Rattle.gcl_core.specs.meaning.Syntax.{SourceProgram}
use Rattle.gcl_core.specs.text.Words.{kinds_of, words_of}
use Rattle.gcl_core.specs.text.Derivation.{Derives}
use Rattle.gcl_core.specs.text.Nesting.{Nests}
use Rattle.gcl_core.specs.text.GrammarRefusal.{RefusedAt, IsProgram}
use Rattle.gcl_parse.specs.declared.error.ParseError.{ParseError}
use Rattle.gcl_parse.specs.declared.error.ParseError.TheVariants.{TooDeep, Unexpected, OutOfMemory}
use Rattle.gcl_parse.specs.Refused.{IsGrammarRefused, IsDerived}
use Rattle.gcl_core.proofs.TokenWords.{kinds-words}
use Rattle.gcl_parse.proofs.Programs.{derives}
use Rattle.gcl_parse.proofs.Refuses.{by_kinds}
use Rattle.gcl_parse.specs.inner.Beginnings.{beginnings}

pub is_program : (text : List ℕ) (tokens : List Token) {p : SourceProgram} {places : List ℕ} → Derives text tokens p places → IsProgram (kinds_of tokens)
is_program text tokens {p} d = record { words = words_of text tokens; kinds = kinds-words text tokens; body = p.body; result = p.result; reads = d.program }

pub kinds_derive : (text : List ℕ) (tokens : List Token) → IsProgram (kinds_of tokens) → IsDerived text tokens
kinds_derive text tokens p =
    let d = by_kinds (words_of text tokens) (rw (kinds-words text tokens) p) in
    record { program = _; places = beginnings tokens; derives = derives text tokens refl refl d.2 refl }

pub not_refused : (ks : List TokenKind) (i : ℕ) → RefusedAt ks i → IsProgram ks → ⊥
not_refused ks i r p =
    elim (eq-or-lt_of_le r.within) [ inl h ↦ r.short h p | inr h ↦ r.here h (record { rest = drop (suc i) ks; program = subst IsProgram (sym (take-append-drop (suc i) ks)) p }) ]

-- tokens that derive a program and keep the nesting rule are refused where memory runs out alone
pub only_memory : (text : List ℕ) (tokens : List Token) {p : SourceProgram} {places : List ℕ} (e : ParseError) → Derives text tokens p places → Nests (kinds_of tokens) → IsGrammarRefused text tokens e → e ≡ OutOfMemory
only_memory text tokens (TooDeep at) d n r = let b = r.breaks in cc
only_memory text tokens (Unexpected at) d n r = absurd (not_refused (kinds_of tokens) r.1.index r.1.refused (is_program text tokens d))
only_memory text tokens OutOfMemory d n r = refl

not_before : (ks : List TokenKind) (i j : ℕ) → RefusedAt ks i → RefusedAt ks j → i < j → ⊥
not_before ks i j r s h = let w = s.within in r.here (omega (arith, w)) (s.before i h)

pub one_refusal : (ks : List TokenKind) (i j : ℕ) → RefusedAt ks i → RefusedAt ks j → i ≡ j
one_refusal ks i j r s = elim (cases_order i j) [ inl e ↦ e | inr h ↦ (elim h [ inl k ↦ absurd (not_before ks i j r s k) | inr k ↦ absurd (not_before ks j i s r k) ]) ]
