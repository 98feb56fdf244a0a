-- A text that is read in exactly one way as it is written is so as it is checked.
use Rattle.std.proofs.Common.{◌≡◌, ◌∙◌, ℕ, refl, ap, sym, subst, List, Option, Some, None, ◌⊎◌, inl, inr}
use Rattle.gcl_core.specs.meaning.Syntax.{SourceProgram}
use Rattle.gcl_core.specs.text.Acceptance.{ProgramRefusal, too_many_names, flawed, refusal_of}
use Rattle.gcl_core.specs.meaning.Lowest.{in_lowest}
use Rattle.gcl_core.specs.text.Texts.{IsWrittenIn, IsRefusedProgram, many_names, has_flaw, flaw_code, Spells, SpellsNone, as_text, as_program}
use Rattle.gcl_parse.specs.OneReading.{HasOneReadingAsWritten, HasOneReading}
use Rattle.gcl_parse.proofs.FlawPlaces.{flaw_placed}
use Rattle.gcl_parse.proofs.OneReading.{Written}

abbrev Spelled : List ℕ → Type 0
Spelled text = ((p : SourceProgram) × Spells text p) ⊎ ((code : ℕ) × (at : Option ℕ) × SpellsNone text code at)

program_checked : {text : List ℕ} {p : SourceProgram} {places : List ℕ} → IsWrittenIn text p places → (r : Option ProgramRefusal) → refusal_of p ≡ r → Spelled text
program_checked {p = p} {places = places} w None e = inl (in_lowest p, record { written = p; places = places; has = w; accepted = e; lowest = refl })
program_checked w (Some too_many_names) e = inr (_, _, as_program w (many_names e))
program_checked w (Some (flawed flaw n)) e = inr (_, _, as_program w (has_flaw e (flaw_placed w.derived flaw n e).1))

some_spelled : {text : List ℕ} → Written text → Spelled text
some_spelled (inl (p, places, w)) = program_checked w (refusal_of p) refl
some_spelled (inr (code, at, h)) = inr (code, at, as_text h)

-- ---- a program

refused_once : {p : SourceProgram} {places : List ℕ} {code other : ℕ} {at place : Option ℕ} → IsRefusedProgram p places code at → IsRefusedProgram p places other place → (code ≡ other) × (at ≡ place)
refused_once (many_names h) (many_names k) = (refl, refl)
refused_once (many_names h) (has_flaw k f) = cc
refused_once (has_flaw h e) (many_names k) = cc
refused_once (has_flaw {flaw = flaw} {n = n} h e) (has_flaw {flaw = other} {n = m} k f) =
    let same : flaw ≡ other = cc in
    let number : n ≡ m = cc in
    (ap flaw_code same, cc)

accepted_not_refused : {p : SourceProgram} {places : List ℕ} {code : ℕ} {at : Option ℕ} → refusal_of p ≡ None → IsRefusedProgram p places code at → ⊥
accepted_not_refused a (many_names h) = cc
accepted_not_refused a (has_flaw h e) = cc

-- ---- a text

module _ {text : List ℕ} (r : HasOneReadingAsWritten text) where
  one_spelled : {p q : SourceProgram} → Spells text p → Spells text q → p ≡ q
  one_spelled s t = s.lowest ∙ ap in_lowest (r.one_program s.written t.written s.places t.places s.has t.has).0 ∙ sym t.lowest

  none_once : {code other : ℕ} {at place : Option ℕ} → SpellsNone text code at → SpellsNone text other place → (code ≡ other) × (at ≡ place)
  none_once (as_text h) (as_text k) = r.one_refusal _ _ _ _ h k
  none_once (as_text h) (as_program w k) = absurd (r.apart _ _ _ _ w h)
  none_once (as_program w k) (as_text h) = absurd (r.apart _ _ _ _ w h)
  none_once {other = other} {place = place} (as_program {p = p} {places = places} w h) (as_program {p = q} {places = others} x k) =
      let same = r.one_program q p others places x w in
      refused_once h (subst (λ a. IsRefusedProgram p a other place) same.1 (subst (λ a. IsRefusedProgram a others other place) same.0 k))

  not_both : {p : SourceProgram} {code : ℕ} {at : Option ℕ} → Spells text p → SpellsNone text code at → ⊥
  not_both s (as_text h) = r.apart _ _ _ _ s.has h
  not_both s (as_program {p = q} {places = places} w h) =
      let same = (r.one_program s.written q s.places places s.has w).0 in
      accepted_not_refused (subst (λ a. refusal_of a ≡ None) same s.accepted) h

  pub read_as_checked : HasOneReading text
  read_as_checked = record {
    some = some_spelled r.some;
    one_program = λ p q s t. one_spelled s t;
    one_refusal = λ code other at place h k. none_once h k;
    apart = λ p code at s h. not_both s h;
  }
