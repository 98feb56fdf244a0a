-- Why a call about lines gives none, from what the readers and the work answer.
use Rattle.std.proofs.Common.{◌≡◌, ℕ, List, Option, inl, inr, sym, ap, subst, arith}
use Rattle.gcl_core.specs.meaning.Syntax.{SourceProgram}
use Rattle.gcl_core.specs.text.Texts.{Spells, SpellsNone}
use Rattle.gcl_parse.specs.OneReading.{HasOneReading}
use Rattle.gcl_text.specs.Readings.{NoneInText}
use Rattle.gcl_text.specs.declared.refusing.TextRefusal.{TextRefusal}
use Rattle.gcl_text.specs.declared.refusing.TextRefusal.TheVariants.{Coded, OutOfMemory}
use Rattle.mass_lines.specs.Reasons.{IsReason}
use Rattle.mass_lines.specs.declared.reasons.Reason.{Reason}
use Rattle.mass_lines.specs.declared.reasons.Reason.TheVariants as reasons
use Rattle.zar_c.specs.Said.{place_of, bare, mass_refused}
use Rattle.zar_c.specs.declared.said.ZarSaid.{ZarSaid}
use Rattle.zar_c.specs.declared.statuses.TheConstants.{OUT_OF_MEMORY, MASS_REFUSED}
use Rattle.zar_c.specs.inner.Refusing.{IsToldReason, IsRefusal, IsSaid}

module _ (Has : SourceProgram → Type 0) (HasNone : ℕ → Option ℕ → Type 0) (Refuses : SourceProgram → ℕ → Type 0) (s : ZarSaid) where
  pub by_memory : s ≡ bare OUT_OF_MEMORY → IsRefusal Has HasNone Refuses s
  by_memory form = record {
    undone = λ e. omega (arith, is, e);
    asked = λ e. omega (arith, is, e);
    refused = λ e. absurd (omega (arith, is, e));
    reason = λ e. absurd (omega (arith, is, e));
    there = λ e. absurd (omega (arith, is, e));
    form = inr (inr form);
  }
    where
      is : s.status ≡ OUT_OF_MEMORY
      is = ap (λ (t : ZarSaid). t.status) form

  -- the text has no program
  pub by_text : (r : TextRefusal) → IsSaid r s → NoneInText HasNone r → IsRefusal Has HasNone Refuses s
  by_text (Coded code at) is none = record {
    undone = λ e. omega (arith, is.0, e);
    asked = λ e. omega (arith, is.0, e);
    refused = λ e. subst (λ n. HasNone n (place_of s)) (sym is.1) (subst (HasNone code) (sym is.2) none);
    reason = λ e. absurd (omega (arith, is.0, e));
    there = λ e. absurd (omega (arith, is.0, e));
    form = inl is.3;
  }
  by_text OutOfMemory is none = by_memory is

  -- it has this one, whose lines are refused
  pub by_reason : (q : SourceProgram) → Has q → (code : ℕ) → s ≡ mass_refused code → ((p : SourceProgram) → Has p → Refuses p code)
      → IsRefusal Has HasNone Refuses s
  by_reason q has code form why = record {
    undone = λ e. omega (arith, is, e);
    asked = λ e. omega (arith, is, e);
    refused = λ e. absurd (omega (arith, is, e));
    reason = λ e p there. subst (Refuses p) (sym same) (why p there);
    there = λ e. (q, has);
    form = inr (inl (subst (λ n. s ≡ mass_refused n) (sym same) form));
  }
    where
      is : s.status ≡ MASS_REFUSED
      is = ap (λ (t : ZarSaid). t.status) form

      same : s.code ≡ code
      same = ap (λ (t : ZarSaid). t.code) form

-- the text has this one program, whose lines are refused for a reason, or memory ran out
module _ (text : List ℕ) (one : HasOneReading text) (q : SourceProgram) (spelled : Spells text q) (s : ZarSaid) (Cause : SourceProgram → ℕ → Type 0) where
  pub by_lines : (reason : Reason) → IsToldReason reason s → IsReason (Cause q) reason → IsRefusal (Spells text) (SpellsNone text) Cause s
  by_lines (reasons.Coded code) is why = by_reason _ _ _ s q spelled code is (λ p spells. subst (λ r. Cause r code) (one.one_program q p spelled spells) why)
  by_lines reasons.Memory is why = by_memory _ _ _ s is
