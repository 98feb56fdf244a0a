-- What a call about lines answers, at each of its ends.
use Rattle.std.proofs.Common.{◌≡◌, ℕ, ◌<◌, ◌≤◌, ◌++◌, ◌⊎◌, List, Option, length, drop, inl, inr, refl, sym, ap, subst, arith}
use Rattle.gcl_core.specs.meaning.Syntax.{SourceProgram}
use Rattle.zar_c.specs.Answered.{IsReply}
use Rattle.zar_c.specs.Said.{place_of, bare, done, text_refused, mass_refused}
use Rattle.zar_c.specs.declared.said.ZarSaid.{ZarSaid}
use Rattle.zar_c.specs.declared.statuses.TheConstants.{DONE, NUMBERS_REFUSED, OUT_OF_MEMORY, MASS_REFUSED}
use Rattle.zar_c.specs.inner.Refusing.{IsRefusal}

module _ (Has : SourceProgram → Type 0) (HasNone : ℕ → Option ℕ → Type 0) (Can : Type 0) (Are : SourceProgram → List ℕ → Type 0)
    (Refuses : SourceProgram → ℕ → Type 0) (old : List ℕ) (s : ZarSaid) where
  -- a number is out of range
  pub numbers_refused : s ≡ bare NUMBERS_REFUSED → (Can → ⊥) → IsReply Has HasNone Can Are Refuses old old s
  numbers_refused form cannot = record {
    told = λ e. absurd (omega (arith, is, e));
    reason = λ e. absurd (omega (arith, is, e));
    there = λ e. absurd (by e);
    refused = λ e. absurd (omega (arith, is, e));
    asked = (λ e. cannot, λ n. is);
    untouched = λ n. refl;
    form = inr (inr (inr (inl form)));
  }
    where
      is : s.status ≡ NUMBERS_REFUSED
      is = ap (λ (t : ZarSaid). t.status) form

      by : (s.status ≡ DONE) ⊎ (s.status ≡ MASS_REFUSED) → ⊥
      by (inl e) = omega (arith, is, e)
      by (inr e) = omega (arith, is, e)

  -- there are no lines
  pub none_told : Can → IsRefusal Has HasNone Refuses s → IsReply Has HasNone Can Are Refuses old old s
  none_told can is = record {
    told = λ e. absurd (is.undone e);
    reason = is.reason;
    there = by;
    refused = is.refused;
    asked = (λ e. absurd (is.asked e), λ n. absurd (n can));
    untouched = λ n. refl;
    form = among is.form;
  }
    where
      by : (s.status ≡ DONE) ⊎ (s.status ≡ MASS_REFUSED) → (p : SourceProgram) × Has p
      by (inl e) = absurd (is.undone e)
      by (inr e) = is.there e

      among : (s ≡ text_refused s.code (place_of s)) ⊎ (s ≡ mass_refused s.code) ⊎ (s ≡ bare OUT_OF_MEMORY)
          → (s ≡ done s.length) ⊎ (s ≡ text_refused s.code (place_of s)) ⊎ (s ≡ mass_refused s.code) ⊎ (s ≡ bare NUMBERS_REFUSED) ⊎ (s ≡ bare OUT_OF_MEMORY)
      among (inl e) = inr (inl e)
      among (inr (inl e)) = inr (inr (inl e))
      among (inr (inr e)) = inr (inr (inr (inr e)))

  -- there are these lines
  pub lines_told : (new lines : List ℕ) → Can → s ≡ done (length lines) → ((p : SourceProgram) → Has p → Are p lines) → (p : SourceProgram) × Has p
      → (length lines ≤ length old → new ≡ lines ++ drop (length lines) old) → (length old < length lines → new ≡ old)
      → IsReply Has HasNone Can Are Refuses old new s
  lines_told new lines can form are there written kept = record {
    told = λ e p has. record { lines = lines; are = are p has; long = long; written = written; kept = kept };
    reason = λ e. absurd (omega (arith, is, e));
    there = λ e. there;
    refused = λ e. absurd (omega (arith, is, e));
    asked = (λ e. absurd (omega (arith, is, e)), λ n. absurd (n can));
    untouched = λ n. absurd (n is);
    form = inl (subst (λ n. s ≡ done n) (sym long) form);
  }
    where
      is : s.status ≡ DONE
      is = ap (λ (t : ZarSaid). t.status) form

      long : s.length ≡ length lines
      long = ap (λ (t : ZarSaid). t.length) form
