-- A walk over turns, and one over entries, at moduli of which more may be lost on the way.
use Rattle.std.proofs.Common.{◌≡◌, ℕ, ◌*◌, ◌^◌, ◌<◌, Bool, true, false, ◌&&◌, cond, if◌then◌else◌, List, [], ◌∷◌, map, length, slice_index, refl, sym, ap, ◌∙◌, subst, subst₂, arith}
use Rattle.std.specs.Prelude.{◌==◌, Contains}
use Rattle.std.specs.BTreeMap.{BTreeMap}
use Rattle.std.specs.Ordering.{nat_cmp}
use Rattle.std.proofs.lemmas.Cmp.{nat_cmp_total}
use Rattle.std.proofs.lemmas.Map.Lookups.{exact_unsigned}
use Rattle.numbers.specs.Fraction.{Fraction}
use Rattle.narrow_fractions.specs.Remainders.{Same}
use Rattle.narrow_fractions.proofs.Congruence.{equal, chained, times}
use Rattle.visit_finder.specs.declared.residues.Moduli.{Moduli}
use Rattle.visit_finder.specs.declared.residues.Residues.{Residues}
use Rattle.visit_finder.specs.Places.{modulus, form_at, is_lost, AreOf, AreForms, AreOver, Loses}
use Rattle.visit_finder.specs.Exact.{Turn, Entry, is_in, turns_within, entries_within}
use Rattle.visit_finder.specs.Multiples.{HasInverse}
use Rattle.visit_finder.specs.inner.Adding.{ends_order, AreAdded, AreOverOne}
use Rattle.visit_finder.specs.inner.Parts.{AreParts, AreBegun}
use Rattle.visit_finder.proofs.Members.{none_in, among}
use Rattle.visit_finder.proofs.Adding.{Each, added_at, entered_summed, led_summed, ends_total, ends_exact}
use Rattle.visit_finder.proofs.Leading.{LeadingAt, leading_none, leading_one, leading_all, EnteringAt, entering_none, entering_one, entering_all}

-- ---- moduli of which more are lost
pub same_modulus : (old new : Moduli) (place : ℕ) → Loses old new → modulus old place ≡ modulus new place
same_modulus old new place h = ap (λ primes. slice_index (map (λ prime. prime.p) primes) place) (sym h.0)

pub loses_none : (moduli : Moduli) → Loses moduli moduli
loses_none moduli = (refl, λ place kept. kept)

pub loses_then : (a b c : Moduli) → Loses a b → Loses b c → Loses a c
loses_then a b c h k = (k.0 ∙ h.0, λ place kept. h.1 place (k.1 place kept))

pub still_forms : (old new : Moduli) (r : Residues) → Loses old new → AreForms old r → AreForms new r
still_forms old new r h forms place within = subst (λ m. form_at place r < m) (same_modulus old new place h) (forms place within)

-- ---- the form of a weight
weight_form : (m form v num den : ℕ) → Same m form (2 ^ 64 * v) → Same m (v * den) num → Same m (den * form) (2 ^ 64 * num)
weight_form m form v num den s t = chained m _ _ _ (times m den _ _ s) (chained m _ _ _ (equal m _ (2 ^ 64 * (v * den)) (omega arith)) (times m (2 ^ 64) _ _ t))

pub one_over : (moduli : Moduli) (over : Residues) → AreOf moduli over 1 → AreOverOne moduli over 1
one_over moduli over h = (λ place within. (h place within).0, λ place within kept. (1, h place within, equal (modulus moduli place) _ _ refl))

-- the residues of a weight, by those of 1 over its denominator
pub record IsPart (moduli : Moduli) (over part : Residues) (f : Fraction) : Type 0 where
  pub forms : AreForms moduli over → AreForms moduli part
  pub fraction : (place den : ℕ) → place < 5 → AreOver moduli place over 1 den → AreOver moduli place part f.0 den

pub is_part : (moduli : Moduli) (over part : Residues) (f : Fraction) (num : ℕ) → num ≡ f.0 → (AreForms moduli over → AreForms moduli part) →
    ((place den : ℕ) → place < 5 → AreOver moduli place over 1 den → AreOver moduli place part num den) → IsPart moduli over part f
is_part moduli over part f num same forms fraction = record { forms = forms; fraction = λ place den within h. subst (λ n. AreOver moduli place part n den) same (fraction place den within h) }

part_inverse : (moduli : Moduli) (over : Residues) (den place : ℕ) → place < 5 → is_lost moduli place ≡ false → AreOverOne moduli over den → HasInverse (modulus moduli place) den
part_inverse moduli over den place within kept h = let v = h.1 place within kept in (v.0, v.2)

part_form : (moduli : Moduli) (over part : Residues) (f : Fraction) (place : ℕ) → place < 5 → is_lost moduli place ≡ false → AreOverOne moduli over f.1 → IsPart moduli over part f →
    Same (modulus moduli place) (f.1 * form_at place part) (2 ^ 64 * f.0)
part_form moduli over part f place within kept h is =
    let v = is.fraction place f.1 within (h.1 place within kept) in
    weight_form (modulus moduli place) (form_at place part) v.0 f.0 f.1 v.1.1 v.2

times_if : (b : Bool) (f n : ℕ) → f * (if b then n else 0) ≡ (if b then f * n else 0)
times_if true f n = refl
times_if false f n = omega arith

times_one : (b : Bool) (f : ℕ) → f * (if b then 1 else 0) ≡ (if b then f else 0)
times_one true f = omega arith
times_one false f = omega arith

-- ---- turns
abbrev pub Between : List ℕ → ℕ × ℕ → Type 0
Between states ends = Contains states ends.0 × Contains states ends.1

pub record Leading (old moduli : Moduli) (states : List ℕ) (turns rest : List Turn) (over : Residues) (den : ℕ) (parts : List ((ℕ × ℕ) × Residues)) : Type 0 where
  pub loses : Loses old moduli
  pub kept : AreOverOne moduli over den
  pub each : Each (λ k r. Between states k × AreForms moduli r) parts
  pub at : (place : ℕ) → place < 5 → is_lost moduli place ≡ false → LeadingAt (modulus moduli place) place (turns_within states turns) (turns_within states rest) parts

pub walk_begun : (moduli : Moduli) (states : List ℕ) (turns : List Turn) (over : Residues) (parts : List ((ℕ × ℕ) × Residues)) → AreOf moduli over 1 → parts ≡ [] →
    Leading moduli moduli states turns turns over 1 parts
walk_begun moduli states turns over parts h none = subst (λ parts. Leading moduli moduli states turns turns over 1 parts) (sym none) (record {
  loses = loses_none moduli;
  kept = one_over moduli over h;
  each = λ k r c. absurd (none_in (k, r) c);
  at = λ place within kept. leading_none (modulus moduli place) place (turns_within states turns);
})

pub walk_skipped : (old moduli : Moduli) (states : List ℕ) (turns rest : List Turn) (e : Turn) (over : Residues) (den : ℕ) (parts : List ((ℕ × ℕ) × Residues)) →
    (is_in states e.0 && is_in states e.1) ≡ false → Leading old moduli states turns (e ∷ rest) over den parts → Leading old moduli states turns rest over den parts
walk_skipped old moduli states turns rest e over den parts out h = record {
  loses = h.loses;
  kept = h.kept;
  each = h.each;
  at = λ place within kept. subst (λ b. LeadingAt (modulus moduli place) place (turns_within states turns) (cond b (e ∷ turns_within states rest) (turns_within states rest)) parts) out (h.at place within kept);
}

pub walk_taken : (old before moduli : Moduli) (states : List ℕ) (turns rest : List Turn) (e : Turn) (last over part : Residues) (den : ℕ) (parts more : List ((ℕ × ℕ) × Residues)) →
    length moduli.primes ≡ 5 → Loses before moduli → AreOverOne moduli over e.2.1 → IsPart moduli over part e.2 → is_in states e.0 ≡ true → is_in states e.1 ≡ true →
    AreAdded ends_order moduli parts more (e.0, e.1) part → Leading old before states turns (e ∷ rest) last den parts → Leading old moduli states turns rest over e.2.1 more
walk_taken old before moduli states turns rest e last over part den parts more count loses is_over is_part from to add h =
    let add = added_at ends_order ends_total ends_exact moduli (Between states) parts more (e.0, e.1) part count (among states e.0 from, among states e.1 to) (is_part.forms is_over.0)
    (λ k r c. let old = h.each k r c in (old.0, still_forms before moduli r loses old.1)) add in
    record {
      loses = loses_then old before moduli h.loses loses;
      kept = is_over;
      each = add.each;
      at = λ place within kept.
          let m = modulus moduli place in
          let was = subst (λ m. LeadingAt m place (turns_within states turns) (turns_within states (e ∷ rest)) parts) (same_modulus before moduli place loses) (h.at place within (loses.1 place kept)) in
          let is = subst (λ b. LeadingAt m place (turns_within states turns) (cond (b && is_in states e.1) (e ∷ turns_within states rest) (turns_within states rest)) parts) from was in
          leading_one m place (turns_within states turns) (turns_within states rest) parts more e (form_at place part) (part_inverse moduli over e.2.1 place within kept is_over)
          (part_form moduli over part e.2 place within kept is_over is_part)
          (λ v s. chained m _ _ _ (equal m _ _ (led_summed place v s more)) (chained m _ _ _ (add.sums place within (λ k. if k.1 == s then v k.0 else 0))
          (equal m _ _ (let a = times_if (e.1 == s) (form_at place part) (v e.0) in let b = led_summed place v s parts in omega (arith, a, b)))))
          (subst (λ b. LeadingAt m place (turns_within states turns) (cond b (e ∷ turns_within states rest) (turns_within states rest)) parts) to is);
    }

pub walk_moved : (old moduli moduli' : Moduli) (states : List ℕ) (turns rest : List Turn) (over over' : Residues) (den den' : ℕ) (parts parts' : BTreeMap (ℕ × ℕ) Residues) →
    moduli' ≡ moduli → parts' ≡ parts → den' ≡ den → over' ≡ over → Leading old moduli states turns rest over den parts.entries → Leading old moduli' states turns rest over' den' parts'.entries
walk_moved old moduli moduli' states turns rest over over' den den' parts parts' m p d o h =
    subst₂ (λ moduli parts. Leading old moduli states turns rest over' den' parts.entries) (sym m) (sym p) (subst₂ (λ den over. Leading old moduli states turns rest over den parts.entries) (sym d) (sym o) h)

pub walk_done : (old moduli : Moduli) (states : List ℕ) (turns : List Turn) (over : Residues) (den : ℕ) (parts : List ((ℕ × ℕ) × Residues)) → Leading old moduli states turns [] over den parts →
    AreParts moduli states turns parts
walk_done old moduli states turns over den parts h = record {
  forms = λ t s r c. (h.each (t, s) r c).1;
  parts_of = λ place within kept. leading_all (modulus moduli place) place (turns_within states turns) parts (h.at place within kept);
}

-- ---- entries
pub record Entering (old moduli : Moduli) (states : List ℕ) (entries rest : List Entry) (begun : List (ℕ × Residues)) : Type 0 where
  pub loses : Loses old moduli
  pub each : Each (λ k r. Contains states k × AreForms moduli r) begun
  pub at : (place : ℕ) → place < 5 → is_lost moduli place ≡ false → EnteringAt (modulus moduli place) place (entries_within states entries) (entries_within states rest) begun

pub entering_begun : (moduli : Moduli) (states : List ℕ) (entries : List Entry) (begun : List (ℕ × Residues)) → begun ≡ [] → Entering moduli moduli states entries entries begun
entering_begun moduli states entries begun none = subst (λ begun. Entering moduli moduli states entries entries begun) (sym none) (record {
  loses = loses_none moduli;
  each = λ k r c. absurd (none_in (k, r) c);
  at = λ place within kept. entering_none (modulus moduli place) place (entries_within states entries);
})

pub entering_skipped : (old moduli : Moduli) (states : List ℕ) (entries rest : List Entry) (e : Entry) (begun : List (ℕ × Residues)) → is_in states e.0 ≡ false →
    Entering old moduli states entries (e ∷ rest) begun → Entering old moduli states entries rest begun
entering_skipped old moduli states entries rest e begun out h = record {
  loses = h.loses;
  each = h.each;
  at = λ place within kept. subst (λ b. EnteringAt (modulus moduli place) place (entries_within states entries) (cond b (e ∷ entries_within states rest) (entries_within states rest)) begun) out (h.at place within kept);
}

pub entering_taken : (old before moduli : Moduli) (states : List ℕ) (entries rest : List Entry) (e : Entry) (over part : Residues) (begun more : List (ℕ × Residues)) →
    length moduli.primes ≡ 5 → Loses before moduli → AreOverOne moduli over e.1.1 → IsPart moduli over part e.1 → is_in states e.0 ≡ true →
    AreAdded nat_cmp moduli begun more e.0 part → Entering old before states entries (e ∷ rest) begun → Entering old moduli states entries rest more
entering_taken old before moduli states entries rest e over part begun more count loses is_over is_part here add h =
    let add = added_at nat_cmp nat_cmp_total exact_unsigned moduli (Contains states) begun more e.0 part count (among states e.0 here) (is_part.forms is_over.0)
    (λ k r c. let old = h.each k r c in (old.0, still_forms before moduli r loses old.1)) add in
    record {
      loses = loses_then old before moduli h.loses loses;
      each = add.each;
      at = λ place within kept.
          let m = modulus moduli place in
          let was = subst (λ m. EnteringAt m place (entries_within states entries) (entries_within states (e ∷ rest)) begun) (same_modulus before moduli place loses) (h.at place within (loses.1 place kept)) in
          entering_one m place (entries_within states entries) (entries_within states rest) begun more e (form_at place part) (part_inverse moduli over e.1.1 place within kept is_over)
          (part_form moduli over part e.1 place within kept is_over is_part)
          (λ s. chained m _ _ _ (equal m _ _ (entered_summed place s more)) (chained m _ _ _ (add.sums place within (λ k. if k == s then 1 else 0))
          (equal m _ _ (let a = times_one (e.0 == s) (form_at place part) in let b = entered_summed place s begun in omega (arith, a, b)))))
          (subst (λ b. EnteringAt m place (entries_within states entries) (cond b (e ∷ entries_within states rest) (entries_within states rest)) begun) here was);
    }

pub entering_done : (old moduli : Moduli) (states : List ℕ) (entries : List Entry) (begun : List (ℕ × Residues)) → Entering old moduli states entries [] begun → AreBegun moduli states entries begun
entering_done old moduli states entries begun h = record {
  forms = λ s r c. (h.each s r c).1;
  begun_of = λ place within kept. entering_all (modulus moduli place) place (entries_within states entries) begun (h.at place within kept);
}
