-- The visits of a state, from those of the states that lead to it.
use Rattle.std.proofs.Common.{◌≡◌, ℕ, ◌+◌, ◌*◌, ◌%◌, ◌^◌, ◌≤◌, ◌<◌, false, List, length, get_or, drop, refl, ap, subst, ◌∙◌, arith}
use Rattle.std.specs.List.{Contains}
use Rattle.std.proofs.lemmas.List.{at_drop_more, at_drop_all}
use Rattle.narrow_fractions.specs.Remainders.{Same}
use Rattle.narrow_fractions.proofs.Congruence.{equal, turned, chained, added, times}
use Rattle.visit_finder.specs.declared.columns.Column.{Column}
use Rattle.visit_finder.specs.declared.residues.Moduli.{Moduli}
use Rattle.visit_finder.specs.declared.residues.Residues.{Residues}
use Rattle.visit_finder.specs.Forms.{IsForm}
use Rattle.visit_finder.specs.Places.{modulus, form_at, is_lost, AreAt, AreForms, Loses}
use Rattle.visit_finder.specs.inner.Columns.{row_at}
use Rattle.visit_finder.specs.inner.Pivots.{PivotHolds, FoundHolds}
use Rattle.visit_finder.proofs.AtPlaces.{inverse_at, sum_at, product_at, same_modulus}
use Rattle.visit_finder.proofs.Forms.{without_word}

-- the law of a product, also where moduli were lost since
pub product_before : (old new : Moduli) (one other result : Residues) → Loses old new →
    ((place : ℕ) → place < 5 → (v u : ℕ) → AreAt new place one v → AreAt new place other u → AreAt new place result (v * u)) →
    (place : ℕ) → place < 5 → (v u : ℕ) → AreAt old place one v → AreAt old place other u → AreAt old place result (v * u)
product_before old new one other result loses clause place within =
    subst (λ p. (v u : ℕ) → IsForm p (form_at place one) v → IsForm p (form_at place other) u → IsForm p (form_at place result) (v * u)) (same_modulus old new place loses) (clause place within)

pub sum_before : (old new : Moduli) (one other result : Residues) → Loses old new →
    ((place : ℕ) → place < 5 → (v u : ℕ) → AreAt new place one v → AreAt new place other u → AreAt new place result (v + u)) →
    (place : ℕ) → place < 5 → (v u : ℕ) → AreAt old place one v → AreAt old place other u → AreAt old place result (v + u)
sum_before old new one other result loses clause place within =
    subst (λ p. (v u : ℕ) → IsForm p (form_at place one) v → IsForm p (form_at place other) u → IsForm p (form_at place result) (v + u)) (same_modulus old new place loses) (clause place within)

-- a part of the visits r that were found of a state is so many times the part b of its visits n
part_known : (w p i b r x once n : ℕ) → (p * i + 1) % w ≡ 0 → Same p (w * x) (b * r) → Same p (w * n) (once * r) → Same p (once * x) (b * n)
part_known w p i b r x once n e product found =
    without_word w p i (once * x) (b * n) e
    (chained p _ _ _ (equal p _ (once * (w * x)) (omega arith))
    (chained p _ _ _ (times p once _ _ product)
    (chained p _ _ _ (equal p _ (b * (once * r)) (omega arith))
    (chained p _ _ _ (times p b _ _ (turned p _ _ found)) (equal p _ _ (omega arith))))))

part_passed : (p once s x r part rest all : ℕ) → Same p r (s + x) → Same p (once * x) part → Same p (once * s + (part + rest)) all → Same p (once * r + rest) all
part_passed p once s x r part rest all sum known before =
    chained p _ _ _ (added p _ _ _ _ (times p once _ _ sum) (equal p rest rest refl))
    (chained p _ _ _ (equal p _ (once * x + (once * s + rest)) (omega arith))
    (chained p _ _ _ (added p _ _ _ _ known (equal p _ _ refl))
    (chained p _ _ _ (equal p _ (once * s + (part + rest)) (omega arith)) before)))

-- the sum s, over what leaves the state
over_leaves : (w p i once s leaves r n all : ℕ) → (p * i + 1) % w ≡ 0 → Same p (w * r) (s * leaves) → Same p (once * s) all → Same p (w * (w * n)) (leaves * all) →
    Same p (w * n) (once * r)
over_leaves w p i once s leaves r n all e product sum holds =
    turned p _ _ (without_word w p i (once * r) (w * n) e
    (chained p _ _ _ (equal p _ (once * (w * r)) (omega arith))
    (chained p _ _ _ (times p once _ _ product)
    (chained p _ _ _ (equal p _ (leaves * (once * s)) (omega arith))
    (chained p _ _ _ (times p leaves _ _ sum) (turned p _ _ holds))))))

-- the sum so far, and what the rest of the row leads on, are what the column says
pub record IsVisiting (old new : Moduli) (visits : List (ℕ × Residues)) (entered sum : Residues) (row : List (ℕ × Residues)) (index : ℕ) : Type 0 where
  pub loses : Loses old new
  pub forms : AreForms old sum
  pub known : (place : ℕ) → place < 5 → is_lost new place ≡ false → (once : ℕ) (v : ℕ → ℕ) → FoundHolds old place once v visits →
      Same (modulus old place) (once * form_at place sum + row_at place (drop index row) v) (form_at place entered * once + row_at place row v)

pub visiting_first : (moduli : Moduli) (visits : List (ℕ × Residues)) (entered : Residues) (row : List (ℕ × Residues)) → AreForms moduli entered →
    IsVisiting moduli moduli visits entered entered row 0
visiting_first moduli visits entered row forms = record {
  loses = (refl, λ place kept. kept);
  forms = forms;
  known = λ place within kept once v found. equal (modulus moduli place) _ _ (omega arith);
}

pub visiting_more : (old new : Moduli) (visits : List (ℕ × Residues)) (entered sum more result : Residues) (row : List (ℕ × Residues)) (index : ℕ) (d : ℕ × Residues) (visited : Residues) →
    index < length row → AreForms old (get_or row index d).1 → AreForms old visited → Contains visits ((get_or row index d).0, visited) →
    ((place : ℕ) → place < 5 → (v u : ℕ) → AreAt new place (get_or row index d).1 v → AreAt new place visited u → AreAt new place more (v * u)) →
    ((place : ℕ) → place < 5 → (v u : ℕ) → AreAt new place sum v → AreAt new place more u → AreAt new place result (v + u)) →
    IsVisiting old new visits entered sum row index → IsVisiting old new visits entered result row (index + 1)
visiting_more old new visits entered sum more result row index d visited within part_forms visited_forms has product_clause sum_clause h = record {
  loses = h.loses;
  forms = λ place small. (summed place small).0;
  known = λ place small kept once v found.
      let p = modulus old place in
      let i = inverse_at old place (form_at place sum) (h.forms place small) in
      let is = part_known (2 ^ 64) p i.0 (form_at place part.1) (form_at place visited) (form_at place more) once (v part.0) i.1 (taken place small).1 (found part.0 visited has) in
      let before = subst (λ n. Same p (once * form_at place sum + n) (form_at place entered * once + row_at place row v)) (at_drop_more (λ es. row_at place es v) row index d within)
      (h.known place small kept once v found) in
      part_passed p once (form_at place sum) (form_at place more) (form_at place result) (form_at place part.1 * v part.0) (row_at place (drop (index + 1) row) v) _ (summed place small).1 is before;
}
  where
    part : ℕ × Residues
    part = get_or row index d

    taken : (place : ℕ) → place < 5 → (form_at place more < modulus old place) × Same (modulus old place) (2 ^ 64 * form_at place more) (form_at place part.1 * form_at place visited)
    taken place small = product_at old place part.1 visited more (product_before old new part.1 visited more h.loses product_clause place small) (part_forms place small) (visited_forms place small)

    summed : (place : ℕ) → place < 5 → (form_at place result < modulus old place) × Same (modulus old place) (form_at place result) (form_at place sum + form_at place more)
    summed place small = sum_at old place sum more result (sum_before old new sum more result h.loses sum_clause place small) (h.forms place small) (taken place small).0

-- all moduli are lost
pub visiting_lost : (old new lost : Moduli) (visits : List (ℕ × Residues)) (entered sum : Residues) (row : List (ℕ × Residues)) (index : ℕ) → Loses new lost →
    ((place : ℕ) → is_lost lost place ≡ false → ⊥) → IsVisiting old new visits entered sum row index → IsVisiting old lost visits entered sum row (index + 1)
visiting_lost old new lost visits entered sum row index loses all h = record {
  loses = (loses.0 ∙ h.loses.0, λ place kept. absurd (all place kept));
  forms = h.forms;
  known = λ place within kept. absurd (all place kept);
}

-- the visits are found
pub visiting_last : (old new : Moduli) (visits : List (ℕ × Residues)) (state : ℕ) (column : Column) (sum leaves result : Residues) (row : List (ℕ × Residues)) (index : ℕ) →
    row ≡ column.from.items → length row ≤ index → AreForms old leaves →
    ((place : ℕ) → place < 5 → (v u : ℕ) → AreAt new place sum v → AreAt new place leaves u → AreAt new place result (v * u)) →
    IsVisiting old new visits column.entered sum row index →
    AreForms old result × ((place : ℕ) → place < 5 → is_lost new place ≡ false → (once : ℕ) (v : ℕ → ℕ) → PivotHolds old place once v state leaves column →
    FoundHolds old place once v visits → Same (modulus old place) (2 ^ 64 * v state) (once * form_at place result))
visiting_last old new visits state column sum leaves result row index same over leaves_forms clause h = (
  λ place small. (is place small).0,
  λ place small kept once v holds found.
      let p = modulus old place in
      let i = inverse_at old place (form_at place sum) (h.forms place small) in
      let none = at_drop_all (λ es. row_at place es v) row index over in
      let all = form_at place column.entered * once + row_at place column.from.items v in
      let whole = ap (λ es. form_at place column.entered * once + row_at place es v) same in
      let known : Same p (once * form_at place sum) all = chained p _ _ _ (equal p _ _ (omega (arith, none))) (chained p _ _ _ (h.known place small kept once v found) (equal p _ _ whole)) in
      over_leaves (2 ^ 64) p i.0 once (form_at place sum) (form_at place leaves) (form_at place result) (v state) all i.1 (is place small).1 known holds,
)
  where
    is : (place : ℕ) → place < 5 → (form_at place result < modulus old place) × Same (modulus old place) (2 ^ 64 * form_at place result) (form_at place sum * form_at place leaves)
    is place small = product_at old place sum leaves result (product_before old new sum leaves result h.loses clause place small) (h.forms place small) (leaves_forms place small)
