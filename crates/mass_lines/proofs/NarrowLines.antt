-- The lines of narrow rows are those of their fractions at any width; and what stands behind rows.
use Rattle.std.proofs.Common.{◌≡◌, ◌∙◌, ℕ, zero, suc, ◌^◌, ◌<◌, ◌&&◌, ◌==◌, false, IsTrue, nat_lt, if◌then◌else◌, List, [], ◌∷◌, ◌++◌, refl, sym, ap, arith}
use Rattle.std.specs.List.{All}
use Rattle.std.proofs.lemmas.Bool.Decides.{nat_tests, Decides-and, Decides-ltb}
use Rattle.std.proofs.lemmas.List.{append-nil}
use Rattle.std.proofs.lemmas.List.Elements.{All-head, All-tail}
use Rattle.gcl_core.specs.declared.answers.Outcome.{Outcome}
use Rattle.gcl_core.specs.weighing.Fractions.{Fraction}
use Rattle.report_text.specs.Lines.{mass_text}
use Rattle.wide_text.specs.WideLines.{wide_mass_text, wide_endless_text}
use Rattle.mass_lines.specs.Narrow.{IsNarrow}
use Rattle.mass_lines.specs.MassLines.{mass_rows_text}
use Rattle.mass_lines.specs.ExactLines.{exact_rows_text, exact_lines}

both_below : (a b n : ℕ) → IsTrue (nat_lt a n && nat_lt b n) → (a < n) × (b < n)
both_below a b n h = (Decides-and (nat_lt a n) (nat_lt b n) (Decides-ltb a n) (Decides-ltb b n)).0 h

pub parts_fit : (f : Fraction) → IsNarrow f → (f.0 < 2 ^ 128) × (f.1 < 2 ^ 128)
parts_fit f narrow = both_below f.0 f.1 (2 ^ 128) narrow

module _ (d : ℕ) (same : (outcome : Outcome) (mass : Fraction) → mass.0 < 2 ^ 128 → mass.1 < 2 ^ 128 → wide_mass_text d outcome mass ≡ mass_text d outcome mass) where
  pub rows_alike : (rows : List (Outcome × Fraction)) → All (λ row. IsNarrow row.1) rows → mass_rows_text d rows ≡ exact_rows_text d rows
  rows_alike [] narrow = refl
  rows_alike (row ∷ rows) narrow =
      let Fits = λ (row : Outcome × Fraction). IsNarrow row.1 in
      let first = parts_fit row.1 (All-head Fits row rows narrow) in
      ap (λ line. line ++ mass_rows_text d rows) (sym (same row.0 row.1 first.0 first.1))
      ∙ ap (λ lines. wide_mass_text d row.0 row.1 ++ lines) (rows_alike rows (All-tail Fits row rows narrow))

-- ---- the lines of exact masses, behind those of their rows
module _ (d : ℕ) (rows : List (Outcome × Fraction)) (text : List ℕ) where
  pub ends_there : (endless : Fraction) → text ≡ exact_rows_text d rows → endless.0 ≡ 0 → text ≡ exact_lines d rows endless
  ends_there (zero, b) written none = written ∙ sym (append-nil (exact_rows_text d rows))
  ends_there (suc a, b) written none = absurd (omega arith)

  pub goes_on : (endless : Fraction) → text ≡ exact_rows_text d rows ++ wide_endless_text d endless → 0 < endless.0 → text ≡ exact_lines d rows endless
  goes_on endless written some =
      let above : (endless.0 == 0) ≡ false = grind (arith, nat_tests) in
      written ∙ sym (ap (λ is_none. exact_rows_text d rows ++ (if is_none then [] else wide_endless_text d endless)) above)
