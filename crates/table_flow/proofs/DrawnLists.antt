-- A uniform draw from a state as a list: an entry for each number, and one where no attempt gives any.
use Rattle.std.proofs.Common.{◌≡◌, ℕ, zero, suc, ◌+◌, ◌-◌, ℤ, pos, [], ◌∷◌, ◌++◌, map, Option, Some, None, slice_set, append-nil, refl, sym, ap, ◌∙◌, arith}
use Rattle.std.specs.List.{range_with_len}
use Rattle.std.proofs.lemmas.List.{map-append}
use Rattle.gcl_core.specs.declared.answers.Limit.TheVariants.{Attempts}
use Rattle.gcl_core.specs.meaning.Value.{State}
use Rattle.gcl_core.specs.meaning.Blocks.{End, on, limit, by_class}
use Rattle.gcl_core.specs.meaning.Draw.{uniform_ends}
use Rattle.gcl_core.specs.weighing.Fractions.{Fraction}
use Rattle.gcl_core.specs.weighing.WeightedEnds.{Weighted, sure, scaled, taken_on, class_weight, no_class_weight, classes_from, weighted_classes}
use Rattle.gcl_core.proofs.EqualClasses.{last_of_equal}
use Rattle.table_flow.specs.Tables.{Table}
use Rattle.table_flow.proofs.FlowWords.{set_below}
use Rattle.table_flow.proofs.ArmEnds.{taken_append}

-- the states of a table, as ends
abbrev pub all_on : Table → Weighted End
all_on J = map (λ e. (e.0, on e.1)) J

-- the classes of one number more
classes_more : (weight : ℕ → Fraction) (c m : ℕ) →
    classes_from weight c c (range_with_len (c + 1) (suc m)) ≡ classes_from weight c c (range_with_len (c + 1) m) ++ ((weight 1, Some (c + m)) ∷ [])
classes_more weight c zero =
    let p : c + 1 - c ≡ 1 = omega arith in
    let z : c ≡ c + 0 = omega arith in
    ap (λ n. (weight n, Some c) ∷ []) p ∙ ap (λ n. (weight 1, Some n) ∷ []) z
classes_more weight c (suc m) =
    let n : c + 1 + m ≡ c + suc m = omega arith in
    ap (λ l. (weight (c + 1 - c), Some c) ∷ l) (classes_more weight (c + 1) m ∙ ap (λ n. classes_from weight (c + 1) (c + 1) (range_with_len (c + 1 + 1) m) ++ ((weight 1, Some n) ∷ [])) n)

one_on : (x : ℕ) (z : ℤ) (s : State) (u : Fraction) → all_on (map (λ e. (e.0, slice_set e.1 x z)) (scaled u (sure s))) ≡ scaled u (sure (on (slice_set s x z)))
one_on x z s (zero, d) = refl
one_on x z s (suc n, d) = refl

module _ (x : ℕ) (s : State) where
  abbrev pub drawn_on : Option ℕ → Weighted End
  drawn_on class = by_class class (sure (limit Attempts)) (λ i. sure (on (slice_set s x (pos i))))

  numbers_list : (weight : ℕ → Fraction) (m : ℕ) → taken_on (classes_from weight 0 0 (range_with_len (0 + 1) m)) drawn_on ≡ all_on (set_below x m (scaled (weight 1) (sure s)))
  numbers_list weight zero = refl
  numbers_list weight (suc m) =
      let J = scaled (weight 1) (sure s) in
      let C = classes_from weight 0 0 (range_with_len (0 + 1) m) in
      let z : 0 + m ≡ m = omega arith in
      ap (λ l. taken_on l drawn_on) (classes_more weight 0 m)
      ∙ taken_append C ((weight 1, Some (0 + m)) ∷ []) drawn_on
      ∙ ap (λ i. taken_on C drawn_on ++ (scaled (weight 1) (drawn_on (Some i)) ++ [])) z
      ∙ ap (λ l. taken_on C drawn_on ++ l) (append-nil (scaled (weight 1) (drawn_on (Some m))))
      ∙ ap (λ l. l ++ scaled (weight 1) (drawn_on (Some m))) (numbers_list weight m)
      ∙ ap (λ l. all_on (set_below x m J) ++ l) (sym (one_on x (pos m) s (weight 1)))
      ∙ sym (map-append (λ e. (e.0, on e.1)) (set_below x m J) (map (λ e. (e.0, slice_set e.1 x (pos m))) J))

  pub draw_list : (m : ℕ) (r : Option ℕ) →
      taken_on (weighted_classes (uniform_ends m) r) drawn_on ≡ all_on (set_below x m (scaled (class_weight m r 1) (sure s))) ++ scaled (no_class_weight m r) (sure (limit Attempts))
  draw_list m r =
      let C = classes_from (class_weight m r) 0 0 (range_with_len (0 + 1) m) in
      let stop = scaled (no_class_weight m r) (sure (limit Attempts)) in
      ap (λ n. taken_on (classes_from (class_weight n r) 0 0 (uniform_ends m) ++ (no_class_weight n r, None) ∷ []) drawn_on) (last_of_equal m)
      ∙ taken_append C ((no_class_weight m r, None) ∷ []) drawn_on
      ∙ ap (λ l. taken_on C drawn_on ++ l) (append-nil stop)
      ∙ ap (λ l. l ++ stop) (numbers_list (class_weight m r) m)
