-- The weighted ends of a choice among several are those of its arms, one after the other, each by the weight of its part.
use Rattle.std.proofs.Common.{◌≡◌, ℕ, suc, ◌+◌, ◌-◌, List, [], ◌∷◌, ◌++◌, Option, None, append_assoc, refl, sym, ap, ◌∙◌, arith}
use Rattle.std.specs.List.{sum}
use Rattle.gcl_core.specs.declared.answers.Limit.TheVariants.{Attempts}
use Rattle.gcl_core.specs.meaning.Arms.{parts_of}
use Rattle.gcl_core.specs.meaning.Parts.{sums_from, partial_sums}
use Rattle.gcl_core.specs.meaning.Syntax.{Choose, ArmList, no_arm, arm}
use Rattle.gcl_core.specs.meaning.Value.{State}
use Rattle.gcl_core.specs.meaning.Blocks.{End, limit, by_class}
use Rattle.gcl_core.specs.weighing.Fractions.{Fraction}
use Rattle.gcl_core.specs.weighing.WeightedEnds.{Weighted, sure, scaled, taken_on, class_weight, no_class_weight, classes_from, statement_weighted, weighted_ends}
use Rattle.table_flow.proofs.WeightedParts.{arm_weighted}
use Rattle.gcl_core.proofs.PartialSums.{last_is}

pub taken_append : {A B : Type 0} (m n : Weighted A) (k : A → Weighted B) → taken_on (m ++ n) k ≡ taken_on m k ++ taken_on n k
taken_append [] n k = refl
taken_append (e ∷ m) n k = ap (λ z. scaled e.0 (k e.1) ++ z) (taken_append m n k) ∙ sym (append_assoc (scaled e.0 (k e.1)) (taken_on m k) (taken_on n k))

-- classes that are numbered from one more
classes_shifted : (stop : Weighted End) (weight : ℕ → Fraction) (i c : ℕ) (ends : List ℕ) (k : ℕ → Weighted End) →
    taken_on (classes_from weight (i + 1) c ends) (λ class. by_class class stop k) ≡ taken_on (classes_from weight i c ends) (λ class. by_class class stop (λ j. k (suc j)))
classes_shifted stop weight i c [] k = refl
classes_shifted stop weight i c (d ∷ ends) k =
    let next : i + 1 ≡ suc i = omega arith in
    ap (λ j. scaled (weight (d - c)) (k j) ++ taken_on (classes_from weight (i + 1 + 1) d ends) (λ class. by_class class stop k)) next
    ∙ ap (λ m. scaled (weight (d - c)) (k (suc i)) ++ m) (classes_shifted stop weight (i + 1) d ends k)

module _ (n : ℕ) (r : Option ℕ) where
  -- the ends of each arm, where the parts are b together
  abbrev pub arm_ends : ℕ → ArmList → State → Weighted End
  arm_ends b no_arm s = []
  arm_ends b (arm p a arms) s = scaled (class_weight b r p) (weighted_ends n r a s) ++ arm_ends b arms s

  arm_by_arm : (stop : Weighted End) (b c : ℕ) (arms : ArmList) (s : State) →
      taken_on (classes_from (class_weight b r) 0 c (sums_from c (parts_of arms))) (λ class. by_class class stop (λ i. arm_weighted n r arms i s)) ≡ arm_ends b arms s
  arm_by_arm stop b c no_arm s = refl
  arm_by_arm stop b c (arm p a arms) s =
      let size : c + p - c ≡ p = omega arith in
      let rest = classes_shifted stop (class_weight b r) 0 (c + p) (sums_from (c + p) (parts_of arms)) (λ i. arm_weighted n r (arm p a arms) i s) in
      ap (λ k. scaled (class_weight b r k) (weighted_ends n r a s) ++ taken_on (classes_from (class_weight b r) 1 (c + p) (sums_from (c + p) (parts_of arms))) (λ class. by_class class stop (λ i. arm_weighted n r (arm p a arms) i s))) size
      ∙ ap (λ m. scaled (class_weight b r p) (weighted_ends n r a s) ++ m) (rest ∙ arm_by_arm stop b (c + p) arms s)

  -- and of what no attempt decides
  pub choose_weighted : (arms : ArmList) (s : State) → statement_weighted n r (Choose arms) s ≡ arm_ends (sum (parts_of arms)) arms s ++ (scaled (no_class_weight (sum (parts_of arms)) r) (sure (limit Attempts)) ++ [])
  choose_weighted arms s =
      let stop = sure (limit Attempts) in
      let ends = partial_sums (parts_of arms) in
      let go : Option ℕ → Weighted End = λ class. by_class class stop (λ i. arm_weighted n r arms i s) in
      let b = sum (parts_of arms) in
      ap (λ b. taken_on (classes_from (class_weight b r) 0 0 ends ++ (no_class_weight b r, None) ∷ []) go) (last_is (parts_of arms))
      ∙ taken_append (classes_from (class_weight b r) 0 0 ends) ((no_class_weight b r, None) ∷ []) go
      ∙ ap (λ m. m ++ (scaled (no_class_weight b r) stop ++ [])) (arm_by_arm stop b 0 arms s)
