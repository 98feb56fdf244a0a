-- A play trimmed: at a class that a draw does not have, nothing is left of how the play would go on. On bits, by weight and as
-- expected bits it does what the play does. So plays that are the same when they are trimmed do the same.
use Rattle.std.proofs.Common.{◌≡◌, ◌∙◌, ℕ, zero, suc, ◌+◌, ◌<◌, ◌≤◌, Bool, true, false, cond, Option, Some, None, List, [], ◌∷◌, ◌++◌, length, refl, sym, ap, arith}
use Rattle.std.specs.Prelude.{IfSome, nat_lt, if◌then◌else◌}
use Rattle.std.proofs.Math.Path.{fun_ext}
use Rattle.std.proofs.lemmas.Bool.{lt-ltb}
use Rattle.gcl_core.specs.declared.answers.Limit.TheVariants.{Attempts}
use Rattle.gcl_core.specs.meaning.Reading.{Reading, gives, more_bits, after}
use Rattle.gcl_core.specs.meaning.Draw.{class_of, first_of, decides, bits_for, last_end, attempt_from, attempt_on, draw_on}
use Rattle.gcl_core.specs.meaning.Blocks.{End, failed, limit, by_class, draw_on_bits}
use Rattle.gcl_core.specs.weighing.Fractions.{Fraction, zero_share, plus, times}
use Rattle.gcl_core.specs.weighing.WeightedEnds.{Weighted, sure, scaled, taken_on, class_weight, no_class_weight, classes_from, weighted_classes, draw_weighted}
use Rattle.gcl_core.proofs.Classes.{class_within}
use Rattle.gcl_core.proofs.Plays.{Play, ended, drawing, on_bits}
use Rattle.weighing_law.proofs.WeighedPlays.{weighed}
use Rattle.cost_law.specs.ExpectedBits.{draw_bits, on_average, Bits, class_bits}
use Rattle.cost_law.proofs.BlockCosts.{play_bits}

-- how a play goes on at a class, if the draw has it
abbrev pub at_class : List ℕ → ℕ → Play → Play
at_class cs i p = cond (nat_lt i (length cs)) p (ended failed)

abbrev pub trimmed : Play → Play
trimmed (ended e) = ended e
trimmed (drawing cs k) = drawing cs (λ i. at_class cs i (trimmed (k i)))

-- a fold of plays whose draws look at no class but their own
module _ {M : Type 0} (draw : List ℕ → (ℕ → M) → M) (fold : Play → M) (of_draw : (cs : List ℕ) (k : ℕ → Play) → fold (drawing cs k) ≡ draw cs (λ i. fold (k i)))
    (looks : (cs : List ℕ) (k m : ℕ → M) → ((i : ℕ) → i < length cs → k i ≡ m i) → draw cs k ≡ draw cs m) where
  trimmed_folds : (p : Play) → fold (trimmed p) ≡ fold p
  trimmed_folds (ended e) = refl
  trimmed_folds (drawing cs k) =
      of_draw cs _
      ∙ looks cs _ _ (λ i lt. ap (λ t. fold (cond t (trimmed (k i)) (ended failed))) (lt-ltb i (length cs) lt) ∙ trimmed_folds (k i))
      ∙ sym (of_draw cs k)

  same_folds : (p q : Play) → trimmed p ≡ trimmed q → fold p ≡ fold q
  same_folds p q e = sym (trimmed_folds p) ∙ ap fold e ∙ trimmed_folds q

-- ---- a fact of each class of a draw, and of none
module _ (Fact : Option ℕ → Type 0) where
  abbrev Gives : Reading (Option ℕ) → Type 0
  Gives (gives class rest) = Fact class
  Gives more_bits = Unit {0}

  abbrev AllHave : Weighted (Option ℕ) → Type 0
  AllHave [] = Unit {0}
  AllHave (e ∷ m) = Fact e.1 × AllHave m

  module _ (cs : List ℕ) (some : (i : ℕ) → i < length cs → Fact (Some i)) (none : Fact None) where
    class_has : (class : Option ℕ) → IfSome class (λ i. i < length cs) → Fact class
    class_has None h = none
    class_has (Some i) h = some i h

    by_test : (b : Bool) (j : ℕ) (w : List Bool) (x : Reading (Option ℕ)) → Gives x → Gives (if b then gives (class_of cs j) w else x)
    by_test true j w x h = class_has (class_of cs j) (class_within cs j (class_of cs j) refl)
    by_test false j w x h = h

    attempt_gives : (k : ℕ) (u w : List Bool) → Gives (attempt_from cs k u w)
    attempt_gives k u [] = by_test (decides cs k u) (first_of k u) [] more_bits tt
    attempt_gives k u (b ∷ w) = by_test (decides cs k u) (first_of k u) (b ∷ w) _ (attempt_gives k (u ++ b ∷ []) w)

    or_again : (x : Reading (Option ℕ)) (again : List Bool → Reading (Option ℕ)) → Gives x → ((rest : List Bool) → Gives (again rest)) →
        Gives (after x (λ class rest. elim class [ Some i ↦ gives (Some i) rest | None ↦ again rest ]))
    or_again (gives (Some i) rest) again h more = h
    or_again (gives None rest) again h more = more rest
    or_again more_bits again h more = tt

    draw_gives : (r : ℕ) (w : List Bool) → Gives (draw_on cs r w)
    draw_gives zero w = none
    draw_gives (suc r) w = or_again (attempt_on cs w) (draw_on cs r) (attempt_gives (bits_for (last_end cs)) [] w) (draw_gives r)

    classes_from_have : (weight : ℕ → Fraction) (i c : ℕ) (ends : List ℕ) (rejected : Fraction) → i + length ends ≤ length cs → AllHave (classes_from weight i c ends ++ (rejected, None) ∷ [])
    classes_from_have weight i c [] rejected le = (none, tt)
    classes_from_have weight i c (d ∷ ends) rejected le = (some i (omega (arith, le)), classes_from_have weight (i + 1) d ends rejected (omega (arith, le)))

    classes_have : (r : Option ℕ) → AllHave (weighted_classes cs r)
    classes_have r = classes_from_have (class_weight (last_end cs) r) 0 0 cs (no_class_weight (last_end cs) r) (omega arith)

-- ---- what goes on alike at each class of a draw, and at none
after_same : {A : Type 0} (f g : Option ℕ → List Bool → Reading A) (x : Reading (Option ℕ)) → Gives (λ class. (rest : List Bool) → f class rest ≡ g class rest) x → after x f ≡ after x g
after_same f g (gives class rest) h = h rest
after_same f g more_bits h = refl

taken_same : {A : Type 0} (f g : Option ℕ → Weighted A) (m : Weighted (Option ℕ)) → AllHave (λ class. f class ≡ g class) m → taken_on m f ≡ taken_on m g
taken_same f g [] h = refl
taken_same f g (e ∷ m) h = ap (λ x. scaled e.0 x ++ taken_on m f) h.0 ∙ ap (λ x. scaled e.0 (g e.1) ++ x) (taken_same f g m h.1)

average_same : (f g : Option ℕ → Fraction) (m : Weighted (Option ℕ)) → AllHave (λ class. f class ≡ g class) m → on_average m f ≡ on_average m g
average_same f g [] h = refl
average_same f g (e ∷ m) h = ap (λ x. plus (times e.0 x) (on_average m f)) h.0 ∙ ap (plus (times e.0 (g e.1))) (average_same f g m h.1)

module _ (r : ℕ) where
  bits_look : (cs : List ℕ) (k m : ℕ → List Bool → Reading End) → ((i : ℕ) → i < length cs → k i ≡ m i) → draw_on_bits r cs k ≡ draw_on_bits r cs m
  bits_look cs k m h =
      fun_ext (λ w. after_same _ _ (draw_on cs r w) (draw_gives
      (λ class. (rest : List Bool) → by_class class (gives (limit Attempts) rest) (λ i. k i rest) ≡ by_class class (gives (limit Attempts) rest) (λ i. m i rest))
      cs (λ i lt rest. ap (λ x. x rest) (h i lt)) (λ rest. refl) r w))

  pub same_bits : (p q : Play) → trimmed p ≡ trimmed q → on_bits r p ≡ on_bits r q
  same_bits = same_folds (draw_on_bits r) (on_bits r) (λ cs k. refl) bits_look

  costs_look : (cs : List ℕ) (k m : ℕ → Bits) → ((i : ℕ) → i < length cs → k i ≡ m i) → class_bits r cs k ≡ class_bits r cs m
  costs_look cs k m h =
      fun_ext (λ more. ap (plus (draw_bits cs r)) (average_same _ _ (weighted_classes cs (Some r)) (classes_have
      (λ class. by_class class zero_share (λ i. k i more) ≡ by_class class zero_share (λ i. m i more))
      cs (λ i lt. ap (λ x. x more) (h i lt)) refl (Some r))))

  pub same_costs : (p q : Play) → trimmed p ≡ trimmed q → play_bits r p ≡ play_bits r q
  same_costs = same_folds (class_bits r) (play_bits r) (λ cs k. refl) costs_look

module _ (r : Option ℕ) where
  weights_look : (cs : List ℕ) (k m : ℕ → Weighted End) → ((i : ℕ) → i < length cs → k i ≡ m i) → draw_weighted r cs k ≡ draw_weighted r cs m
  weights_look cs k m h =
      taken_same _ _ (weighted_classes cs r) (classes_have
      (λ class. by_class class (sure (limit Attempts)) k ≡ by_class class (sure (limit Attempts)) m)
      cs h refl r)

  pub same_weights : (p q : Play) → trimmed p ≡ trimmed q → weighed r p ≡ weighed r q
  same_weights = same_folds (draw_weighted r) (weighed r) (λ cs k. refl) weights_look
