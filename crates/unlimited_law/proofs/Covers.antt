-- Two lists that agree on each class of members, whatever way members are classed, have the same integral of a function that each class
-- has one value of.
use Rattle.std.proofs.Common.{◌≡◌, Bool, true, false, not, cond, List, [], ◌∷◌, ◌++◌, refl}
use Rattle.std.specs.Prelude.{◌||◌}
use Rattle.std.specs.List.{filter}
use Rattle.gcl_core.specs.weighing.WeightedEnds.{Weighted}
use Rattle.weighing_law.proofs.WeightedLists.{EachEntry}
use Rattle.unlimited_law.proofs.Numbers.{Rational, ◌⊕◌, ◌⊗◌, ◌≃◌, nought, unit, same_refl, same_sym, same_trans, add_same, times_same, times_nought, times_unit, nought_add, add_nought}
use Rattle.unlimited_law.proofs.FractionNumbers.{of}
use Rattle.unlimited_law.proofs.Integrals.{integral, integral_same, integral_sum, integral_times}

-- 1 where the test passes
abbrev pub sign : {A : Type 0} → (A → Bool) → A → Rational
sign test a = cond (test a) unit nought

-- ---- parts of a list
abbrev pub kept : {A : Type 0} → (A → Bool) → Weighted A → Weighted A
kept test m = filter (λ e. test e.1) m

pub integral_kept : {A : Type 0} (G : A → Rational) (test : A → Bool) (m : Weighted A) → integral G (kept test m) ≃ integral (λ x. cond (test x) (G x) nought) m
integral_kept G test [] = same_refl nought
integral_kept {A} G test (e ∷ m) = by (test e.1) (integral_kept G test m)
  where
    by : (b : Bool) → integral G (kept test m) ≃ integral (λ x. cond (test x) (G x) nought) m →
        integral G (cond b (e ∷ kept test m) (kept test m)) ≃ of e.0 ⊗ cond b (G e.1) nought ⊕ integral (λ x. cond (test x) (G x) nought) m
    by true i = add_same (same_refl (of e.0 ⊗ G e.1)) i
    by false i = same_trans i (same_sym (same_trans (add_same (times_nought (of e.0)) (same_refl _)) (nought_add _)))

-- ---- members by classes
module _ {A : Type 0} (same : A → A → Bool) where
  -- those of other classes than a
  abbrev pub other : A → A → Bool
  other a x = not (same a x)

  abbrev covers : List A → A → Bool
  covers [] x = false
  covers (a ∷ R) x = same a x || covers R x

  covered : (a : A) (R : List A) (m : Weighted A) → EachEntry (covers (a ∷ R)) m → EachEntry (covers R) (kept (other a) m)
  covered a R [] h = tt
  covered a R (e ∷ m) h = by (same a e.1) h.0 (covered a R m h.1)
    where
      by : (b : Bool) → (b || covers R e.1) ≡ true → EachEntry (covers R) (kept (other a) m) → EachEntry (covers R) (cond (not b) (e ∷ kept (other a) m) (kept (other a) m))
      by true c i = i
      by false c i = (c, i)

  abbrev members : Weighted A → List A
  members [] = []
  members (e ∷ m) = e.1 ∷ members m

  or_right : (b c : Bool) → c ≡ true → (b || c) ≡ true
  or_right true c h = refl
  or_right false c h = h

  or_left : (b c : Bool) → b ≡ true → (b || c) ≡ true
  or_left true c h = refl
  or_left false c h = absurd (cc)

  or_keep : (b c d : Bool) → (c ≡ true → d ≡ true) → (b || c) ≡ true → (b || d) ≡ true
  or_keep true c d f h = refl
  or_keep false c d f h = f h

  each_imply : (t u : A → Bool) (m : Weighted A) → ((x : A) → t x ≡ true → u x ≡ true) → EachEntry t m → EachEntry u m
  each_imply t u [] f h = tt
  each_imply t u (e ∷ m) f h = (f e.1 h.0, each_imply t u m f h.1)

  covers_right : (P R : List A) (x : A) → covers R x ≡ true → covers (P ++ R) x ≡ true
  covers_right [] R x h = h
  covers_right (a ∷ P) R x h = or_right (same a x) (covers (P ++ R) x) (covers_right P R x h)

  covers_left : (P R : List A) (x : A) → covers P x ≡ true → covers (P ++ R) x ≡ true
  covers_left [] R x h = absurd (cc)
  covers_left (a ∷ P) R x h = or_keep (same a x) (covers P x) (covers (P ++ R) x) (covers_left P R x) h

  module _ (itself : (a : A) → same a a ≡ true) where
    each_covered : (m : Weighted A) → EachEntry (covers (members m)) m
    each_covered [] = tt
    each_covered (e ∷ m) = (
      or_left (same e.1 e.1) (covers (members m) e.1) (itself e.1),
      each_imply (covers (members m)) (covers (e.1 ∷ members m)) m (λ x h. or_right (same e.1 x) (covers (members m) x) h) (each_covered m),
    )

    -- F has one value in each class, and lists of one kind have of each class the same weight
    module _ (F : A → Rational) (one_value : (a x : A) → same a x ≡ true → F x ≃ F a) (OfOneKind : Weighted A → Weighted A → Type 0)
        (without : (a : A) (m o : Weighted A) → OfOneKind m o → OfOneKind (kept (other a) m) (kept (other a) o))
        (weigh : (a : A) (m o : Weighted A) → OfOneKind m o → integral (sign (same a)) m ≃ integral (sign (same a)) o) where
      -- the class of a, and the others
      split_by : (a : A) (m : Weighted A) → integral F m ≃ F a ⊗ integral (sign (same a)) m ⊕ integral F (kept (other a) m)
      split_by a m =
          same_trans (integral_same F (λ x. F a ⊗ cond (same a x) unit nought ⊕ cond (other a x) (F x) nought) m (λ x. by x (same a x) refl))
          (same_trans (integral_sum (λ x. F a ⊗ sign (same a) x) (λ x. cond (other a x) (F x) nought) m)
          (add_same (integral_times (F a) (sign (same a)) m) (same_sym (integral_kept F (other a) m))))
        where
          by : (x : A) (b : Bool) → same a x ≡ b → F x ≃ F a ⊗ cond b unit nought ⊕ cond (not b) (F x) nought
          by x true e = same_sym (same_trans (add_nought (F a ⊗ unit)) (same_trans (times_unit (F a)) (same_sym (one_value a x e))))
          by x false e = same_sym (same_trans (add_same (times_nought (F a)) (same_refl (F x))) (nought_add (F x)))

      by_cover : (R : List A) (m o : Weighted A) → EachEntry (covers R) m → EachEntry (covers R) o → OfOneKind m o → integral F m ≃ integral F o
      by_cover [] [] [] h k e = same_refl nought
      by_cover [] [] (x ∷ o) h k e = absurd (cc)
      by_cover [] (x ∷ m) o h k e = absurd (cc)
      by_cover (a ∷ R) m o h k e =
          same_trans (split_by a m)
          (same_trans (add_same (times_same (F a) (weigh a m o e)) (by_cover R (kept (other a) m) (kept (other a) o) (covered a R m h) (covered a R o k) (without a m o e)))
          (same_sym (split_by a o)))

      -- the members of both lists cover both
      pub covered_same : (m o : Weighted A) → OfOneKind m o → integral F m ≃ integral F o
      covered_same m o e =
          by_cover (members m ++ members o) m o
          (each_imply (covers (members m)) (covers (members m ++ members o)) m (covers_left (members m) (members o)) (each_covered m))
          (each_imply (covers (members o)) (covers (members m ++ members o)) o (covers_right (members m) (members o)) (each_covered o)) e
