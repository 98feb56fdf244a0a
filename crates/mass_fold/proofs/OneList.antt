-- Two ascending lists of rows with the same rows are one.
use Rattle.std.proofs.Common.{◌≡◌, ◌⊎◌, inl, inr, ⊎_elim, zero, suc, true, true≢false, [], ◌∷◌, refl, sym, ap, ◌∙◌, subst, arith}
use Rattle.std.specs.Prelude.{Contains}
use Rattle.gcl_core.specs.declared.answers.Outcome.{Outcome}
use Rattle.gcl_core.specs.weighing.Fractions.{Fraction}
use Rattle.gcl_core.specs.meaning.Order.{is_before}
use Rattle.gcl_core.proofs.OutcomeOrder.{before_trans, before_itself}
use Rattle.mass_fold.specs.Rows.{Rows, outcomes_of, Ascending, AreMasses}
use Rattle.mass_fold.proofs.OutcomeRows.{all_after, ascending_rest, outcome_at, same_length}

-- a row of a list is its first or one of the rest
first_or_rest : (row : Outcome × Fraction) (rows : Rows) (r : Outcome × Fraction) → Contains (row ∷ rows) r → (row ≡ r) ⊎ Contains rows r
first_or_rest row rows r (zero, l, e) = inl e
first_or_rest row rows r (suc k, l, e) = inr (k, omega arith, e)

the_first : (row : Outcome × Fraction) (rows : Rows) → Contains (row ∷ rows) row
the_first row rows = (0, omega arith, refl)

of_the_rest : (row : Outcome × Fraction) (rows : Rows) (r : Outcome × Fraction) → Contains rows r → Contains (row ∷ rows) r
of_the_rest row rows r (k, l, e) = (suc k, omega arith, e)

none_in_none : (r : Outcome × Fraction) → Contains {X = Outcome × Fraction} [] r → ⊥
none_in_none r (k, l, e) = omega arith

-- each of the rest is behind the first
behind : (row : Outcome × Fraction) (rows : Rows) (r : Outcome × Fraction) → Ascending (row ∷ rows) → Contains rows r → is_before row.0 r.0 ≡ true
behind row rows r a (k, l, e) =
    let s = same_length rows in
    subst (λ y. is_before row.0 y ≡ true) (outcome_at rows k r.0 r.1 ∙ ap (λ r. r.0) e) (all_after row.0 (outcomes_of rows) a k r.0 (omega arith))

never : (x y : Outcome) → is_before x y ≡ true → is_before y x ≡ true → ⊥
never x y h k = true≢false (sym (before_trans x y x h k) ∙ before_itself x)

pub one_list : (a b : Rows) → Ascending a → Ascending b → ((r : Outcome × Fraction) → Contains a r → Contains b r) → ((r : Outcome × Fraction) → Contains b r → Contains a r) → a ≡ b
one_list [] [] p q f g = refl
one_list [] (y ∷ b) p q f g = absurd (none_in_none y (g y (the_first y b)))
one_list (x ∷ a) [] p q f g = absurd (none_in_none x (f x (the_first x a)))
one_list (x ∷ a) (y ∷ b) p q f g =
    let same : y ≡ x = ⊎_elim (λ e. e) (λ c. ⊎_elim (λ e. sym e) (λ d. absurd (never x.0 y.0 (behind x a y p d) (behind y b x q c))) (first_or_rest x a y (g y (the_first y b)))) (first_or_rest y b x (f x (the_first x a))) in
    let rest = one_list a b (ascending_rest x.0 (outcomes_of a) p) (ascending_rest y.0 (outcomes_of b) q)
    (λ r c. ⊎_elim (λ e. absurd (never x.0 x.0 (subst (λ z. is_before x.0 z.0 ≡ true) (sym e ∙ same) (behind x a r p c)) (subst (λ z. is_before x.0 z.0 ≡ true) (sym e ∙ same) (behind x a r p c)))) (λ d. d) (first_or_rest y b r (f r (of_the_rest x a r c))))
    (λ r c. ⊎_elim (λ e. absurd (never y.0 y.0 (subst (λ z. is_before y.0 z.0 ≡ true) (sym e ∙ sym same) (behind y b r q c)) (subst (λ z. is_before y.0 z.0 ≡ true) (sym e ∙ sym same) (behind y b r q c)))) (λ d. d) (first_or_rest x a r (g r (of_the_rest y b r c)))) in
    ap (λ z. z ∷ a) (sym same) ∙ ap (λ z. y ∷ z) rest

pub one_list_of_masses : (mass : Outcome → Fraction) (a b : Rows) → AreMasses mass a → AreMasses mass b → a ≡ b
one_list_of_masses mass a b h k = one_list a b h.ascending k.ascending (λ r c. across a b h k r c) (λ r c. across b a k h r c)
  where
    across : (a b : Rows) → AreMasses mass a → AreMasses mass b → (r : Outcome × Fraction) → Contains a r → Contains b r
    across a b h k r c = let m = h.each r.0 r.1 c in subst (λ f. Contains b (r.0, f)) (sym m.1) (k.all r.0 m.0)
