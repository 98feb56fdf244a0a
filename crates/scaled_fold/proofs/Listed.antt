-- The rows over the outcomes of a round are those of its program.
use Rattle.std.proofs.Common.{◌≡◌, ℕ, zero, suc, ◌+◌, ◌-◌, ◌*◌, ◌/◌, ◌≤◌, ◌<◌, ◌==◌, Bool, true, false, None, Some, Option, refl, sym, ap, ◌∙◌, subst, arith}
use Rattle.std.specs.Prelude.{not, AllPairs, Contains}
use Rattle.std.specs.Int.{div_ceil}
use Rattle.std.specs.Option.{is_some, unwrap_or}
use Rattle.std.proofs.lemmas.Bool.Decides.{nat_tests}
use Rattle.numbers.specs.declared.units.TheConstants.{ALL}
use Rattle.gcl_core.specs.declared.answers.Outcome.{Outcome}
use Rattle.gcl_core.specs.meaning.Order.{is_before}
use Rattle.gcl_core.specs.meaning.Outcomes.{same_outcome}
use Rattle.gcl_core.specs.meaning.Syntax.{SourceProgram}
use Rattle.gcl_core.specs.weighing.Fractions.{Fraction, plus, AtMost}
use Rattle.numbers.specs.Fraction.{lowest}
use Rattle.bounds_law.specs.Rows.{Rows}
use Rattle.units_law.specs.Holding.{AreOrdered, Enclose, AreClose}
use Rattle.units_law.specs.Between.{rounded_down, rounded_up}
use Rattle.units_law.specs.Units.{held, total}
use Rattle.scaled_law.specs.Given.{least_of, most_of, stay, may_be}
use Rattle.scaled_law.specs.Listed.{least_at, most_at, least_beside, most_beside, lower_of, upper_of, parts_of, unlisted, most_unlisted, upper_of_others, AreListed, all_least, uncertain, AreNear}
use Rattle.scaled_law.specs.Pairs.{Pair, Pairs, at_least, at_most}
use Rattle.scaled_law.specs.Scaled.{Scaled}
use Rattle.scaled_fold.specs.Doubling.{doubled_round}
use Rattle.scaled_fold.specs.inner.Listing.{Ascending, counted, set_aside, rows_by, kept_by, part_at, lower_at, upper_at, bounds_from, bounds_at, AreEnough}
use Rattle.scaled_fold.specs.inner.Outcomes.{RoundGives}
use Rattle.scaled_fold.proofs.Counting.{bit, entry_sum, entry_of, parted, same_tests, same_keys, least_counted, most_counted}
use Rattle.scaled_fold.proofs.Others.{capped, part_most, still_ordered, still_enclose, bounds_close}
use Rattle.scaled_fold.proofs.RowsBy.{row_from, row_has, kept_order, kept_is}

abbrev pub least_number : Pair → ℕ
least_number w = w.0

abbrev pub most_number : Pair → ℕ
most_number w = w.1

pub nothing_over : (d : ℕ) → 0 * ALL / d ≡ 0
nothing_over zero = refl
nothing_over (suc d) = grind arith

some_over : (l d : ℕ) → 0 < l * ALL / d → 0 < l
some_over zero d h = let z = nothing_over d in absurd (omega arith)
some_over (suc l) d h = omega arith

abbrev pub none_of : ℕ → Bool
none_of k = k == 0

more_than_none : (k : ℕ) → none_of (suc k) ≡ false
more_than_none k = grind (arith, nat_tests)

module _ (least most rest : ℕ) where
  pub record HasBounds (spare : ℕ) (w : Pair) (low high : Fraction) : Type 0 where
    pub some : spare < part_at least most rest w
    pub lower : low ≡ lowest (part_at least most rest w - spare, ALL)
    pub upper : high ≡ upper_at least most rest w

  pub has_bounds : (spare : ℕ) (w : Pair) (low high : Fraction) → bounds_at least most rest spare w ≡ Some (low, high) → HasBounds spare w low high
  has_bounds spare w low high p = by (part_at least most rest w - spare) refl p
    where
      by : (k : ℕ) → part_at least most rest w - spare ≡ k → bounds_from least most rest k w ≡ Some (low, high) → HasBounds spare w low high
      by zero q p = absurd (cc)
      by (suc k) q p = record {
        some = omega (arith, q);
        lower = sym (ap (λ o. (unwrap_or {T = Fraction × Fraction} o (low, high)).0) p) ∙ ap (λ k. lowest (k, ALL)) (sym q);
        upper = sym (ap (λ o. (unwrap_or {T = Fraction × Fraction} o (low, high)).1) p);
      }

  pub are_bounds : (spare : ℕ) (w : Pair) → spare < part_at least most rest w → bounds_at least most rest spare w ≡ Some (lowest (part_at least most rest w - spare, ALL), upper_at least most rest w)
  are_bounds spare w h = by (part_at least most rest w - spare) (omega (arith, h))
    where
      by : (k : ℕ) → 0 < k → bounds_from least most rest k w ≡ Some (lowest (k, ALL), upper_at least most rest w)
      by zero h = absurd (omega arith)
      by (suc k) h = refl

  pub no_bounds : (spare : ℕ) (w : Pair) → part_at least most rest w ≤ spare → bounds_at least most rest spare w ≡ None
  no_bounds spare w h = let z : part_at least most rest w - spare ≡ 0 = omega (arith, h) in ap (λ k. bounds_from least most rest k w) z

  pub row_or_none : (w : Pair) (k : ℕ) → not (none_of k) ≡ is_some (bounds_from least most rest k w)
  row_or_none w zero = refl
  row_or_none w (suc k) = ap not (more_than_none k)

nothing_less : (k : ℕ) → k - 0 ≡ k
nothing_less k = omega arith

-- ---- with the same numbers by other names

module _ (spare least most rest A B R : ℕ) (least_all : least ≡ A) (most_all : most ≡ B) (rest_all : rest ≡ R) where
  abbrev in_bounds : (l m r : ℕ) → Pair → Option (Fraction × Fraction)
  in_bounds l m r w = bounds_at l m r spare w

  same_bounds : in_bounds least most rest ≡ in_bounds A B R
  same_bounds = ap (λ l. in_bounds l most rest) least_all ∙ ap (λ m. in_bounds A m rest) most_all ∙ ap (λ r. in_bounds A B r) rest_all

  pub same_rows : (rows : Rows) (K : Pairs Outcome) → rows ≡ rows_by (bounds_at least most rest spare) K → rows ≡ rows_by (bounds_at A B R spare) K
  same_rows rows K e = e ∙ ap (λ b. rows_by b K) same_bounds

  pub same_kept : (kept : Pair) (K : Pairs Outcome) → kept ≡ kept_by (bounds_at least most rest spare) K → kept ≡ kept_by (bounds_at A B R spare) K
  same_kept kept K e = e ∙ ap (λ b. kept_by b K) same_bounds

  pub same_enough : (kept kept' : Pair) (o : ℕ) → kept ≡ kept' → AreEnough least most rest spare kept o → AreEnough A B R spare kept' o
  same_enough kept kept' o e h =
      subst (λ k. AreEnough A B R spare k o) e
      (subst (λ r. AreEnough A B r spare kept o) rest_all
      (subst (λ m. AreEnough A m rest spare kept o) most_all
      (subst (λ l. AreEnough l most rest spare kept o) least_all h)))

module _ (p : SourceProgram) (n : ℕ) (r : Option ℕ) (all_turns : Bool) (K : Pairs Outcome) (loose : ℕ) (g : RoundGives p n r K loose) (ascending : Ascending K) where
  abbrev f : Scaled
  f = doubled_round p n r

  abbrev C : Pairs Outcome
  C = counted all_turns K

  abbrev A : ℕ
  A = total (at_least C)

  abbrev B : ℕ
  B = total (at_most C)

  abbrev R : ℕ
  R = loose + set_aside all_turns K

  abbrev rounded : ℕ → Fraction
  rounded k = lowest (k, ALL)

  abbrev bounds : Pair → Option (Fraction × Fraction)
  bounds w = bounds_at A B R 0 w

  pub in_order : Ascending C
  in_order = subst (λ xs. AllPairs (λ x y. is_before x y ≡ true) xs) (sym (same_keys all_turns K)) ascending

  pub least_is : (meant : Outcome → Bool) → least_of p all_turns meant f ≡ held (λ x. bit (meant x)) (at_least C)
  least_is meant = sym (g.least (stay all_turns meant)) ∙ least_counted all_turns meant K

  pub most_is : (meant : Outcome → Bool) → most_of p all_turns meant f ≡ held (λ x. bit (meant x)) (at_most C) + R
  most_is meant =
      let a = g.most (may_be all_turns meant) in
      let b = g.rest in
      let c = most_counted all_turns meant K in
      omega arith

  pub all_least_is : all_least p all_turns f ≡ A
  all_least_is = least_is (λ x. true)

  pub uncertain_is : uncertain p all_turns f ≡ B + R + R - A
  uncertain_is =
      let a = most_is (λ x. true) in
      let b = most_is (λ x. false) in
      let c = least_is (λ x. true) in
      let d : B + held (λ x. bit false) (at_most C) ≡ B = parted most_number (λ x. true) C in
      omega (arith, a, b, c, d)

  -- ---- of one outcome
  module _ (x : Outcome) (w : Pair) (c : Contains C (x, w)) where
    least_here : least_at p all_turns f x ≡ w.0
    least_here = least_is (same_outcome x) ∙ entry_sum least_number x w C in_order c

    most_here : most_at p all_turns f x ≡ w.1 + R
    most_here = most_is (same_outcome x) ∙ ap (λ h. h + R) (entry_sum most_number x w C in_order c)

    least_others : least_beside p all_turns f x ≡ A - w.0
    least_others =
        let a = least_is (λ y. not (same_outcome x y)) in
        let b = entry_sum least_number x w C in_order c in
        let d = parted least_number (same_outcome x) C in
        omega (arith, a, b, d)

    most_others : most_beside p all_turns f x ≡ B - w.1 + R
    most_others =
        let a = most_is (λ y. not (same_outcome x y)) in
        let b = entry_sum most_number x w C in_order c in
        let d = parted most_number (same_outcome x) C in
        omega (arith, a, b, d)

    pub parts_are : parts_of p all_turns f x ≡ part_at A B R w
    parts_are = ap (λ l. l * ALL / (l + most_beside p all_turns f x)) least_here ∙ ap (λ h. w.0 * ALL / (w.0 + h)) most_others

    lower_is : lower_of p all_turns f x ≡ lower_at A B R w
    lower_is = ap (λ l. rounded_down l (l + most_beside p all_turns f x)) least_here ∙ ap (λ h. rounded_down w.0 (w.0 + h)) most_others

    upper_is : upper_of p all_turns f x ≡ upper_at A B R w
    upper_is = ap (λ h. rounded_up h (h + least_beside p all_turns f x)) most_here ∙ ap (λ l. rounded_up (w.1 + R) (w.1 + R + l)) least_others

  -- ---- the rows

  pub has_entry : (x : Outcome) → 0 < parts_of p all_turns f x → (w : Pair) × Contains C (x, w)
  has_entry x h = entry_of least_number x C (subst (λ l. 0 < l) (least_is (same_outcome x)) (some_over (least_at p all_turns f x) (least_at p all_turns f x + most_beside p all_turns f x) h))

  pub are_listed : AreListed p all_turns f (rows_by bounds C)
  are_listed = record {
    ascending = kept_order bounds C in_order;
    some = λ x low high c.
        let r = row_from bounds C x low high c in
        let b = has_bounds A B R 0 r.units low high r.is in
        subst (λ k. 0 < k) (sym (parts_are x r.units r.entry)) b.some;
    lower = λ x low high c.
        let r = row_from bounds C x low high c in
        let b = has_bounds A B R 0 r.units low high r.is in
        b.lower ∙ ap (λ k. lowest (k, ALL)) (nothing_less (part_at A B R r.units)) ∙ sym (lower_is x r.units r.entry);
    upper = λ x low high c.
        let r = row_from bounds C x low high c in
        let b = has_bounds A B R 0 r.units low high r.is in
        b.upper ∙ sym (upper_is x r.units r.entry);
    all = λ x h.
        let e = has_entry x h in
        row_has bounds C x e.0 (lower_of p all_turns f x) (upper_of p all_turns f x) e.1
        (are_bounds A B R 0 e.0 (subst (λ k. 0 < k) (parts_are x e.0 e.1) h)
        ∙ ap (λ k. Some (rounded k, upper_at A B R e.0)) (nothing_less (part_at A B R e.0))
        ∙ ap (λ (l : Fraction). Some (l, upper_at A B R e.0)) (sym (lower_is x e.0 e.1))
        ∙ ap (λ (h : Fraction). Some (lower_of p all_turns f x, h)) (sym (upper_is x e.0 e.1)));
  }

  -- ---- all that have no row

  abbrev listed : Outcome → Bool
  listed x = not (unlisted p all_turns f x)

  twice : (b : Bool) → not (not b) ≡ b
  twice true = refl
  twice false = refl

  kept_are : ((kept_by bounds C).0 ≡ held (λ x. bit (listed x)) (at_least C)) × ((kept_by bounds C).1 ≡ held (λ x. bit (listed x)) (at_most C))
  kept_are = kept_is bounds listed C (λ x w c. ap (λ k. not (none_of k)) (parts_are x w c ∙ sym (nothing_less (part_at A B R w))) ∙ row_or_none A B R w (part_at A B R w - 0))

  pub kept_within : (kept_by bounds C).1 + held (λ x. bit (unlisted p all_turns f x)) (at_most C) ≡ B
  kept_within =
      let a = kept_are.1 in
      let b = parted most_number listed C in
      let c = same_tests most_number (λ x. not (listed x)) (λ x. unlisted p all_turns f x) (λ x. twice (unlisted p all_turns f x)) C in
      omega (arith, a, b, c)

  most_left : most_unlisted p all_turns f ≡ B - (kept_by bounds C).1 + R
  most_left = let a = most_is (unlisted p all_turns f) in let b = kept_within in omega (arith, a, b)

  least_kept : least_of p all_turns listed f ≡ (kept_by bounds C).0
  least_kept = least_is listed ∙ sym kept_are.0

  pub others_are : upper_of_others p all_turns f ≡ rounded_up (B - (kept_by bounds C).1 + R) (B - (kept_by bounds C).1 + R + (kept_by bounds C).0)
  others_are =
      ap (λ u. rounded_up u (u + least_of p all_turns listed f)) most_left
      ∙ ap (λ l. rounded_up (B - (kept_by bounds C).1 + R) (B - (kept_by bounds C).1 + R + l)) least_kept

  -- ---- with a bound of the others that is enough
  module _ (least most rest : ℕ) (least_all : least ≡ A) (most_all : most ≡ B) (rest_all : rest ≡ R) (kept : Pair) (kept_all : kept ≡ kept_by (bounds_at least most rest 0) C) where
    kept_here : kept ≡ kept_by bounds C
    kept_here = same_kept 0 least most rest A B R least_all most_all rest_all kept C kept_all

    pub kept_most : kept.1 ≤ most
    kept_most = let a = kept_within in let b = ap (λ (w : Pair). w.1) kept_here in omega (arith, a, b, most_all)

    module _ (rows : Rows) (rows_all : rows ≡ rows_by (bounds_at least most rest 0) C) (o : ℕ) (enough : AreEnough least most rest 0 kept o) where
      rows_here : rows ≡ rows_by bounds C
      rows_here = same_rows 0 least most rest A B R least_all most_all rest_all rows C rows_all

      enough_here : AreEnough A B R 0 (kept_by bounds C) o
      enough_here = same_enough 0 least most rest A B R least_all most_all rest_all kept (kept_by bounds C) o kept_here enough

      pub listed_rows : AreListed p all_turns f rows
      listed_rows = subst (AreListed p all_turns f) (sym rows_here) are_listed

      pub rows_ordered : AreOrdered rows (upper_of_others p all_turns f) → AreOrdered rows (lowest (o, ALL))
      rows_ordered a = still_ordered rows (upper_of_others p all_turns f) o a

      pub rows_enclose : (n' : ℕ) → Enclose p n' r None rows (upper_of_others p all_turns f) → Enclose p n' r None rows (lowest (o, ALL))
      rows_enclose n' e =
          let k = kept_by bounds C in
          still_enclose p n' r None rows (div_ceil ((B - k.1 + R) * ALL) (B - k.1 + R + k.0)) o
          (capped (div_ceil ((B - k.1 + R) * ALL) (B - k.1 + R + k.0)) o (part_most (B - k.1 + R) (B - k.1 + R + k.0) (omega arith)) (λ l. let x = enough_here.unlisted l in omega (arith, x)))
          (subst (λ q. Enclose p n' r None rows q) others_are e)

      pub rows_close : 0 < A → AreNear p all_turns f rows → AreClose 1 rows (lowest (o, ALL))
      rows_close some near x low high c =
          let u = listed_rows.upper x low high c in
          subst (λ h. AtMost h (plus (plus low (lowest (o, ALL))) (1, ALL))) (sym u)
          (bounds_close low (most_at p all_turns f x) (most_at p all_turns f x + least_beside p all_turns f x) o (B + R + R - A) A 0 (omega arith) some enough_here.within enough_here.apart
          (subst (λ h. AtMost h (plus (plus low (B + R + R - A, A)) (2, ALL))) u
          (subst (λ a. AtMost high (plus (plus low (B + R + R - A, a)) (2, ALL))) all_least_is
          (subst (λ g. AtMost high (plus (plus low (g, all_least p all_turns f)) (2, ALL))) uncertain_is (near x low high c)))))
