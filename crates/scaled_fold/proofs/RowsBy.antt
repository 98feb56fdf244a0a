-- Rows over outcomes in order: which there are, and what all of them have.
use Rattle.std.proofs.Common.{◌≡◌, ◌⊎◌, inl, inr, ◌+◌, ◌*◌, ◌≤◌, Bool, true, Option, Some, None, [], ◌∷◌, ◌++◌, refl, sym, ap, ◌∙◌, subst, arith}
use Rattle.std.specs.Prelude.{All, AllPairs, Contains}
use Rattle.std.specs.Option.{is_some}
use Rattle.std.proofs.lemmas.List.{append_assoc}
use Rattle.std.proofs.lemmas.List.Elements.{All-nil, All-cons, All-head, All-tail}
use Rattle.std.proofs.lemmas.List.Kept.{AllPairs-cons}
use Rattle.gcl_core.specs.declared.answers.Outcome.{Outcome}
use Rattle.gcl_core.specs.meaning.Order.{is_before}
use Rattle.gcl_core.specs.weighing.Fractions.{Fraction}
use Rattle.mass_fold.proofs.OutcomeRows.{ascending_rest, all_after}
use Rattle.bounds_law.specs.Rows.{Rows, outcomes_of}
use Rattle.bounds_law.proofs.Contained.{first_in, later_in, in_cons}
use Rattle.units_law.specs.Units.{held, total}
use Rattle.scaled_law.specs.Pairs.{Pair, Pairs, added, at_least, at_most}
use Rattle.scaled_fold.specs.inner.Listing.{Ascending, with_row, rows_by, kept_at, kept_by}
use Rattle.scaled_fold.proofs.Counting.{bit, keys, with_pair}

abbrev Row : Type 0
Row = Outcome × Fraction × Fraction

abbrev row_of : Outcome → Fraction → Fraction → Row
row_of x low high = (x, low, high)

module _ (bounds : Pair → Option (Fraction × Fraction)) where
  abbrev rows : Pairs Outcome → Rows
  rows K = rows_by bounds K

  pub record IsRow (K : Pairs Outcome) (x : Outcome) (low high : Fraction) : Type 0 where
    pub units : Pair
    pub entry : Contains K (x, units)
    pub is : bounds units ≡ Some (low, high)

  pub row_from : (K : Pairs Outcome) (x : Outcome) (low high : Fraction) → Contains (rows_by bounds K) (x, low, high) → IsRow K x low high
  row_from [] x low high c = absurd (omega (arith, c.1))
  row_from (e ∷ K) x low high c = by (bounds e.1) refl c (row_from K x low high)
    where
      later : IsRow K x low high → IsRow (e ∷ K) x low high
      later r = record { units = r.units; entry = later_in e K (x, r.units) r.entry; is = r.is }

      first : (b : Fraction × Fraction) → bounds e.1 ≡ Some b → (row_of e.0 b.0 b.1 ≡ row_of x low high) ⊎ Contains (rows K) (x, low, high) → (Contains (rows K) (x, low, high) → IsRow K x low high) → IsRow (e ∷ K) x low high
      first b p (inl q) i = subst (λ r. IsRow (e ∷ K) r.0 r.1 r.2) q (record { units = e.1; entry = first_in e K (e.0, e.1) refl; is = p })
      first b p (inr d) i = later (i d)

      by : (o : Option (Fraction × Fraction)) → bounds e.1 ≡ o → Contains (with_row e.0 o (rows K)) (x, low, high) → (Contains (rows K) (x, low, high) → IsRow K x low high) → IsRow (e ∷ K) x low high
      by None p d i = later (i d)
      by (Some b) p d i = first b p (in_cons (row_of e.0 b.0 b.1) (rows K) (x, low, high) d) i

  pub row_has : (K : Pairs Outcome) (x : Outcome) (w : Pair) (low high : Fraction) → Contains K (x, w) → bounds w ≡ Some (low, high) → Contains (rows_by bounds K) (x, low, high)
  row_has [] x w low high c s = absurd (omega (arith, c.1))
  row_has (e ∷ K) x w low high c s = by (in_cons e K (x, w) c) (λ d. row_has K x w low high d s)
    where
      there : Contains (rows K) (row_of x low high) → (o : Option (Fraction × Fraction)) → Contains (with_row e.0 o (rows K)) (row_of x low high)
      there i None = i
      there i (Some b) = later_in (row_of e.0 b.0 b.1) (rows K) (row_of x low high) i

      by : (e ≡ with_pair x w) ⊎ Contains K (x, w) → (Contains K (x, w) → Contains (rows K) (row_of x low high)) → Contains (rows (e ∷ K)) (row_of x low high)
      by (inl q) i =
          subst (λ o. Contains (with_row e.0 o (rows K)) (row_of x low high)) (sym (ap (λ r. bounds r.1) q ∙ s))
          (first_in (row_of e.0 low high) (rows K) (row_of x low high) (ap (λ r. row_of r.0 low high) q))
      by (inr d) i = there (i d) (bounds e.1)

  kept_all : (P : Outcome → Type 0) (K : Pairs Outcome) → All P (keys K) → All P (outcomes_of (rows K))
  kept_all P [] h = All-nil P
  kept_all P (e ∷ K) h = by (bounds e.1) (kept_all P K (All-tail P e.0 (keys K) h))
    where
      by : (o : Option (Fraction × Fraction)) → All P (outcomes_of (rows K)) → All P (outcomes_of (with_row e.0 o (rows K)))
      by None i = i
      by (Some b) i = All-cons P e.0 (outcomes_of (rows K)) (All-head P e.0 (keys K) h) i

  pub kept_order : (K : Pairs Outcome) → Ascending K → AllPairs (λ x y. is_before x y ≡ true) (outcomes_of (rows_by bounds K))
  kept_order [] h = λ i j d l k. absurd (omega arith)
  kept_order (e ∷ K) h = by (bounds e.1) (kept_order K (ascending_rest e.0 (keys K) h))
    where
      by : (o : Option (Fraction × Fraction)) → AllPairs (λ x y. is_before x y ≡ true) (outcomes_of (rows K)) → AllPairs (λ x y. is_before x y ≡ true) (outcomes_of (with_row e.0 o (rows K)))
      by None i = i
      by (Some b) i = AllPairs-cons (λ x y. is_before x y ≡ true) e.0 (outcomes_of (rows K)) (kept_all (λ y. is_before e.0 y ≡ true) K (all_after e.0 (keys K) h)) i

  -- the units of those that have a row, where a test tells which
  pub kept_is : (test : Outcome → Bool) (K : Pairs Outcome) → ((x : Outcome) (w : Pair) → Contains K (x, w) → test x ≡ is_some (bounds w)) →
      ((kept_by bounds K).0 ≡ held (λ x. bit (test x)) (at_least K)) × ((kept_by bounds K).1 ≡ held (λ x. bit (test x)) (at_most K))
  kept_is test [] h = (refl, refl)
  kept_is test (e ∷ K) h = by (bounds e.1) (h e.0 e.1 (first_in e K (e.0, e.1) refl)) (kept_is test K (λ x w c. h x w (later_in e K (x, w) c)))
    where
      by : (o : Option (Fraction × Fraction)) → test e.0 ≡ is_some o → ((kept_by bounds K).0 ≡ held (λ x. bit (test x)) (at_least K)) × ((kept_by bounds K).1 ≡ held (λ x. bit (test x)) (at_most K)) →
          ((added (kept_at o e.1) (kept_by bounds K)).0 ≡ held (λ x. bit (test x)) (at_least (e ∷ K))) × ((added (kept_at o e.1) (kept_by bounds K)).1 ≡ held (λ x. bit (test x)) (at_most (e ∷ K)))
      by None p i = let a = ap (λ b. e.1.0 * bit b) p in let b = ap (λ b. e.1.1 * bit b) p in (omega (arith, a, i.0), omega (arith, b, i.1))
      by (Some r) p i = let a = ap (λ b. e.1.0 * bit b) p in let b = ap (λ b. e.1.1 * bit b) p in (omega (arith, a, i.0), omega (arith, b, i.1))

  -- and they are no more than all
  pub kept_within : (K : Pairs Outcome) → (kept_by bounds K).1 ≤ total (at_most K)
  kept_within [] = omega arith
  kept_within (e ∷ K) = by (bounds e.1) (kept_within K)
    where
      by : (o : Option (Fraction × Fraction)) → (kept_by bounds K).1 ≤ total (at_most K) → (added (kept_at o e.1) (kept_by bounds K)).1 ≤ total (at_most (e ∷ K))
      by None i = omega (arith, i)
      by (Some b) i = omega (arith, i)

  -- ---- a walk over the entries

  with_row_first : (x : Outcome) (o : Option (Fraction × Fraction)) (L : Rows) → with_row x o [] ++ L ≡ with_row x o L
  with_row_first x None L = refl
  with_row_first x (Some b) L = refl

  -- rows and units so far, and what the rest gives
  pub record AreSoFar (all rest : Pairs Outcome) (items : Rows) (kept : Pair) : Type 0 where
    pub rows_left : items ++ rows_by bounds rest ≡ rows_by bounds all
    pub least_left : kept.0 + (kept_by bounds rest).0 ≡ (kept_by bounds all).0
    pub most_left : kept.1 + (kept_by bounds rest).1 ≡ (kept_by bounds all).1

  pub walk_starts : (all rest : Pairs Outcome) (items : Rows) → items ≡ [] → rest ≡ all → AreSoFar all rest items (0, 0)
  walk_starts all rest items p q = record {
    rows_left = ap (λ z. z ++ rows_by bounds rest) p ∙ ap (rows_by bounds) q;
    least_left = let a = ap (λ K. (kept_by bounds K).0) q in omega arith;
    most_left = let a = ap (λ K. (kept_by bounds K).1) q in omega arith;
  }

  pub walk_goes_on : (all rest rest' : Pairs Outcome) (items items' : Rows) (kept kept' : Pair) (x : Outcome) (w : Pair) (o : Option (Fraction × Fraction)) → rest ≡ (x, w) ∷ rest' →
      o ≡ bounds w → items' ≡ items ++ with_row x o [] → kept' ≡ added kept (kept_at o w) → AreSoFar all rest items kept → AreSoFar all rest' items' kept'
  walk_goes_on all rest rest' items items' kept kept' x w o p e q k s = record {
    rows_left =
        ap (λ z. z ++ rows_by bounds rest') q
        ∙ append_assoc items (with_row x o []) (rows_by bounds rest')
        ∙ ap (λ z. items ++ z) (with_row_first x o (rows_by bounds rest'))
        ∙ ap (λ o. items ++ with_row x o (rows_by bounds rest')) e
        ∙ ap (λ r. items ++ rows_by bounds r) (sym p)
        ∙ s.rows_left;
    least_left =
        let a = ap (λ (v : Pair). v.0) k in
        let b = ap (λ K. (kept_by bounds K).0) p in
        let c = ap (λ o. (kept_at o w).0) e in
        let d = s.least_left in
        omega arith;
    most_left =
        let a = ap (λ (v : Pair). v.1) k in
        let b = ap (λ K. (kept_by bounds K).1) p in
        let c = ap (λ o. (kept_at o w).1) e in
        let d = s.most_left in
        omega arith;
  }

  pub walk_ends : (all rest : Pairs Outcome) (items : Rows) (kept : Pair) → rest ≡ [] → AreSoFar all rest items kept → (items ≡ rows_by bounds all) × (kept ≡ kept_by bounds all)
  walk_ends all rest items kept p s = (sym (no_more items) ∙ ap (λ r. items ++ rows_by bounds r) (sym p) ∙ s.rows_left, both kept (kept_by bounds all) least most)
    where
      no_more : (items : Rows) → items ++ [] ≡ items
      no_more [] = refl
      no_more (row ∷ items) = ap (λ z. row ∷ z) (no_more items)

      least : kept.0 ≡ (kept_by bounds all).0
      least = let a = s.least_left in let b = ap (λ K. (kept_by bounds K).0) p in omega arith

      most : kept.1 ≡ (kept_by bounds all).1
      most = let a = s.most_left in let b = ap (λ K. (kept_by bounds K).1) p in omega arith

      both : (v w : Pair) → v.0 ≡ w.0 → v.1 ≡ w.1 → v ≡ w
      both v w a b = ap (λ l. (l, v.1)) a ∙ ap (λ h. (w.0, h)) b
