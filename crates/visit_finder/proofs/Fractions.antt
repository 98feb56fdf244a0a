-- Fractions that were found so far.
use Rattle.std.proofs.Common.{◌≡◌, ◌⊎◌, inl, inr, ℕ, List, [], ◌∷◌, ◌++◌, map, sym, ap, subst, ◌∙◌}
use Rattle.std.specs.Prelude.{Contains}
use Rattle.std.specs.Ordering.{nat_cmp}
use Rattle.std.specs.BTreeMap.{insert_entry}
use Rattle.std.specs.List.Sorted.{IsStrictlySortedBy}
use Rattle.std.specs.Map.{keys_of}
use Rattle.std.proofs.lemmas.Cmp.{nat_cmp_total}
use Rattle.std.proofs.lemmas.Map.Lookups.{exact_unsigned}
use Rattle.std.proofs.lemmas.List.{map-append, append_assoc, append-nil}
use Rattle.std.proofs.lemmas.List.Elements.{Contains-append_left, Contains-append_right, Contains-append_cases, Contains-push}
use Rattle.numbers.specs.Fraction.{Fraction}
use Rattle.visit_finder.specs.declared.residues.Moduli.{Moduli}
use Rattle.visit_finder.specs.declared.residues.Residues.{Residues}
use Rattle.visit_finder.specs.inner.Fractions.{IsOnlyOf, AreFractions}
use Rattle.visit_finder.proofs.Members.{first_in, behind, none_in, first_or_behind}
use Rattle.visit_finder.proofs.Adding.{each_insert, still_among}

pub record Fractioned (moduli : Moduli) (states : List ℕ) (gone : List (ℕ × Residues)) (found : List (ℕ × Fraction)) : Type 0 where
  pub all : (s : ℕ) → Contains states s → (r : Residues) → Contains gone (s, r) → Contains (keys_of found) s
  pub each : (s : ℕ) (f : Fraction) → Contains found (s, f) → Contains states s × ((r : Residues) × Contains gone (s, r) × IsOnlyOf moduli r f)

pub none_gone : (moduli : Moduli) (states : List ℕ) (found : List (ℕ × Fraction)) → found ≡ [] → Fractioned moduli states [] found
none_gone moduli states found e = subst (Fractioned moduli states []) (sym e) (record {
  all = λ s c r there. absurd (none_in (s, r) there);
  each = λ s f there. absurd (none_in (s, f) there);
})

-- the residue that was put last, or one before
last_or_before : (gone : List (ℕ × Residues)) (e : ℕ × Residues) (s : ℕ) (r : Residues) → Contains (gone ++ e ∷ []) (s, r) → (e ≡ (s, r)) ⊎ Contains gone (s, r)
last_or_before gone e s r c = by (Contains-append_cases gone (e ∷ []) (s, r) c)
  where
    only : (e ≡ (s, r)) ⊎ Contains {X = ℕ × Residues} [] (s, r) → e ≡ (s, r)
    only (inl e) = e
    only (inr c) = absurd (none_in (s, r) c)

    by : Contains {X = ℕ × Residues} gone (s, r) ⊎ Contains (e ∷ []) (s, r) → (e ≡ (s, r)) ⊎ Contains gone (s, r)
    by (inl c) = inr c
    by (inr c) = inl (only (first_or_behind e [] (s, r) c))

pub one_found : (moduli : Moduli) (states : List ℕ) (gone : List (ℕ × Residues)) (found more : List (ℕ × Fraction)) (e : ℕ × Residues) (f : Fraction) → Contains states e.0 → IsOnlyOf moduli e.1 f →
    more ≡ insert_entry nat_cmp found e.0 f → Fractioned moduli states gone found → Fractioned moduli states (gone ++ e ∷ []) more
one_found moduli states gone found more e f c only put h = subst (Fractioned moduli states (gone ++ e ∷ [])) (sym put) (record {
  all = λ s c r there. still_among nat_cmp nat_cmp_total exact_unsigned e.0 f found s (by s c r (last_or_before gone e s r there));
  each = each_insert nat_cmp nat_cmp_total exact_unsigned (λ s f. Contains states s × ((r : Residues) × Contains (gone ++ e ∷ []) (s, r) × IsOnlyOf moduli r f)) e.0 f found
      (c, (e.1, Contains-push gone e, only))
      (λ s f there. let was = h.each s f there in (was.0, (was.1.0, Contains-append_left gone (e ∷ []) (s, was.1.0) was.1.1, was.1.2)));
})
  where
    by : (s : ℕ) → Contains states s → (r : Residues) → (e ≡ (s, r)) ⊎ Contains gone (s, r) → (e.0 ≡ s) ⊎ Contains (keys_of found) s
    by s c r (inl p) = inl (ap (λ e. e.0) p)
    by s c r (inr there) = inr (h.all s c r there)

pub one_skipped : (moduli : Moduli) (states : List ℕ) (gone : List (ℕ × Residues)) (found : List (ℕ × Fraction)) (e : ℕ × Residues) → (Contains states e.0 → ⊥) →
    Fractioned moduli states gone found → Fractioned moduli states (gone ++ e ∷ []) found
one_skipped moduli states gone found e out h = record {
  all = λ s c r there. by s c r (last_or_before gone e s r there);
  each = λ s f there. let was = h.each s f there in (was.0, (was.1.0, Contains-append_left gone (e ∷ []) (s, was.1.0) was.1.1, was.1.2));
}
  where
    by : (s : ℕ) → Contains states s → (r : Residues) → (e ≡ (s, r)) ⊎ Contains gone (s, r) → Contains (keys_of found) s
    by s c r (inl p) = absurd (out (subst (Contains states) (sym (ap (λ e. e.0) p)) c))
    by s c r (inr there) = h.all s c r there

-- an entry of each key
pub entry_of : {X : Type 0} (es : List (ℕ × X)) (s : ℕ) → Contains (keys_of es) s → (x : X) × Contains es (s, x)
entry_of {X = X} [] s c = absurd (none_in s c)
entry_of {X = X} (e ∷ es) s c = by (first_or_behind e.0 (keys_of es) s c) (λ c. entry_of es s c)
  where
    by : (e.0 ≡ s) ⊎ Contains (keys_of es) s → (Contains (keys_of es) s → (x : X) × Contains es (s, x)) → (x : X) × Contains (e ∷ es) (s, x)
    by (inl p) more = (e.1, subst (λ s. Contains (e ∷ es) (s, e.1)) p (first_in e es))
    by (inr c) more = let m = more c in (m.0, behind e es (s, m.0) m.1)

pub all_gone : (moduli : Moduli) (states : List ℕ) (visits gone : List (ℕ × Residues)) (found : List (ℕ × Fraction)) → gone ≡ visits → IsStrictlySortedBy nat_cmp (keys_of visits) →
    Fractioned moduli states gone found → AreFractions moduli states visits found
all_gone moduli states visits gone found e ordered h =
    let h = subst (λ gone. Fractioned moduli states gone found) e h in
    record {
      ordered = ordered;
      all = λ s c there. let x = entry_of visits s there in h.all s c x.0 x.1;
      each = h.each;
    }

-- one more is gone
pub gone_more : {X Y : Type 0} (f : X → Y) (xs : List X) (x : X) (rest next all : List Y) → rest ≡ f x ∷ next → map f xs ++ rest ≡ all → map f (xs ++ x ∷ []) ++ next ≡ all
gone_more f xs x rest next all first split =
    ap (λ ys. ys ++ next) (map-append f xs (x ∷ [])) ∙ append_assoc (map f xs) (f x ∷ []) next ∙ ap (λ ys. map f xs ++ ys) (sym first) ∙ split

pub gone_all : {Y : Type 0} (xs rest all : List Y) → rest ≡ [] → xs ++ rest ≡ all → xs ≡ all
gone_all xs rest all none split = sym (append-nil xs) ∙ ap (λ ys. xs ++ ys) (sym none) ∙ split

pub next_there : {Y : Type 0} (xs rest next all : List Y) (y : Y) → rest ≡ y ∷ next → xs ++ rest ≡ all → Contains all y
next_there xs rest next all y first split =
    subst (λ (all : List _). Contains all y) (ap (λ ys. xs ++ ys) (sym first) ∙ split) (Contains-append_right xs (y ∷ next) y (first_in y next))
