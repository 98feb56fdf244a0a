-- Names of which no two are the same, copied one after the other.
use Rattle.std.proofs.Common.{◌≡◌, ℕ, zero, suc, Bool, true, false, List, [], ◌∷◌, ◌++◌, map, take, Some, refl, sym, ap, ◌∙◌, subst, true≢false}
use Rattle.std.specs.Prelude.{get_or}
use Rattle.std.specs.List.{IsDistinct, AllByRecursion, list_any, slice_get}
use Rattle.std.proofs.Math.Seq.{take-suc}
use Rattle.std.proofs.lemmas.Option.{slice_get_within, get_or_from_slice_get}
use Rattle.std.proofs.lemmas.Slice.Eq.{bytes_eq-Decides}
use Rattle.std.proofs.lemmas.Map.Keys.{IsDistinct-head, IsDistinct-tail}
use Rattle.gcl_core.specs.text.Names.{Name, same_name, with_name}

-- ---- through what they are seen as
module _ {A B : Type 0} (seen : A → B) (same : B → B → Bool) where
  all_seen : (x : A) (xs : List A) → AllByRecursion (λ y. same (seen x) (seen y) ≡ false) xs → AllByRecursion (λ y. same (seen x) y ≡ false) (map seen xs)
  all_seen x [] h = tt
  all_seen x (y ∷ xs) h = (h.0, all_seen x xs h.1)

  pub distinct_seen : (xs : List A) → IsDistinct (λ x y. same (seen x) (seen y)) xs → IsDistinct same (map seen xs)
  unfolding IsDistinct
  distinct_seen [] h = tt
  distinct_seen (x ∷ xs) h = (all_seen x xs h.0, distinct_seen xs h.1)

-- ---- one name more
differs : (x y : Name) → same_name x y ≡ false → same_name y x ≡ false
differs x y h = by_test (same_name y x) refl
  where
    by_test : (b : Bool) → same_name y x ≡ b → b ≡ false
    by_test true e = absurd (true≢false (sym ((bytes_eq-Decides x y).1 (sym ((bytes_eq-Decides y x).0 e))) ∙ h))
    by_test false e = refl

differs_at : (n x : Name) (ns : List Name) (i : ℕ) → AllByRecursion (λ y. same_name n y ≡ false) ns → slice_get ns i ≡ Some x → same_name x n ≡ false
differs_at n x [] i h e = absurd (cc)
differs_at n x (m ∷ ns) zero h e = differs n x (subst (λ y. same_name n y ≡ false) (cc) h.0)
differs_at n x (m ∷ ns) (suc i) h e = differs_at n x ns i h.1 e

-- a name is not among those before it
not_before : (names : List Name) (i : ℕ) (x : Name) → IsDistinct same_name names → slice_get names i ≡ Some x → list_any (same_name x) (take i names) ≡ false
not_before names zero x d e = refl
not_before [] (suc i) x d e = refl
not_before (n ∷ ns) (suc i) x d e =
    rw (differs_at n x ns i (IsDistinct-head same_name n ns d) e) (not_before ns i x (IsDistinct-tail same_name n ns d) e)

pub next_name : (names : List Name) (i : ℕ) (x : Name) → IsDistinct same_name names → slice_get names i ≡ Some x → with_name (take i names) x ≡ take (suc i) names
next_name names i x d e =
    let one : with_name (take i names) x ≡ take i names ++ x ∷ [] = rw (not_before names i x d e) refl in
    let last : get_or names i x ≡ x = get_or_from_slice_get names i x x e in
    one ∙ sym (take-suc names i x (slice_get_within names i x e) ∙ ap (λ y. take i names ++ y ∷ []) last)
