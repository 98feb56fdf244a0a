-- The views of all passes when a board was made, and the last view when it is closed.
use Rattle.std.proofs.Common.{◌≡◌, ℕ, zero, suc, ◌+◌, ◌<◌, List, [], ◌∷◌, ◌++◌, length, length-append, append_assoc, map, get_or, drop, All, refl, sym, ap, ◌∙◌, subst, arith}
use Rattle.std.proofs.lemmas.List.{length-map, map-append}
use Rattle.std.proofs.lemmas.List.Elements.{All-cons}
use Rattle.passes.specs.declared.view.Numbering.{Numbering}
use Rattle.passes.specs.Total.{total}
use Rattle.passes.specs.Numbers.{times, once_below, EachOnce}
use Rattle.passes.specs.Numbering.{stands_for, first, AreNumbered}
use Rattle.passes.specs.Views.{views_made, EachMade, views_joined}
use Rattle.passes.proofs.Times.{once_more, once_outside}

total_map : {P V : Type 0} (f : V → ℕ) (view : P → V) (items : List P) → total f (map view items) ≡ total (λ (p : P). f (view p)) items
total_map f view [] = refl
total_map f view (p ∷ ps) = let r = total_map f view ps in omega arith

-- ---- a board that was made

module _ {V : Type 0} (makes made_by : V → V) where
  pub each_made : (Fact : V → Type 0) → ((v : V) → Fact v → Fact (makes v) × Fact (made_by v)) → (n : ℕ) (v : V) → Fact v → EachMade makes made_by Fact n v
  each_made Fact keeps zero v here = here
  each_made Fact keeps (suc n) v here = let k = keeps v here in (k.1, each_made Fact keeps n (makes v) k.0)

  pub length_made : (n : ℕ) (v : V) → length (views_made makes made_by n v) ≡ n + 1
  length_made zero v = refl
  length_made (suc n) v = let r = length_made n (makes v) in omega arith

  pub count_made : {P : Type 0} (view : P → V) (items : List P) (n : ℕ) (v : V) → map view items ≡ views_made makes made_by n v → length items ≡ n + 1
  count_made view items n v same = sym (length-map items view) ∙ ap length same ∙ length_made n v

  pub all_made : {P : Type 0} (view : P → V) (Fact : V → Type 0) (items : List P) (n : ℕ) (v : V) → map view items ≡ views_made makes made_by n v → EachMade makes made_by Fact n v
      → All (λ (p : P). Fact (view p)) items
  all_made {P} view Fact [] n v same each = let e = ap length same in let l = length_made n v in absurd (omega arith)
  all_made {P} view Fact (p ∷ ps) zero v same each = let e : map view ps ≡ [] = ap (drop 1) same in let none_left : length ps ≡ 0 = sym (length-map ps view) ∙ ap length e in
      let here : view p ≡ v = ap (λ (l : List V). get_or l 0 v) same in
      All-cons (λ (q : P). Fact (view q)) p ps (subst Fact (sym here) each) (λ k d inside. absurd (omega arith))
  all_made {P} view Fact (p ∷ ps) (suc n) v same each = let here : view p ≡ made_by v = ap (λ (l : List V). get_or l 0 v) same in
      All-cons (λ (q : P). Fact (view q)) p ps (subst Fact (sym here) each.0) (all_made view Fact ps n (makes v) (ap (drop 1) same) each.1)

  -- one pass more is made, and the maker comes last
  pub next_made : {P : Type 0} (view : P → V) (items after : List P) (p : P) (n m : ℕ) (v w : V) (all : List V) → n ≡ suc m → after ≡ items ++ p ∷ [] → view p ≡ made_by v → w ≡ makes v
      → map view items ++ views_made makes made_by n v ≡ all → map view after ++ views_made makes made_by m w ≡ all
  next_made view items after p n m v w all more is new next so_far =
      ap (λ l. map view l ++ views_made makes made_by m w) is ∙ ap (λ (l : List V). l ++ views_made makes made_by m w) (map-append view items (p ∷ []))
      ∙ append_assoc (map view items) (view p ∷ []) (views_made makes made_by m w) ∙ (λ i. map view items ++ new i ∷ views_made makes made_by m (next i))
      ∙ ap (λ (k : ℕ). map view items ++ views_made makes made_by k v) (sym more) ∙ so_far

  pub last_made : {P : Type 0} (view : P → V) (items after : List P) (p : P) (n : ℕ) (v : V) (all : List V) → n ≡ 0 → after ≡ items ++ p ∷ [] → view p ≡ v
      → map view items ++ views_made makes made_by n v ≡ all → map view after ≡ all
  last_made view items after p n v all none_left is last so_far =
      ap (map view) is ∙ map-append view items (p ∷ []) ∙ (λ i. map view items ++ last i ∷ [])
      ∙ ap (λ (k : ℕ). map view items ++ views_made makes made_by k v) (sym none_left) ∙ so_far

module _ {V : Type 0} (passes : V → Numbering) (makes made_by : V → V) (both : V → V → V) (gone : V) (numbered : AreNumbered passes makes made_by both gone) where
  numbers_made : (n k : ℕ) (v : V) → passes v ≡ stands_for (0 ∷ []) k → (x : ℕ)
      → total (λ (u : V). times x (passes u).numbers) (views_made makes made_by n v) + once_below x k ≡ times x (0 ∷ []) + once_below x (n + k)
  numbers_made zero k v is x = let e : times x (passes v).numbers ≡ times x (0 ∷ []) = ap (λ (p : Numbering). times x p.numbers) is in
      let far : once_below x (0 + k) ≡ once_below x k = ap (once_below x) (omega arith) in omega arith
  numbers_made (suc n) k v is x =
      let next : passes (makes v) ≡ stands_for (0 ∷ []) (k + 1) = numbered.makes v ∙ (λ i. stands_for (is i).numbers ((is i).made + 1)) in
      let new : times x (passes (made_by v)).numbers ≡ times x (k ∷ []) = ap (λ (p : Numbering). times x p.numbers) (numbered.made_by v) ∙ ap (λ (p : Numbering). times x (p.made ∷ [])) is in
      let r = numbers_made n (k + 1) (makes v) next x in
      let far : once_below x (n + (k + 1)) ≡ once_below x (suc n + k) = ap (once_below x) (omega arith) in
      let more = once_more x k in omega arith

  -- each pass has a number of its own
  pub each_once_made : {P : Type 0} (view : P → V) (items : List P) (n : ℕ) (v : V) → map view items ≡ views_made makes made_by n v → passes v ≡ first
      → EachOnce (λ (p : P). (passes (view p)).numbers) items (n + 1)
  each_once_made view items n v same is x =
      let f = λ (u : V). times x (passes u).numbers in
      let all = numbers_made n 1 v is x in
      let there : total f (map view items) ≡ total f (views_made makes made_by n v) = ap (total f) same in
      let mapped = total_map f view items in
      let one = once_more x 0 in let none_yet = once_outside x 0 in omega arith

  -- the last view stands for some number, where each does
  pub some_joined : (v w : V) → 0 < length (passes v).numbers → 0 < length (passes (both v w)).numbers
  some_joined v w some_v = let e : length (passes (both v w)).numbers ≡ length ((passes v).numbers ++ (passes w).numbers) = ap (λ (p : Numbering). length p.numbers) (numbered.joined v w) in omega (arith, length-append (passes v).numbers (passes w).numbers)

-- ---- a board that is closed

-- what two views have together, all have in the last
pub total_joined_all : {P V : Type 0} (both : V → V → V) (gone : V) (view : P → V) (f : V → ℕ) → ((v w : V) → f (both v w) ≡ f v + f w) → (items : List P) → 0 < length items
    → f (views_joined both gone (map view items)) ≡ total (λ (p : P). f (view p)) items
total_joined_all both gone view f adds [] some_pass = absurd (omega arith)
total_joined_all both gone view f adds (p ∷ []) some_pass = omega arith
total_joined_all both gone view f adds (p ∷ q ∷ ps) some_pass = let r = total_joined_all both gone view f adds (q ∷ ps) (omega arith) in let a = adds (views_joined both gone (map view (q ∷ ps))) (view p) in omega arith

-- one more is joined to the last
pub joined_more : {P V : Type 0} (both : V → V → V) (gone : V) (view : P → V) (p : P) (items : List P) → 0 < length items
    → both (views_joined both gone (map view items)) (view p) ≡ views_joined both gone (map view (p ∷ items))
joined_more both gone view p [] some_pass = absurd (omega arith)
joined_more both gone view p (q ∷ ps) some_pass = refl
