-- A merged table that has a state only where a table of fractions does has no more states than that.
use Rattle.std.proofs.Common.{◌≡◌, ℕ, zero, suc, ◌*◌, ◌≤◌, ◌<◌, Bool, true, false, cond, ◌||◌, All, List, [], ◌∷◌, map, length, refl, sym, ap, ◌∙◌, subst, arith}
use Rattle.std.proofs.Math.Nat.{mul-le-mul_left}
use Rattle.std.specs.Ordering.{eq_by_cmp}
use Rattle.std.specs.List.{IsDistinct}
use Rattle.std.specs.Map.{keys_of, values_of}
use Rattle.std.specs.Set.{is_member, unique_keys}
use Rattle.std.proofs.lemmas.List.Elements.{All-head, All-tail}
use Rattle.std.proofs.lemmas.Map.Entries.{length-keys_of}
use Rattle.std.proofs.lemmas.Map.Keys.{IsDistinct-from_sorted}
use Rattle.std.proofs.lemmas.Map.Made.{length-le_from_is_member}
use Rattle.numbers.specs.declared.units.TheConstants.{ALL}
use Rattle.gcl_core.specs.meaning.Value.{State}
use Rattle.table_flow.specs.Tables.{Table, states}
use Rattle.table_flow.specs.Scale.{whole, amount}
use Rattle.units_law.specs.Below.{IsBelow}
use Rattle.units_law.specs.Merged.{order, merged}
use Rattle.units_law.specs.Units.{Units, held}
use Rattle.units_law.proofs.Merging.{held_merged, merged_once}
use Rattle.units_law.proofs.States.{same, same_equiv, same_is, same_order, at}

same_is_eq : same ≡ eq_by_cmp order
same_is_eq = λ i x y. same_order x y i

held_at : (q : State) (es : Units State) → All (λ w. 0 < w) (values_of es) → is_member same (keys_of es) q ≡ true → 0 < held (at q) es
held_at q [] h m = cc
held_at q (e ∷ es) h m = at_head (same q e.0) refl (λ p. held_at q es (All-tail (λ w. 0 < w) e.1 (values_of es) h) p)
  where
    at_head : (b : Bool) → same q e.0 ≡ b → (is_member same (keys_of es) q ≡ true → 0 < held (at q) es) → 0 < held (at q) (e ∷ es)
    at_head true p i = rw p (let w = All-head (λ w. 0 < w) e.1 (values_of es) h in omega arith)
    at_head false p i = rw p (let w = i (rw p at m) in omega arith)

amount_at : (N : ℕ) (q : State) (I : Table) → 0 < amount N (at q) I → is_member same (map (λ e. e.1) I) q ≡ true
amount_at N q [] h = absurd (omega arith)
amount_at N q (e ∷ I) h = at_head (same q e.1) refl (λ p. amount_at N q I p)
  where
    at_head : (b : Bool) → same q e.1 ≡ b → (0 < amount N (at q) I → is_member same (map (λ e. e.1) I) q ≡ true) → is_member same (map (λ e. e.1) (e ∷ I)) q ≡ true
    at_head true p i = rw p refl
    at_head false p i = rw p (i (let z = ap (λ b. whole N e.0 * cond b 1 0) p in omega arith))

pub member_unique : (xs : List State) (q : State) → is_member same xs q ≡ true → is_member same (unique_keys same xs) q ≡ true
member_unique [] q h = h
member_unique (x ∷ xs) q h = at_head (is_member same xs x) (same q x) refl refl h (λ k. member_unique xs q k)
  where
    at_head : (b c : Bool) → is_member same xs x ≡ b → same q x ≡ c → (c || is_member same xs q) ≡ true → (is_member same xs q ≡ true → is_member same (unique_keys same xs) q ≡ true) →
        is_member same (cond b (unique_keys same xs) (x ∷ unique_keys same xs)) q ≡ true
    at_head true true p r k i = let e : q ≡ x = (same_is q x).0 r in i (ap (λ z. is_member same xs z) e ∙ p)
    at_head true false p r k i = i k
    at_head false true p r k i = rw r refl
    at_head false false p r k i = rw r (i k)

-- what is held, is held above
some_above : (N S a b : ℕ) → 0 < N → 0 < a → N * a ≤ S * b → 0 < b
some_above N S a zero p h l = let x = mul-le-mul_left N h in absurd (omega arith)
some_above N S a (suc b) p h l = omega arith

pub fewer_states : (N L : ℕ) (J : Units State) (I : Table) → ((q : State) → 0 < held (at q) J → 0 < amount N (at q) I) → states I ≤ L → length (merged J) ≤ L
fewer_states N L J I h few =
    let m = merged_once J in
    let ks = keys_of (merged J) in
    let d : IsDistinct same ks = subst (λ E. IsDistinct E ks) (sym same_is_eq) (IsDistinct-from_sorted order ks m.sorted) in
    let l : length ks ≤ states I = length-le_from_is_member same_equiv ks (unique_keys same (map (λ e. e.1) I)) d (λ q r. member_unique (map (λ e. e.1) I) q (amount_at N q I (found q (held_at q (merged J) m.some r)))) in
    let n = length-keys_of (merged J) in
    omega arith
  where
    found : (q : State) → 0 < held (at q) (merged J) → 0 < amount N (at q) I
    found q p = h q (rw (held_merged J (at q)) at p)

pub states_few : (N L : ℕ) → 0 < N → (J : Units State) (I : Table) → IsBelow N J I → states I ≤ L → length (merged J) ≤ L
states_few N L some J I h = fewer_states N L J I (λ q p. some_above N ALL (held (at q) J) (amount N (at q) I) some p (h (at q)))
