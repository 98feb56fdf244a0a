-- The states of a table: their order, and how many there are.
use Rattle.std.proofs.Common.{◌≡◌, ℕ, ◌*◌, ◌≤◌, ◌<◌, Bool, true, false, cond, ◌||◌, Some, None, Result, Ok, Err, OnOk, List, [], ◌∷◌, map, length, refl, sym, ap, ◌∙◌, subst, arith}
use Rattle.std.specs.declared.cmp.Ordering.TheVariants.{Equal}
use Rattle.std.specs.Ordering.{int_eq, int_cmp, is_eq, eq_by_cmp}
use Rattle.std.specs.Cmp.{IsTotalOrder, IsEquivalence, int_eq_equiv, int_cmp_total, signed_Decides}
use Rattle.std.specs.Cmp.Lexicographic.{pointwise, lists_equiv, lists_total, lists_ties, pointwise_decides}
use Rattle.std.specs.Bool.{Decides}
use Rattle.std.specs.Map.{keys_of}
use Rattle.std.specs.List.{IsDistinct, AllByRecursion}
use Rattle.std.specs.List.Sorted.{IsStrictlySortedBy}
use Rattle.std.specs.Set.{is_member, unique_keys}
use Rattle.std.proofs.lemmas.Map.Entries.{length-keys_of}
use Rattle.std.proofs.lemmas.Map.Keys.{IsDistinct-from_sorted, IsDistinct-cons}
use Rattle.std.proofs.lemmas.Map.Made.{length-le_from_is_member}
use Rattle.gcl_core.specs.meaning.Value.{State}
use Rattle.gcl_core.specs.weighing.Fractions.{Fraction}
use Rattle.table_flow.specs.Tables.{Table, states}
use Rattle.table_flow.specs.Scale.{whole, Whole, amount}
use Rattle.mass_fold.specs.Amounts.{held, AreHeld}
use Rattle.mass_fold.specs.inner.Amounts.{Entries, PartOf, IsPut, PutGives, order, found}
use Rattle.mass_fold.proofs.Insertion.{whole_pos, put_gives}
use Rattle.mass_fold.specs.declared.table.TheConstants.{MOST_STATES}

abbrev pub same : State → State → Bool
same = pointwise int_eq

pub order_total : IsTotalOrder order
order_total = lists_total int_cmp_total

pub same_equiv : IsEquivalence same
same_equiv = lists_equiv int_eq_equiv

pub same_order : (x y : State) → same x y ≡ eq_by_cmp order x y
same_order = lists_ties int_cmp (λ x y. refl)

pub same_is : (x y : State) → Decides (same x y) (x ≡ y)
same_is = pointwise_decides signed_Decides

pub equal_is : (x y : State) → order x y ≡ Equal → x ≡ y
equal_is x y e = (same_is x y).0 (same_order x y ∙ ap is_eq e)

-- ---- too many states

abbrev pub at : State → State → ℕ
at q s = cond (same q s) 1 0

held_at : (N : ℕ) (q : State) (es : Entries) → 0 < N → AreHeld N es → is_member same (keys_of es) q ≡ true → 0 < held N (at q) es
held_at N q [] pos h m = cc
held_at N q (e ∷ es) pos h m = at_head (same q e.0) refl (λ p. held_at N q es pos h.2 p)
  where
    at_head : (b : Bool) → same q e.0 ≡ b → (is_member same (keys_of es) q ≡ true → 0 < held N (at q) es) → 0 < held N (at q) (e ∷ es)
    at_head true p i = rw p (let w = whole_pos N e.1 pos h.0 h.1 in omega arith)
    at_head false p i = rw p (let w = i (rw p at m) in omega arith)

amount_at : (N : ℕ) (q : State) (I : Table) → 0 < amount N (at q) I → is_member same (map (λ e. e.1) I) q ≡ true
amount_at N q [] h = absurd (omega arith)
amount_at N q (e ∷ I) h = at_head (same q e.1) refl (λ p. amount_at N q I p)
  where
    at_head : (b : Bool) → same q e.1 ≡ b → (0 < amount N (at q) I → is_member same (map (λ e. e.1) I) q ≡ true) → is_member same (map (λ e. e.1) (e ∷ I)) q ≡ true
    at_head true p i = rw p refl
    at_head false p i = rw p (i (let z = ap (λ b. whole N e.0 * cond b 1 0) p in omega arith))

pub same_is_eq : same ≡ eq_by_cmp order
same_is_eq = λ i x y. same_order x y i

apart : (s : State) (es : Entries) → found order s es ≡ None → AllByRecursion (λ y. same s y ≡ false) (keys_of es)
apart s [] e = tt
apart s (d ∷ es) e = (at_head (is_eq (order s d.0)) (same_order s d.0) e, apart s es (rest (is_eq (order s d.0)) e))
  where
    at_head : (b : Bool) → same s d.0 ≡ b → cond b (Some d.1) (found order s es) ≡ None → same s d.0 ≡ false
    at_head true p q = cc
    at_head false p q = p

    rest : (b : Bool) → cond b (Some d.1) (found order s es) ≡ None → found order s es ≡ None
    rest true q = cc
    rest false q = q

member_unique : (xs : List State) (q : State) → is_member same xs q ≡ true → is_member same (unique_keys same xs) q ≡ true
member_unique [] q h = h
member_unique (x ∷ xs) q h = at_head (is_member same xs x) (same q x) refl refl h (λ k. member_unique xs q k)
  where
    at_head : (b c : Bool) → is_member same xs x ≡ b → same q x ≡ c → (c || is_member same xs q) ≡ true → (is_member same xs q ≡ true → is_member same (unique_keys same xs) q ≡ true) →
        is_member same (cond b (unique_keys same xs) (x ∷ unique_keys same xs)) q ≡ true
    at_head true true p r k i = let e : q ≡ x = (same_is q x).0 r in i (ap (λ z. is_member same xs z) e ∙ p)
    at_head true false p r k i = i k
    at_head false true p r k i = rw r refl
    at_head false false p r k i = rw r (i k)

pub put_many : (s : State) (f : Fraction) (es : Entries) (N : ℕ) (I : Table) → IsStrictlySortedBy order (keys_of es) → found order s es ≡ None → MOST_STATES ≤ length es →
    0 < N → AreHeld N es → 0 < f.0 → Whole N f → PartOf N es s f I → MOST_STATES < states I
put_many s f es N I h e full pos k p w within =
    let ks = keys_of es in
    let d : IsDistinct same ks = subst (λ E. IsDistinct E ks) (sym same_is_eq) (IsDistinct-from_sorted order ks h) in
    let all : IsDistinct same (s ∷ ks) = IsDistinct-cons same s ks (apart s es e) d in
    let m : length (s ∷ ks) ≤ states I = length-le_from_is_member same_equiv (s ∷ ks) (unique_keys same (map (λ e. e.1) I)) all (λ q r. member_unique (map (λ e. e.1) I) q (amount_at N q I (above q (same q s) refl r))) in
    let l = length-keys_of es in
    omega arith
  where
    above : (q : State) (b : Bool) → same q s ≡ b → (b || is_member same (keys_of es) q) ≡ true → 0 < amount N (at q) I
    above q true r m = let z = within (at q) in let y = whole_pos N f pos p w in let x = ap (λ b. whole N f * cond b 1 0) r in omega arith
    above q false r m = let z = within (at q) in let y = held_at N q es pos k m in omega arith

-- a table in which the weight of a state was put holds it
pub each_put : {A E : Type 0} (r : Result A E) (es fs : Entries) (s : State) (f : Fraction) → OnOk r (IsPut es fs s f) → OnOk r (PutGives es fs s f)
each_put (Ok x) es fs s f put = subst (λ fs. PutGives es fs s f) (sym put.1.2) (put_gives order order_total equal_is s f put.1.0 es put.0 put.1.1)
each_put (Err e) es fs s f put = tt
