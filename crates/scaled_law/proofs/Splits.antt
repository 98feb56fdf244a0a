-- A table that is taken apart into two, and what a block makes of both parts beside what it makes of the whole.
use Rattle.std.proofs.Common.{◌≡◌, ℕ, zero, suc, ◌+◌, ◌≤◌, Bool, true, false, cond, ◌||◌, List, [], ◌∷◌, ◌++◌, map, Ok, Err, Option, slice_set, true≢false, refl, arith}
use Rattle.std.specs.List.{IsDistinct}
use Rattle.std.specs.Set.{is_member, unique_keys}
use Rattle.std.specs.List.{AllByRecursion}
use Rattle.std.proofs.lemmas.Map.Keys.{IsDistinct-cons}
use Rattle.std.proofs.lemmas.Map.Made.{length-le_from_is_member}
use Rattle.gcl_core.specs.declared.answers.Limit.TheVariants.{Attempts}
use Rattle.gcl_core.specs.declared.answers.Fault.TheVariants.{BadBound}
use Rattle.gcl_core.specs.meaning.Value.{State, Value}
use Rattle.gcl_core.specs.meaning.Blocks.{End, fault, limit, by_value, by_bound}
use Rattle.gcl_core.specs.weighing.Fractions.{Fraction}
use Rattle.gcl_core.specs.weighing.WeightedEnds.{Weighted, scaled, class_weight, no_class_weight}
use Rattle.table_flow.specs.Tables.{Table, only, faults, all_end, draws_each, draw_weights, states}
use Rattle.table_flow.specs.Scale.{AllWhole, Wholes, amount}
use Rattle.table_flow.proofs.FlowWords.{set_to, set_below, set_drawn, not_drawn, bound_draws}
use Rattle.units_law.proofs.FewStates.{member_unique}
use Rattle.units_law.proofs.States.{same, same_equiv}

-- each member of the first list is in one of the others, in order
pub data Splits {A : Type 0} : List A → List A → List A → Type 0 where
  none : Splits [] [] []
  first : {e : A} {I J K : List A} → Splits I J K → Splits (e ∷ I) (e ∷ J) K
  second : {e : A} {I J K : List A} → Splits I J K → Splits (e ∷ I) J (e ∷ K)

pub all_before : {A : Type 0} (I : List A) → Splits I I []
all_before [] = none
all_before (e ∷ I) = first (all_before I)

pub all_behind : {A : Type 0} (I : List A) → Splits I [] I
all_behind [] = none
all_behind (e ∷ I) = second (all_behind I)

pub appended : {A : Type 0} {I J K I' J' K' : List A} → Splits I J K → Splits I' J' K' → Splits (I ++ I') (J ++ J') (K ++ K')
appended none t = t
appended (first s) t = first (appended s t)
appended (second s) t = second (appended s t)

before_first : {A : Type 0} (m : List A) {I J K : List A} → Splits I J K → Splits (m ++ I) (m ++ J) K
before_first [] s = s
before_first (e ∷ m) s = first (before_first m s)

before_second : {A : Type 0} (m : List A) {I J K : List A} → Splits I J K → Splits (m ++ I) J (m ++ K)
before_second [] s = s
before_second (e ∷ m) s = second (before_second m s)

mapped : {A B : Type 0} (f : A → B) {I J K : List A} → Splits I J K → Splits (map f I) (map f J) (map f K)
mapped f none = none
mapped f (first s) = first (mapped f s)
mapped f (second s) = second (mapped f s)

-- ---- what is whole, and amounts

pub wholes_split : {A : Type 0} (N : ℕ) {I J K : Weighted A} → Splits I J K → Wholes N I → Wholes N J × Wholes N K
wholes_split N none w = (tt, tt)
wholes_split N (first s) w = let x = wholes_split N s w.1 in ((w.0, x.0), x.1)
wholes_split N (second s) w = let x = wholes_split N s w.1 in (x.0, (w.0, x.1))

pub all_whole_split : (N : ℕ) {I J K : List Fraction} → Splits I J K → AllWhole N I → AllWhole N J × AllWhole N K
all_whole_split N none w = (tt, tt)
all_whole_split N (first s) w = let x = all_whole_split N s w.1 in ((w.0, x.0), x.1)
all_whole_split N (second s) w = let x = all_whole_split N s w.1 in (x.0, (w.0, x.1))

pub amounts_split : {A : Type 0} (N : ℕ) (G : A → ℕ) {I J K : Weighted A} → Splits I J K → amount N G I ≡ amount N G J + amount N G K
amounts_split N G none = refl
amounts_split N G (first s) = let x = amounts_split N G s in omega arith
amounts_split N G (second s) = let x = amounts_split N G s in omega arith

-- ---- states

none_among : (xs : List State) (q : State) → is_member same xs q ≡ false → AllByRecursion (λ y. same q y ≡ false) (unique_keys same xs)
none_among [] q h = tt
none_among (x ∷ xs) q h = at_head (is_member same xs x) (same q x) refl h (λ k. none_among xs q k)
  where
    at_head : (b c : Bool) → same q x ≡ c → (c || is_member same xs q) ≡ false → (is_member same xs q ≡ false → AllByRecursion (λ y. same q y ≡ false) (unique_keys same xs)) →
        AllByRecursion (λ y. same q y ≡ false) (cond b (unique_keys same xs) (x ∷ unique_keys same xs))
    at_head b true r k i = absurd (true≢false k)
    at_head true false r k i = i k
    at_head false false r k i = (r, i k)

each_once : (xs : List State) → IsDistinct same (unique_keys same xs)
unfolding IsDistinct
each_once [] = tt
each_once (x ∷ xs) = by (is_member same xs x) refl (each_once xs)
  where
    by : (b : Bool) → is_member same xs x ≡ b → IsDistinct same (unique_keys same xs) → IsDistinct same (cond b (unique_keys same xs) (x ∷ unique_keys same xs))
    by true e i = i
    by false e i = IsDistinct-cons same x (unique_keys same xs) (none_among xs x e) i

of_unique : (xs : List State) (q : State) → is_member same (unique_keys same xs) q ≡ true → is_member same xs q ≡ true
of_unique [] q h = h
of_unique (x ∷ xs) q h = by (is_member same xs x) (same q x) refl h (λ k. of_unique xs q k)
  where
    by : (b c : Bool) → same q x ≡ c → is_member same (cond b (unique_keys same xs) (x ∷ unique_keys same xs)) q ≡ true → (is_member same (unique_keys same xs) q ≡ true → is_member same xs q ≡ true) → (c || is_member same xs q) ≡ true
    by b true e k i = refl
    by true false e k i = i k
    by false false e k i = i (rw e at k)

both_of : (b c d : Bool) → (c ≡ true → d ≡ true) → (b || c) ≡ true → (b || d) ≡ true
both_of true c d h e = refl
both_of false c d h e = h e

later : (b c d : Bool) → (c ≡ true → d ≡ true) → c ≡ true → (b || d) ≡ true
later true c d h e = refl
later false c d h e = h e

-- a part has no more states than the whole
pub of_parts : {I J K : Table} → Splits I J K → (q : State) → (is_member same (map (λ e. e.1) J) q ≡ true → is_member same (map (λ e. e.1) I) q ≡ true) × (is_member same (map (λ e. e.1) K) q ≡ true → is_member same (map (λ e. e.1) I) q ≡ true)
of_parts none q = (λ h. h, λ h. h)
of_parts (first {e} s) q = let x = of_parts s q in (both_of (same q e.1) _ _ x.0, later (same q e.1) _ _ x.1)
of_parts (second {e} s) q = let x = of_parts s q in (later (same q e.1) _ _ x.0, both_of (same q e.1) _ _ x.1)

pub fewer : (I J : Table) → ((q : State) → is_member same (map (λ e. e.1) J) q ≡ true → is_member same (map (λ e. e.1) I) q ≡ true) → states J ≤ states I
fewer I J h =
    length-le_from_is_member same_equiv (unique_keys same (map (λ e. e.1) J)) (unique_keys same (map (λ e. e.1) I)) (each_once (map (λ e. e.1) J))
    (λ q m. member_unique (map (λ e. e.1) I) q (h q (of_unique (map (λ e. e.1) J) q m)))

-- ---- parts of a table

pub only_splits : (test : State → Bool) {I J K : Table} → Splits I J K → Splits (only test I) (only test J) (only test K)
only_splits test none = none
only_splits test (first {e} {I} {J} {K} s) = by (test e.1) refl (only_splits test s)
  where
    by : (b : Bool) → test e.1 ≡ b → Splits (only test I) (only test J) (only test K) → Splits (only test (e ∷ I)) (only test (e ∷ J)) (only test K)
    by true p i = rw p (first i)
    by false p i = rw p i
only_splits test (second {e} {I} {J} {K} s) = by (test e.1) refl (only_splits test s)
  where
    by : (b : Bool) → test e.1 ≡ b → Splits (only test I) (only test J) (only test K) → Splits (only test (e ∷ I)) (only test J) (only test (e ∷ K))
    by true p i = rw p (second i)
    by false p i = rw p i

pub faults_splits : (v : State → Value) {I J K : Table} → Splits I J K → Splits (faults v I) (faults v J) (faults v K)
faults_splits v none = none
faults_splits v (first {e} {I} {J} {K} s) = by (v e.1) (faults_splits v s)
  where
    by : (o : Value) → Splits (faults v I) (faults v J) (faults v K) →
        Splits (by_value o (λ f. (e.0, fault f) ∷ faults v I) (λ z. faults v I)) (by_value o (λ f. (e.0, fault f) ∷ faults v J) (λ z. faults v J)) (faults v K)
    by (Ok z) i = i
    by (Err f) i = first i
faults_splits v (second {e} {I} {J} {K} s) = by (v e.1) (faults_splits v s)
  where
    by : (o : Value) → Splits (faults v I) (faults v J) (faults v K) →
        Splits (by_value o (λ f. (e.0, fault f) ∷ faults v I) (λ z. faults v I)) (faults v J) (by_value o (λ f. (e.0, fault f) ∷ faults v K) (λ z. faults v K))
    by (Ok z) i = i
    by (Err f) i = second i

pub set_splits : (x : ℕ) (v : State → Value) {I J K : Table} → Splits I J K → Splits (set_to x v I) (set_to x v J) (set_to x v K)
set_splits x v none = none
set_splits x v (first {e} {I} {J} {K} s) = by (v e.1) (set_splits x v s)
  where
    by : (o : Value) → Splits (set_to x v I) (set_to x v J) (set_to x v K) →
        Splits (by_value o (λ f. set_to x v I) (λ z. (e.0, slice_set e.1 x z) ∷ set_to x v I)) (by_value o (λ f. set_to x v J) (λ z. (e.0, slice_set e.1 x z) ∷ set_to x v J)) (set_to x v K)
    by (Ok z) i = first i
    by (Err f) i = i
set_splits x v (second {e} {I} {J} {K} s) = by (v e.1) (set_splits x v s)
  where
    by : (o : Value) → Splits (set_to x v I) (set_to x v J) (set_to x v K) →
        Splits (by_value o (λ f. set_to x v I) (λ z. (e.0, slice_set e.1 x z) ∷ set_to x v I)) (set_to x v J) (by_value o (λ f. set_to x v K) (λ z. (e.0, slice_set e.1 x z) ∷ set_to x v K))
    by (Ok z) i = second i
    by (Err f) i = i

pub drawn_splits : (x : ℕ) (v : State → Value) (r : Option ℕ) {I J K : Table} → Splits I J K → Splits (set_drawn x v r I) (set_drawn x v r J) (set_drawn x v r K)
drawn_splits x v r none = none
drawn_splits x v r (first {e} s) = before_first (by_value (v e.1) (λ f. []) (λ z. by_bound z [] (λ m. set_below x m (scaled (class_weight m r 1) (e ∷ []))))) (drawn_splits x v r s)
drawn_splits x v r (second {e} s) = before_second (by_value (v e.1) (λ f. []) (λ z. by_bound z [] (λ m. set_below x m (scaled (class_weight m r 1) (e ∷ []))))) (drawn_splits x v r s)

pub undrawn_splits : (v : State → Value) (r : Option ℕ) {I J K : Table} → Splits I J K → Splits (not_drawn v r I) (not_drawn v r J) (not_drawn v r K)
undrawn_splits v r none = none
undrawn_splits v r (first {e} s) =
    before_first (by_value (v e.1) (λ f. (e.0, fault f) ∷ []) (λ z. by_bound z ((e.0, fault BadBound) ∷ []) (λ m. all_end (limit Attempts) (scaled (no_class_weight m r) (e ∷ []))))) (undrawn_splits v r s)
undrawn_splits v r (second {e} s) =
    before_second (by_value (v e.1) (λ f. (e.0, fault f) ∷ []) (λ z. by_bound z ((e.0, fault BadBound) ∷ []) (λ m. all_end (limit Attempts) (scaled (no_class_weight m r) (e ∷ []))))) (undrawn_splits v r s)

pub shown_splits : (v : State → Value) (r : Option ℕ) {I J K : Table} → Splits I J K → Splits (bound_draws v r I) (bound_draws v r J) (bound_draws v r K)
shown_splits v r none = none
shown_splits v r (first {e} s) = before_first (by_value (v e.1) (λ f. []) (λ z. by_bound z [] (λ m. draws_each (draw_weights m r) (e ∷ [])))) (shown_splits v r s)
shown_splits v r (second {e} s) = before_second (by_value (v e.1) (λ f. []) (λ z. by_bound z [] (λ m. draws_each (draw_weights m r) (e ∷ [])))) (shown_splits v r s)

pub draws_splits : (ws : List Fraction) {I J K : Table} → Splits I J K → Splits (draws_each ws I) (draws_each ws J) (draws_each ws K)
draws_splits ws none = none
draws_splits ws (first s) = before_first ws (draws_splits ws s)
draws_splits ws (second s) = before_second ws (draws_splits ws s)

pub end_splits : (x : End) {I J K : Table} → Splits I J K → Splits (all_end x I) (all_end x J) (all_end x K)
end_splits x s = mapped (λ e. (e.0, x)) s

pub scaled_splits : {A : Type 0} (u : Fraction) {I J K : Weighted A} → Splits I J K → Splits (scaled u I) (scaled u J) (scaled u K)
scaled_splits (zero, d) s = none
scaled_splits (suc n, d) s = mapped _ s
