-- The points of a round are its tables, but for the order of the states: as many, each with as many different states.
use Rattle.std.proofs.Common.{◌≡◌, ℕ, zero, suc, ◌+◌, ◌-◌, ◌≤◌, ◌<◌, Bool, true, false, cond, ◌||◌, List, [], ◌∷◌, ◌++◌, map, length, Option, refl, sym, ap, ◌∙◌, arith, true≢false}
use Rattle.std.specs.Prelude.{max}
use Rattle.std.specs.List.{sum, IsDistinct, AllByRecursion}
use Rattle.std.specs.Set.{is_member, unique_keys, distinct_count}
use Rattle.std.proofs.lemmas.Map.Made.{length-le_from_is_member}
use Rattle.gcl_core.specs.meaning.Arms.{parts_of}
use Rattle.gcl_core.specs.meaning.Blocks.{End, on, failed, fault, limit, by_end}
use Rattle.gcl_core.specs.meaning.Outcomes.{zeros}
use Rattle.gcl_core.specs.meaning.Syntax.{Statement, Skip, Set, If, While, Choice, Choose, Uniform, Observe, Statements, done, ◌▸◌, ArmList, no_arm, arm, SourceProgram}
use Rattle.gcl_core.specs.meaning.Value.{State, Value, value_of}
use Rattle.gcl_core.specs.weighing.Fractions.{Fraction}
use Rattle.gcl_core.specs.weighing.WeightedEnds.{Weighted, sure, scaled, taken_on, class_weight, statement_weighted, weighted_ends}
use Rattle.table_flow.specs.Tables.{Table, Flow, holds, fails, only, statement_flow, block_flow, states, peak_of, tables_of, fractions_kind}
use Rattle.table_flow.specs.Tables as table
use Rattle.table_flow.proofs.FlowWords.{loop_flow, arms_flow}
use Rattle.table_flow.proofs.EachMember.{each_append}
use Rattle.table_flow.proofs.Spreads.{sum_of_all, after_weight, Zero, spread, sum_none, sum_scaled, sum_taken, zero_after}
use Rattle.table_flow.proofs.Linear.{flowed, NoOn, IsOver, no_one, flow_statement, flow_paths}
use Rattle.table_flow.proofs.UniformLists.{by_lists}
use Rattle.units_law.specs.Points.{Point, going_on, where_true, loop_points, statement_points, block_points, arms_points, points_of, most_states}
use Rattle.units_law.proofs.FewStates.{member_unique}
use Rattle.units_law.proofs.SomeWeight.{HaveWeight, AllHaveWeight, tables_have, block_points_have}
use Rattle.units_law.proofs.States.{same, same_equiv}

-- ---- the same entries in any order: whatever counts nothing of weight 0 counts as much of both
abbrev Alike : Table → Point → Type 0
Alike I J = (G : Fraction → State → ℕ) → Zero G → sum_of_all G I ≡ sum_of_all G J

-- what is counted of ends that go on
abbrev of_next : (Fraction → State → ℕ) → Fraction → End → ℕ
of_next G w x = by_end x (λ e. 0) (λ s. G w s)

of_next_zero : (G : Fraction → State → ℕ) → Zero G → Zero (of_next G)
of_next_zero G z d (on s) = z d s
of_next_zero G z d failed = refl
of_next_zero G z d (fault f) = refl
of_next_zero G z d (limit l) = refl

count_going : (G : Fraction → State → ℕ) (m : Weighted End) → sum_of_all (of_next G) m ≡ sum_of_all G (going_on m)
count_going G [] = refl
count_going G ((w, on s) ∷ m) = ap (λ x. G w s + x) (count_going G m)
count_going G ((w, failed) ∷ m) = let i = count_going G m in omega arith
count_going G ((w, fault f) ∷ m) = let i = count_going G m in omega arith
count_going G ((w, limit l) ∷ m) = let i = count_going G m in omega arith

none_going : (G : Fraction → State → ℕ) (m : Weighted End) → NoOn m → sum_of_all (of_next G) m ≡ 0
none_going G [] h = refl
none_going G ((w, on s) ∷ m) h = absurd h.0
none_going G ((w, failed) ∷ m) h = let i = none_going G m h.1 in omega arith
none_going G ((w, fault f) ∷ m) h = let i = none_going G m h.1 in omega arith
none_going G ((w, limit l) ∷ m) h = let i = none_going G m h.1 in omega arith

spread_counts : (F : Fraction → End → ℕ) (I : Table) (k : State → Weighted End) → spread F I k ≡ sum_of_all (λ w s. sum_of_all (after_weight w F) (k s)) I
spread_counts F [] k = refl
spread_counts F (e ∷ I) k = ap (λ x. sum_of_all (after_weight e.0 F) (k e.1) + x) (spread_counts F I k)

-- what goes on from both
next_alike : (f : Flow) (I : Table) (J : Point) (k : State → Weighted End) → Alike I J → NoOn f.ended → ((F : Fraction → End → ℕ) → Zero F → flowed F f ≡ spread F I k) →
    Alike f.next (going_on (taken_on J k))
next_alike f I J k h over linear G z =
    let F = of_next G in
    let zF = of_next_zero G z in
    let a = linear F zF in
    let b = none_going G f.ended over in
    let c = spread_counts F I k in
    let d = h (λ w s. sum_of_all (after_weight w F) (k s)) (λ d s. sum_none F d (k s) zF) in
    let e = spread_counts F J k in
    let g = sum_taken F J k zF in
    let i = count_going G (taken_on J k) in
    omega arith

count_only : (G : Fraction → State → ℕ) (test : State → Bool) (I : Table) → sum_of_all G (only test I) ≡ sum_of_all (λ w s. cond (test s) (G w s) 0) I
count_only G test [] = refl
count_only G test (e ∷ I) = at_head (test e.1) (count_only G test I)
  where
    at_head : (b : Bool) → sum_of_all G (only test I) ≡ sum_of_all (λ w s. cond (test s) (G w s) 0) I →
        sum_of_all G (cond b (e ∷ only test I) (only test I)) ≡ cond b (G e.0 e.1) 0 + sum_of_all (λ w s. cond (test s) (G w s) 0) I
    at_head true i = ap (λ x. G e.0 e.1 + x) i
    at_head false i = omega (arith, i)

none : {k : ℕ} (b : Bool) → k ≡ 0 → cond b k 0 ≡ 0
none true e = e
none false e = refl

only_alike : (test : State → Bool) (I : Table) (J : Point) → Alike I J → Alike (only test I) (only test J)
only_alike test I J h G z = count_only G test I ∙ h (λ w s. cond (test s) (G w s) 0) (λ d s. none (test s) (z d s)) ∙ sym (count_only G test J)

scaled_alike : (w : Fraction) (I : Table) (J : Point) → Alike I J → Alike (scaled w I) (scaled w J)
scaled_alike w I J h G z = sum_scaled G w I z ∙ h (after_weight w G) (zero_after G w z) ∙ sym (sum_scaled G w J z)

-- ---- tables and points
abbrev AllAlike : List Table → List Point → Type 0
AllAlike [] [] = Unit {0}
AllAlike [] (J ∷ Js) = ⊥
AllAlike (I ∷ Is) [] = ⊥
AllAlike (I ∷ Is) (J ∷ Js) = Alike I J × AllAlike Is Js

joined : (Is : List Table) (Js : List Point) (As : List Table) (Bs : List Point) → AllAlike Is Js → AllAlike As Bs → AllAlike (Is ++ As) (Js ++ Bs)
joined [] [] As Bs h k = k
joined [] (J ∷ Js) As Bs h k = absurd h
joined (I ∷ Is) [] As Bs h k = absurd h
joined (I ∷ Is) (J ∷ Js) As Bs h k = (h.0, joined Is Js As Bs h.1 k)

module _ (n : ℕ) (r : Option ℕ) where
  none_on : (b : Statements) (I : Table) → NoOn (block_flow n r b I).ended
  none_on done I = tt
  none_on (st ▸ b) I = each_append IsOver (statement_flow n r st I).ended _ (no_one n r st I) (none_on b (statement_flow n r st I).next)

  abbrev BlockAlike : Statements → Type 0
  BlockAlike b = (I : Table) (J : Point) → Alike I J → AllAlike (block_flow n r b I).tables (block_points n r b J)

  loop_alike : (v : State → Value) (b : Statements) → BlockAlike b → (t : ℕ) (I : Table) (J : Point) → Alike I J →
      AllAlike (loop_flow v (block_flow n r b) t I).tables (loop_points v (block_points n r b) (weighted_ends n r b) t J)
  loop_alike v b g zero I J h = (h, tt)
  loop_alike v b g (suc t) I J h =
      let A = only (holds v) I in
      let B = where_true v J in
      let a = only_alike (holds v) I J h in
      let f = block_flow n r b A in
      let next = next_alike f A B (weighted_ends n r b) a (none_on b A) (λ F z. flow_paths n r b F A z) in
      (h, joined f.tables (block_points n r b B) _ _ (g A B a) (loop_alike v b g t f.next (going_on (taken_on B (weighted_ends n r b))) next))

  mutual
    statement_alike : (st : Statement) (I : Table) (J : Point) → Alike I J → AllAlike (statement_flow n r st I).tables (statement_points n r st J)
    statement_alike Skip I J h = tt
    statement_alike (Set x e) I J h = tt
    statement_alike (Observe e) I J h = tt
    statement_alike (Uniform x e) I J h = rw (by_lists fractions_kind r x (value_of e) I) tt
    statement_alike (If e a c) I J h =
        let v = value_of e in
        joined (block_flow n r a (only (holds v) I)).tables (block_points n r a (where_true v J)) _ _ (block_alike a _ _ (only_alike (holds v) I J h)) (block_alike c _ _ (only_alike (fails v) I J h))
    statement_alike (Choice p a c) I J h =
        let u = class_weight p.den r p.num in
        let w = class_weight p.den r (p.den - p.num) in
        joined (block_flow n r a (scaled u I)).tables (block_points n r a (scaled u J)) _ _ (block_alike a _ _ (scaled_alike u I J h)) (block_alike c _ _ (scaled_alike w I J h))
    statement_alike (Choose arms) I J h = arms_alike (sum (parts_of arms)) arms I J h
    statement_alike (While e a) I J h = loop_alike (value_of e) a (block_alike a) n I J h

    block_alike : (b : Statements) → BlockAlike b
    block_alike done I J h = (h, tt)
    block_alike (st ▸ b) I J h =
        let f = statement_flow n r st I in
        let next = next_alike f I J (statement_weighted n r st) h (no_one n r st I) (λ F z. flow_statement n r st F I z) in
        (h, joined f.tables (statement_points n r st J) _ _ (statement_alike st I J h) (block_alike b f.next (going_on (taken_on J (statement_weighted n r st))) next))

    arms_alike : (b : ℕ) (arms : ArmList) (I : Table) (J : Point) → Alike I J → AllAlike (arms_flow n r b arms I).tables (arms_points n r b arms J)
    arms_alike b no_arm I J h = tt
    arms_alike b (arm p a arms) I J h =
        let u = class_weight b r p in
        joined (block_flow n r a (scaled u I)).tables (block_points n r a (scaled u J)) _ _ (block_alike a _ _ (scaled_alike u I J h)) (arms_alike b arms I J h)

-- ---- how many different states
abbrev states_in : Point → List State
states_in I = map (λ e. e.1) I

-- what counts the weights of one state
abbrev of_state : State → Fraction → State → ℕ
of_state q w s = cond (same q s) w.0 0

of_state_zero : (q : State) → Zero (of_state q)
of_state_zero q d s = none (same q s) refl

counted_stands : (q : State) (I : Point) → 0 < sum_of_all (of_state q) I → is_member same (states_in I) q ≡ true
counted_stands q [] h = absurd (omega arith)
counted_stands q (e ∷ I) h = by (same q e.1) (counted_stands q I) h
  where
    by : (b : Bool) → (0 < sum_of_all (of_state q) I → is_member same (states_in I) q ≡ true) → 0 < cond b e.0.0 0 + sum_of_all (of_state q) I → (b || is_member same (states_in I) q) ≡ true
    by true i h = refl
    by false i h = i (omega (arith, h))

standing_counts : (q : State) (I : Point) → HaveWeight I → is_member same (states_in I) q ≡ true → 0 < sum_of_all (of_state q) I
standing_counts q [] w h = absurd (true≢false (sym h))
standing_counts q (e ∷ I) w h = by (same q e.1) (standing_counts q I w.1) h
  where
    by : (b : Bool) → (is_member same (states_in I) q ≡ true → 0 < sum_of_all (of_state q) I) → (b || is_member same (states_in I) q) ≡ true → 0 < cond b e.0.0 0 + sum_of_all (of_state q) I
    by true i h = let p = w.0 in omega (arith, p)
    by false i h = let k = i h in omega (arith, k)

-- a list with each state once has each once
apart : (x : State) (ys : List State) → is_member same ys x ≡ false → AllByRecursion (λ y. same x y ≡ false) ys
apart x [] h = tt
apart x (y ∷ ys) h = by (same x y) refl h (apart x ys)
  where
    by : (b : Bool) → same x y ≡ b → (b || is_member same ys x) ≡ false → (is_member same ys x ≡ false → AllByRecursion (λ y. same x y ≡ false) ys) →
        (same x y ≡ false) × AllByRecursion (λ y. same x y ≡ false) ys
    by true e g k = absurd (true≢false g)
    by false e g k = (e, k g)

unique_stands : (xs : List State) (q : State) → is_member same (unique_keys same xs) q ≡ true → is_member same xs q ≡ true
unique_stands [] q h = h
unique_stands (x ∷ xs) q h = by (is_member same xs x) (same q x) refl h (unique_stands xs q)
  where
    by : (b c : Bool) → same q x ≡ c → is_member same (cond b (unique_keys same xs) (x ∷ unique_keys same xs)) q ≡ true → (is_member same (unique_keys same xs) q ≡ true → is_member same xs q ≡ true) →
        (c || is_member same xs q) ≡ true
    by b true e h i = refl
    by true false e h i = i h
    by false false e h i = i (rw e at h)

are_distinct : (xs : List State) → IsDistinct same (unique_keys same xs)
unfolding IsDistinct
are_distinct [] = tt
are_distinct (x ∷ xs) = by (is_member same xs x) refl (are_distinct xs)
  where
    by : (b : Bool) → is_member same xs x ≡ b → IsDistinct same (unique_keys same xs) → IsDistinct same (cond b (unique_keys same xs) (x ∷ unique_keys same xs))
    by true m d = d
    by false m d = (apart x (unique_keys same xs) (absent (is_member same (unique_keys same xs) x) refl), d)
      where
        absent : (c : Bool) → is_member same (unique_keys same xs) x ≡ c → c ≡ false
        absent true e = absurd (true≢false (sym (unique_stands xs x e) ∙ m))
        absent false e = refl

fewer : (I J : Point) → ((q : State) → is_member same (states_in I) q ≡ true → is_member same (states_in J) q ≡ true) → distinct_count same (states_in I) ≤ distinct_count same (states_in J)
fewer I J h =
    length-le_from_is_member same_equiv (unique_keys same (states_in I)) (unique_keys same (states_in J)) (are_distinct (states_in I))
    (λ q m. member_unique (states_in J) q (h q (unique_stands (states_in I) q m)))

as_many : (I : Table) (J : Point) → HaveWeight I → HaveWeight J → Alike I J → states I ≡ distinct_count same (states_in J)
as_many I J u w h =
    let a = fewer I J (λ q m. counted_stands q J (let x = standing_counts q I u m in let e = h (of_state q) (of_state_zero q) in omega arith)) in
    let b = fewer J I (λ q m. counted_stands q I (let x = standing_counts q J w m in let e = h (of_state q) (of_state_zero q) in omega arith)) in
    omega arith

most_alike : (Is : List Table) (Js : List Point) → AllHaveWeight Is → AllHaveWeight Js → AllAlike Is Js → table.most_states Is ≡ most_states Js
most_alike [] [] u w h = refl
most_alike [] (J ∷ Js) u w h = absurd h
most_alike (I ∷ Is) [] u w h = absurd h
most_alike (I ∷ Is) (J ∷ Js) u w h = ap (λ x. max x (table.most_states Is)) (as_many I J u.0 w.0 h.0) ∙ ap (λ x. max (distinct_count same (states_in J)) x) (most_alike Is Js u.1 w.1 h.1)

length_alike : (Is : List Table) (Js : List Point) → AllAlike Is Js → length Is ≡ length Js
length_alike [] [] h = refl
length_alike [] (J ∷ Js) h = absurd h
length_alike (I ∷ Is) [] h = absurd h
length_alike (I ∷ Is) (J ∷ Js) h = ap (λ x. suc x) (length_alike Is Js h.1)

-- ---- of a round
module _ (p : SourceProgram) (n : ℕ) (r : Option ℕ) where
  abbrev begun : Table
  begun = sure (zeros (length p.names))

  all_alike : AllAlike (tables_of p n r).tables (points_of p n r)
  all_alike = block_alike n r p.body begun begun (λ G z. refl)

  begun_has : HaveWeight begun
  begun_has = (omega arith, tt)

  pub peaks_are_same : peak_of p n r ≡ most_states (points_of p n r)
  peaks_are_same = most_alike (tables_of p n r).tables (points_of p n r) (tables_have n r p.body begun begun_has) (block_points_have n r p.body begun begun_has) all_alike

  pub as_many_points : length (tables_of p n r).tables ≡ length (points_of p n r)
  as_many_points = length_alike (tables_of p n r).tables (points_of p n r) all_alike
