-- How many products a round rounds: at most so many for each table on the way.
use Rattle.std.proofs.Common.{◌≡◌, ℕ, zero, suc, ◌+◌, ◌-◌, ◌*◌, ◌≤◌, ◌<◌, pos, negsuc, true, Ok, Err, List, [], ◌∷◌, ◌++◌, length, length-append, Option, ap, arith}
use Rattle.std.proofs.Math.Nat.{mul-le-mul_left, mul-le-mul_right}
use Rattle.std.proofs.lemmas.List.Elements.{All-nil, All-cons, All-head, All-tail}
use Rattle.std.specs.List.{sum}
use Rattle.gcl_core.proofs.FittingValues.{zeros_fit}
use Rattle.std.specs.Prelude.{All}
use Rattle.numbers.specs.declared.units.TheConstants.{ALL}
use Rattle.gcl_core.specs.meaning.Arms.{parts_of}
use Rattle.gcl_core.specs.meaning.Bounds.{StatementIsWeighed, BlockIsWeighed, ArmsAreWeighed, StatementFits, BlockFits, ArmsFit}
use Rattle.gcl_core.specs.meaning.Fitting.{state_fits}
use Rattle.gcl_core.specs.meaning.Blocks.{by_value, by_bound}
use Rattle.gcl_core.specs.meaning.Outcomes.{zeros}
use Rattle.gcl_core.specs.meaning.Syntax.{Statement, Skip, Set, If, While, Choice, Choose, Uniform, Observe, Statements, done, ◌▸◌, ArmList, no_arm, arm, SourceProgram}
use Rattle.gcl_core.specs.meaning.Value.{State, Value, value_of}
use Rattle.gcl_core.specs.text.ReadingOrder.{statement_listed, listed, arms_listed}
use Rattle.gcl_core.specs.weighing.WeightedEnds.{sure, scaled, class_weight}
use Rattle.table_flow.specs.Scale.{Wholes, Within}
use Rattle.table_flow.specs.Tables.{Table, holds, fails, only, faults, statement_flow, block_flow, peak_of, tables_of, fractions_kind}
use Rattle.table_flow.specs.Width.{round_width}
use Rattle.table_flow.proofs.FlowWords.{loop_flow, arms_flow}
use Rattle.table_flow.proofs.Amounts.{both_first, both_second}
use Rattle.table_flow.proofs.AtWidth.{at_width}
use Rattle.table_flow.proofs.FittingTables.{fit_only, statement_fit, block_fit}
use Rattle.table_flow.proofs.InsideFlows.{head_whole, first_inside, others_inside, turn_inside, turns_inside, side_first, side_second, choose_inside, first_arm, other_arms}
use Rattle.table_flow.proofs.UniformLists.{by_lists}
use Rattle.units_law.specs.Below.{IsBelow}
use Rattle.units_law.specs.Flows.{statement_units, block_units}
use Rattle.units_law.specs.Merged.{merged}
use Rattle.units_law.specs.Rounding.{Rounding, RoundsDown, class_units, units_kind}
use Rattle.units_law.specs.Roundings.{roundings_of, round_roundings}
use Rattle.units_law.specs.Units.{Units, counted_units, only_units}
use Rattle.units_law.proofs.UnitsBelow.{merged_below, only_below, class_below, statement_below, block_below}
use Rattle.units_law.proofs.FewStates.{states_few}
use Rattle.units_law.proofs.FittingUnits.{UnitsFit, fit_merged, fit_class, units_keep_states}
use Rattle.units_law.proofs.Rounds.{begins_below}
use Rattle.units_law.proofs.Roundings.{bound_roundings, first_bound, arms_roundings, both_roundings, choice_roundings, choose_roundings, first_arm_roundings}
use Rattle.units_law.specs.Points.{points_of, most_states}
use Rattle.units_law.proofs.SamePoints.{peaks_are_same, as_many_points}
use Rattle.units_law.specs.FewOthers.{numbers_at, DrawsWithin, BlockWithin}
use Rattle.units_law.proofs.UnitWords.{loop_units, block_roundings}

-- ---- a fact of all members of two lists
all_left : {X : Type 0} (P : X → Type 0) (xs ys : List X) → All P (xs ++ ys) → All P xs
all_left P [] ys h = All-nil P
all_left P (x ∷ xs) ys h = All-cons P x xs (All-head P x (xs ++ ys) h) (all_left P xs ys (All-tail P x (xs ++ ys) h))

all_right : {X : Type 0} (P : X → Type 0) (xs ys : List X) → All P (xs ++ ys) → All P ys
all_right P [] ys h = h
all_right P (x ∷ xs) ys h = all_right P xs ys (All-tail P x (xs ++ ys) h)

-- one state with a bound
module _ (M : ℕ) where
  one_bound : (a : Value) → by_value a (λ f. 0) (λ z. by_bound z 0 (λ m. m)) ≤ M → by_value a (λ f. 0) (λ z. by_bound z 0 (λ m. m + 1)) ≤ M + 1
  one_bound (Ok (pos zero)) h = omega arith
  one_bound (Ok (pos (suc m))) h = omega (arith, h)
  one_bound (Ok (negsuc m)) h = omega arith
  one_bound (Err f) h = omega arith

  bounds_few : (cut : Rounding) (v : State → Value) → ((s : State) → state_fits s ≡ true → numbers_at v s ≤ M) → (J : Units State) → UnitsFit J → bound_roundings cut v J ≤ length J * (M + 1)
  bounds_few cut v h [] f = omega arith
  bounds_few cut v h (e ∷ J) f =
      let x = one_bound (v e.0) (h e.0 f.0) in
      let y = bounds_few cut v h J f.1 in
      let z = first_bound cut v e J in
      omega arith

module _ (cut : Rounding) (c : RoundsDown cut) (N L n : ℕ) (some : 0 < N) (r : Option ℕ) (M : ℕ) where
  abbrev U : ℕ
  U = L * (M + 1)

  least : L ≤ U
  least = let x = mul-le-mul_left L (let z : 1 ≤ M + 1 = omega arith in z) in omega arith

  -- beside one more rounding of each of its states
  abbrev BlockFew : Statements → Type 0
  BlockFew b = (J : Units State) (I : Table) → UnitsFit J → Within N L (block_flow n r b I) → IsBelow N J I → block_roundings cut n r b J + L ≤ U * length (block_flow n r b I).tables

  two : (Js Ks : List Table) (a b : ℕ) → a ≤ U * length Js → b ≤ U * length Ks → a + b ≤ U * length (Js ++ Ks)
  two Js Ks a b h k = let e = ap (λ x. U * x) (length-append Js Ks) in omega arith

  past : (I : Table) (Js : List Table) (b : ℕ) → b ≤ U * length Js → b ≤ U * length (I ∷ Js)
  past I Js b h = omega arith

  less : (a l u : ℕ) → a + l ≤ u → a ≤ u
  less a l u h = omega arith

  loop_few : (v : State → Value) (b : Statements) → BlockIsWeighed b → BlockFits b → BlockFew b → (k : ℕ) (J : Units State) (I : Table) → UnitsFit J → Within N L (loop_flow v (block_flow n r b) k I) → IsBelow N J I →
      roundings_of (loop_units v (block_units cut n r b) k J).reached ≤ U * length (loop_flow v (block_flow n r b) k I).tables
  loop_few v b p q m zero J I t w h = omega arith
  loop_few v b p q m (suc k) J I t w h =
      let A = only_units (holds v) J in
      let B = only (holds v) I in
      let f = block_units cut n r b A in
      let f' = block_flow n r b B in
      let g' = loop_flow v (block_flow n r b) k f'.next in
      let wf = turn_inside n r N L v b k I w in
      let wg = turns_inside n r N L v b k I w in
      let hh = only_below cut c N L n some r J I h (holds v) in
      let u = fit_only counted_units (holds v) J t in
      let x = m A B u wf hh in
      let below = block_below cut c N L n some r b p A B wf hh in
      let y = loop_few v b p q m k f.next f'.next (block_fit (units_kind cut) (units_keep_states cut) n r b q A u) wg below.next in
      let g = loop_units v (block_units cut n r b) k f.next in
      let a = roundings_of f.reached in
      let z = two f'.tables g'.tables a (roundings_of g.reached) (less a L (U * length f'.tables) x) y in
      past I (f'.tables ++ g'.tables) (roundings_of (f.reached ++ g.reached)) (rw (both_roundings f.reached g.reached) z)

  charged : (a l u k : ℕ) → k ≤ l → a + l ≤ u → k + a ≤ u
  charged a l u k h g = omega arith

  mutual
    statement_few : (st : Statement) → StatementIsWeighed st → StatementFits st → All (DrawsWithin M) (statement_listed st) → (J : Units State) (I : Table) → UnitsFit J → length J ≤ L → Wholes N I → Within N L (statement_flow n r st I) → IsBelow N J I →
        roundings_of (statement_units cut n r st J).reached ≤ U + U * length (statement_flow n r st I).tables
    statement_few Skip p g d J I f l w s h = omega arith
    statement_few (Set x e) p g d J I f l w s h = omega arith
    statement_few (Observe e) p g d J I f l w s h = omega arith
    statement_few (Uniform x e) p g d J I f l w s h =
        let y = bounds_few M cut (value_of e) (All-head (DrawsWithin M) (Uniform x e) [] d) J f in
        let z = mul-le-mul_right (M + 1) l in
        rw (by_lists (units_kind cut) r x (value_of e) J) (rw (by_lists fractions_kind r x (value_of e) I) (omega arith))
    statement_few (If e a b) p g d J I t l w s h =
        let v = value_of e in
        let q = All-tail (DrawsWithin M) (If e a b) (listed a ++ listed b) d in
        let A = only_units (holds v) J in
        let B = only_units (fails v) J in
        let A' = only (holds v) I in
        let B' = only (fails v) I in
        let f' = block_flow n r a A' in
        let g' = block_flow n r b B' in
        let x = block_few a p.0 g.1 (all_left (DrawsWithin M) (listed a) (listed b) q) A A' (fit_only counted_units (holds v) J t) (both_first N L (faults v I) f' g' s) (only_below cut c N L n some r J I h (holds v)) in
        let y = block_few b p.1 g.2 (all_right (DrawsWithin M) (listed a) (listed b) q) B B' (fit_only counted_units (fails v) J t) (both_second N L (faults v I) f' g' s) (only_below cut c N L n some r J I h (fails v)) in
        let z = two f'.tables g'.tables (block_roundings cut n r a A) (block_roundings cut n r b B) (less _ _ _ x) (less _ _ _ y) in
        let e = both_roundings (block_units cut n r a A).reached (block_units cut n r b B).reached in
        omega arith
    statement_few (Choice q a b) p g d J I fit l w s h =
        let within = All-tail (DrawsWithin M) (Choice q a b) (listed a ++ listed b) d in
        let A = class_units cut q.den r q.num J in
        let B = class_units cut q.den r (q.den - q.num) J in
        let A' = scaled (class_weight q.den r q.num) I in
        let B' = scaled (class_weight q.den r (q.den - q.num)) I in
        let f' = block_flow n r a A' in
        let g' = block_flow n r b B' in
        let wf = side_first n r N L q a b I s in
        let wg = side_second n r N L q a b I s in
        let t : 0 < q.den = let z = p.0.positive in omega arith in
        let x = block_few a p.1 g.0 (all_left (DrawsWithin M) (listed a) (listed b) within) A A' (fit_class cut q.den r q.num J fit) wf (class_below cut c N L n some r q.den q.num t J I w (head_whole n r N L a A' wf.tables) h) in
        let y = block_few b p.2 g.1 (all_right (DrawsWithin M) (listed a) (listed b) within) B B' (fit_class cut q.den r (q.den - q.num) J fit) wg (class_below cut c N L n some r q.den (q.den - q.num) t J I w (head_whole n r N L b B' wg.tables) h) in
        let k = length J in
        let z = two f'.tables g'.tables (k + block_roundings cut n r a A) (k + block_roundings cut n r b B) (charged _ _ _ k l x) (charged _ _ _ k l y) in
        let e = choice_roundings q J (block_units cut n r a A).reached (block_units cut n r b B).reached in
        let u = least in
        omega arith
    statement_few (Choose arms) p g d J I fit l w s h =
        let b = sum (parts_of arms) in
        let t : 0 < b = let z = p.0.positive in omega arith in
        let y = arms_few b t arms p.1 g (All-tail (DrawsWithin M) (Choose arms) (arms_listed arms) d) J I fit l w (choose_inside n r N L arms I s) h in
        let e = choose_roundings cut n r arms b J in
        let u = least in
        omega arith
    statement_few (While e a) p g d J I fit l w s h =
        let y = loop_few (value_of e) a p g.1 (block_few a p g.1 (All-tail (DrawsWithin M) (While e a) (listed a) d)) n J I fit s h in
        omega arith

    block_few : (b : Statements) → BlockIsWeighed b → BlockFits b → BlockWithin M b → BlockFew b
    block_few done p q d J I t s h = let u = least in omega arith
    block_few (st ▸ b) p q d J I t s h =
        let f = statement_units cut n r st (merged J) in
        let f' = statement_flow n r st I in
        let g' = block_flow n r b f'.next in
        let sf = first_inside n r N L st b I s in
        let sg = others_inside n r N L st b I s in
        let m = merged_below cut c N L n some r J I h in
        let below = statement_below cut c N L n some r st p.0 (merged J) I s.tables.0 (head_whole n r N L b f'.next sg.tables) sf m in
        let v = fit_merged J t in
        let x = statement_few st p.0 q.0 (all_left (DrawsWithin M) (statement_listed st) (listed b) d) (merged J) I v (states_few N L some J I h s.tables.1) s.tables.0 sf m in
        let y = block_few b p.1 q.1 (all_right (DrawsWithin M) (statement_listed st) (listed b) d) f.next f'.next (statement_fit (units_kind cut) (units_keep_states cut) n r st q.0 (merged J) v) sg below.next in
        let e = both_roundings f.reached (block_units cut n r b f.next).reached in
        rw e (joined (roundings_of f.reached) (block_roundings cut n r b f.next) L U (length (f'.tables ++ g'.tables)) (length f'.tables) (length g'.tables) (length-append f'.tables g'.tables) x y)
      where
        joined : (a b l u len i j : ℕ) → len ≡ i + j → a ≤ u + u * i → b + l ≤ u * j → a + b + l ≤ u * suc len
        joined a b l u len i j e h k = let z = ap (λ x. u * x) e in omega arith

    arms_few : (b : ℕ) → 0 < b → (arms : ArmList) → ArmsAreWeighed arms → ArmsFit arms → All (DrawsWithin M) (arms_listed arms) → (J : Units State) (I : Table) → UnitsFit J → length J ≤ L → Wholes N I → Within N L (arms_flow n r b arms I) → IsBelow N J I →
        arms_roundings cut n r b arms J ≤ U * length (arms_flow n r b arms I).tables
    arms_few b t no_arm p g d J I fit l w s h = omega arith
    arms_few b t (arm q a arms) p g d J I fit l w s h =
        let A = class_units cut b r q J in
        let A' = scaled (class_weight b r q) I in
        let wf = first_arm n r N L b q a arms I s in
        let x = block_few a p.0 g.0 (all_left (DrawsWithin M) (listed a) (arms_listed arms) d) A A' (fit_class cut b r q J fit) wf (class_below cut c N L n some r b q t J I w (head_whole n r N L a A' wf.tables) h) in
        let y = arms_few b t arms p.1 g.1 (all_right (DrawsWithin M) (listed a) (arms_listed arms) d) J I fit l w (other_arms n r N L b q a arms I s) h in
        let k = length J in
        let z = two (block_flow n r a A').tables (arms_flow n r b arms I).tables (k + block_roundings cut n r a A) (arms_roundings cut n r b arms J) (charged _ _ _ k l x) y in
        let e = first_arm_roundings cut n r b q a arms J in
        omega arith

pub round_few : (cut : Rounding) → RoundsDown cut → (p : SourceProgram) (n : ℕ) (r : Option ℕ) (M : ℕ) → BlockIsWeighed p.body → BlockFits p.body → BlockWithin M p.body →
    round_roundings cut p n r ≤ most_states (points_of p n r) * (M + 1) * length (points_of p n r)
round_few cut c p n r M w q d =
    let a = at_width p n r w in
    let N = round_width p n r in
    let L = peak_of p n r in
    let s = zeros (length p.names) in
    let x = less _ _ _ (block_few cut c N L n a.positive r M p.body w q d ((s, ALL) ∷ []) (sure s) (zeros_fit (length p.names), tt) a.within (begins_below N s)) in
    let many = ap (λ k. k * (M + 1) * length (tables_of p n r).tables) (peaks_are_same p n r) in
    let long = ap (λ k. most_states (points_of p n r) * (M + 1) * k) (as_many_points p n r) in
    omega (arith, x, many, long)
  where
    less : (a l u : ℕ) → a + l ≤ u → a ≤ u
    less a l u h = omega arith
