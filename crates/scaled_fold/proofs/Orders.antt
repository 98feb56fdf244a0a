-- No step makes a state have more units at least than at most.
use Rattle.std.proofs.Common.{ℕ, zero, suc, ◌*◌, ◌/◌, ◌-◌, ◌^◌, ◌≤◌, ℤ, pos, negsuc, Ok, Err, Bool, true, false, Option, Some, None, cond, [], ◌∷◌, arith, slice_set}
use Rattle.std.specs.Int.{div_ceil}
use Rattle.std.proofs.lemmas.Nat.{le-div}
use Rattle.std.proofs.Math.Nat.{div-mul-le_self, mul-le-mul_left}
use Rattle.numbers.specs.declared.units.TheConstants.{ALL}
use Rattle.numbers.specs.Units.{shared, shared_up, power_down, power_up}
use Rattle.gcl_core.specs.meaning.Blocks.{by_value}
use Rattle.gcl_core.specs.meaning.Draw.{bits_for, rejected_numbers}
use Rattle.gcl_core.specs.meaning.Value.{State, Value}
use Rattle.table_flow.specs.Tables.{set_go, only_go, below_go, number_go}
use Rattle.scaled_fold.proofs.DrawnPairs.{drawn_pairs}
use Rattle.units_law.specs.Down.{down, share_of, again_down, again_up}
use Rattle.scaled_law.specs.Pairs.{Pair, Pairs, InOrder, counted_pairs, class_pairs, pairs_kind}
use Rattle.scaled_law.specs.Up.{up, share_up}
use Rattle.scaled_fold.proofs.Merged.{order_append}

pub order_set : (x : ℕ) (v : State → Value) (J : Pairs State) → InOrder J → InOrder (set_go counted_pairs x v J)
order_set x v [] i = tt
order_set x v (e ∷ J) i = by (v e.0) (order_set x v J i.1)
  where
    by : (o : Value) → InOrder (set_go counted_pairs x v J) → InOrder (by_value o (λ f. set_go counted_pairs x v J) (λ z. (slice_set e.0 x z, e.1) ∷ set_go counted_pairs x v J))
    by (Ok z) k = (i.0, k)
    by (Err f) k = k

pub order_only : (test : State → Bool) (J : Pairs State) → InOrder J → InOrder (only_go counted_pairs test J)
order_only test [] i = tt
order_only test (e ∷ J) i = by (test e.0) (order_only test J i.1)
  where
    by : (b : Bool) → InOrder (only_go counted_pairs test J) → InOrder (cond b (e ∷ only_go counted_pairs test J) (only_go counted_pairs test J))
    by true k = (i.0, k)
    by false k = k

-- ---- shares

over_more : (a c b : ℕ) → a ≤ c → a / b ≤ c / b
over_more a c zero l = omega arith
over_more a c (suc b) l = let x = div-mul-le_self a (suc b) in le-div (a / suc b) c (suc b) (omega arith) (omega (arith, l, x))

part_order : (l h c b : ℕ) → l ≤ h → l * c / b ≤ div_ceil (h * c) b
part_order l h c b p = let y = mul-le-mul_left c p in let x = over_more (l * c) (h * c) b (omega (arith, y)) in omega (arith, x)

product_order : (l h s t : ℕ) → l ≤ h → s ≤ t → shared l s ≤ shared_up h t
product_order l h s t p q =
    let x = mul-le-mul_left s p in
    let y = mul-le-mul_left h q in
    let z = over_more (l * s) (h * t) ALL (omega (arith, x, y)) in
    omega (arith, z)

-- that no attempt of a draw decides
again_order : (b : ℕ) → again_down b ≤ again_up b
again_order b = let x = over_more (rejected_numbers b * ALL) (rejected_numbers b * ALL) (2 ^ bits_for b) (omega arith) in omega (arith, x)

none_order : (b r : ℕ) → power_down (again_down b) r ≤ power_up (again_up b) r
none_order b zero = omega arith
none_order b (suc r) = product_order (again_down b) (again_up b) (power_down (again_down b) r) (power_up (again_up b) r) (again_order b) (none_order b r)

share_order : (b : ℕ) (r : Option ℕ) (c l h : ℕ) → l ≤ h → share_of b r c l ≤ share_up b r c h
share_order b None c l h p = part_order l h c b p
share_order b (Some r) c l h p =
    let some : ALL - power_up (again_up b) r ≤ ALL - power_down (again_down b) r = let x = none_order b r in omega (arith, x) in
    part_order (shared l (ALL - power_up (again_up b) r)) (shared_up h (ALL - power_down (again_down b) r)) c b (product_order l h _ _ p some)

pub order_class : (b : ℕ) (r : Option ℕ) (c : ℕ) (J : Pairs State) → InOrder J → InOrder (class_pairs down up b r c J)
order_class b r c [] i = tt
order_class b r c (e ∷ J) i = (share_order b r c e.1.0 e.1.1 i.0, order_class b r c J i.1)

-- ---- draws

order_below : (x m : ℕ) (e : State × Pair) → e.1.0 ≤ e.1.1 → InOrder (below_go counted_pairs x m (e ∷ []))
order_below x zero e i = tt
order_below x (suc m) e i = order_append (below_go counted_pairs x m (e ∷ [])) ((slice_set e.0 x (pos m), e.1) ∷ []) (order_below x m e i) (i, tt)

pub order_drawn : (x : ℕ) (v : State → Value) (r : Option ℕ) (J : Pairs State) → InOrder J → InOrder (drawn_pairs x v r J)
order_drawn x v r [] i = tt
order_drawn x v r (e ∷ J) i =
    order_append (number_go (pairs_kind down up) r x (v e.0) e).next (drawn_pairs x v r J) (by (v e.0)) (order_drawn x v r J i.1)
  where
    numbers : (m : ℕ) → InOrder (below_go counted_pairs x m (class_pairs down up m r 1 (e ∷ [])))
    numbers m = let s = order_class m r 1 (e ∷ []) (i.0, tt) in order_below x m _ s.0

    at : (z : ℤ) → InOrder (number_go (pairs_kind down up) r x (Ok z) e).next
    at (pos zero) = tt
    at (pos (suc m)) = numbers (suc m)
    at (negsuc m) = tt

    by : (o : Value) → InOrder (number_go (pairs_kind down up) r x o e).next
    by (Ok z) = at z
    by (Err f) = tt
