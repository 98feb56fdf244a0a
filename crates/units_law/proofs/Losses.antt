-- What is lost by rounding: k units at most for each product, and never less than none.
use Rattle.std.proofs.Common.{◌≡◌, ℕ, zero, suc, ◌+◌, ◌*◌, ◌≤◌, ◌<◌, pos, negsuc, Bool, true, false, not, cond, [], ◌∷◌, ◌++◌, map, length, Ok, Err, Option, refl, ap, arith, slice_set}
use Rattle.std.proofs.Math.Nat.{mul-le-mul_left}
use Rattle.gcl_core.specs.declared.answers.Fault.TheVariants.{BadBound}
use Rattle.gcl_core.specs.declared.answers.Limit.TheVariants.{Attempts}
use Rattle.gcl_core.specs.meaning.Value.{State, Value, is_zero}
use Rattle.gcl_core.specs.meaning.Blocks.{End, fault, limit, by_value, by_bound}
use Rattle.gcl_core.specs.weighing.Fractions.{Fraction}
use Rattle.gcl_core.specs.weighing.WeightedEnds.{class_weight, no_class_weight}
use Rattle.table_flow.specs.Tables.{holds, fails, uniform_go}
use Rattle.table_flow.proofs.Draws.{each_part, no_part, all_parts, parts_add_up, all_parts_pos, class_pos, no_class_pos, class_share, no_class_share}
use Rattle.table_flow.proofs.UniformLists.{drawn_go, undrawn_go, by_lists}
use Rattle.units_law.specs.Flows.{UnitFlow, all_units}
use Rattle.units_law.specs.Rounding.{Rounding, RoundsDown, LosesFew, class_units, rest_units, units_kind}
use Rattle.units_law.specs.Units.{Units, total, only_units, fault_units, end_units, set_units}
use Rattle.units_law.specs.Roundings.{roundings_of}
use Rattle.units_law.proofs.UnitWords.{both_units, below_units}
use Rattle.units_law.proofs.Held.{held_append}
use Rattle.units_law.proofs.Roundings.{bound_roundings, first_bound}
use Rattle.units_law.proofs.Orders.{from_left}

-- b is at most a, and at most k less
abbrev pub Loses : ℕ → ℕ → ℕ → Type 0
Loses a b k = (b ≤ a) × (a ≤ b + k)

pub none_lost : (a b k : ℕ) → b ≡ a → Loses a b k
none_lost a b k e = (omega arith, omega arith)

pub lost_after : (a b c k l : ℕ) → Loses a b k → Loses b c l → Loses a c (k + l)
lost_after a b c k l p q = let x = p.0 in let y = p.1 in let u = q.0 in let v = q.1 in (omega arith, omega arith)

pub lost_beside : (a b c d k l : ℕ) → Loses a b k → Loses c d l → Loses (a + c) (b + d) (k + l)
lost_beside a b c d k l p q = let x = p.0 in let y = p.1 in let u = q.0 in let v = q.1 in (omega arith, omega arith)

pub lost_times : (m a b k : ℕ) → Loses a b k → Loses (m * a) (m * b) (m * k)
lost_times m a b k p = let x = mul-le-mul_left m p.0 in let y = mul-le-mul_left m p.1 in (omega arith, omega arith)

pub lost_over : (m a b k : ℕ) → 0 < m → Loses (m * a) (m * b) (m * k) → Loses a b k
lost_over m a b k p h = let x = h.0 in let y = h.1 in (from_left m b a p x, from_left m a (b + k) p (omega arith))

pub like : (a b k a' b' k' : ℕ) → Loses a b k → a' ≡ a → b' ≡ b → k' ≡ k → Loses a' b' k'
like a b k a' b' k' h p q s = rw (p, q, s) h

-- ---- what is parted is kept

pub guard_total : (v : State → Value) (J : Units State) → total (only_units (holds v) J) + (total (only_units (fails v) J) + total (fault_units v J)) ≡ total J
guard_total v [] = refl
guard_total v (e ∷ J) = at_head (v e.0) refl (guard_total v J)
  where
    at_head : (o : Value) → v e.0 ≡ o → total (only_units (holds v) J) + (total (only_units (fails v) J) + total (fault_units v J)) ≡ total J →
        total (only_units (holds v) (e ∷ J)) + (total (only_units (fails v) (e ∷ J)) + total (fault_units v (e ∷ J))) ≡ total (e ∷ J)
    at_head (Err f) p i = rw p (omega arith)
    at_head (Ok n) p i = rw p (by_zero (is_zero n) i)
      where
        by_zero : (b : Bool) → total (only_units (holds v) J) + (total (only_units (fails v) J) + total (fault_units v J)) ≡ total J →
            total (cond (not b) (e ∷ only_units (holds v) J) (only_units (holds v) J)) + (total (cond b (e ∷ only_units (fails v) J) (only_units (fails v) J)) + total (fault_units v J)) ≡ total (e ∷ J)
        by_zero true i = omega arith
        by_zero false i = omega arith

pub end_total : (x : End) (J : Units State) → total (end_units x J) ≡ total J
end_total x [] = refl
end_total x (e ∷ J) = let i = end_total x J in omega arith

pub set_total : (x : ℕ) (v : State → Value) (J : Units State) → total (set_units x v J) + total (fault_units v J) ≡ total J
set_total x v [] = refl
set_total x v (e ∷ J) = at_head (v e.0) refl (set_total x v J)
  where
    at_head : (o : Value) → v e.0 ≡ o → total (set_units x v J) + total (fault_units v J) ≡ total J → total (set_units x v (e ∷ J)) + total (fault_units v (e ∷ J)) ≡ total (e ∷ J)
    at_head (Ok z) p i = rw p (omega arith)
    at_head (Err f) p i = rw p (omega arith)

pub both_total : (x : Units End) (f g : UnitFlow) → all_units (both_units x f g) ≡ total x + (all_units f + all_units g)
both_total x f g =
    let a = held_append (λ s. 1) f.next g.next in
    let b = held_append (λ s. 1) x (f.ended ++ g.ended) in
    let c = held_append (λ s. 1) f.ended g.ended in
    omega arith

below_total : (x m : ℕ) (s : State) (w : ℕ) → total (below_units x m s w) ≡ m * w
below_total x zero s w = omega arith
below_total x (suc m) s w =
    let i = below_total x m s w in
    let a = held_append (λ s. 1) (below_units x m s w) ((slice_set s x (pos m), w) ∷ []) in
    omega arith

-- ---- draws

-- each entry of a table multiplied by a fraction
lessened_total : (u : Fraction) (k S : ℕ) (cut : ℕ → ℕ) → ((w : ℕ) → w ≤ S → Loses (u.0 * w) (u.1 * cut w) (u.1 * k)) → (J : Units State) → total J ≤ S →
    Loses (u.0 * total J) (u.1 * total (map (λ e. (e.0, cut e.1)) J)) (u.1 * (k * length J))
lessened_total u k S cut c [] h = (omega arith, omega arith)
lessened_total u k S cut c (e ∷ J) h =
    like _ _ _ _ _ _ (lost_beside _ _ _ _ _ _ (c e.1 (omega arith)) (lessened_total u k S cut c J (omega arith))) (omega arith) (omega arith) (omega arith)

-- over all parts of a draw
over_parts : (u : Fraction) (n D T R m : ℕ) → 0 < u.1 → u.0 * D ≡ n * u.1 → Loses (u.0 * T) (u.1 * R) (u.1 * m) → Loses (n * T) (D * R) (D * m)
over_parts u n D T R m p e h =
    let z = ap (λ t. t * T) e in
    lost_over u.1 (n * T) (D * R) (D * m) p (like _ _ _ _ _ _ (lost_times D _ _ _ h) (omega arith) (omega arith) (omega arith))

module _ (cut : Rounding) (c : RoundsDown cut) (k S : ℕ) (r : Option ℕ) (few : LosesFew k S r cut) where
  class_loses : (b q w : ℕ) → 0 < b → q ≤ b → w ≤ S → Loses ((class_weight b r q).0 * w) ((class_weight b r q).1 * cut.share b r q w) ((class_weight b r q).1 * k)
  class_loses b q w p l s = let x = few.shares b q w p l s in (c.shares b r q w p, omega arith)

  rest_loses : (b w : ℕ) → 0 < b → w ≤ S → Loses ((no_class_weight b r).0 * w) ((no_class_weight b r).1 * cut.rest b r w) ((no_class_weight b r).1 * k)
  rest_loses b w p s = let x = few.rests b w p s in (c.rests b r w p, omega arith)

  pub class_total : (b q : ℕ) → 0 < b → q ≤ b → (J : Units State) → total J ≤ S → Loses (q * each_part b r * total J) (all_parts b r * total (class_units cut b r q J)) (all_parts b r * (k * length J))
  class_total b q p l J s =
      over_parts (class_weight b r q) _ (all_parts b r) _ _ _ (class_pos b r q p) (class_share b r q) (lessened_total (class_weight b r q) k S (cut.share b r q) (λ w. class_loses b q w p l) J s)

  pub rest_total : (b : ℕ) → 0 < b → (J : Units State) → total J ≤ S → Loses (no_part b r * total J) (all_parts b r * total (rest_units cut b r J)) (all_parts b r * (k * length J))
  rest_total b p J s =
      over_parts (no_class_weight b r) _ (all_parts b r) _ _ _ (no_class_pos b r) (no_class_share b r) (lessened_total (no_class_weight b r) k S (cut.rest b r) (λ w. rest_loses b w p) J s)

  -- all numbers below m, and none of them
  one_draw : (m w : ℕ) → 0 < m → w ≤ S → Loses w (m * cut.share m r 1 w + cut.rest m r w) (k * (m + 1))
  one_draw m w p s =
      let D = all_parts m r in
      let x = over_parts (class_weight m r 1) _ D w _ k (class_pos m r 1 p) (class_share m r 1) (class_loses m 1 w p (omega arith) s) in
      let y = over_parts (no_class_weight m r) _ D w _ k (no_class_pos m r) (no_class_share m r) (rest_loses m w p s) in
      let e = ap (λ z. z * w) (parts_add_up m r) in
      lost_over D _ _ _ (all_parts_pos m r p) (like _ _ _ _ _ _ (lost_beside _ _ _ _ _ _ (lost_times m _ _ _ x) y) (omega arith) (omega arith) (omega arith))

  draw_head : (x w : ℕ) (s : State) → w ≤ S → (a : Value) → Loses w (total (by_value a (λ f. []) (λ z. by_bound z [] (λ m. below_units x m s (cut.share m r 1 w))))
      + total (by_value a (λ f. (fault f, w) ∷ []) (λ z. by_bound z ((fault BadBound, w) ∷ []) (λ m. (limit Attempts, cut.rest m r w) ∷ [])))) (k * by_value a (λ f. 0) (λ z. by_bound z 0 (λ m. m + 1)))
  draw_head x w s h (Ok (pos zero)) = none_lost _ _ _ (omega arith)
  draw_head x w s h (Ok (pos (suc m))) = let e = below_total x (suc m) s (cut.share (suc m) r 1 w) in like _ _ _ _ _ _ (one_draw (suc m) w (omega arith) h) refl (omega arith) refl
  draw_head x w s h (Ok (negsuc m)) = none_lost _ _ _ (omega arith)
  draw_head x w s h (Err f) = none_lost _ _ _ (omega arith)

  lists_total : (x : ℕ) (v : State → Value) (J : Units State) → total J ≤ S → Loses (total J) (total (drawn_go (units_kind cut) x v r J) + total (undrawn_go (units_kind cut) v r J)) (k * bound_roundings cut v J)
  lists_total x v [] s = none_lost _ _ _ refl
  lists_total x v (e ∷ J) s =
      let h = draw_head x e.1 e.0 (omega arith) (v e.0) in
      let i = lists_total x v J (omega arith) in
      let a = held_append (λ s. 1) (by_value (v e.0) (λ f. []) (λ z. by_bound z [] (λ m. below_units x m e.0 (cut.share m r 1 e.1)))) (drawn_go (units_kind cut) x v r J) in
      let b = held_append (λ s. 1) (by_value (v e.0) (λ f. (fault f, e.1) ∷ []) (λ z. by_bound z ((fault BadBound, e.1) ∷ []) (λ m. (limit Attempts, cut.rest m r e.1) ∷ []))) (undrawn_go (units_kind cut) v r J) in
      like _ _ _ _ _ _ (lost_beside _ _ _ _ _ _ h i) (omega arith) (regroup _ _ _ _ _ _ a b) (let z = ap (λ t. k * t) (first_bound cut v e J) in omega arith)
    where
      regroup : (X Y a b p q : ℕ) → X ≡ a + p → Y ≡ b + q → X + Y ≡ a + b + (p + q)
      regroup X Y a b p q e f = omega arith

  pub drawn_total : (x : ℕ) (v : State → Value) (J : Units State) → total J ≤ S →
      Loses (total J) (total (uniform_go (units_kind cut) r x v J).next + total (uniform_go (units_kind cut) r x v J).ended) (k * roundings_of (uniform_go (units_kind cut) r x v J).reached)
  drawn_total x v J s = rw (by_lists (units_kind cut) r x v J) (lists_total x v J s)
