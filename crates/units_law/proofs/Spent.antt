-- What a block makes of a table is no more units than the table has, and at most k less for each product that is rounded.
use Rattle.std.proofs.Common.{◌≡◌, ℕ, zero, suc, ◌+◌, ◌-◌, ◌*◌, ◌≤◌, ◌<◌, [], ◌++◌, length, Option, Some, None, refl, ap, arith}
use Rattle.std.specs.List.{sum}
use Rattle.std.proofs.lemmas.List.Sums.{sum_by-cons}
use Rattle.std.proofs.Math.Nat.{mul-le-mul_left}
use Rattle.gcl_core.specs.declared.answers.Limit.TheVariants.{Turns, Attempts}
use Rattle.gcl_core.specs.meaning.Arms.{parts_of}
use Rattle.gcl_core.specs.meaning.Syntax.{Statement, Skip, Set, If, While, Choice, Choose, Uniform, Observe, Statements, done, ◌▸◌, ArmList, no_arm, arm}
use Rattle.gcl_core.specs.meaning.Bounds.{StatementIsWeighed, BlockIsWeighed, ArmsAreWeighed}
use Rattle.gcl_core.specs.meaning.Value.{State, Value, value_of}
use Rattle.gcl_core.specs.meaning.Blocks.{failed, limit}
use Rattle.gcl_core.specs.weighing.WeightedEnds.{class_weight, no_class_weight}
use Rattle.table_flow.specs.Tables.{holds, fails}
use Rattle.table_flow.proofs.Draws.{each_part, no_part, all_parts, parts_add_up, all_parts_pos}
use Rattle.units_law.specs.Flows.{all_units, statement_units, block_units}
use Rattle.units_law.specs.Merged.{merged}
use Rattle.units_law.specs.Rounding.{Rounding, RoundsDown, LosesFew, class_units, rest_units}
use Rattle.units_law.specs.Roundings.{roundings_of}
use Rattle.units_law.specs.Units.{Units, total, only_units, fault_units, end_units}
use Rattle.units_law.proofs.UnitWords.{loop_units, arms_units, block_roundings}
use Rattle.units_law.proofs.Held.{held_append}
use Rattle.units_law.proofs.Orders.{from_left}
use Rattle.units_law.proofs.Roundings.{arms_roundings, both_roundings, choice_roundings, choose_roundings, first_arm_roundings}
use Rattle.units_law.proofs.Merging.{held_merged}
use Rattle.units_law.proofs.Losses.{Loses, none_lost, lost_after, lost_beside, lost_times, lost_over, like, guard_total, end_total, set_total, both_total, class_total, rest_total, drawn_total}

-- what is at most a share of a table is within what that is
part_within : (S n D T R : ℕ) → 0 < D → n ≤ D → D * R ≤ n * T → T ≤ S → R ≤ S
part_within S n D T R p l h s = let x = mul-le-mul_left T l in let y = from_left D R T p (omega arith) in omega arith

module _ (cut : Rounding) (c : RoundsDown cut) (k S : ℕ) (r : Option ℕ) (few : LosesFew k S r cut) (n : ℕ) where
  abbrev BlockLoses : Statements → Type 0
  BlockLoses b = (J : Units State) → total J ≤ S → Loses (total J) (all_units (block_units cut n r b J)) (k * block_roundings cut n r b J)

  loop_loses : (v : State → Value) (b : Statements) → BlockLoses b → (t : ℕ) (J : Units State) → total J ≤ S →
      Loses (total J) (all_units (loop_units v (block_units cut n r b) t J)) (k * roundings_of (loop_units v (block_units cut n r b) t J).reached)
  loop_loses v b h zero J s =
      let g = guard_total v J in
      let a = held_append (λ s. 1) (fault_units v J) (end_units (limit Turns) (only_units (holds v) J)) in
      let e = end_total (limit Turns) (only_units (holds v) J) in
      none_lost _ _ _ (omega arith)
  loop_loses v b h (suc t) J s =
      let A = only_units (holds v) J in
      let f = block_units cut n r b A in
      let l = loop_units v (block_units cut n r b) t f.next in
      let g = guard_total v J in
      let x = h A (omega arith) in
      let y = loop_loses v b h t f.next (let z = x.0 in omega arith) in
      let a = held_append (λ s. 1) (only_units (fails v) J) l.next in
      let d = held_append (λ s. 1) (fault_units v J) (f.ended ++ l.ended) in
      let e = held_append (λ s. 1) f.ended l.ended in
      like _ _ _ _ _ _ (turned _ _ _ _ _ _ _ _ _ _ _ _ _ g x y a d e) refl refl (ap (λ t. k * t) (both_roundings f.reached l.reached))
    where
      turned : (T H F E N P M Q o An Ae k1 k2 : ℕ) → H + (F + E) ≡ T → Loses H (N + P) (k * k1) → Loses N (M + Q) (k * k2) →
          An ≡ F + M → Ae ≡ E + o → o ≡ P + Q → Loses T (An + Ae) (k * (k1 + k2))
      turned T H F E N P M Q o An Ae k1 k2 g x y a d e = let x0 = x.0 in let x1 = x.1 in let y0 = y.0 in let y1 = y.1 in (omega arith, omega arith)

  mutual
    statement_loses : (st : Statement) → StatementIsWeighed st → (J : Units State) → total J ≤ S → Loses (total J) (all_units (statement_units cut n r st J)) (k * roundings_of (statement_units cut n r st J).reached)
    statement_loses Skip p J s = none_lost _ _ _ (omega arith)
    statement_loses (Set x e) p J s = none_lost _ _ _ (set_total x (value_of e) J)
    statement_loses (Observe e) p J s =
        let v = value_of e in
        let g = guard_total v J in
        let a = held_append (λ s. 1) (fault_units v J) (end_units failed (only_units (fails v) J)) in
        let d = end_total failed (only_units (fails v) J) in
        none_lost _ _ _ (omega arith)
    statement_loses (Uniform x e) p J s = drawn_total cut c k S r few x (value_of e) J s
    statement_loses (If e a b) p J s =
        let v = value_of e in
        let A = only_units (holds v) J in
        let B = only_units (fails v) J in
        let g = guard_total v J in
        let x = block_loses a p.0 A (omega arith) in
        let y = block_loses b p.1 B (omega arith) in
        let d = both_total (fault_units v J) (block_units cut n r a A) (block_units cut n r b B) in
        let z = ap (λ t. k * t) (both_roundings (block_units cut n r a A).reached (block_units cut n r b B).reached) in
        like _ _ _ _ _ _ (lost_beside _ _ _ _ _ _ (none_lost (total (fault_units v J)) _ 0 refl) (lost_beside _ _ _ _ _ _ x y)) (omega arith) d (omega arith)
    statement_loses (Choice q a b) p J s =
        let D = all_parts q.den r in
        let some : 0 < q.den = let z = p.0.positive in omega arith in
        let A = class_units cut q.den r q.num J in
        let B = class_units cut q.den r (q.den - q.num) J in
        let C = rest_units cut q.den r J in
        let u = class_total cut c k S r few q.den q.num some p.0.at_most_one J s in
        let v = class_total cut c k S r few q.den (q.den - q.num) some (omega arith) J s in
        let w = rest_total cut c k S r few q.den some J s in
        let l = length J in
        let parts : Loses (total J) (total C + (total A + total B)) (k * l + (k * l + k * l)) =
        lost_over D _ _ _ (all_parts_pos q.den r some) (like _ _ _ _ _ _ (lost_beside _ _ _ _ _ _ w (lost_beside _ _ _ _ _ _ u v))
        (sided q.num q.den (each_part q.den r) (no_part q.den r) D (total J) p.0.at_most_one (parts_add_up q.den r)) (omega arith) (omega arith)) in
        let few0 = parts.0 in
        let x = block_loses a p.1 A (omega arith) in
        let y = block_loses b p.2 B (omega arith) in
        let d = both_total (end_units (limit Attempts) C) (block_units cut n r a A) (block_units cut n r b B) in
        let e = end_total (limit Attempts) C in
        let z = ap (λ t. k * t) (choice_roundings q J (block_units cut n r a A).reached (block_units cut n r b B).reached) in
        like _ _ _ _ _ _ (lost_after _ _ _ _ _ parts (lost_beside _ _ _ _ _ _ (none_lost (total C) _ 0 refl) (lost_beside _ _ _ _ _ _ x y))) refl (omega arith) (omega arith)
      where
        sided : (a b S Q D W : ℕ) → a ≤ b → b * S + Q ≡ D → D * W ≡ Q * W + (a * S * W + (b - a) * S * W)
        sided a b S Q D W h e =
            let k : a + (b - a) ≡ b = omega arith in
            let m = ap (λ t. t * (S * W)) k in
            let z = ap (λ t. t * W) e in
            omega arith
    statement_loses (Choose arms) p J s =
        let b = sum (parts_of arms) in
        let D = all_parts b r in
        let some : 0 < b = let z = p.0.positive in omega arith in
        let C = rest_units cut b r J in
        let f = arms_units cut n r b arms J in
        let w = rest_total cut c k S r few b some J s in
        let x = arms_lose b some arms (omega arith) p.1 J s in
        let a = held_append (λ s. 1) (end_units (limit Attempts) C) f.ended in
        let e = end_total (limit Attempts) C in
        let y = ap (λ t. t * total J) (parts_add_up b r) in
        let z = ap (λ t. D * (k * t)) (choose_roundings cut n r arms b J) in
        lost_over D _ _ _ (all_parts_pos b r some) (like _ _ _ _ _ _ (lost_beside _ _ _ _ _ _ w x) (omega arith) (gathered D _ _ _ _ _ a e) (omega arith))
      where
        gathered : (D n z e Z Y : ℕ) → Y ≡ z + e → z ≡ Z → D * (n + Y) ≡ D * Z + D * (n + e)
        gathered D n z e Z Y p q = rw (p, q) (omega arith)
    statement_loses (While e a) p J s = loop_loses (value_of e) a (block_loses a p) n J s

    pub block_loses : (b : Statements) → BlockIsWeighed b → BlockLoses b
    block_loses done p J s = let m = held_merged J (λ s. 1) in none_lost _ _ _ (omega arith)
    block_loses (st ▸ b) p J s =
        let f = statement_units cut n r st (merged J) in
        let g = block_units cut n r b f.next in
        let m = held_merged J (λ s. 1) in
        let x = statement_loses st p.0 (merged J) (omega arith) in
        let y = block_loses b p.1 f.next (let z = x.0 in omega arith) in
        let a = held_append (λ s. 1) f.ended g.ended in
        let z = ap (λ t. k * t) (both_roundings f.reached g.reached) in
        like _ _ _ _ _ _ (lost_after _ _ _ _ _ x (lost_beside _ _ _ _ _ _ y (none_lost (total f.ended) _ 0 refl))) (omega arith) (omega arith) (omega arith)

    arms_lose : (b : ℕ) → 0 < b → (arms : ArmList) → sum (parts_of arms) ≤ b → ArmsAreWeighed arms → (J : Units State) → total J ≤ S →
        Loses (sum (parts_of arms) * each_part b r * total J) (all_parts b r * all_units (arms_units cut n r b arms J)) (all_parts b r * (k * arms_roundings cut n r b arms J))
    arms_lose b some no_arm l p J s = (omega arith, omega arith)
    arms_lose b some (arm q a arms) l p J s =
        let D = all_parts b r in
        let A = class_units cut b r q J in
        let f = block_units cut n r a A in
        let g = arms_units cut n r b arms J in
        let t = sum_by-cons (λ x. x) q (parts_of arms) in
        let x = class_total cut c k S r few b q some (omega arith) J s in
        let x0 = x.0 in
        let y = lost_times D _ _ _ (block_loses a p.0 A (part_within S (q * each_part b r) D (total J) (total A) (all_parts_pos b r some) (within q b (each_part b r) (no_part b r) D (omega arith) (parts_add_up b r)) x0 s)) in
        let i = arms_lose b some arms (omega arith) p.1 J s in
        let d = both_total [] f g in
        like _ _ _ _ _ _ (lost_beside _ _ _ _ _ _ (lost_after _ _ _ _ _ x y) i) (summed q (sum (parts_of arms)) _ (each_part b r) (total J) t)
        (let z = ap (λ t. D * t) d in omega arith) (let z = ap (λ t. D * (k * t)) (first_arm_roundings cut n r b q a arms J) in omega arith)
      where
        summed : (p q t S W : ℕ) → t ≡ p + q → t * S * W ≡ p * S * W + q * S * W
        summed p q t S W e = rw e (omega arith)

        within : (q b e z D : ℕ) → q ≤ b → b * e + z ≡ D → q * e ≤ D
        within q b e z D l h = let x = mul-le-mul_left e l in omega arith

-- ---- none is made

-- of S units no part loses more than S
all_lost : (cut : Rounding) (S : ℕ) (r : Option ℕ) → LosesFew S S r cut
all_lost cut S r = record {
  shares = λ b c w p l s. share_lost r b c w l s;
  rests = λ b w p s. rest_lost r b w s;
}
  where
    at_most : (a D w S x : ℕ) → a ≤ D → w ≤ S → a * w ≤ D * (x + S)
    at_most a D w S x h s = let u = mul-le-mul_left w h in let v = mul-le-mul_left D s in omega arith

    part : (c b e z D : ℕ) → c ≤ b → b * e + z ≡ D → c * e ≤ D
    part c b e z D l h = let x = mul-le-mul_left e l in omega arith

    share_lost : (r : Option ℕ) (b c w : ℕ) → c ≤ b → w ≤ S → (class_weight b r c).0 * w ≤ (class_weight b r c).1 * (cut.share b r c w + S)
    share_lost None b c w l s = at_most c b w S (cut.share b None c w) l s
    share_lost (Some t) b c w l s = at_most (c * each_part b (Some t)) (all_parts b (Some t)) w S (cut.share b (Some t) c w) (part c b (each_part b (Some t)) (no_part b (Some t)) (all_parts b (Some t)) l (parts_add_up b (Some t))) s

    rest_lost : (r : Option ℕ) (b w : ℕ) → w ≤ S → (no_class_weight b r).0 * w ≤ (no_class_weight b r).1 * (cut.rest b r w + S)
    rest_lost None b w s = at_most 0 1 w S (cut.rest b None w) (omega arith) s
    rest_lost (Some t) b w s = at_most (no_part b (Some t)) (all_parts b (Some t)) w S (cut.rest b (Some t) w) (let x = parts_add_up b (Some t) in omega arith) s

pub none_made : (cut : Rounding) → RoundsDown cut → (n : ℕ) (r : Option ℕ) (b : Statements) → BlockIsWeighed b → (J : Units State) → all_units (block_units cut n r b J) ≤ total J
none_made cut c n r b w J = (block_loses cut c (total J) (total J) r (all_lost cut (total J) r) n b w J (omega arith)).0
