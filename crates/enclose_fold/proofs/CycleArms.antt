-- The arms of a choice among several, one after the other: those that are left make up for what all of them make.
use Rattle.std.proofs.Common.{◌≡◌, ℕ, ◌+◌, ◌*◌, ◌≤◌, ◌<◌, [], ◌++◌, length, Option, refl, ap, ◌∙◌, subst, sym, arith}
use Rattle.std.specs.List.{sum}
use Rattle.std.proofs.lemmas.List.Sums.{sum_by-cons}
use Rattle.numbers.specs.declared.units.TheConstants.{ALL}
use Rattle.gcl_core.specs.declared.answers.Limit.TheVariants.{Attempts}
use Rattle.gcl_core.specs.meaning.Arms.{parts_of}
use Rattle.gcl_core.specs.meaning.Bounds.{BlockIsWeighed}
use Rattle.gcl_core.specs.meaning.Syntax.{Choose, Statements, ArmList, no_arm, arm}
use Rattle.gcl_core.specs.meaning.Blocks.{End, limit}
use Rattle.gcl_core.specs.meaning.Value.{State}
use Rattle.table_flow.proofs.Draws.{each_part, no_part, all_parts, parts_add_up, all_parts_pos}
use Rattle.units_law.specs.Down.{down}
use Rattle.units_law.specs.Flows.{statement_units, block_units}
use Rattle.units_law.specs.Merged.{merged, IsMerged}
use Rattle.units_law.specs.Rounding.{class_units, rest_units}
use Rattle.units_law.specs.Units.{Units, held, total, end_units}
use Rattle.units_law.proofs.UnitWords.{arms_units}
use Rattle.units_law.proofs.Downs.{rounds_down}
use Rattle.units_law.proofs.Held.{held_append}
use Rattle.units_law.proofs.Orders.{from_left}
use Rattle.units_law.proofs.Losses.{class_total, rest_total, end_total}
use Rattle.units_law.proofs.Merging.{held_merged}
use Rattle.enclose_fold.specs.declared.error.EncloseError.{EncloseError}
use Rattle.enclose_fold.specs.declared.error.EncloseError.TheVariants.{OutOfMemory}
use Rattle.enclose_fold.specs.declared.ended.Ended.{Ended}
use Rattle.enclose_fold.specs.inner.Ended.{units_of, EndsWith}
use Rattle.enclose_fold.specs.inner.Folding.{Gives, FlowRefused, StepRefused, all_sides}
use Rattle.enclose_fold.specs.inner.Refusals.{RefusedAt}
use Rattle.enclose_fold.proofs.CycleFlows.{Few, few_left, few_right, block_merged, block_spends}
use Rattle.enclose_fold.proofs.Drawing.{both_hold}
use Rattle.enclose_fold.proofs.Putting.{is_merged, no_memory, refused_more, wider}
use Rattle.enclose_fold.proofs.Within.{loses}

module _ (n : ℕ) (r : Option ℕ) (b : ℕ) (whole : ArmList) (J : Units State) (E : Ended) where
  pub record ArmsAt (rest : ArmList) (out : Units State) (F : Ended) : Type 0 where
    pub going : (G : State → ℕ) → held G out + held G (arms_units down n r b rest J).next ≡ held G (arms_units down n r b whole J).next
    pub ended : (G : End → ℕ) → held G (units_of F) + held G (arms_units down n r b rest J).ended ≡ held G (units_of E) + held G (arms_units down n r b whole J).ended
    pub few : (L : ℕ) → Few L (arms_units down n r b whole J).tables → Few L (arms_units down n r b rest J).tables
    pub within : total out + (total (units_of F) + total (all_sides b r rest J)) ≤ ALL

  pub arms_start : (out : Units State) → out ≡ [] → total (all_sides b r whole J) + total (units_of E) ≤ ALL → ArmsAt whole out E
  arms_start out p w = record {
    going = λ G. let a = ap (held G) p in omega arith;
    ended = λ G. refl;
    few = λ L h. h;
    within = let a = ap total p in omega (arith, w);
  }

  pub arms_as : (rest rest' : ArmList) (out : Units State) (F : Ended) → rest ≡ rest' → ArmsAt rest out F → ArmsAt rest' out F
  arms_as rest rest' out F p h = subst (λ rest. ArmsAt rest out F) p h

  pub arms_end : (out : Units State) (F : Ended) → IsMerged out → ArmsAt no_arm out F → Gives (arms_units down n r b whole J) E out F
  arms_end out F m h = record {
    next = is_merged out (arms_units down n r b whole J).next m (λ G. let a = h.going G in omega arith);
    ended = λ G. let a = h.ended G in omega arith;
  }

  pub side_fails : (e : EncloseError) → e ≡ OutOfMemory → StepRefused (arms_units down n r b whole J) e
  side_fails e p L few k = no_memory e L p

  module _ (q : ℕ) (a : Statements) (rest : ArmList) (out : Units State) (F : Ended) (h : ArmsAt (arm q a rest) out F) (first : Units State) (is : first ≡ merged (class_units down b r q J)) where
    abbrev side : Units State
    side = class_units down b r q J

    side_total : total first ≡ total side
    side_total = ap total is ∙ held_merged side (λ s. 1)

    sides_apart : total (all_sides b r (arm q a rest) J) ≡ total side + total (all_sides b r rest J)
    sides_apart = held_append (λ s. 1) side (all_sides b r rest J)

    same : block_units down n r a first ≡ block_units down n r a side
    same = block_merged n r a first side is

    pub arm_room : total first + total (units_of F) ≤ ALL
    arm_room = let a = h.within in let b = side_total in let c = sides_apart in omega arith

    pub block_fails : (e : EncloseError) → FlowRefused (block_units down n r a first) e → StepRefused (arms_units down n r b whole J) e
    block_fails e x L few k =
        x L (subst (λ f. Few L f.tables) (sym same) (few_left L (block_units down n r a side).tables (arms_units down n r b rest J).tables (h.few L few)))

    module _ (left : Units State) (F' : Ended) (g : Gives (block_units down n r a first) F left F') where
      left_holds : (G : State → ℕ) → held G left ≡ held G (block_units down n r a side).next
      left_holds G = ap (held G) g.next ∙ held_merged (block_units down n r a first).next G ∙ ap (λ f. held G f.next) same

      pub merge_fails : (e : EncloseError) → RefusedAt (out ++ left) e → StepRefused (arms_units down n r b whole J) e
      merge_fails e x L few k =
          let g = arms_units down n r b rest J in
          let w = wider (out ++ left) g.next (arms_units down n r b whole J).next
          (λ G. let u = h.going G in let p = held_append G out left in let l = left_holds G in let s = held_append G (block_units down n r a side).next g.next in omega arith) in
          refused_more e (length (merged (out ++ left))) L (omega (arith, w, k)) x

      module _ (w : BlockIsWeighed a) where
        spends : total left + total (units_of F') ≤ total first + total (units_of F)
        spends = block_spends n r a w first left F F' g

        pub merge_room : total out + total left ≤ ALL
        merge_room = let a = h.within in let b = side_total in let c = sides_apart in let d = spends in omega arith

        pub arms_turn : (out' : Units State) → out' ≡ merged (out ++ left) → ArmsAt rest out' F'
        arms_turn out' p =
            let f = block_units down n r a side in
            let k = arms_units down n r b rest J in
            record {
              going = λ G. let u = h.going G in let t = both_hold out left out' p G in let l = left_holds G in let s = held_append G f.next k.next in omega arith;
              ended = λ G. let u = h.ended G in let v = g.ended G in let z = ap (λ f. held G f.ended) same in let s = held_append G f.ended k.ended in omega arith;
              few = λ L few. few_right L f.tables k.tables (h.few L few);
              within = let a = h.within in let b = side_total in let c = sides_apart in let d = spends in let t = both_hold out left out' p (λ s. 1) in omega arith;
            }

-- ---- all arms, and what no attempt decides

module _ (r : Option ℕ) (b : ℕ) (some : 0 < b) (J : Units State) (most : total J ≤ ALL) where
  sides_total : (arms : ArmList) → sum (parts_of arms) ≤ b → all_parts b r * total (all_sides b r arms J) ≤ sum (parts_of arms) * each_part b r * total J
  sides_total no_arm l = omega arith
  sides_total (arm q a arms) l =
      let t = sum_by-cons (λ x. x) q (parts_of arms) in
      let k = loses r in
      let x = (class_total down rounds_down k.0 ALL r k.1 b q some (omega arith) J most).0 in
      let i = sides_total arms (omega arith) in
      let s = held_append (λ s. 1) (class_units down b r q J) (all_sides b r arms J) in
      added q (sum (parts_of arms)) _ (each_part b r) (total J) (all_parts b r) _ _ _ t s x i
    where
      added : (p q t e T D c d z : ℕ) → t ≡ p + q → z ≡ c + d → D * c ≤ p * e * T → D * d ≤ q * e * T → D * z ≤ t * e * T
      added p q t e T D c d z h k x y = rw (h, k) (omega arith)

  pub sides_within : (arms : ArmList) → sum (parts_of arms) ≡ b → total (all_sides b r arms J) + total (end_units (limit Attempts) (rest_units down b r J)) ≤ total J
  sides_within arms e =
      let k = loses r in
      let x = (rest_total down rounds_down k.0 ALL r k.1 b some J most).0 in
      let y = sides_total arms (omega (arith, e)) in
      let z = end_total (limit Attempts) (rest_units down b r J) in
      let w = summed (each_part b r) (no_part b r) (all_parts b r) (total J) _ _ _ (all_parts_pos b r some) e (parts_add_up b r) y x in
      omega arith
    where
      summed : (e z D T p s t : ℕ) → 0 < D → p ≡ b → b * e + z ≡ D → D * s ≤ p * e * T → D * t ≤ z * T → s + t ≤ T
      summed e z D T p s t q h k x y =
          let l = ap (λ u. u * T) k in
          let m = ap (λ u. u * e * T) h in
          from_left D (s + t) T q (omega arith)

-- ---- the statement

module _ (n : ℕ) (r : Option ℕ) (arms : ArmList) (J : Units State) (E F : Ended)
    (h : EndsWith E (end_units (limit Attempts) (rest_units down (sum (parts_of arms)) r J)) F) where
  pub choose_within : 0 < sum (parts_of arms) → total J + total (units_of E) ≤ ALL → total (all_sides (sum (parts_of arms)) r arms J) + total (units_of F) ≤ ALL
  choose_within some w =
      let a = h (λ x. 1) in
      let b = sides_within r (sum (parts_of arms)) some J (omega (arith, w)) arms refl in
      omega (arith, w, a, b)

  pub choose_gives : (out : Units State) (F' : Ended) → Gives (arms_units down n r (sum (parts_of arms)) arms J) F out F' → Gives (statement_units down n r (Choose arms) J) E out F'
  choose_gives out F' g = record {
    next = g.next;
    ended = λ G.
        let a = g.ended G in
        let b = h G in
        let c = held_append G (end_units (limit Attempts) (rest_units down (sum (parts_of arms)) r J)) (arms_units down n r (sum (parts_of arms)) arms J).ended in
        omega arith;
  }

-- a side by the odds of the arms
pub side_as : (J : Units State) (q b b' : ℕ) (r r' : Option ℕ) (first : Units State) → b ≡ b' → r ≡ r' → first ≡ merged (class_units down b r q J) → first ≡ merged (class_units down b' r' q J)
side_as J q b b' r r' first p e h = h ∙ ap (λ b. merged (class_units down b r q J)) p ∙ ap (λ r. merged (class_units down b' r q J)) e
