-- A block without a loop settles to its flow, at whatever limit of turns.
use Rattle.std.proofs.Common.{◌≡◌, ℕ, ◌-◌, ◌<◌, None, refl, arith}
use Rattle.std.specs.List.{sum}
use Rattle.gcl_core.specs.meaning.Arms.{parts_of}
use Rattle.gcl_core.specs.meaning.Bounds.{StatementIsWeighed, BlockIsWeighed, ArmsAreWeighed}
use Rattle.gcl_core.specs.meaning.Syntax.{Statement, Skip, Set, If, While, Choice, Choose, Uniform, Observe, Statements, done, ◌▸◌, ArmList, no_arm, arm}
use Rattle.gcl_core.specs.meaning.Value.{value_of}
use Rattle.gcl_core.specs.weighing.Fractions.{Fraction, zero_share, plus}
use Rattle.gcl_core.specs.weighing.WeightedEnds.{Weighted, scaled, class_weight}
use Rattle.table_flow.specs.Tables.{Table, Flow, holds, fails, only, statement_flow, block_flow}
use Rattle.table_flow.proofs.FlowWords.{arms_flow}
use Rattle.table_flow.proofs.Positive.{Positive, p_scaled, p_only, p_one, p_all, p_arms}
use Rattle.unlimited_law.specs.Alike.{Alike}
use Rattle.unlimited_law.specs.LoopFree.{StatementFree, BlockFree, ArmsFree, flowed_out}
use Rattle.unlimited_law.specs.Settling.{IsOutflow, StatementSettles, BlockSettles, ArmsSettle}
use Rattle.unlimited_law.proofs.BlockLimits.{all_fractions}

pub alike_itself : {A : Type 0} (m : Weighted A) → Positive m → Alike m m
alike_itself m h = record { each = λ event. refl; first = all_fractions m h; second = all_fractions m h }

-- a flow is itself, at a cost of 0
flow_is : (f : Flow) → Positive f.next → Positive f.ended → (cost : Fraction) → cost.0 ≡ 0 → IsOutflow Alike Alike (flowed_out f) f.next f.ended cost
flow_is f h k cost e = record { next = alike_itself f.next h; ended = alike_itself f.ended k; turns = omega arith; fraction = omega arith }

module _ (n : ℕ) where
  mutual
    statement_free : (st : Statement) → StatementFree st → StatementIsWeighed st → (I : Table) → Positive I → StatementSettles Alike Alike st I (flowed_out (statement_flow n None st I))
    statement_free Skip free w I h = let f = p_one n None Skip I w h in flow_is (statement_flow n None Skip I) f.next f.ended zero_share refl
    statement_free (Set x e) free w I h = let f = p_one n None (Set x e) I w h in flow_is (statement_flow n None (Set x e) I) f.next f.ended zero_share refl
    statement_free (Observe e) free w I h = let f = p_one n None (Observe e) I w h in flow_is (statement_flow n None (Observe e) I) f.next f.ended zero_share refl
    statement_free (Uniform x e) free w I h = let f = p_one n None (Uniform x e) I w h in flow_is (statement_flow n None (Uniform x e) I) f.next f.ended zero_share refl
    statement_free (If e a c) free w I h =
        let A = only (holds (value_of e)) I in
        let C = only (fails (value_of e)) I in
        let f = p_one n None (If e a c) I w h in (
          flowed_out (block_flow n None a A),
          flowed_out (block_flow n None c C),
          block_free a free.0 w.0 A (p_only (holds (value_of e)) I h),
          block_free c free.1 w.1 C (p_only (fails (value_of e)) I h),
          flow_is (statement_flow n None (If e a c) I) f.next f.ended (plus zero_share zero_share) refl,
        )
    statement_free (Choice p a c) free w I h =
        let A = scaled (class_weight p.den None p.num) I in
        let C = scaled (class_weight p.den None (p.den - p.num)) I in
        let some : 0 < p.den = let z = w.0.positive in omega arith in
        let f = p_one n None (Choice p a c) I w h in (
          flowed_out (block_flow n None a A),
          flowed_out (block_flow n None c C),
          block_free a free.0 w.1 A (p_scaled (class_weight p.den None p.num) I some h),
          block_free c free.1 w.2 C (p_scaled (class_weight p.den None (p.den - p.num)) I some h),
          flow_is (statement_flow n None (Choice p a c) I) f.next f.ended (plus zero_share zero_share) refl,
        )
    statement_free (Choose arms) free w I h = let some : 0 < sum (parts_of arms) = let z = w.0.positive in omega arith in arms_free (sum (parts_of arms)) some arms free w.1 I h
    statement_free (While e a) free w I h = absurd free

    pub block_free : (b : Statements) → BlockFree b → BlockIsWeighed b → (I : Table) → Positive I → BlockSettles Alike Alike b I (flowed_out (block_flow n None b I))
    block_free done free w I h = flow_is (block_flow n None done I) h tt zero_share refl
    block_free (st ▸ b) free w I h =
        let f = statement_flow n None st I in
        let p = p_one n None st I w.0 h in
        let q = p_all n None (st ▸ b) I w h in (
          flowed_out f,
          flowed_out (block_flow n None b f.next),
          statement_free st free.0 w.0 I h,
          block_free b free.1 w.1 f.next p.next,
          flow_is (block_flow n None (st ▸ b) I) q.next q.ended (plus zero_share zero_share) refl,
        )

    arms_free : (b : ℕ) → 0 < b → (arms : ArmList) → ArmsFree arms → ArmsAreWeighed arms → (I : Table) → Positive I → ArmsSettle Alike Alike b arms I (flowed_out (arms_flow n None b arms I))
    arms_free b some no_arm free w I h = flow_is (arms_flow n None b no_arm I) tt tt zero_share refl
    arms_free b some (arm p a arms) free w I h =
        let A = scaled (class_weight b None p) I in
        let f = p_arms n None b some (arm p a arms) I w h in (
          flowed_out (block_flow n None a A),
          flowed_out (arms_flow n None b arms I),
          block_free a free.0 w.0 A (p_scaled (class_weight b None p) I some h),
          arms_free b some arms free.1 w.1 I h,
          flow_is (arms_flow n None b (arm p a arms) I) f.next f.ended (plus zero_share zero_share) refl,
        )
