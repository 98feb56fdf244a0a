-- A block in which no run is out of turns settles to its flow: the visits of a loop are the tables of its turns together.
use Rattle.std.proofs.Common.{◌≡◌, ℕ, zero, suc, ◌+◌, ◌*◌, ◌-◌, ◌≤◌, ◌<◌, true, [], ◌∷◌, ◌++◌, None, refl, arith}
use Rattle.std.specs.List.{sum}
use Rattle.gcl_core.specs.declared.answers.Limit.TheVariants.{Turns, Attempts, Rounds}
use Rattle.gcl_core.specs.meaning.Arms.{parts_of}
use Rattle.gcl_core.specs.meaning.Blocks.{End, on, failed, fault, limit}
use Rattle.gcl_core.specs.meaning.Bounds.{StatementIsWeighed, BlockIsWeighed, ArmsAreWeighed}
use Rattle.gcl_core.specs.meaning.Syntax.{Expression, Statement, Skip, Set, If, While, Choice, Choose, Uniform, Observe, Statements, done, ◌▸◌, ArmList, no_arm, arm}
use Rattle.gcl_core.specs.meaning.Value.{value_of}
use Rattle.gcl_core.specs.weighing.Fractions.{Fraction, zero_share, plus}
use Rattle.gcl_core.specs.weighing.Mass.{sum_of}
use Rattle.gcl_core.specs.weighing.WeightedEnds.{Weighted, scaled, class_weight}
use Rattle.weighing_law.proofs.Shares.{product_pos}
use Rattle.table_flow.specs.Tables.{Table, Flow, weighted, holds, fails, only, faults, statement_flow, block_flow}
use Rattle.table_flow.proofs.FlowWords.{loop_flow, arms_flow}
use Rattle.table_flow.proofs.KeptEntries.{faults_keep}
use Rattle.table_flow.proofs.Positive.{HasPositive, Positive, p_append, p_scaled, p_only, p_one, p_all, p_arms}
use Rattle.table_flow.proofs.Spreads.{sum_append}
use Rattle.unlimited_law.specs.Alike.{AreFractions, Alike}
use Rattle.unlimited_law.specs.Ended.{is_out_of_turns, TurnsSuffice, flowed_in}
use Rattle.unlimited_law.specs.Settling.{Outflow, total, IsOutflow, StatementSettles, BlockSettles, ArmsSettle}
use Rattle.unlimited_law.proofs.BlockLimits.{all_fractions}
use Rattle.unlimited_law.proofs.FreeBlocks.{alike_itself}
use Rattle.unlimited_law.proofs.LinearFlows.{alike_sums}
use Rattle.unlimited_law.proofs.EndedLoops.{out_of_turns, Suffice, visits, visits_positive, loop_next, balances, loop_ended, turns_suffice}
use Rattle.unlimited_law.proofs.SameWeights.{sum_some}

-- a sum of fractions is 0 where each is
pub sum_suffices : (m : Weighted End) → AreFractions m → TurnsSuffice m → Suffice m
sum_suffices [] h none = refl
sum_suffices ((w, on s) ∷ m) h none = let i = sum_suffices m h.1 none in omega arith
sum_suffices ((w, failed) ∷ m) h none = let i = sum_suffices m h.1 none in omega arith
sum_suffices ((w, fault f) ∷ m) h none = let i = sum_suffices m h.1 none in omega arith
sum_suffices ((w, limit Attempts) ∷ m) h none = let i = sum_suffices m h.1 none in omega arith
sum_suffices ((w, limit Rounds) ∷ m) h none = let i = sum_suffices m h.1 none in omega arith
sum_suffices ((w, limit Turns) ∷ m) h none =
    let q = sum_of is_out_of_turns m in
    let a = neither w.0 w.1 q.0 q.1 (let z = h.0 in omega arith) (sum_some is_out_of_turns m h.1) none in
    let i = sum_suffices m h.1 a.1 in
    let b = a.0 in
    omega arith
  where
    neither : (a b c d : ℕ) → 0 < b → 0 < d → a * d + c * b ≡ 0 → (a ≡ 0) × (c ≡ 0)
    neither a b c d some more e = (none_of a d more (omega arith), none_of c b some (omega arith))
      where
        none_of : (a d : ℕ) → 0 < d → a * d ≡ 0 → a ≡ 0
        none_of zero d some e = refl
        none_of (suc a) d some e = let z = product_pos (suc a) d (omega arith) some in absurd (omega arith)

-- the flow is the outflow
flow_is : (f : Flow) → Positive f.next → Positive f.ended → (cost : Fraction) → 1 ≤ cost.1 → IsOutflow Alike Alike (flowed_in cost f) f.next f.ended cost
flow_is f h k cost some = record { next = alike_itself f.next h; ended = alike_itself f.ended k; turns = refl; fraction = some }

-- so many turns
pub record SettlesIn (Settle : Outflow → Type 0) (f : Flow) : Type 0 where
  pub turns : Fraction
  pub some : 1 ≤ turns.1
  pub settles : Settle (flowed_in turns f)

module _ (n : ℕ) where
  abbrev OneSettles : Statement → Table → Type 0
  OneSettles st I = SettlesIn (StatementSettles Alike Alike st I) (statement_flow n None st I)

  abbrev pub FlowSettles : Statements → Table → Type 0
  FlowSettles b I = SettlesIn (BlockSettles Alike Alike b I) (block_flow n None b I)

  abbrev ArmsFlow : ℕ → ArmList → Table → Type 0
  ArmsFlow b arms I = SettlesIn (ArmsSettle Alike Alike b arms I) (arms_flow n None b arms I)

  alone : (st : Statement) (I : Table) → Positive (statement_flow n None st I).next → Positive (statement_flow n None st I).ended →
      IsOutflow Alike Alike (flowed_in zero_share (statement_flow n None st I)) (statement_flow n None st I).next (statement_flow n None st I).ended zero_share
  alone st I h k = flow_is (statement_flow n None st I) h k zero_share (omega arith)

  costs : (p q : Fraction) → 1 ≤ p.1 → 1 ≤ q.1 → 1 ≤ (plus p q).1
  costs p q a b = let z = product_pos p.1 q.1 (omega arith) (omega arith) in omega arith

  both_suffice : (ended m o : Weighted End) → Suffice (ended ++ (m ++ o)) → Suffice m × Suffice o
  both_suffice ended m o h = let a = sum_append out_of_turns ended (m ++ o) in let b = sum_append out_of_turns m o in (omega arith, omega arith)

  -- ---- a loop
  module _ (e : Expression) (a : Statements) (w : BlockIsWeighed a) (body : (J : Table) → Positive J → Suffice (block_flow n None a J).ended → FlowSettles a J) (I : Table) (h : Positive I)
      (suffice : Suffice (statement_flow n None (While e a) I).ended) where
    abbrev V : Table
    V = visits n (value_of e) a n I

    abbrev A : Table
    A = only (holds (value_of e)) V

    abbrev G : Flow
    G = block_flow n None a A

    visited : Positive V
    visited = visits_positive n (value_of e) a (λ J k. (p_all n None a J w k).next) n I h

    turned : FlowSettles a A
    turned = body A (p_only (holds (value_of e)) V visited) (turns_suffice n (value_of e) a n I suffice)

    after : Positive G.next × Positive G.ended
    after = let p = p_all n None a A w (p_only (holds (value_of e)) V visited) in (p.next, p.ended)

    loop_settles : OneSettles (While e a) I
    loop_settles =
        let v = value_of e in
        let t = turned.turns in
        let back = all_fractions G.next after.0 in
        let p = p_one n None (While e a) I w h in
        let cost = plus (total G.next) t in
        let some = costs (total G.next) t (let z = sum_some (λ s. true) G.next back in omega arith) turned.some in
        let out = all_fractions (faults v V ++ G.ended) (p_append (faults v V) G.ended (faults_keep weighted HasPositive HasPositive (λ f e h. h) v V visited) after.1) in
        record {
          turns = cost;
          some = some;
          settles = (
            V,
            [],
            [],
            flowed_in t G,
            turned.settles,
            alike_sums (V ++ []) (I ++ G.next) (all_fractions (V ++ []) (p_append V [] visited tt)) (all_fractions (I ++ G.next) (p_append I G.next h after.0))
                (λ F z. let b = balances n v a n I suffice F z in let c = sum_append F V [] in let d = sum_append F I G.next in omega arith),
            tt,
            tt,
            record {
              next = alike_sums (loop_flow v (block_flow n None a) n I).next (only (fails v) V) (all_fractions _ p.next) (all_fractions _ (p_only (fails v) V visited)) (λ F z. loop_next n v a F n I);
              ended = alike_sums (loop_flow v (block_flow n None a) n I).ended (faults v V ++ G.ended) (all_fractions _ p.ended) out
                  (λ F z. let b = loop_ended n v a n I suffice F z in let c = sum_append F (faults v V) G.ended in omega arith);
              turns = refl;
              fraction = some;
            },
          );
        }

  mutual
    statement_ended : (st : Statement) → StatementIsWeighed st → (I : Table) → Positive I → Suffice (statement_flow n None st I).ended → OneSettles st I
    statement_ended Skip w I h none = let p = p_one n None Skip I w h in record { turns = zero_share; some = omega arith; settles = alone Skip I p.next p.ended }
    statement_ended (Set x e) w I h none = let p = p_one n None (Set x e) I w h in record { turns = zero_share; some = omega arith; settles = alone (Set x e) I p.next p.ended }
    statement_ended (Observe e) w I h none = let p = p_one n None (Observe e) I w h in record { turns = zero_share; some = omega arith; settles = alone (Observe e) I p.next p.ended }
    statement_ended (Uniform x e) w I h none = let p = p_one n None (Uniform x e) I w h in record { turns = zero_share; some = omega arith; settles = alone (Uniform x e) I p.next p.ended }
    statement_ended (If e a c) w I h none =
        let A = only (holds (value_of e)) I in
        let C = only (fails (value_of e)) I in
        let f = block_flow n None a A in
        let g = block_flow n None c C in
        let parts = both_suffice (faults (value_of e) I) f.ended g.ended none in
        let first = block_ended a w.0 A (p_only (holds (value_of e)) I h) parts.0 in
        let second = block_ended c w.1 C (p_only (fails (value_of e)) I h) parts.1 in
        let p = p_one n None (If e a c) I w h in
        let some = costs first.turns second.turns first.some second.some in
        record {
          turns = plus first.turns second.turns;
          some = some;
          settles = (flowed_in first.turns f, flowed_in second.turns g, first.settles, second.settles, flow_is (statement_flow n None (If e a c) I) p.next p.ended (plus first.turns second.turns) some);
        }
    statement_ended (Choice q a c) w I h none =
        let A = scaled (class_weight q.den None q.num) I in
        let C = scaled (class_weight q.den None (q.den - q.num)) I in
        let f = block_flow n None a A in
        let g = block_flow n None c C in
        let den : 0 < q.den = let z = w.0.positive in omega arith in
        let parts = both_suffice [] f.ended g.ended none in
        let first = block_ended a w.1 A (p_scaled (class_weight q.den None q.num) I den h) parts.0 in
        let second = block_ended c w.2 C (p_scaled (class_weight q.den None (q.den - q.num)) I den h) parts.1 in
        let p = p_one n None (Choice q a c) I w h in
        let some = costs first.turns second.turns first.some second.some in
        record {
          turns = plus first.turns second.turns;
          some = some;
          settles = (flowed_in first.turns f, flowed_in second.turns g, first.settles, second.settles, flow_is (statement_flow n None (Choice q a c) I) p.next p.ended (plus first.turns second.turns) some);
        }
    statement_ended (Choose arms) w I h none =
        let some : 0 < sum (parts_of arms) = let z = w.0.positive in omega arith in
        let i = arms_ended (sum (parts_of arms)) some arms w.1 I h none in
        record { turns = i.turns; some = i.some; settles = i.settles }
    statement_ended (While e a) w I h none = loop_settles e a w (block_ended a w) I h none

    pub block_ended : (b : Statements) → BlockIsWeighed b → (I : Table) → Positive I → Suffice (block_flow n None b I).ended → FlowSettles b I
    block_ended done w I h none = record { turns = zero_share; some = omega arith; settles = flow_is (block_flow n None done I) h tt zero_share (omega arith) }
    block_ended (st ▸ b) w I h none =
        let f = statement_flow n None st I in
        let g = block_flow n None b f.next in
        let a = sum_append out_of_turns f.ended g.ended in
        let p = p_one n None st I w.0 h in
        let q = p_all n None (st ▸ b) I w h in
        let first = statement_ended st w.0 I h (omega arith) in
        let second = block_ended b w.1 f.next p.next (omega arith) in
        let some = costs first.turns second.turns first.some second.some in
        record {
          turns = plus first.turns second.turns;
          some = some;
          settles = (flowed_in first.turns f, flowed_in second.turns g, first.settles, second.settles, flow_is (block_flow n None (st ▸ b) I) q.next q.ended (plus first.turns second.turns) some);
        }

    arms_ended : (b : ℕ) → 0 < b → (arms : ArmList) → ArmsAreWeighed arms → (I : Table) → Positive I → Suffice (arms_flow n None b arms I).ended → ArmsFlow b arms I
    arms_ended b den no_arm w I h none = record { turns = zero_share; some = omega arith; settles = flow_is (arms_flow n None b no_arm I) tt tt zero_share (omega arith) }
    arms_ended b den (arm p a arms) w I h none =
        let A = scaled (class_weight b None p) I in
        let f = block_flow n None a A in
        let g = arms_flow n None b arms I in
        let parts = both_suffice [] f.ended g.ended none in
        let first = block_ended a w.0 A (p_scaled (class_weight b None p) I den h) parts.0 in
        let second = arms_ended b den arms w.1 I h parts.1 in
        let q = p_arms n None b den (arm p a arms) I w h in
        let some = costs first.turns second.turns first.some second.some in
        record {
          turns = plus first.turns second.turns;
          some = some;
          settles = (flowed_in first.turns f, flowed_in second.turns g, first.settles, second.settles, flow_is (arms_flow n None b (arm p a arms) I) q.next q.ended (plus first.turns second.turns) some);
        }
