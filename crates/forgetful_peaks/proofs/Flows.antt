-- What two tables become in two blocks, where the states of the second are related to those of the first.
use Rattle.std.proofs.Common.{◌≡◌, ℕ, zero, suc, ◌≤◌, false, [], ◌∷◌, ◌++◌, ap, arith}
use Rattle.std.specs.Prelude.{not}
use Rattle.gcl_core.specs.meaning.Value.{State, Value, is_zero}
use Rattle.gcl_core.specs.meaning.Blocks.{by_value}
use Rattle.table_flow.specs.Tables.{Table, Flow, holds, fails, only, most_states}
use Rattle.table_flow.proofs.FlowWords.{loop_flow}
use Rattle.forgetful_peaks.proofs.Along.{Along, along_both, along_to, along_only}
use Rattle.forgetful_peaks.proofs.Fewer.{fewer_states, most_of_both}

-- the tables after are related, and none on the way has more states than the first has in some table
pub record Follows (R : State → State → Type 0) (f g : Flow) : Type 0 where
  pub next : Along R f.next g.next
  pub few : most_states g.tables ≤ most_states f.tables

pub follows_to : (R Q : State → State → Type 0) (f g : Flow) → ((s t : State) → R s t → Q s t) → Follows R f g → Follows Q f g
follows_to R Q f g to h = record { next = along_to R Q f.next g.next to h.next; few = h.few }

-- ---- a loop
module _ (H : State → State → Type 0) (once : (s t s' t' : State) → H s t → H s' t' → s ≡ s' → t ≡ t')
    (guard : State → Value) (same : (s t : State) → H s t → guard s ≡ guard t) where
  pub holding : (I J : Table) → Along H I J → Along H (only (holds guard) I) (only (holds guard) J)
  holding I J h = along_only H (holds guard) I J (λ s t r. ap (λ v. by_value v (λ f. false) (λ z. not (is_zero z))) (same s t r)) h

  pub failing : (I J : Table) → Along H I J → Along H (only (fails guard) I) (only (fails guard) J)
  failing I J h = along_only H (fails guard) I J (λ s t r. ap (λ v. by_value v (λ f. false) is_zero) (same s t r)) h

  pub loop_follows : (body forgets : Table → Flow) → ((I J : Table) → Along H I J → Follows H (body I) (forgets J)) →
      (n : ℕ) (I J : Table) → Along H I J → Follows H (loop_flow guard body n I) (loop_flow guard forgets n J)
  loop_follows body forgets turn zero I J h = record {
    next = failing I J h;
    few = most_of_both (I ∷ []) (J ∷ []) [] [] (one I J h) (omega arith);
  }
    where
      one : (I J : Table) → Along H I J → most_states (J ∷ []) ≤ most_states (I ∷ [])
      one I J h = let l = fewer_states H once I J h in omega (arith, l)
  loop_follows body forgets turn (suc n) I J h =
      let f = turn (only (holds guard) I) (only (holds guard) J) (holding I J h) in
      let g = loop_follows body forgets turn n _ _ f.next in
      record {
        next = along_both H (only (fails guard) I) (only (fails guard) J) _ _ (failing I J h) g.next;
        few = most_of_both (I ∷ []) (J ∷ []) _ _ (let l = fewer_states H once I J h in omega (arith, l)) (most_of_both _ _ _ _ f.few g.few);
      }

-- ---- two blocks
-- both branches, from two parts of the tables
pub both_follow : (A B Q : State → State → Type 0) (f g f' g' : Flow) → ((s t : State) → A s t → Q s t) → ((s t : State) → B s t → Q s t) →
    Follows A f f' → Follows B g g' → Along Q (f.next ++ g.next) (f'.next ++ g'.next) × (most_states (f'.tables ++ g'.tables) ≤ most_states (f.tables ++ g.tables))
both_follow A B Q f g f' g' to_left to_right h k = (
  along_both Q f.next f'.next g.next g'.next (along_to A Q f.next f'.next to_left h.next) (along_to B Q g.next g'.next to_right k.next),
  most_of_both f.tables f'.tables g.tables g'.tables h.few k.few,
)
