-- What has to be compared for a loop to settle: a table M that weighs what comes in and what one turn from V leads back. Where M, outside of the
-- states that are never left, is V where the guard holds, V are the visits on the guard.
use Rattle.std.proofs.Common.{◌≡◌, Bool, true, false, not, cond, List, [], ◌∷◌, ◌++◌, refl, sym, subst}
use Rattle.gcl_core.specs.meaning.Value.{State, Value}
use Rattle.gcl_core.specs.weighing.Fractions.{plus}
use Rattle.gcl_core.specs.weighing.WeightedEnds.{sure}
use Rattle.table_flow.specs.Tables.{Table, holds, fails, only, faults}
use Rattle.unlimited_law.specs.Alike.{Alike}
use Rattle.unlimited_law.specs.Settling.{Outflow, total, EachState, StandsIn, Within, IsOutflow, LoopSettles}
use Rattle.unlimited_law.proofs.ByState.{alike_parts}
use Rattle.unlimited_law.proofs.Likeness.{alike_trans}
use Rattle.unlimited_law.proofs.Covers.{kept}

within_kept : (D : List State) (leaves : State → Bool) → ((s : State) → leaves s ≡ false → StandsIn D s) → (M : Table) → Within D (kept (λ s. not (leaves s)) M)
within_kept D leaves h [] = tt
within_kept D leaves h (e ∷ M) = by (leaves e.1) refl (within_kept D leaves h M)
  where
    by : (b : Bool) → leaves e.1 ≡ b → Within D (kept (λ s. not (leaves s)) M) → Within D (cond (not b) (e ∷ kept (λ s. not (leaves s)) M) (kept (λ s. not (leaves s)) M))
    by true p w = w
    by false p w = (h e.1 p, w)

pub loop_checked : (guard : State → Value) (Body : Table → Outflow → Type 0) (leaves : State → Bool) (D : List State) (I V M : Table) (f g : Outflow) →
    Alike M (I ++ g.next) → only (holds guard) (kept leaves M) ≡ V → Body V g → ((s : State) → leaves s ≡ false → StandsIn D s) →
    EachState (λ s. (holds guard s ≡ true) × (h : Outflow) × Body (sure s) h × Alike h.ended [] × Within D h.next) D →
    IsOutflow Alike Alike f (only (fails guard) (kept leaves M)) (faults guard (kept leaves M) ++ g.ended) (plus (total g.next) g.turns) → LoopSettles Alike Alike guard Body I f
loop_checked guard Body leaves D I V M f g merged same turn inside closed o = (
  kept leaves M,
  kept (λ s. not (leaves s)) M,
  D,
  g,
  subst (λ T. Body T g) (sym same) turn,
  alike_trans (kept leaves M ++ kept (λ s. not (leaves s)) M) M (I ++ g.next) (alike_parts leaves M merged.first) merged,
  closed,
  within_kept D leaves inside M,
  o,
)
