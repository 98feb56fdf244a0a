-- The table and what ended hold the masses of a round.
use Rattle.std.proofs.Common.{◌≡◌, ℕ, ◌+◌, ◌*◌, ◌<◌, Bool, cond, Option, sym, ap, ◌∙◌, arith}
use Rattle.gcl_core.specs.meaning.Syntax.{Statements}
use Rattle.gcl_core.specs.meaning.Value.{State}
use Rattle.gcl_core.specs.meaning.Blocks.{End, on}
use Rattle.gcl_core.specs.weighing.Fractions.{Fraction}
use Rattle.gcl_core.specs.weighing.WeightedEnds.{sure, weighted_ends}
use Rattle.gcl_core.specs.weighing.Mass.{sum_of, is_failed}
use Rattle.numbers.specs.Fraction.{IsEqual}
use Rattle.table_flow.specs.Tables.{block_flow}
use Rattle.table_flow.specs.Scale.{whole, Wholes, Within, amount}
use Rattle.table_flow.proofs.Masses.{sum_held}
use Rattle.mass_fold.specs.declared.ended.Ended.{Ended}
use Rattle.mass_fold.specs.Amounts.{held}
use Rattle.mass_fold.specs.inner.Amounts.{Entries}
use Rattle.mass_fold.specs.inner.Ended.{rows_of}
use Rattle.mass_fold.specs.inner.Fold.{Stands, EndStands}
use Rattle.mass_fold.proofs.Folds.{held_none}
use Rattle.mass_fold.proofs.OutcomeRows.{one_value}

pub masses_held : (n : ℕ) (r : Option ℕ) (N L : ℕ) (b : Statements) (s : State) (es : Entries) (E : Ended) → Within N L (block_flow n r b (sure s)) → Stands N es (block_flow n r b (sure s)).next → EndStands N E (block_flow n r b (sure s)).ended →
    (is : End → Bool) → (sum_of is (weighted_ends n r b s)).1 * (held N (λ s. cond (is (on s)) 1 0) es + amount N (λ x. cond (is x) 1 0) (rows_of E)) ≡ (sum_of is (weighted_ends n r b s)).0 * N
masses_held n r N L b s es E w st en is = rw (st.same (λ s. cond (is (on s)) 1 0), en.same (λ x. cond (is x) 1 0)) (sum_held n r N L b s w is)

-- the slot of what failed, at a scale
pub failed_equal : (N : ℕ) (es : Entries) (E : Ended) (f : Fraction) → 0 < N → Wholes N (rows_of E) →
    f.1 * (held N (λ s. cond (is_failed (on s)) 1 0) es + amount N (λ x. cond (is_failed x) 1 0) (rows_of E)) ≡ f.0 * N → IsEqual E.failed f
failed_equal N es E f Np w h =
    let z = held_none N es in
    let W = whole N E.failed in
    let a : held N (λ s. cond (is_failed (on s)) 1 0) es + amount N (λ x. cond (is_failed x) 1 0) (rows_of E) ≡ W = omega arith in
    let x : f.1 * W ≡ f.0 * N = ap (λ u. f.1 * u) (sym a) ∙ h in
    one_value N W E.failed f Np w.0.exact x
