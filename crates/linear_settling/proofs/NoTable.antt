-- From no state a block settles to nothing; and from states to what it settles to from each.
use Rattle.std.proofs.Common.{◌≡◌, ℕ, zero, suc, ◌-◌, ◌≤◌, List, [], ◌∷◌, None, refl, sym, subst, arith}
use Rattle.std.specs.List.{sum}
use Rattle.gcl_core.specs.meaning.Arms.{parts_of}
use Rattle.gcl_core.specs.meaning.Bounds.{BlockIsWeighed}
use Rattle.gcl_core.specs.meaning.Syntax.{Statement, Skip, Set, If, While, Choice, Choose, Uniform, Observe, Statements, done, ◌▸◌, ArmList, no_arm, arm}
use Rattle.gcl_core.specs.meaning.Value.{State}
use Rattle.gcl_core.specs.weighing.Fractions.{Fraction}
use Rattle.gcl_core.specs.weighing.WeightedEnds.{sure, scaled, class_weight}
use Rattle.table_flow.specs.Tables.{Table}
use Rattle.unlimited_law.specs.Alike.{AreFractions, Alike}
use Rattle.unlimited_law.specs.Settling.{IsOutflow, StatementSettles, BlockSettles, ArmsSettle}
use Rattle.unlimited_law.specs.SettledMasses.{Settles}
use Rattle.unlimited_law.proofs.Numbers.{same_refl, same_sym, add_same, times_same}
use Rattle.unlimited_law.proofs.FractionNumbers.{of}
use Rattle.unlimited_law.proofs.Integrals.{integral, integral_sure}
use Rattle.linear_settling.specs.Mixed.{no_outflow, Source, table_of, together, SettlesEach}
use Rattle.linear_settling.proofs.Mixtures.{Mixes}
use Rattle.linear_settling.proofs.MixedBlocks.{block_mixes}

nothing_alike : {A : Type 0} → Alike {A = A} [] []
nothing_alike = record { each = λ event. refl; first = tt; second = tt }

nothing_flows : IsOutflow Alike Alike no_outflow [] [] (0, 1)
nothing_flows = record { next = nothing_alike; ended = nothing_alike; turns = refl; fraction = omega arith }

nothing_scaled : {A : Type 0} (w : Fraction) → scaled {A = A} w [] ≡ []
nothing_scaled (zero, d) = refl
nothing_scaled (suc n, d) = refl

by_part : (b : Statements) (w : Fraction) → BlockSettles Alike Alike b [] no_outflow → BlockSettles Alike Alike b (scaled w []) no_outflow
by_part b w o = subst (λ I. BlockSettles Alike Alike b I no_outflow) (sym (nothing_scaled w)) o

mutual
  pub statement_of_none : (st : Statement) → StatementSettles Alike Alike st [] no_outflow
  statement_of_none Skip = nothing_flows
  statement_of_none (Set x e) = nothing_flows
  statement_of_none (Observe e) = nothing_flows
  statement_of_none (Uniform x e) = nothing_flows
  statement_of_none (If e a c) = (no_outflow, no_outflow, block_of_none a, block_of_none c, nothing_flows)
  statement_of_none (Choice p a c) = (no_outflow, no_outflow, by_part a (class_weight p.den None p.num) (block_of_none a), by_part c (class_weight p.den None (p.den - p.num)) (block_of_none c), nothing_flows)
  statement_of_none (Choose arms) = arms_of_none (sum (parts_of arms)) arms
  statement_of_none (While e a) = ([], [], [], no_outflow, block_of_none a, nothing_alike, tt, tt, nothing_flows)

  block_of_none : (b : Statements) → BlockSettles Alike Alike b [] no_outflow
  block_of_none done = nothing_flows
  block_of_none (st ▸ b) = (no_outflow, no_outflow, statement_of_none st, block_of_none b, nothing_flows)

  arms_of_none : (b : ℕ) (arms : ArmList) → ArmsSettle Alike Alike b arms [] no_outflow
  arms_of_none b no_arm = nothing_flows
  arms_of_none b (arm p a arms) = (no_outflow, no_outflow, by_part a (class_weight b None p) (block_of_none a), arms_of_none b arms, nothing_flows)

-- a state with its weight before others
pub head_mixes : (w : Fraction) (s : State) (I : Table) → 1 ≤ w.1 → AreFractions I → Mixes w (sure s) I ((w, s) ∷ I)
head_mixes w s I some h = record {
  first = (omega arith, tt);
  second = h;
  fractions = (some, h);
  each = λ F. add_same (same_sym (times_same (of w) (integral_sure F s))) (same_refl (integral F I));
}

pub settles_together : (b : Statements) → BlockIsWeighed b → (m : List Source) → AreFractions (table_of m) → SettlesEach b m → Settles b (table_of m) (together m)
settles_together b x [] h o = block_of_none b
settles_together b x (e ∷ m) h o =
    block_mixes e.weight h.0 b x (sure e.state) (table_of m) (table_of (e ∷ m)) e.outflow (together m) (head_mixes e.weight e.state (table_of m) h.0 h.1) o.0 (settles_together b x m h.1 o.1)
