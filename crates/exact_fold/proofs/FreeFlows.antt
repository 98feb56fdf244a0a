-- In a block without a loop nothing ends but failed or in a fault, so nothing at a limit, where no draw has a limit of attempts.
use Rattle.std.proofs.Common.{◌≡◌, ◌∙◌, refl, sym, ℕ, true, false, Bool, ◌||◌, None, List, [], ◌∷◌, ◌++◌}
use Rattle.std.proofs.lemmas.List.Folds.{list_any-append}
use Rattle.std.specs.List.{list_any}
use Rattle.gcl_core.specs.text.ReadingOrder.{statement_listed, listed, arms_listed}
use Rattle.gcl_core.specs.meaning.Syntax.{Statement, Skip, Set, If, While, Choice, Choose, Uniform, Observe, Statements, done, ◌▸◌, ArmList, no_arm, arm}
use Rattle.gcl_core.specs.meaning.Blocks.{End, on, failed, fault, limit}
use Rattle.gcl_core.specs.meaning.Value.{State, Value}
use Rattle.gcl_core.specs.weighing.Fractions.{Fraction}
use Rattle.gcl_core.specs.weighing.WeightedEnds.{Weighted, scaled, class_weight}
use Rattle.table_flow.specs.Tables.{Table, weighted, fractions_kind, draws_each, draw_weights, faults, statement_flow, block_flow}
use Rattle.table_flow.proofs.EachMember.{Each, Anything, each_anything}
use Rattle.table_flow.proofs.KeptEntries.{KeepsEntries, faults_keep, statement_kept, block_kept}
use Rattle.unlimited_law.specs.Ended.{TurnsSuffice}
use Rattle.unlimited_law.specs.LoopFree.{StatementFree, BlockFree, ArmsFree}
use Rattle.exact_fold.specs.Loops.{is_loop, any_loops}
use Rattle.exact_fold.specs.inner.Settled.{AreUnlimited}

-- ---- no loop
neither : (a b : Bool) → (a || b) ≡ false → (a ≡ false) × (b ≡ false)
neither true b e = absurd (cc)
neither false b e = (refl, e)

abbrev has_loop : List Statement → Bool
has_loop = list_any is_loop

none_in_both : (ss ts : List Statement) → has_loop (ss ++ ts) ≡ false → (has_loop ss ≡ false) × (has_loop ts ≡ false)
none_in_both ss ts h = neither (has_loop ss) (has_loop ts) (sym (list_any-append is_loop ss ts) ∙ h)

mutual
  one_free : (s : Statement) → has_loop (statement_listed s) ≡ false → StatementFree s
  one_free Skip h = tt
  one_free (Set x e) h = tt
  one_free (If e a c) h = let n = none_in_both (listed a) (listed c) h in (no_loop a n.0, no_loop c n.1)
  one_free (While e a) h = absurd (cc)
  one_free (Choice w a c) h = let n = none_in_both (listed a) (listed c) h in (no_loop a n.0, no_loop c n.1)
  one_free (Choose arms) h = arms_free arms h
  one_free (Uniform x e) h = tt
  one_free (Observe e) h = tt

  pub no_loop : (b : Statements) → any_loops b ≡ false → BlockFree b
  no_loop done h = tt
  no_loop (s ▸ b) h = let n = none_in_both (statement_listed s) (listed b) h in (one_free s n.0, no_loop b n.1)

  arms_free : (arms : ArmList) → has_loop (arms_listed arms) ≡ false → ArmsFree arms
  arms_free no_arm h = tt
  arms_free (arm p b arms) h = let n = none_in_both (listed b) (arms_listed arms) h in (no_loop b n.0, arms_free arms n.1)

-- ---- what ended has failed or is a fault
abbrev pub IsStopped : Fraction × End → Type 0
IsStopped (w, on s) = ⊥
IsStopped (w, failed) = Unit {0}
IsStopped (w, fault f) = Unit {0}
IsStopped (w, limit l) = ⊥

abbrev pub AreStopped : Weighted End → Type 0
AreStopped = Each IsStopped

pub stopped_unlimited : (m : Weighted End) → AreStopped m → AreUnlimited m
stopped_unlimited [] h = tt
stopped_unlimited ((w, on s) ∷ m) h = absurd h.0
stopped_unlimited ((w, failed) ∷ m) h = (tt, stopped_unlimited m h.1)
stopped_unlimited ((w, fault f) ∷ m) h = (tt, stopped_unlimited m h.1)
stopped_unlimited ((w, limit l) ∷ m) h = absurd h.0

all_stop : KeepsEntries fractions_kind None StatementFree BlockFree ArmsFree Anything Anything IsStopped Anything Anything
all_stop = record {
  asked = record {
    block = λ st b h. h;
    guarded = λ e a c h. h;
    choice = λ p a c h. h;
    choose = λ arms h. h;
    arms = λ p a arms h. h;
    loop = λ e a h. absurd h;
  };
  tidy = λ I h. h;
  at_loop = λ I h. (h, tt);
  faulty = λ f e h. tt;
  failing = λ e h. tt;
  turns = λ v a h e _. absurd h;
  set = λ i v s e h z q. tt;
  drawn = λ i v s e h b q m le d g. tt;
  number = λ m. tt;
  choice = λ p a c s. tt;
  choose = λ arms s. tt;
  class = λ b d c I h. each_anything (scaled (class_weight b None c) I);
  rest = λ b d I h. tt;
  shown = λ b d I h. each_anything (draws_each (draw_weights b None) I);
  reached = λ ends d I h. each_anything (fractions_kind.reached ends I);
}

pub free_stopped : (n : ℕ) (b : Statements) → BlockFree b → (I : Table) → AreStopped (block_flow n None b I).ended
free_stopped n b h I = (block_kept all_stop n b h I (each_anything I)).ended

stopped_suffices : (m : Weighted End) → AreStopped m → TurnsSuffice m
stopped_suffices [] h = refl
stopped_suffices ((w, on s) ∷ m) h = absurd h.0
stopped_suffices ((w, failed) ∷ m) h = stopped_suffices m h.1
stopped_suffices ((w, fault f) ∷ m) h = stopped_suffices m h.1
stopped_suffices ((w, limit l) ∷ m) h = absurd h.0

-- no turn is wanted
pub free_suffices : (n : ℕ) (b : Statements) → BlockFree b → (I : Table) → TurnsSuffice (block_flow n None b I).ended
free_suffices n b h I = stopped_suffices (block_flow n None b I).ended (free_stopped n b h I)

pub one_unlimited : (n : ℕ) (st : Statement) → StatementFree st → (I : Table) → AreUnlimited (statement_flow n None st I).ended
one_unlimited n st h I = stopped_unlimited _ (statement_kept all_stop n st h I (each_anything I)).ended

-- ---- lists
pub unlimited_append : (m o : Weighted End) → AreUnlimited m → AreUnlimited o → AreUnlimited (m ++ o)
unlimited_append [] o h k = k
unlimited_append (e ∷ m) o h k = (h.0, unlimited_append m o h.1 k)

pub unlimited_faults : (v : State → Value) (I : Table) → AreUnlimited (faults v I)
unlimited_faults v I = stopped_unlimited (faults v I) (faults_keep weighted Anything IsStopped (λ f e h. tt) v I (each_anything I))
