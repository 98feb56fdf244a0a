-- Numbers of 64 bits stay numbers of 64 bits in tables, for each kind of weight.
use Rattle.std.proofs.Common.{◌≡◌, ℕ, zero, suc, pos, Bool, true, List, [], ◌∷◌, Option, refl, sym, subst}
use Rattle.std.proofs.lemmas.Bool.{ltb-true}
use Rattle.gcl_core.specs.meaning.Bounds.{StatementFits, BlockFits, ArmsFit}
use Rattle.gcl_core.specs.meaning.Fitting.{state_fits}
use Rattle.gcl_core.specs.meaning.Syntax.{Statement, Statements, ArmList}
use Rattle.gcl_core.specs.meaning.Value.{State}
use Rattle.gcl_core.proofs.FittingValues.{number_fits, set_fits, value_fits}
use Rattle.gcl_core.specs.declared.answers.Limit.TheVariants.{Attempts}
use Rattle.gcl_core.specs.meaning.Blocks.{limit}
use Rattle.gcl_core.specs.weighing.Fractions.{Fraction}
use Rattle.gcl_core.specs.weighing.WeightedEnds.{scaled, class_weight}
use Rattle.table_flow.proofs.EachMember.{Each, Anything, each_anything}
use Rattle.table_flow.proofs.KeptEntries.{KeepsEntries, only_keeps, statement_kept, block_kept, arms_kept}
use Rattle.table_flow.specs.Tables.{Table, Entries, Kind, weighted, fractions_kind, end_go, only_go, statement_go, block_go, arms_go}

module _ {X Y : Type 0} (x : Entries X Y) where
  abbrev pub Fits : X → Type 0
  Fits e = state_fits (x.state e) ≡ true

  abbrev pub AllFit : List X → Type 0
  AllFit = Each Fits

  pub fit_only : (test : State → Bool) (J : List X) → AllFit J → AllFit (only_go x test J)
  fit_only = only_keeps x Fits

-- What a kind of weight keeps of the states: an entry that is moved to a state is in it, and neither tables written down anew nor classes
-- of draws have other states.
pub record KeepsStates {X Y : Type 0} (k : Kind X Y) : Type 0 where
  pub moved : (s : State) (e : X) → k.entries.state (k.entries.moved_to s e) ≡ s
  pub tidy : (J : List X) → AllFit k.entries J → AllFit k.entries (k.tidy J)
  pub at_loop : (J : List X) → AllFit k.entries J → Each (AllFit k.entries) (k.at_loop J)
  pub class : (b : ℕ) (r : Option ℕ) (c : ℕ) (J : List X) → AllFit k.entries J → AllFit k.entries (k.class b r c J)

fit_scaled : (w : Fraction) (I : Table) → AllFit weighted I → AllFit weighted (scaled w I)
fit_scaled (zero, d) I h = tt
fit_scaled (suc n, d) [] h = tt
fit_scaled (suc n, d) (e ∷ I) h = (h.0, fit_scaled (suc n, d) I h.1)

pub fractions_keep_states : KeepsStates fractions_kind
fractions_keep_states = record { moved = λ s e. refl; tidy = λ I h. h; at_loop = λ I h. (h, tt); class = λ b r c. fit_scaled (class_weight b r c) }

module _ {X Y : Type 0} (k : Kind X Y) (keeps : KeepsStates k) where
  moved_fits : (e : X) (s : State) → state_fits s ≡ true → Fits k.entries (k.entries.moved_to s e)
  moved_fits e s h = subst (λ (t : State). state_fits t ≡ true) (sym (keeps.moved s e)) h

  states_kept : (r : Option ℕ) → KeepsEntries k r StatementFits BlockFits ArmsFit Anything (Fits k.entries) Anything Anything Anything
  states_kept r = record {
    asked = record {
      block = λ st b f. f;
      guarded = λ e a c f. (f.1, f.2);
      choice = λ p a c f. f;
      choose = λ arms f. f;
      arms = λ p a arms f. f;
      loop = λ e a f. f.1;
    };
    tidy = keeps.tidy;
    at_loop = keeps.at_loop;
    faulty = λ f e h. tt;
    failing = λ e h. tt;
    turns = λ v a f e h. tt;
    set = λ i v f e h z q. moved_fits e _ (set_fits (k.entries.state e) i z h (value_fits v (k.entries.state e) z f h q));
    drawn = λ i v f e h b q m le d g. moved_fits d _ (set_fits (k.entries.state d) i (pos m) g (number_fits m b le (ltb-true _ _ (value_fits v (k.entries.state e) (pos b) f h q))));
    number = λ m. tt;
    choice = λ p a c f. tt;
    choose = λ arms f. tt;
    class = λ b d. keeps.class b r;
    rest = λ b d J h. each_anything (end_go k.entries (limit Attempts) (k.rest b r J));
    shown = λ b d J h. each_anything (k.shown b r J);
    reached = λ ends d J h. each_anything (k.reached ends J);
  }

  module _ (n : ℕ) (r : Option ℕ) where
    pub statement_fit : (st : Statement) → StatementFits st → (J : List X) → AllFit k.entries J → AllFit k.entries (statement_go k n r st J).next
    statement_fit st f J h = (statement_kept (states_kept r) n st f J h).next

    pub block_fit : (b : Statements) → BlockFits b → (J : List X) → AllFit k.entries J → AllFit k.entries (block_go k n r b J).next
    block_fit b f J h = (block_kept (states_kept r) n b f J h).next

    pub arms_fit : (b : ℕ) (arms : ArmList) → ArmsFit arms → (J : List X) → AllFit k.entries J → AllFit k.entries (arms_go k n r b arms J).next
    arms_fit b arms f J h = (arms_kept (states_kept r) n b tt arms f J h).next
