-- A uniform draw of a table by four lists: what goes on, what ended, the weights that draws show, and the draws that are reached.
use Rattle.std.proofs.Common.{◌≡◌, ℕ, ℤ, pos, negsuc, zero, suc, List, [], ◌∷◌, ◌++◌, Option, Ok, Err, refl, ap, ◌∙◌}
use Rattle.gcl_core.specs.declared.answers.Fault.TheVariants.{BadBound}
use Rattle.gcl_core.specs.declared.answers.Limit.TheVariants.{Attempts}
use Rattle.gcl_core.specs.meaning.Draw.{uniform_ends}
use Rattle.gcl_core.specs.meaning.Value.{State, Value}
use Rattle.gcl_core.specs.meaning.Blocks.{fault, limit, by_value, by_bound}
use Rattle.gcl_core.specs.weighing.Fractions.{Fraction}
use Rattle.table_flow.specs.Tables.{FlowOf, Kind, ReachedDraws, beside, end_go, below_go, number_go, uniform_go}

module _ {X Y : Type 0} (k : Kind X Y) where
  -- a variable set to each number below the value of an expression
  abbrev pub drawn_go : ℕ → (State → Value) → Option ℕ → List X → List X
  drawn_go i v r [] = []
  drawn_go i v r (e ∷ J) =
      by_value (v (k.entries.state e)) (λ f. []) (λ z. by_bound z [] (λ m. below_go k.entries i m (k.class m r 1 (e ∷ [])))) ++ drawn_go i v r J

  -- and the states in which there is no such number, or no attempt gives one
  abbrev pub undrawn_go : (State → Value) → Option ℕ → List X → List Y
  undrawn_go v r [] = []
  undrawn_go v r (e ∷ J) =
      by_value (v (k.entries.state e)) (λ f. k.entries.as_end (fault f) e ∷ [])
      (λ z. by_bound z (k.entries.as_end (fault BadBound) e ∷ []) (λ m. end_go k.entries (limit Attempts) (k.rest m r (e ∷ [])))) ++ undrawn_go v r J

  -- the weights that these draws show
  abbrev pub shown_go : (State → Value) → Option ℕ → List X → List Fraction
  shown_go v r [] = []
  shown_go v r (e ∷ J) = by_value (v (k.entries.state e)) (λ f. []) (λ z. by_bound z [] (λ m. k.shown m r (e ∷ []))) ++ shown_go v r J

  -- and these draws
  abbrev pub reached_go : (State → Value) → List X → ReachedDraws
  reached_go v [] = []
  reached_go v (e ∷ J) = by_value (v (k.entries.state e)) (λ f. []) (λ z. by_bound z [] (λ m. k.reached (uniform_ends m) (e ∷ []))) ++ reached_go v J

  abbrev pub uniform_lists : ℕ → (State → Value) → Option ℕ → List X → FlowOf X Y
  uniform_lists i v r J = record { next = drawn_go i v r J; ended = undrawn_go v r J; tables = []; draws = shown_go v r J; reached = reached_go v J }

  pub by_lists : (r : Option ℕ) (i : ℕ) (v : State → Value) (J : List X) → uniform_go k r i v J ≡ uniform_lists i v r J
  by_lists r i v [] = refl
  by_lists r i v (e ∷ J) = ap (λ f. beside (number_go k r i (v (k.entries.state e)) e) f) (by_lists r i v J) ∙ by_state (v (k.entries.state e))
    where
      by_sign : (z : ℤ) → beside (number_go k r i (Ok z) e) (uniform_lists i v r J) ≡ record {
        next = by_bound z [] (λ m. below_go k.entries i m (k.class m r 1 (e ∷ []))) ++ drawn_go i v r J;
        ended = by_bound z (k.entries.as_end (fault BadBound) e ∷ []) (λ m. end_go k.entries (limit Attempts) (k.rest m r (e ∷ []))) ++ undrawn_go v r J;
        tables = [];
        draws = by_bound z [] (λ m. k.shown m r (e ∷ [])) ++ shown_go v r J;
        reached = by_bound z [] (λ m. k.reached (uniform_ends m) (e ∷ [])) ++ reached_go v J;
      }
      by_sign (pos zero) = refl
      by_sign (pos (suc m)) = refl
      by_sign (negsuc m) = refl

      by_state : (o : Value) → beside (number_go k r i o e) (uniform_lists i v r J) ≡ record {
        next = by_value o (λ f. []) (λ z. by_bound z [] (λ m. below_go k.entries i m (k.class m r 1 (e ∷ [])))) ++ drawn_go i v r J;
        ended = by_value o (λ f. k.entries.as_end (fault f) e ∷ []) (λ z. by_bound z (k.entries.as_end (fault BadBound) e ∷ []) (λ m. end_go k.entries (limit Attempts) (k.rest m r (e ∷ [])))) ++ undrawn_go v r J;
        tables = [];
        draws = by_value o (λ f. []) (λ z. by_bound z [] (λ m. k.shown m r (e ∷ []))) ++ shown_go v r J;
        reached = by_value o (λ f. []) (λ z. by_bound z [] (λ m. k.reached (uniform_ends m) (e ∷ []))) ++ reached_go v J;
      }
      by_state (Ok z) = by_sign z
      by_state (Err f) = refl

  pub reached_by_list : (r : Option ℕ) (i : ℕ) (v : State → Value) (J : List X) → (uniform_go k r i v J).reached ≡ reached_go v J
  reached_by_list r i v J = ap (λ f. f.reached) (by_lists r i v J)
