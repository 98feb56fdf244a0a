-- How many products the parts of a block round.
use Rattle.std.proofs.Common.{◌≡◌, ℕ, zero, suc, ◌+◌, ◌*◌, ℤ, pos, negsuc, List, [], ◌∷◌, ◌++◌, map, length, Ok, Err, Option, refl, arith}
use Rattle.gcl_core.specs.declared.syntax.Weight.{Weight}
use Rattle.gcl_core.specs.meaning.Arms.{parts_of}
use Rattle.gcl_core.specs.meaning.Blocks.{by_value, by_bound}
use Rattle.gcl_core.specs.meaning.Draw.{choice_ends, uniform_ends}
use Rattle.gcl_core.specs.meaning.Parts.{partial_sums}
use Rattle.gcl_core.specs.meaning.Syntax.{Statements, ArmList, arm}
use Rattle.gcl_core.specs.meaning.Value.{State, Value}
use Rattle.gcl_core.specs.weighing.Fractions.{one}
use Rattle.gcl_core.proofs.PartialSums.{as_many}
use Rattle.gcl_core.proofs.Uniform.{uniform_length}
use Rattle.table_flow.specs.Tables.{ReachedDraws}
use Rattle.table_flow.proofs.UniformLists.{reached_go}
use Rattle.units_law.specs.Flows.{block_units}
use Rattle.units_law.specs.Rounding.{Rounding, class_units, units_kind}
use Rattle.units_law.specs.Roundings.{roundings_of}
use Rattle.units_law.specs.Units.{Units}
use Rattle.units_law.proofs.UnitWords.{arms_units, block_roundings}

pub both_roundings : (ds es : ReachedDraws) → roundings_of (ds ++ es) ≡ roundings_of ds + roundings_of es
both_roundings [] es = omega arith
both_roundings (d ∷ ds) es = let i = both_roundings ds es in omega arith

-- a draw with these ends from each state, and further draws
each_rounding : (ends : List ℕ) (k : ℕ) → length ends ≡ k → (J : Units State) (ds : ReachedDraws) →
    roundings_of (map (λ e. (one, ends)) J ++ ds) ≡ length J * (k + 1) + roundings_of ds
each_rounding ends k h [] ds = omega arith
each_rounding ends k h (e ∷ J) ds = let i = each_rounding ends k h J ds in omega arith

pub choice_roundings : (p : Weight) (J : Units State) (ds es : ReachedDraws) →
    roundings_of (map (λ e. (one, choice_ends p)) J ++ (ds ++ es)) ≡ length J + ((length J + roundings_of ds) + (length J + roundings_of es))
choice_roundings p J ds es = let a = each_rounding (choice_ends p) 2 refl J (ds ++ es) in let b = both_roundings ds es in omega arith

module _ (cut : Rounding) where
  -- a uniform draw from each state
  abbrev pub bound_roundings : (State → Value) → Units State → ℕ
  bound_roundings v J = roundings_of (reached_go (units_kind cut) v J)

  pub first_bound : (v : State → Value) (e : State × ℕ) (J : Units State) →
      bound_roundings v (e ∷ J) ≡ by_value (v e.0) (λ f. 0) (λ z. by_bound z 0 (λ m. m + 1)) + bound_roundings v J
  first_bound v e J =
      let a = both_roundings (by_value (v e.0) (λ f. []) (λ z. by_bound z [] (λ m. (one, uniform_ends m) ∷ []))) (reached_go (units_kind cut) v J) in
      let b = by_state (v e.0) in
      omega arith
    where
      by_sign : (z : ℤ) → roundings_of (by_bound z [] (λ m. (one, uniform_ends m) ∷ [])) ≡ by_bound z 0 (λ m. m + 1)
      by_sign (pos zero) = refl
      by_sign (pos (suc m)) = let l = uniform_length (suc m) in omega arith
      by_sign (negsuc m) = refl

      by_state : (o : Value) → roundings_of (by_value o (λ f. []) (λ z. by_bound z [] (λ m. (one, uniform_ends m) ∷ []))) ≡ by_value o (λ f. 0) (λ z. by_bound z 0 (λ m. m + 1))
      by_state (Ok z) = by_sign z
      by_state (Err f) = refl

  module _ (n : ℕ) (r : Option ℕ) where
    -- the arms of a draw with b parts, each with a rounding for each state
    abbrev pub arms_roundings : ℕ → ArmList → Units State → ℕ
    arms_roundings b arms J = length J * length (parts_of arms) + roundings_of (arms_units cut n r b arms J).reached

    pub first_arm_roundings : (b p : ℕ) (a : Statements) (arms : ArmList) (J : Units State) →
        arms_roundings b (arm p a arms) J ≡ (length J + block_roundings cut n r a (class_units cut b r p J)) + arms_roundings b arms J
    first_arm_roundings b p a arms J =
        let x = both_roundings (block_units cut n r a (class_units cut b r p J)).reached (arms_units cut n r b arms J).reached in
        omega arith

    pub choose_roundings : (arms : ArmList) (b : ℕ) (J : Units State) →
        roundings_of (map (λ e. (one, partial_sums (parts_of arms))) J ++ (arms_units cut n r b arms J).reached) ≡ length J + arms_roundings b arms J
    choose_roundings arms b J =
        let a = each_rounding (partial_sums (parts_of arms)) (length (parts_of arms)) (as_many (parts_of arms)) J (arms_units cut n r b arms J).reached in
        omega arith
