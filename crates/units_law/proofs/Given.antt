-- What a round gives outcomes in units, beside its masses at the limits of turns that bounds are for.
use Rattle.std.proofs.Common.{◌≡◌, ℕ, ◌+◌, Bool, true, false, Option, refl, sym, subst, arith, le_refl}
use Rattle.std.specs.Prelude.{not, ◌&&◌}
use Rattle.std.proofs.Math.Path.{fun_ext}
use Rattle.gcl_core.specs.declared.answers.Limit.TheVariants.{Turns}
use Rattle.gcl_core.specs.declared.answers.Outcome.{Outcome}
use Rattle.gcl_core.specs.declared.answers.Outcome.TheVariants as outcome
use Rattle.gcl_core.specs.meaning.Blocks.{End, on}
use Rattle.gcl_core.specs.meaning.Checked.{IsChecked}
use Rattle.gcl_core.specs.meaning.Outcomes.{same_outcome}
use Rattle.gcl_core.specs.meaning.Syntax.{SourceProgram}
use Rattle.gcl_core.specs.weighing.Mass.{round_mass, failed_mass}
use Rattle.units_law.specs.Down.{down}
use Rattle.units_law.specs.Flows.{UnitFlow}
use Rattle.units_law.specs.Rounds.{StandsBelow, round_units}
use Rattle.units_law.specs.Enclosures.{fails_in, units_of, counts, given}
use Rattle.units_law.specs.Events.{IsBetween}
use Rattle.units_law.specs.Holding.{IsFor, MayEnd}
use Rattle.units_law.proofs.Least.{below_more, between_below, between_above, between_fraction}
use Rattle.units_law.proofs.OneRound.{mass_rises, fails_rise, parted}
use Rattle.units_law.proofs.Units.{number, numbers_join, held_join, nothing_held}

and_true : (b : Bool) → (b && true) ≡ b
and_true true = refl
and_true false = refl

and_false : (b : Bool) → (b && false) ≡ false
and_false true = refl
and_false false = refl

and_left : (a b : Bool) → (a && b) ≡ true → a ≡ true
and_left true b h = refl
and_left false b h = h

module _ (p : SourceProgram) (n : ℕ) (r R : Option ℕ) (all_turns : Bool) where
  abbrev flow : UnitFlow
  flow = round_units down p n r

  abbrev number_of : (Outcome → Bool) → End → ℕ
  number_of meant = number p.result (counts all_turns) meant

  -- what is given to some and to all others is all
  pub given_joins : (meant : Outcome → Bool) → given p n r R all_turns meant + given p n r R all_turns (λ x. not (meant x)) ≡ given p n r R all_turns (λ x. true)
  given_joins meant =
      let G = number_of meant in
      let H = number_of (λ x. not (meant x)) in
      let K = number_of (λ x. true) in
      let e = numbers_join p.result (counts all_turns) meant in
      let x = held_join (λ s. G (on s)) (λ s. H (on s)) (λ s. K (on s)) (λ s. e (on s)) flow.next in
      let y = held_join G H K e flow.ended in
      omega arith

  -- and outcomes of which none has a unit have nothing
  pub given_nothing : (meant : Outcome → Bool) → ((x : Outcome) → meant x ≡ true → given p n r R all_turns (same_outcome x) ≡ 0) → given p n r R all_turns meant ≡ 0
  given_nothing meant h =
      let x = nothing_held p.result (counts all_turns) meant (λ s. on s) flow.next (λ y t. let z = h y t in omega arith) in
      let y = nothing_held p.result (counts all_turns) meant (λ e. e) flow.ended (λ y t. let z = h y t in omega arith) in
      omega arith

-- where the units of a round are below its masses
module _ (p : SourceProgram) (n : ℕ) (r : Option ℕ) (below : (meant : Outcome → Bool) → StandsBelow (units_of p n r meant) (round_mass p n r meant)) (failed_below : StandsBelow (fails_in p n r) (failed_mass p n r)) (ok : IsChecked p) where
  pub given_below : (R : Option ℕ) (all_turns : Bool) (n' : ℕ) → IsFor all_turns n n' → (meant : Outcome → Bool) → StandsBelow (given p n r R all_turns meant) (round_mass p n' r meant)
  given_below R false n' e meant =
      let same : (λ (x : Outcome). meant x && true) ≡ meant = fun_ext (λ x. and_true (meant x)) in
      subst (λ k. StandsBelow (units_of p n r (λ x. meant x && true)) (round_mass p k r meant)) (sym e) (subst (λ m. StandsBelow (units_of p n r m) (round_mass p n r meant)) (sym same) (below meant))
  given_below R true n' more meant =
      let some = λ (x : Outcome). meant x && counts true x in
      below_more (units_of p n r some) (round_mass p n r some) (round_mass p n' r meant) (parted p ok n n (le_refl n) r some).given_fraction (below some)
      (mass_rises p ok n n' more r some meant (λ x h. and_left (meant x) (counts true x) h) (and_false (meant (outcome.Limit Turns))))

  pub failing_below : (all_turns : Bool) (n' : ℕ) → IsFor all_turns n n' → StandsBelow (fails_in p n r) (failed_mass p n' r)
  failing_below false n' e = subst (λ k. StandsBelow (fails_in p n r) (failed_mass p k r)) (sym e) failed_below
  failing_below true n' more =
      below_more (fails_in p n r) (failed_mass p n r) (failed_mass p n' r) (parted p ok n n (le_refl n) r (λ x. true)).failing_fraction failed_below (fails_rise p ok n n' more r)

  pub is_between : (n' : ℕ) (R : Option ℕ) (all_turns : Bool) → IsFor all_turns n n' → MayEnd p n' r R → (meant : Outcome → Bool) → IsBetween p n n' r R all_turns meant
  is_between n' R all_turns is passes meant =
      let f = failing_below all_turns n' is in
      let g = given_below R all_turns n' is in
      let a = parted p ok n' n' (le_refl n') r meant in
      record {
        fraction = between_fraction p n' r (fails_in p n r) f (given p n r R all_turns) g R passes meant a;
        from_below = between_below p n' r (fails_in p n r) f (given p n r R all_turns) g R passes meant a;
        from_above = between_above p n' r (fails_in p n r) f (given p n r R all_turns) g R passes meant a;
      }
