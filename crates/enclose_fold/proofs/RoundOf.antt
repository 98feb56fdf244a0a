-- What one round gives outcomes that count, from the table after it and what ended in it.
use Rattle.std.proofs.Common.{◌≡◌, ℕ, ◌+◌, ◌*◌, ◌≤◌, Bool, true, false, cond, Ok, Err, Option, [], ◌∷◌, length, refl, ap, ◌∙◌, arith}
use Rattle.std.specs.Prelude.{◌&&◌, if◌then◌else◌}
use Rattle.numbers.specs.declared.units.TheConstants.{ALL}
use Rattle.gcl_core.specs.declared.answers.Fault.{Fault}
use Rattle.gcl_core.specs.declared.answers.Fault.TheVariants.{Overflow, ZeroDivisor, BadBound}
use Rattle.gcl_core.specs.declared.answers.Limit.TheVariants.{Turns, Attempts, Rounds}
use Rattle.gcl_core.specs.declared.answers.Outcome.{Outcome}
use Rattle.gcl_core.specs.declared.answers.Outcome.TheVariants as outcome
use Rattle.gcl_core.specs.meaning.Blocks.{End, on}
use Rattle.gcl_core.specs.meaning.Outcomes.{outcome_of, zeros}
use Rattle.gcl_core.specs.meaning.Syntax.{Expression, SourceProgram}
use Rattle.gcl_core.specs.meaning.Value.{State, Value, value_of}
use Rattle.gcl_core.specs.weighing.Mass.{ends_in, is_failed}
use Rattle.units_law.specs.Down.{down}
use Rattle.units_law.specs.Flows.{all_units}
use Rattle.units_law.specs.Rounds.{round_units, end_units_of}
use Rattle.units_law.specs.Units.{Units, held, total}
use Rattle.units_law.proofs.Held.{held_none}
use Rattle.units_law.specs.Enclosures.{counts, fails_in}
use Rattle.units_law.specs.Enclosures as enclosures
use Rattle.enclose_fold.specs.declared.ended.Ended.{Ended}
use Rattle.enclose_fold.specs.inner.Body.{BodyGives}
use Rattle.enclose_fold.specs.inner.Ended.{units_of}
use Rattle.enclose_fold.specs.inner.Outcomes.{those, Adds, AddsResults, after, AreOutcomes, Ascending, RoundGives}

-- ---- the outcomes of a table and of what ended

abbrev bit : Bool → ℕ
bit b = cond b 1 0

and_true : (b : Bool) → bit (b && true) ≡ bit b
and_true true = refl
and_true false = refl

and_false : (b : Bool) → bit (b && false) ≡ 0
and_false true = refl
and_false false = refl

-- values and faults count, and all limits but that of turns
counted_value : (all_turns : Bool) (meant : Outcome → Bool) (v : Value) → bit (meant (outcome_of v) && counts all_turns (outcome_of v)) ≡ bit (meant (outcome_of v))
counted_value false meant v = and_true (meant (outcome_of v))
counted_value true meant (Ok z) = and_true (meant (outcome.Value z))
counted_value true meant (Err f) = and_true (meant (outcome.Fault f))

counted_fault : (all_turns : Bool) (meant : Outcome → Bool) (f : Fault) → bit (meant (outcome.Fault f) && counts all_turns (outcome.Fault f)) ≡ bit (meant (outcome.Fault f))
counted_fault false meant f = and_true (meant (outcome.Fault f))
counted_fault true meant f = and_true (meant (outcome.Fault f))

counted_attempts : (all_turns : Bool) (meant : Outcome → Bool) → bit (meant (outcome.Limit Attempts) && counts all_turns (outcome.Limit Attempts)) ≡ bit (meant (outcome.Limit Attempts))
counted_attempts false meant = and_true (meant (outcome.Limit Attempts))
counted_attempts true meant = and_true (meant (outcome.Limit Attempts))

counted_turns : (all_turns : Bool) (meant : Outcome → Bool) (T t : ℕ) → t ≡ (if all_turns then 0 else T) → t * bit (meant (outcome.Limit Turns)) ≡ T * bit (meant (outcome.Limit Turns) && counts all_turns (outcome.Limit Turns))
counted_turns false meant T t e = let z = ap (λ u. u * bit (meant (outcome.Limit Turns))) e in let y = ap (λ u. T * u) (and_true (meant (outcome.Limit Turns))) in omega arith
counted_turns true meant T t e = let z = ap (λ u. u * bit (meant (outcome.Limit Turns))) e in let y = ap (λ u. T * u) (and_false (meant (outcome.Limit Turns))) in omega arith

held_same : (G H : State → ℕ) → ((s : State) → G s ≡ H s) → (J : Units State) → held G J ≡ held H J
held_same G H h [] = refl
held_same G H h (e ∷ J) = let i = held_same G H h J in let z = ap (λ u. e.1 * u) (h e.0) in omega arith

module _ (e : Expression) (all_turns : Bool) (I : Units State) (E : Ended) (t : ℕ) (turns : t ≡ (if all_turns then 0 else E.turns)) where
  module _ (K0 K1 K2 K3 K4 K5 K6 K7 : Units Outcome) (none : K0 ≡ []) (results : AddsResults e K0 I K1) (overflow : Adds K1 (outcome.Fault Overflow) E.overflow K2)
      (divisor : Adds K2 (outcome.Fault ZeroDivisor) E.divisor K3) (bound : Adds K3 (outcome.Fault BadBound) E.bound K4) (ran_out : Adds K4 (outcome.Limit Turns) t K5)
      (attempts : Adds K5 (outcome.Limit Attempts) E.attempts K6) (rounds : Adds K6 (outcome.Limit Rounds) 0 K7) where
    pub are_outcomes : AreOutcomes e all_turns I E K7
    are_outcomes = record {
      sums = λ meant.
          let x0 = ap (those meant) none in
          let x1 = results meant in
          let x2 = overflow.sums meant in
          let x3 = divisor.sums meant in
          let x4 = bound.sums meant in
          let x5 = ran_out.sums meant in
          let x6 = attempts.sums meant in
          let x7 = rounds.sums meant in
          let v = held_same (λ s. bit (meant (outcome_of (value_of e s)) && counts all_turns (outcome_of (value_of e s)))) (λ s. bit (meant (outcome_of (value_of e s)))) (λ s. counted_value all_turns meant (value_of e s)) I in
          let f1 = ap (λ u. E.overflow * u) (counted_fault all_turns meant Overflow) in
          let f2 = ap (λ u. E.divisor * u) (counted_fault all_turns meant ZeroDivisor) in
          let f3 = ap (λ u. E.bound * u) (counted_fault all_turns meant BadBound) in
          let f4 = counted_turns all_turns meant E.turns t turns in
          let f5 = ap (λ u. E.attempts * u) (counted_attempts all_turns meant) in
          omega arith;
      rounds = rounds.there;
    }

-- ---- and those of a round

module _ (p : SourceProgram) (n : ℕ) (r : Option ℕ) (I : Units State) (E : Ended) (body : BodyGives p n r I E) where
  from_round : (is : End → Bool) → end_units_of is (after I E) ≡ end_units_of is (round_units down p n r)
  from_round is =
      ap (λ J. held (λ s. bit (is (on s))) J + held (λ x. bit (is x)) (units_of E)) body.next
      ∙ ap (λ k. held (λ s. bit (is (on s))) (round_units down p n r).next + k) (body.ended (λ x. bit (is x)))

  pub all_within : all_units (round_units down p n r) ≤ total ((zeros (length p.names), ALL) ∷ []) → total I + total (units_of E) ≤ ALL
  all_within made = let x = ap total body.next in let y = body.ended (λ x. 1) in omega (arith, made)

  module _ (all_turns : Bool) (K : Units Outcome) (o : AreOutcomes p.result all_turns I E K) (t : ℕ) (passing : t + E.failed ≡ total I + total (units_of E)) where
    failing_is : E.failed ≡ fails_in p n r
    failing_is = (let h = held_none I in let z : E.failed ≡ end_units_of is_failed (after I E) = omega arith in z) ∙ from_round is_failed

    passing_is : t ≡ enclosures.units_of p n r (λ x. true)
    passing_is = (let z : t ≡ end_units_of (ends_in p.result (λ x. true)) (after I E) = omega (arith, passing) in z) ∙ from_round (ends_in p.result (λ x. true))

    pub round_gives : Ascending K → total I + total (units_of E) ≤ ALL → total K + E.failed ≤ ALL → RoundGives p n r all_turns K E.failed t
    round_gives a most most' = record {
      sums = λ meant. o.sums meant ∙ from_round (ends_in p.result (λ x. meant x && counts all_turns x));
      rounds = o.rounds;
      ascending = a;
      failed = failing_is;
      passed = passing_is;
      within = omega (arith, passing, most);
      counted = omega (arith, most');
    }
