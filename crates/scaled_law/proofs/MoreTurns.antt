-- What a round gives outcomes at one limit of turns, at every greater one: what stays meant is within their masses there, and what may
-- become so is enough.
use Rattle.std.proofs.Common.{◌≡◌, ℕ, ◌+◌, ◌*◌, ◌≤◌, ◌<◌, Bool, true, false, Option, refl, sym, ap, subst, arith, le_refl}
use Rattle.std.specs.Prelude.{not, ◌&&◌, ◌||◌}
use Rattle.std.proofs.Math.Nat.{mul-le-mul_right}
use Rattle.numbers.proofs.Divisors.{product_pos}
use Rattle.gcl_core.specs.declared.answers.Limit.TheVariants.{Turns}
use Rattle.gcl_core.specs.declared.answers.Outcome.{Outcome}
use Rattle.gcl_core.specs.declared.answers.Outcome.TheVariants as outcome
use Rattle.gcl_core.specs.meaning.Checked.{IsChecked}
use Rattle.gcl_core.specs.meaning.Outcomes.{same_outcome}
use Rattle.gcl_core.specs.meaning.Syntax.{SourceProgram}
use Rattle.gcl_core.specs.weighing.Fractions.{Fraction, AtMost}
use Rattle.gcl_core.specs.weighing.Mass.{round_mass}
use Rattle.gcl_core.proofs.SameOutcomes.{outcome_itself}
use Rattle.units_law.specs.Holding.{IsFor}
use Rattle.units_law.specs.Rounds.{meant_units}
use Rattle.units_law.proofs.OneRound.{parted, mass_rises, fails_rise}
use Rattle.units_law.proofs.Orders.{from_left}
use Rattle.scaled_law.specs.Given.{least_flow, most_flow, least_of, most_of, stay, may_be, AreWithin, AreEnough}
use Rattle.scaled_law.specs.Scaled.{Scaled}

-- ---- over plain numbers

within_more : (S : Fraction) (u : ℕ) (p q : Fraction) → 0 < p.1 → AtMost p q → AreWithin S u p → AreWithin S u q
within_more S u p q some k h = from_left p.1 (u * (S.1 * q.1)) (q.0 * S.0) some (let x = mul-le-mul_right q.1 h in let y = mul-le-mul_right S.0 k in omega arith)

enough_less : (S : Fraction) (u : ℕ) (p q : Fraction) → 0 < q.1 → AtMost p q → AreEnough S u q → AreEnough S u p
enough_less S u p q some k h = from_left q.1 (p.0 * S.0) (u * (S.1 * p.1)) some (let x = mul-le-mul_right p.1 h in let y = mul-le-mul_right S.0 k in omega arith)

-- shares of two wholes
share_rises : (N M A B p0 p1 q0 q1 : ℕ) → 0 < p1 → 0 < q1 → p1 * A ≡ p0 * N → q1 * B ≡ q0 * M → p0 * q1 ≤ q0 * p1 → A * M ≤ B * N
share_rises N M A B p0 p1 q0 q1 p q e f h =
    from_left (p1 * q1) (A * M) (B * N) (product_pos p1 q1 p q) (let x = mul-le-mul_right (N * M) h in let y = ap (λ t. t * (M * q1)) e in let z = ap (λ t. t * (N * p1)) f in omega arith)

shares_rise : (N M A B p0 p1 q0 q1 : ℕ) → 0 < N → 0 < M → p1 * A ≡ p0 * N → q1 * B ≡ q0 * M → A * M ≤ B * N → p0 * q1 ≤ q0 * p1
shares_rise N M A B p0 p1 q0 q1 p q e f h =
    from_left (N * M) (p0 * q1) (q0 * p1) (product_pos N M p q) (let x = mul-le-mul_right (p1 * q1) h in let y = ap (λ t. t * (M * q1)) e in let z = ap (λ t. t * (N * p1)) f in omega arith)

rest_falls : (N M A B F A' B' F' : ℕ) → A + B + F ≡ N → A' + B' + F' ≡ M → B * M ≤ B' * N → F * M ≤ F' * N → A' * N ≤ A * M
rest_falls N M A B F A' B' F' e f h k = let x = ap (λ t. t * M) e in let y = ap (λ t. t * N) f in omega arith

-- ---- outcomes

not_either : (a b : Bool) → not (a || b) ≡ true → not a ≡ true
not_either false b h = refl
not_either true b h = h

in_either : (a b : Bool) → b ≡ true → not (a || b) ≡ false
in_either true b h = refl
in_either false true h = refl
in_either false false h = sym h

and_left : (a b : Bool) → (a && b) ≡ true → a ≡ true
and_left true b h = refl
and_left false b h = h

and_not : (a b : Bool) → b ≡ true → (a && not b) ≡ false
and_not true true h = refl
and_not true false h = sym h
and_not false b h = refl

module _ (p : SourceProgram) (ok : IsChecked p) (n n' : ℕ) (more : n ≤ n') (r : Option ℕ) (meant : Outcome → Bool) where
  -- what stays meant gains
  stay_rises : AtMost (round_mass p n r (stay true meant)) (round_mass p n' r meant)
  stay_rises =
      mass_rises p ok n n' more r (stay true meant) meant (λ x h. and_left (meant x) (not (same_outcome (outcome.Limit Turns) x)) h)
      (and_not (meant (outcome.Limit Turns)) (same_outcome (outcome.Limit Turns) (outcome.Limit Turns)) (outcome_itself (outcome.Limit Turns)))

  -- what may become meant loses, since all others and what fails gain
  may_be_falls : AtMost (round_mass p n' r meant) (round_mass p n r (may_be true meant))
  may_be_falls =
      let some = may_be true meant in
      let others = λ (x : Outcome). not (some x) in
      let a = parted p ok n n (le_refl n) r some in
      let b = parted p ok n' n' (le_refl n') r meant in
      let o = mass_rises p ok n n' more r others (λ x. not (meant x)) (λ x h. not_either (meant x) (same_outcome (outcome.Limit Turns) x) h)
      (in_either (meant (outcome.Limit Turns)) (same_outcome (outcome.Limit Turns) (outcome.Limit Turns)) (outcome_itself (outcome.Limit Turns))) in
      let f = fails_rise p ok n n' more r in
      shares_rise b.scale a.scale b.given a.given _ _ _ _ b.positive a.positive b.given_share a.given_share
      (rest_falls a.scale b.scale a.given a.others a.failing b.given b.others b.failing a.all b.all
      (share_rises a.scale b.scale a.others b.others _ _ _ _ a.others_fraction b.others_fraction a.others_share b.others_share o)
      (share_rises a.scale b.scale a.failing b.failing _ _ _ _ a.failing_fraction b.failing_fraction a.failing_share b.failing_share f))

module _ (p : SourceProgram) (ok : IsChecked p) (n : ℕ) (r : Option ℕ) (last : Scaled) where
  pub within_turns : ((meant : Outcome → Bool) → AreWithin last.scale (meant_units p meant (least_flow last)) (round_mass p n r meant)) → (all_turns : Bool) (n' : ℕ) → IsFor all_turns n n' → (meant : Outcome → Bool) →
      AreWithin last.scale (least_of p all_turns meant last) (round_mass p n' r meant)
  within_turns h false n' e meant = subst (λ k. AreWithin last.scale (least_of p false meant last) (round_mass p k r meant)) (sym e) (h meant)
  within_turns h true n' more meant =
      within_more last.scale (least_of p true meant last) (round_mass p n r (stay true meant)) (round_mass p n' r meant) (parted p ok n n (le_refl n) r (stay true meant)).given_fraction (stay_rises p ok n n' more r meant) (h (stay true meant))

  pub enough_turns : ((meant : Outcome → Bool) → AreEnough last.scale (meant_units p meant (most_flow last) + last.loose.1) (round_mass p n r meant)) → (all_turns : Bool) (n' : ℕ) → IsFor all_turns n n' → (meant : Outcome → Bool) →
      AreEnough last.scale (most_of p all_turns meant last) (round_mass p n' r meant)
  enough_turns h false n' e meant = subst (λ k. AreEnough last.scale (most_of p false meant last) (round_mass p k r meant)) (sym e) (h meant)
  enough_turns h true n' more meant =
      enough_less last.scale (most_of p true meant last) (round_mass p n' r meant) (round_mass p n r (may_be true meant)) (parted p ok n n (le_refl n) r (may_be true meant)).given_fraction (may_be_falls p ok n n' more r meant) (h (may_be true meant))
