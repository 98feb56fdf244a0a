-- Where a round begins and ends, and what its outcomes have.
use Rattle.std.proofs.Common.{◌≡◌, ℕ, ◌+◌, ◌*◌, ◌<◌, Bool, true, cond, not, Option, None, [], ◌∷◌, length, refl, sym, ap, ◌∙◌, subst, arith}
use Rattle.numbers.specs.declared.units.TheConstants.{ALL}
use Rattle.gcl_core.specs.declared.answers.Fault.TheVariants.{Overflow, ZeroDivisor, BadBound}
use Rattle.gcl_core.specs.declared.answers.Limit.TheVariants.{Turns, Attempts}
use Rattle.gcl_core.specs.declared.answers.Outcome.{Outcome}
use Rattle.gcl_core.specs.declared.answers.Outcome.TheVariants as outcome
use Rattle.gcl_core.specs.meaning.Blocks.{on}
use Rattle.gcl_core.specs.meaning.Outcomes.{zeros, outcome_of}
use Rattle.gcl_core.specs.meaning.Syntax.{Expression, SourceProgram}
use Rattle.gcl_core.specs.meaning.Value.{State, value_of}
use Rattle.gcl_core.specs.weighing.Mass.{ends_in, mass_of_those}
use Rattle.gcl_core.specs.weighing.Fractions.{AtMost}
use Rattle.units_law.specs.Rounds.{end_units_of}
use Rattle.units_law.specs.Units.{held}
use Rattle.scaled_law.specs.Given.{stay, may_be, least_of, most_of, beside, LiesBetween, least_flow, most_flow}
use Rattle.scaled_law.specs.Pairs.{Pair, Pairs, at_least, at_most}
use Rattle.scaled_law.specs.Scaled.{begun, IsPositive}
use Rattle.scaled_fold.specs.Doubling.{doubling, doubled_round}
use Rattle.scaled_fold.specs.Ends.{least_given, most_given, LieBeside}
use Rattle.scaled_fold.specs.declared.ended.Ended.{Ended}
use Rattle.scaled_fold.specs.declared.walk.Walk.{Walk}
use Rattle.scaled_fold.specs.inner.Holding.{IsMergedOf, scale_of, Holds, Begins}
use Rattle.scaled_fold.specs.inner.Outcomes.{Adds, AddsResults, after, AreOutcomes, RoundGives}
use Rattle.scaled_fold.proofs.Following.{as_merged, as_aside}
use Rattle.scaled_fold.proofs.Keeping.{times_for_some}
use Rattle.scaled_fold.proofs.Merged.{merged_alike}
use Rattle.scaled_fold.proofs.Putting.{put_some}

-- ---- the beginning

pub one_merged : (s : State) (n : ℕ) → 0 < n → IsMergedOf ((s, (n, n)) ∷ []) ((s, (n, n)) ∷ [])
one_merged s n p = record {
  is = sym (put_some [] s n n p ∙ ap (λ (w : Pair). (s, w) ∷ []) (ap (λ l. (l, 0 + n)) a ∙ ap (λ h. (n, h)) a));
  in_order = (omega arith, tt);
}
  where
    a : 0 + n ≡ n
    a = omega arith

pub begins : (p : SourceProgram) (w : Walk) → Begins (length p.names) w → Holds (begun p) w
begins p w b = record {
  next = as_merged _ _ _ b.next (one_merged (zeros (length p.names)) ALL (omega arith));
  aside = as_aside _ _ [] b.aside tt;
  ended = record { least = λ G z. let a = (b.ended G).0 in omega arith; most = λ G z. let a = (b.ended G).1 in omega arith };
  loose = b.loose;
  scale = ap scale_of (sym b.doubled);
}

pub doubling_positive : IsPositive doubling
doubling_positive = record { some = λ f. times_for_some _; fraction = λ f. omega arith }

-- ---- the outcomes of a table and of what ended

abbrev bit : Bool → ℕ
bit b = cond b 1 0

held_same : (G H : State → ℕ) → ((s : State) → G s ≡ H s) → (J : Pairs State) → (held G (at_least J) ≡ held H (at_least J)) × (held G (at_most J) ≡ held H (at_most J))
held_same G H h [] = (refl, refl)
held_same G H h (e ∷ J) = let i = held_same G H h J in let l = ap (λ u. e.1.0 * u) (h e.0) in let m = ap (λ u. e.1.1 * u) (h e.0) in (omega (arith, i.0), omega (arith, i.1))

pub are_outcomes : (e : Expression) (I : Pairs State) (E : Ended) (A B C D F K : Pairs Outcome) → AddsResults e [] I A → Adds A (outcome.Fault Overflow) E.overflow B → Adds B (outcome.Fault ZeroDivisor) E.divisor C →
    Adds C (outcome.Fault BadBound) E.bound D → Adds D (outcome.Limit Turns) E.turns F → Adds F (outcome.Limit Attempts) E.attempts K → AreOutcomes e I E K
are_outcomes e I E A B C D F K a b c d t k = record {
  least = λ meant.
      let G : Outcome → ℕ = λ x. bit (meant x) in
      let u : held G (at_least A) ≡ 0 + held (λ s. G (outcome_of (value_of e s))) (at_least I) = a.least G in
      let v = b.least G in
      let w = c.least G in
      let x = d.least G in
      let y = t.least G in
      let o = k.least G in
      let z : end_units_of (ends_in e meant) (least_flow (after I E)) ≡ held (λ s. G (outcome_of (value_of e s))) (at_least I) + (E.overflow.0 * G (outcome.Fault Overflow)
      + (E.divisor.0 * G (outcome.Fault ZeroDivisor) + (E.bound.0 * G (outcome.Fault BadBound) + (E.turns.0 * G (outcome.Limit Turns) + (E.attempts.0 * G (outcome.Limit Attempts) + 0))))) = refl in
      omega (arith, u, v, w, x, y, o, z);
  most = λ meant.
      let G : Outcome → ℕ = λ x. bit (meant x) in
      let u : held G (at_most A) ≡ 0 + held (λ s. G (outcome_of (value_of e s))) (at_most I) = a.most G in
      let v = b.most G in
      let w = c.most G in
      let x = d.most G in
      let y = t.most G in
      let o = k.most G in
      let z : end_units_of (ends_in e meant) (most_flow (after I E)) ≡ held (λ s. G (outcome_of (value_of e s))) (at_most I) + (E.overflow.1 * G (outcome.Fault Overflow)
      + (E.divisor.1 * G (outcome.Fault ZeroDivisor) + (E.bound.1 * G (outcome.Fault BadBound) + (E.turns.1 * G (outcome.Limit Turns) + (E.attempts.1 * G (outcome.Limit Attempts) + 0))))) = refl in
      omega (arith, u, v, w, x, y, o, z);
}

-- ---- the end

pub round_gives : (p : SourceProgram) (n : ℕ) (r : Option ℕ) (w : Walk) (K : Pairs Outcome) (loose : ℕ) → Holds (doubled_round p n r) w → AreOutcomes p.result w.next.states.entries w.ended K → loose ≡ w.loose.1 → RoundGives p n r K loose
round_gives p n r w K loose h o l = record {
  least = λ meant.
      let f = doubled_round p n r in
      let a = (merged_alike w.next.states.entries f.next h.next).least (λ s. bit (ends_in p.result meant (on s))) in
      let b = h.ended.least (λ x. bit (ends_in p.result meant x)) refl in
      let c = o.least meant in
      omega arith;
  most = λ meant.
      let f = doubled_round p n r in
      let a = (merged_alike w.next.states.entries f.next h.next).most (λ s. bit (ends_in p.result meant (on s))) in
      let b = h.ended.most (λ x. bit (ends_in p.result meant x)) refl in
      let c = o.most meant in
      omega arith;
  rest = l ∙ ap (λ (u : Pair). u.1) h.loose;
}

-- ---- what the round says of masses

module _ (p : SourceProgram) (n : ℕ) (r : Option ℕ) (K : Pairs Outcome) (loose : ℕ) (g : RoundGives p n r K loose) (all_turns : Bool) where
  least_same : (meant : Outcome → Bool) → least_of p all_turns meant (doubled_round p n r) ≡ least_given all_turns K loose meant
  least_same meant = sym (g.least (stay all_turns meant))

  most_same : (meant : Outcome → Bool) → most_of p all_turns meant (doubled_round p n r) ≡ most_given all_turns K loose meant
  most_same meant = let a = g.most (may_be all_turns meant) in let b = g.rest in omega arith

  pub lie_beside : (n' : ℕ) (meant : Outcome → Bool) → LiesBetween p n' r all_turns (doubled_round p n r) meant → LieBeside all_turns K loose p n' r meant
  lie_beside n' meant b = record {
    from_below = subst (λ q. AtMost q (mass_of_those p n' r None meant))
        (ap (λ l. beside l (most_of p all_turns (λ x. not (meant x)) (doubled_round p n r))) (least_same meant)
        ∙ ap (λ h. beside (least_given all_turns K loose meant) h) (most_same (λ x. not (meant x)))) b.from_below;
    from_above = subst (λ q. AtMost (mass_of_those p n' r None meant) q)
        (ap (λ l. beside l (least_of p all_turns (λ x. not (meant x)) (doubled_round p n r))) (most_same meant)
        ∙ ap (λ h. beside (most_given all_turns K loose meant) h) (least_same (λ x. not (meant x)))) b.from_above;
  }

  pub some_given : 0 < least_given all_turns K loose (λ x. true) → 0 < least_of p all_turns (λ x. true) (doubled_round p n r)
  some_given h = subst (λ m. 0 < m) (sym (least_same (λ x. true))) h
