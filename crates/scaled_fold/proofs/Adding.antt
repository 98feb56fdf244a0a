-- More units of an outcome, and the outcomes of all states that a body ends in.
use Rattle.std.proofs.Common.{◌≡◌, ℕ, ◌+◌, ◌*◌, Ordering, [], ◌∷◌, refl, ap, arith}
use Rattle.std.specs.declared.cmp.Ordering.TheVariants.{Less, Equal, Greater}
use Rattle.std.specs.Cmp.{IsTotalOrder}
use Rattle.std.specs.BTreeMap.{insert_entry, is_at}
use Rattle.std.specs.Map.{keys_of}
use Rattle.std.specs.List.Sorted.{IsStrictlySortedBy}
use Rattle.std.proofs.lemmas.Map.{lookup-none}
use Rattle.std.proofs.lemmas.Map.Entries.{none_below_head}
use Rattle.std.proofs.lemmas.Map.Keys.{sorted_tail}
use Rattle.gcl_core.specs.declared.answers.Outcome.{Outcome}
use Rattle.gcl_core.specs.meaning.Outcomes.{outcome_of}
use Rattle.gcl_core.specs.meaning.Syntax.{Expression}
use Rattle.gcl_core.specs.meaning.Value.{State, value_of}
use Rattle.mass_fold.proofs.OutcomeKeys.{Tells, equal_is}
use Rattle.units_law.specs.Units.{held}
use Rattle.scaled_law.specs.Pairs.{Pair, Pairs, at_least, at_most}
use Rattle.scaled_law.proofs.Merging.{parts}
use Rattle.scaled_fold.specs.inner.Outcomes.{Adds, AddsResults}
use Rattle.scaled_fold.specs.inner.Sums.{found, sum_of}

-- ---- one outcome more

module _ (order : Outcome → Outcome → Ordering) (tells : Tells order) (is_total : IsTotalOrder order) where
  held_insert : (part : Pair → ℕ) → part (0, 0) ≡ 0 → (G : Outcome → ℕ) (x : Outcome) (v : Pair) (J : Pairs Outcome) → IsStrictlySortedBy order (keys_of J) →
      held G (parts part (insert_entry order J x v)) + part (found order J x) * G x ≡ held G (parts part J) + part v * G x
  held_insert part z G x v [] h = let y = ap (λ n. n * G x) z in omega arith
  held_insert part z G x v (e ∷ J) h = at_head (order x e.0) refl (held_insert part z G x v J (sorted_tail order e.0 (keys_of J) h))
    where
      at_head : (o : Ordering) → order x e.0 ≡ o → held G (parts part (insert_entry order J x v)) + part (found order J x) * G x ≡ held G (parts part J) + part v * G x →
          held G (parts part (insert_entry order (e ∷ J) x v)) + part (found order (e ∷ J) x) * G x ≡ held G (parts part (e ∷ J)) + part v * G x
      at_head Less p i = rw p (rw (lookup-none (is_at (order x)) J (none_below_head is_total x e J h p).1) (let y = ap (λ n. n * G x) z in omega arith))
      at_head Equal p i = rw p (rw (ap G (equal_is order tells x e.0 p)) (omega arith))
      at_head Greater p i = rw p (omega arith)

  pub adds : (x : Outcome) (w v : Pair) (J K : Pairs Outcome) → IsStrictlySortedBy order (keys_of J) → v ≡ sum_of order J x w → K ≡ insert_entry order J x v → Adds J x w K
  adds x w v J K h p q = record {
    least = λ G.
        let a = held_insert (λ w. w.0) refl G x v J h in
        let b = ap (λ K. held G (at_least K)) q in
        let c = ap (λ (v : Pair). v.0 * G x) p in
        omega arith;
    most = λ G.
        let a = held_insert (λ w. w.1) refl G x v J h in
        let b = ap (λ K. held G (at_most K)) q in
        let c = ap (λ (v : Pair). v.1 * G x) p in
        omega arith;
  }

-- ---- the outcomes of all states

pub record ResultsLeft (e : Expression) (J : Pairs Outcome) (I : Pairs State) (K : Pairs Outcome) (rest : Pairs State) : Type 0 where
  pub least : (G : Outcome → ℕ) → held G (at_least K) + held (λ s. G (outcome_of (value_of e s))) (at_least rest) ≡ held G (at_least J) + held (λ s. G (outcome_of (value_of e s))) (at_least I)
  pub most : (G : Outcome → ℕ) → held G (at_most K) + held (λ s. G (outcome_of (value_of e s))) (at_most rest) ≡ held G (at_most J) + held (λ s. G (outcome_of (value_of e s))) (at_most I)

module _ (e : Expression) (J : Pairs Outcome) (I : Pairs State) where
  pub results_start : (rest : Pairs State) → rest ≡ I → ResultsLeft e J I J rest
  results_start rest p = record {
    least = λ G. ap (λ I. held G (at_least J) + held (λ s. G (outcome_of (value_of e s))) (at_least I)) p;
    most = λ G. ap (λ I. held G (at_most J) + held (λ s. G (outcome_of (value_of e s))) (at_most I)) p;
  }

  module _ (K : Pairs Outcome) (rest : Pairs State) (h : ResultsLeft e J I K rest) where
    pub results_end : rest ≡ [] → AddsResults e J I K
    results_end p = record {
      least = λ G. let a = h.least G in let b = ap (λ I. held (λ s. G (outcome_of (value_of e s))) (at_least I)) p in omega arith;
      most = λ G. let a = h.most G in let b = ap (λ I. held (λ s. G (outcome_of (value_of e s))) (at_most I)) p in omega arith;
    }

    pub results_next : (s : State) (w : Pair) (next : Pairs State) → rest ≡ (s, w) ∷ next → (x : Outcome) → x ≡ outcome_of (value_of e s) → (K' : Pairs Outcome) → Adds K x w K' → ResultsLeft e J I K' next
    results_next s w next p x q K' a = record {
      least = λ G.
          let b = h.least G in
          let c = ap (λ I. held (λ s. G (outcome_of (value_of e s))) (at_least I)) p in
          let d = a.least G in
          let i = ap (λ x. w.0 * G x) q in
          omega arith;
      most = λ G.
          let b = h.most G in
          let c = ap (λ I. held (λ s. G (outcome_of (value_of e s))) (at_most I)) p in
          let d = a.most G in
          let i = ap (λ x. w.1 * G x) q in
          omega arith;
    }
