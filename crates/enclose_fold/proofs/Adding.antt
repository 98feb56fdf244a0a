-- More units of an outcome, and the outcomes of all states that a body ends in.
use Rattle.std.proofs.Common.{◌≡◌, ℕ, ◌+◌, ◌*◌, ◌≤◌, Bool, true, false, cond, Ordering, Some, None, [], ◌∷◌, refl, sym, ap, subst, arith}
use Rattle.std.specs.Prelude.{Contains}
use Rattle.std.specs.declared.cmp.Ordering.TheVariants.{Less, Equal, Greater}
use Rattle.std.specs.Cmp.{IsTotalOrder}
use Rattle.std.specs.BTreeMap.{insert_entry, is_at}
use Rattle.std.specs.Map.{keys_of, lookup}
use Rattle.std.specs.Option.{unwrap_or}
use Rattle.std.specs.List.Sorted.{IsStrictlySortedBy}
use Rattle.std.proofs.lemmas.Map.{lookup-none}
use Rattle.std.proofs.lemmas.Map.Entries.{none_below_head}
use Rattle.std.proofs.lemmas.Map.Keys.{sorted_tail}
use Rattle.gcl_core.specs.declared.answers.Outcome.{Outcome}
use Rattle.gcl_core.specs.meaning.Outcomes.{outcome_of}
use Rattle.gcl_core.specs.meaning.Syntax.{Expression}
use Rattle.gcl_core.specs.meaning.Value.{State, value_of}
use Rattle.mass_fold.proofs.OutcomeKeys.{Tells, equal_is}
use Rattle.bounds_law.proofs.Contained.{first_in, later_in}
use Rattle.units_law.specs.Units.{Units, held, total}
use Rattle.enclose_fold.specs.inner.Outcomes.{found, those, Adds, AddsResults}

-- ---- what an outcome has

pub found_none : (at : Outcome → Bool) (J : Units Outcome) → lookup at J ≡ None → unwrap_or (lookup at J) 0 ≡ 0
found_none at J e = ap (λ o. unwrap_or o 0) e

pub found_some : (at : Outcome → Bool) (J : Units Outcome) (v : ℕ) → lookup at J ≡ Some v → unwrap_or (lookup at J) 0 ≡ v
found_some at J v e = ap (λ o. unwrap_or o 0) e

-- it is no more than all
pub found_within : (at : Outcome → Bool) (v : ℕ) (J : Units Outcome) → lookup at J ≡ Some v → v ≤ total J
found_within at v [] e = absurd (cc)
found_within at v (d ∷ J) e = at_head (at d.0) e (found_within at v J)
  where
    at_head : (b : Bool) → cond b (Some d.1) (lookup at J) ≡ Some v → (lookup at J ≡ Some v → v ≤ total J) → v ≤ total (d ∷ J)
    at_head true p i = let q : d.1 ≡ v = cc in omega arith
    at_head false p i = let r = i p in omega arith

-- ---- one outcome more

module _ (order : Outcome → Outcome → Ordering) (tells : Tells order) (is_total : IsTotalOrder order) where
  held_insert : (G : Outcome → ℕ) (x : Outcome) (v : ℕ) (J : Units Outcome) → IsStrictlySortedBy order (keys_of J) → held G (insert_entry order J x v) + found order J x * G x ≡ held G J + v * G x
  held_insert G x v [] h = omega arith
  held_insert G x v (e ∷ J) h = at_head (order x e.0) refl (held_insert G x v J (sorted_tail order e.0 (keys_of J) h))
    where
      at_head : (o : Ordering) → order x e.0 ≡ o → held G (insert_entry order J x v) + found order J x * G x ≡ held G J + v * G x →
          held G (insert_entry order (e ∷ J) x v) + found order (e ∷ J) x * G x ≡ held G (e ∷ J) + v * G x
      at_head Less p i = rw p (rw (lookup-none (is_at (order x)) J (none_below_head is_total x e J h p).1) (omega arith))
      at_head Equal p i = rw p (rw (ap G (equal_is order tells x e.0 p)) (omega arith))
      at_head Greater p i = rw p (omega arith)

  key_there : (x : Outcome) (v : ℕ) (J : Units Outcome) → Contains (keys_of (insert_entry order J x v)) x
  key_there x v [] = first_in x [] x refl
  key_there x v (e ∷ J) = at_head (order x e.0) refl (key_there x v J)
    where
      at_head : (o : Ordering) → order x e.0 ≡ o → Contains (keys_of (insert_entry order J x v)) x → Contains (keys_of (insert_entry order (e ∷ J) x v)) x
      at_head Less p i = rw p (first_in x (keys_of (e ∷ J)) x refl)
      at_head Equal p i = rw p (first_in e.0 (keys_of J) x (sym (equal_is order tells x e.0 p)))
      at_head Greater p i = rw p (later_in e.0 (keys_of (insert_entry order J x v)) x i)

  module _ (x : Outcome) (w v : ℕ) (J K : Units Outcome) (h : IsStrictlySortedBy order (keys_of J)) (sum : v ≡ found order J x + w) (is : K ≡ insert_entry order J x v) where
    joined : (G : Outcome → ℕ) → held G K ≡ held G J + w * G x
    joined G = let i = held_insert G x v J h in let z = ap (λ v. v * G x) sum in let y = ap (held G) is in omega arith

    pub adds : Adds J x w K
    adds = record { sums = λ meant. joined (λ y. cond (meant y) 1 0); there = subst (λ K. Contains (keys_of K) x) (sym is) (key_there x v J) }

    pub adds_all : total K ≡ total J + w
    adds_all = let z = joined (λ y. 1) in omega arith

-- ---- the outcomes of all states

abbrev pub by_result : Expression → (Outcome → Bool) → State → ℕ
by_result e meant s = cond (meant (outcome_of (value_of e s))) 1 0

-- what stands once the rest of the states is left
abbrev pub ResultsLeft : Expression → Units Outcome → Units State → Units Outcome → Units State → Type 0
ResultsLeft e J I K rest = (meant : Outcome → Bool) → those meant K + held (by_result e meant) rest ≡ those meant J + held (by_result e meant) I

module _ (e : Expression) (J : Units Outcome) (I : Units State) where
  pub results_start : (start : Units State) → start ≡ I → ResultsLeft e J I J start
  results_start start p meant = ap (λ I. those meant J + held (by_result e meant) I) p

  module _ (K : Units Outcome) (rest : Units State) where
    pub results_end : rest ≡ [] → ResultsLeft e J I K rest → AddsResults e J I K
    results_end p left meant = let z = left meant in let y = ap (held (by_result e meant)) p in omega arith

    pub results_all : rest ≡ [] → ResultsLeft e J I K rest → total K ≡ total J + total I
    results_all p left = results_end p left (λ x. true)

    module _ (s : State) (w : ℕ) (rest' : Units State) (p : rest ≡ (s, w) ∷ rest') (left : ResultsLeft e J I K rest) where
      pub results_room : total K + w ≤ total J + total I
      results_room =
          let z : total K + total rest ≡ total J + total I = left (λ x. true) in
          let y = ap total p in
          omega arith

      pub results_next : (x : Outcome) → x ≡ outcome_of (value_of e s) → (K' : Units Outcome) → Adds K x w K' → ResultsLeft e J I K' rest'
      results_next x q K' a meant =
          let z = left meant in
          let y = ap (held (by_result e meant)) p in
          let b = a.sums meant in
          let u = ap (λ x. w * cond (meant x) 1 0) q in
          omega arith
