-- A table whose states are given by those of another has no more of them.
use Rattle.std.proofs.Common.{◌≡◌, ℕ, ◌≤◌, Bool, true, false, cond, ◌||◌, List, [], ◌∷◌, ◌++◌, map, length, refl, sym, ap, arith, true≢false}
use Rattle.std.specs.Prelude.{max}
use Rattle.std.specs.Bool.{Decides}
use Rattle.std.specs.Ordering.{int_eq}
use Rattle.std.specs.Cmp.{signed_Decides}
use Rattle.std.specs.Cmp.Lexicographic.{pointwise, pointwise_decides}
use Rattle.std.specs.Set.{is_member, unique_keys}
use Rattle.std.proofs.Math.Nat.{le-max_left, le-max_right}
use Rattle.gcl_core.specs.meaning.Value.{State}
use Rattle.table_flow.specs.Tables.{Table, states, most_states}
use Rattle.forgetful_peaks.proofs.Along.{Along}

abbrev same : State → State → Bool
same = pointwise int_eq

same_is : (x y : State) → Decides (same x y) (x ≡ y)
same_is = pointwise_decides signed_Decides

abbrev states_of : Table → List State
states_of I = map (λ e. e.1) I

module _ (R : State → State → Type 0) (once : (s t s' t' : State) → R s t → R s' t' → s ≡ s' → t ≡ t') where
  found_too : (s t : State) (I J : Table) → R s t → Along R I J → is_member same (states_of I) s ≡ true → is_member same (states_of J) t ≡ true
  found_too s t [] [] r h k = k
  found_too s t [] (d ∷ J) r h k = absurd h
  found_too s t (e ∷ I) [] r h k = absurd h
  found_too s t (e ∷ I) (d ∷ J) r h k = by_test (same s e.1) refl (found_too s t I J r h.1) k
    where
      by_test : (b : Bool) → same s e.1 ≡ b → (is_member same (states_of I) s ≡ true → is_member same (states_of J) t ≡ true) → (b || is_member same (states_of I) s) ≡ true → is_member same (states_of (d ∷ J)) t ≡ true
      by_test true q i k = ap (λ b. b || is_member same (states_of J) t) ((same_is t d.1).1 (once s t e.1 d.1 r h.0 ((same_is s e.1).0 q)))
      by_test false q i k = in_rest (same t d.1) (i k)
        where
          in_rest : (b : Bool) → is_member same (states_of J) t ≡ true → (b || is_member same (states_of J) t) ≡ true
          in_rest true k = refl
          in_rest false k = k

  pub fewer_states : (I J : Table) → Along R I J → states J ≤ states I
  fewer_states [] [] h = omega arith
  fewer_states [] (d ∷ J) h = absurd h
  fewer_states (e ∷ I) [] h = absurd h
  fewer_states (e ∷ I) (d ∷ J) h =
      by_tests (is_member same (states_of I) e.1) (is_member same (states_of J) d.1) (found_too e.1 d.1 I J h.0 h.1) (fewer_states I J h.1)
    where
      by_tests : (b c : Bool) → (b ≡ true → c ≡ true) → states J ≤ states I →
          length (cond c (unique_keys same (states_of J)) (d.1 ∷ unique_keys same (states_of J))) ≤ length (cond b (unique_keys same (states_of I)) (e.1 ∷ unique_keys same (states_of I)))
      by_tests true true k l = l
      by_tests true false k l = absurd (true≢false (sym (k refl)))
      by_tests false true k l = omega (arith, l)
      by_tests false false k l = omega (arith, l)

-- ---- many tables
max_at_most : (a b m : ℕ) → a ≤ m → b ≤ m → max a b ≤ m
max_at_most a b m p q = omega (arith, p, q)

pub most_at_most : (Is : List Table) (Js : List Table) (m : ℕ) → most_states Is ≤ m → most_states Js ≤ m → most_states (Is ++ Js) ≤ m
most_at_most [] Js m p q = q
most_at_most (I ∷ Is) Js m p q =
    max_at_most (states I) (most_states (Is ++ Js)) m (omega (arith, p, le-max_left (states I) (most_states Is)))
    (most_at_most Is Js m (omega (arith, p, le-max_right (states I) (most_states Is))) q)

pub most_left : (Is : List Table) (Js : List Table) → most_states Is ≤ most_states (Is ++ Js)
most_left [] Js = omega arith
most_left (I ∷ Is) Js =
    max_at_most (states I) (most_states Is) _ (le-max_left (states I) (most_states (Is ++ Js)))
    (let l = most_left Is Js in omega (arith, l, le-max_right (states I) (most_states (Is ++ Js))))

pub most_right : (Is : List Table) (Js : List Table) → most_states Js ≤ most_states (Is ++ Js)
most_right [] Js = omega arith
most_right (I ∷ Is) Js = let l = most_right Is Js in omega (arith, l, le-max_right (states I) (most_states (Is ++ Js)))

pub most_of_both : (Is Js As Bs : List Table) → most_states Js ≤ most_states Is → most_states Bs ≤ most_states As → most_states (Js ++ Bs) ≤ most_states (Is ++ As)
most_of_both Is Js As Bs p q =
    most_at_most Js Bs (most_states (Is ++ As)) (omega (arith, p, most_left Is As)) (omega (arith, q, most_right Is As))
