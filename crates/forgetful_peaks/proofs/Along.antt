-- Two tables, entry by entry, whose states are related, through each step of a block.
use Rattle.std.proofs.Common.{◌≡◌, ℕ, zero, suc, ℤ, pos, negsuc, Bool, true, false, cond, Option, Ok, Err, [], ◌∷◌, ◌++◌, map, refl, subst}
use Rattle.std.specs.Prelude.{slice_set}
use Rattle.gcl_core.specs.meaning.Blocks.{by_value, by_bound}
use Rattle.gcl_core.specs.meaning.Value.{State, Value}
use Rattle.gcl_core.specs.weighing.Fractions.{Fraction, times}
use Rattle.gcl_core.specs.weighing.WeightedEnds.{scaled, class_weight}
use Rattle.table_flow.specs.Tables.{Table, only}
use Rattle.table_flow.proofs.FlowWords.{set_to, set_below, set_drawn}

abbrev pub Along : (State → State → Type 0) → Table → Table → Type 0
Along R [] [] = Unit {0}
Along R [] (d ∷ J) = ⊥
Along R (e ∷ I) [] = ⊥
Along R (e ∷ I) (d ∷ J) = R e.1 d.1 × Along R I J

pub along_both : (R : State → State → Type 0) (I J A B : Table) → Along R I J → Along R A B → Along R (I ++ A) (J ++ B)
along_both R [] [] A B h k = k
along_both R [] (d ∷ J) A B h k = absurd h
along_both R (e ∷ I) [] A B h k = absurd h
along_both R (e ∷ I) (d ∷ J) A B h k = (h.0, along_both R I J A B h.1 k)

pub along_to : (R Q : State → State → Type 0) (I J : Table) → ((s t : State) → R s t → Q s t) → Along R I J → Along Q I J
along_to R Q [] [] to h = h
along_to R Q [] (d ∷ J) to h = absurd h
along_to R Q (e ∷ I) [] to h = absurd h
along_to R Q (e ∷ I) (d ∷ J) to h = (to e.1 d.1 h.0, along_to R Q I J to h.1)

along_times : (R : State → State → Type 0) (p : Fraction) (I J : Table) → Along R I J →
    Along R (map (λ e. (times p e.0, e.1)) I) (map (λ e. (times p e.0, e.1)) J)
along_times R p [] [] h = h
along_times R p [] (d ∷ J) h = absurd h
along_times R p (e ∷ I) [] h = absurd h
along_times R p (e ∷ I) (d ∷ J) h = (h.0, along_times R p I J h.1)

pub along_scaled : (R : State → State → Type 0) (p : Fraction) (I J : Table) → Along R I J → Along R (scaled p I) (scaled p J)
along_scaled R (zero, d) I J h = cc
along_scaled R (suc n, d) I J h = along_times R (suc n, d) I J h

-- the states that pass a test, which says the same of both
pub along_only : (R : State → State → Type 0) (test : State → Bool) (I J : Table) → ((s t : State) → R s t → test s ≡ test t) → Along R I J →
    Along R (only test I) (only test J)
along_only R test [] [] same h = h
along_only R test [] (d ∷ J) same h = absurd h
along_only R test (e ∷ I) [] same h = absurd h
along_only R test (e ∷ I) (d ∷ J) same h =
    subst (λ b. Along R (cond (test e.1) (e ∷ only test I) (only test I)) (cond b (d ∷ only test J) (only test J))) (same e.1 d.1 h.0)
    (by_test (test e.1) (along_only R test I J same h.1))
  where
    by_test : (b : Bool) → Along R (only test I) (only test J) → Along R (cond b (e ∷ only test I) (only test I)) (cond b (d ∷ only test J) (only test J))
    by_test true k = (h.0, k)
    by_test false k = k

-- a variable set to a value, which is the same for both
pub along_set : (R Q : State → State → Type 0) (x : ℕ) (v : State → Value) (I J : Table) → ((s t : State) → R s t → v s ≡ v t) →
    ((s t : State) (z : ℤ) → v s ≡ Ok z → R s t → Q (slice_set s x z) (slice_set t x z)) → Along R I J → Along Q (set_to x v I) (set_to x v J)
along_set R Q x v [] [] same sets h = h
along_set R Q x v [] (d ∷ J) same sets h = absurd h
along_set R Q x v (e ∷ I) [] same sets h = absurd h
along_set R Q x v (e ∷ I) (d ∷ J) same sets h =
    subst (λ w. Along Q (set_to x v (e ∷ I)) (by_value w (λ f. set_to x v J) (λ z. (d.0, slice_set d.1 x z) ∷ set_to x v J))) (same e.1 d.1 h.0)
    (by_result (v e.1) refl (along_set R Q x v I J same sets h.1))
  where
    by_result : (w : Value) → v e.1 ≡ w → Along Q (set_to x v I) (set_to x v J) → Along Q (by_value w (λ f. set_to x v I) (λ z. (e.0, slice_set e.1 x z) ∷ set_to x v I))
        (by_value w (λ f. set_to x v J) (λ z. (d.0, slice_set d.1 x z) ∷ set_to x v J))
    by_result (Ok z) k rest = (sets e.1 d.1 z k h.0, rest)
    by_result (Err f) k rest = rest

-- a variable forgotten in the second table alone
pub along_forgotten : (R Q : State → State → Type 0) (x : ℕ) (I J : Table) → ((s t : State) → R s t → Q s (slice_set t x (pos 0))) → Along R I J →
    Along Q I (set_to x (λ s. Ok (pos 0)) J)
along_forgotten R Q x [] [] sets h = h
along_forgotten R Q x [] (d ∷ J) sets h = absurd h
along_forgotten R Q x (e ∷ I) [] sets h = absurd h
along_forgotten R Q x (e ∷ I) (d ∷ J) sets h = (sets e.1 d.1 h.0, along_forgotten R Q x I J sets h.1)

along_moved : (R Q : State → State → Type 0) (x : ℕ) (z : ℤ) (I J : Table) → ((s t : State) → R s t → Q (slice_set s x z) (slice_set t x z)) → Along R I J →
    Along Q (map (λ e. (e.0, slice_set e.1 x z)) I) (map (λ e. (e.0, slice_set e.1 x z)) J)
along_moved R Q x z [] [] sets h = h
along_moved R Q x z [] (d ∷ J) sets h = absurd h
along_moved R Q x z (e ∷ I) [] sets h = absurd h
along_moved R Q x z (e ∷ I) (d ∷ J) sets h = (sets e.1 d.1 h.0, along_moved R Q x z I J sets h.1)

along_below : (R Q : State → State → Type 0) (x m : ℕ) (I J : Table) → ((s t : State) (z : ℤ) → R s t → Q (slice_set s x z) (slice_set t x z)) → Along R I J →
    Along Q (set_below x m I) (set_below x m J)
along_below R Q x zero I J sets h = cc
along_below R Q x (suc m) I J sets h =
    along_both Q (set_below x m I) (set_below x m J) _ _ (along_below R Q x m I J sets h) (along_moved R Q x (pos m) I J (λ s t. sets s t (pos m)) h)

-- a variable set to each number below a value, which is the same for both
pub along_drawn : (R Q : State → State → Type 0) (x : ℕ) (v : State → Value) (r : Option ℕ) (I J : Table) → ((s t : State) → R s t → v s ≡ v t) →
    ((s t : State) (z : ℤ) → R s t → Q (slice_set s x z) (slice_set t x z)) → Along R I J → Along Q (set_drawn x v r I) (set_drawn x v r J)
along_drawn R Q x v r [] [] same sets h = h
along_drawn R Q x v r [] (d ∷ J) same sets h = absurd h
along_drawn R Q x v r (e ∷ I) [] same sets h = absurd h
along_drawn R Q x v r (e ∷ I) (d ∷ J) same sets h =
    along_both Q (one e (v e.1)) (one d (v d.1)) (set_drawn x v r I) (set_drawn x v r J)
    (subst (λ w. Along Q (one e (v e.1)) (one d w)) (same e.1 d.1 h.0) (by_result (v e.1)))
    (along_drawn R Q x v r I J same sets h.1)
  where
    one : Fraction × State → Value → Table
    one e w = by_value w (λ f. []) (λ z. by_bound z [] (λ m. set_below x m (scaled (class_weight m r 1) (e ∷ []))))

    by_result : (w : Value) → Along Q (one e w) (one d w)
    by_result (Ok (pos zero)) = cc
    by_result (Ok (pos (suc m))) =
        along_below R Q x (suc m) _ _ sets (along_scaled R (class_weight (suc m) r 1) (e ∷ []) (d ∷ []) (h.0, cc))
    by_result (Ok (negsuc m)) = cc
    by_result (Err f) = cc
