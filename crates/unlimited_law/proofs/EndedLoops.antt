-- A loop, turn by turn: its visits are the tables of its turns together, and where no turn ran out they balance.
use Rattle.std.proofs.Common.{◌≡◌, ℕ, zero, suc, ◌+◌, ◌≤◌, Bool, true, false, cond, Ok, Err, [], ◌∷◌, ◌++◌, None, refl, ap, ◌∙◌, arith}
use Rattle.gcl_core.specs.declared.answers.Limit.TheVariants.{Turns, Attempts, Rounds}
use Rattle.gcl_core.specs.meaning.Syntax.{Statements}
use Rattle.gcl_core.specs.meaning.Value.{State, Value}
use Rattle.gcl_core.specs.meaning.Blocks.{End, on, failed, fault, limit, by_value}
use Rattle.gcl_core.specs.weighing.Fractions.{Fraction}
use Rattle.gcl_core.specs.weighing.WeightedEnds.{Weighted}
use Rattle.table_flow.specs.Tables.{Table, holds, fails, only, faults, all_end, block_flow}
use Rattle.table_flow.proofs.FlowWords.{loop_flow}
use Rattle.table_flow.proofs.Positive.{Positive, p_append, p_only}
use Rattle.table_flow.proofs.Spreads.{sum_of_all, Zero, sum_append}
use Rattle.unlimited_law.proofs.LinearFlows.{numerators, next_adds, ended_adds, next_nothing, ended_nothing}

-- ---- what ran out of turns
abbrev pub out_of_turns : Fraction → End → ℕ
out_of_turns w (on s) = 0
out_of_turns w failed = 0
out_of_turns w (fault f) = 0
out_of_turns w (limit Turns) = w.0
out_of_turns w (limit Attempts) = 0
out_of_turns w (limit Rounds) = 0

pub out_zero : Zero out_of_turns
out_zero d (on s) = refl
out_zero d failed = refl
out_zero d (fault f) = refl
out_zero d (limit Turns) = refl
out_zero d (limit Attempts) = refl
out_zero d (limit Rounds) = refl

abbrev pub Suffice : Weighted End → Type 0
Suffice ended = sum_of_all out_of_turns ended ≡ 0

-- ---- parts of two tables
pub only_append : (test : State → Bool) (I J : Table) → only test (I ++ J) ≡ only test I ++ only test J
only_append test [] J = refl
only_append test (e ∷ I) J = by (test e.1) (only_append test I J)
  where
    by : (b : Bool) → only test (I ++ J) ≡ only test I ++ only test J → cond b (e ∷ only test (I ++ J)) (only test (I ++ J)) ≡ cond b (e ∷ only test I) (only test I) ++ only test J
    by true i = ap (λ m. e ∷ m) i
    by false i = i

faults_append : (F : Fraction → End → ℕ) (v : State → Value) (I J : Table) → sum_of_all F (faults v (I ++ J)) ≡ sum_of_all F (faults v I) + sum_of_all F (faults v J)
faults_append F v [] J = omega arith
faults_append F v (e ∷ I) J = by (v e.1) (faults_append F v I J)
  where
    by : (o : Value) → sum_of_all F (faults v (I ++ J)) ≡ sum_of_all F (faults v I) + sum_of_all F (faults v J) →
        sum_of_all F (by_value o (λ f. (e.0, fault f) ∷ faults v (I ++ J)) (λ z. faults v (I ++ J))) ≡ sum_of_all F (by_value o (λ f. (e.0, fault f) ∷ faults v I) (λ z. faults v I)) + sum_of_all F (faults v J)
    by (Ok z) i = i
    by (Err f) i = omega arith

end_numerators : (I : Table) → sum_of_all out_of_turns (all_end (limit Turns) I) ≡ numerators I
end_numerators [] = refl
end_numerators (e ∷ I) = ap (λ x. e.0.0 + x) (end_numerators I)

end_nothing : (F : Fraction → End → ℕ) (x : End) (I : Table) → Zero F → numerators I ≡ 0 → sum_of_all F (all_end x I) ≡ 0
end_nothing F x [] z h = refl
end_nothing F x (e ∷ I) z h =
    let i = end_nothing F x I z (omega arith) in
    let n : e.0.0 ≡ 0 = omega arith in
    let a = ap (λ y. F (y, e.0.1) x) n ∙ z e.0.1 x in
    omega arith

module _ (n : ℕ) (v : State → Value) (a : Statements) where
  abbrev turn : Table → Table
  turn J = (block_flow n None a (only (holds v) J)).next

  abbrev ends : Table → Weighted End
  ends J = (block_flow n None a (only (holds v) J)).ended

  abbrev loop_from : ℕ → Table → Weighted End
  loop_from t J = (loop_flow v (block_flow n None a) t J).ended

  -- the tables in which the guard is evaluated, together
  abbrev pub visits : ℕ → Table → Table
  visits zero J = J
  visits (suc t) J = J ++ visits t (turn J)

  abbrev last : ℕ → Table → Table
  last zero J = J
  last (suc t) J = last t (turn J)

  pub visits_positive : ((J : Table) → Positive J → Positive (block_flow n None a J).next) → (t : ℕ) (J : Table) → Positive J → Positive (visits t J)
  visits_positive keeps zero J h = h
  visits_positive keeps (suc t) J h = p_append J (visits t (turn J)) h (visits_positive keeps t (turn J) (keeps (only (holds v) J) (p_only (holds v) J h)))

  pub turn_adds : (G : Fraction → State → ℕ) → Zero G → (I J : Table) → sum_of_all G (turn (I ++ J)) ≡ sum_of_all G (turn I) + sum_of_all G (turn J)
  turn_adds G z I J = ap (λ K. sum_of_all G (block_flow n None a K).next) (only_append (holds v) I J) ∙ next_adds n a G z (only (holds v) I) (only (holds v) J)

  pub ends_add : (F : Fraction → End → ℕ) → Zero F → (I J : Table) → sum_of_all F (ends (I ++ J)) ≡ sum_of_all F (ends I) + sum_of_all F (ends J)
  ends_add F z I J = ap (λ K. sum_of_all F (block_flow n None a K).ended) (only_append (holds v) I J) ∙ ended_adds n a F z (only (holds v) I) (only (holds v) J)

  -- ---- whatever is left at the last turn
  balance : (G : Fraction → State → ℕ) → Zero G → (t : ℕ) (J : Table) → sum_of_all G (visits t J) + sum_of_all G (turn (last t J)) ≡ sum_of_all G J + sum_of_all G (turn (visits t J))
  balance G z zero J = refl
  balance G z (suc t) J =
      let i = balance G z t (turn J) in
      let b = sum_append G J (visits t (turn J)) in
      let c = turn_adds G z J (visits t (turn J)) in
      omega arith

  all_ended : (F : Fraction → End → ℕ) → Zero F → (t : ℕ) (J : Table) →
      sum_of_all F (loop_from t J) + sum_of_all F (ends (last t J)) ≡ sum_of_all F (faults v (visits t J)) + sum_of_all F (ends (visits t J)) + sum_of_all F (all_end (limit Turns) (only (holds v) (last t J)))
  all_ended F z zero J = let b = sum_append F (faults v J) (all_end (limit Turns) (only (holds v) J)) in omega arith
  all_ended F z (suc t) J =
      let i = all_ended F z t (turn J) in
      let b = sum_append F (faults v J) (ends J ++ loop_from t (turn J)) in
      let c = sum_append F (ends J) (loop_from t (turn J)) in
      let d = faults_append F v J (visits t (turn J)) in
      let e = ends_add F z J (visits t (turn J)) in
      omega arith

  late_part : (t : ℕ) (J : Table) → sum_of_all out_of_turns (all_end (limit Turns) (only (holds v) (last t J))) ≤ sum_of_all out_of_turns (loop_from t J)
  late_part zero J = let b = sum_append out_of_turns (faults v J) (all_end (limit Turns) (only (holds v) J)) in omega arith
  late_part (suc t) J =
      let i = late_part t (turn J) in
      let b = sum_append out_of_turns (faults v J) (ends J ++ loop_from t (turn J)) in
      let c = sum_append out_of_turns (ends J) (loop_from t (turn J)) in
      omega arith

  pub loop_next : (G : Fraction → State → ℕ) (t : ℕ) (J : Table) → sum_of_all G (loop_flow v (block_flow n None a) t J).next ≡ sum_of_all G (only (fails v) (visits t J))
  loop_next G zero J = refl
  loop_next G (suc t) J =
      let i = loop_next G t (turn J) in
      let b = sum_append G (only (fails v) J) (loop_flow v (block_flow n None a) t (turn J)).next in
      let c = sum_append G (only (fails v) J) (only (fails v) (visits t (turn J))) in
      let d = ap (λ K. sum_of_all G K) (only_append (fails v) J (visits t (turn J))) in
      omega arith

  -- ---- where no turn ran out
  module _ (t : ℕ) (J : Table) (suffice : Suffice (loop_from t J)) where
    none_left : numerators (only (holds v) (last t J)) ≡ 0
    none_left = let c = late_part t J in let d = end_numerators (only (holds v) (last t J)) in omega arith

    pub balances : (G : Fraction → State → ℕ) → Zero G → sum_of_all G (visits t J) ≡ sum_of_all G J + sum_of_all G (turn (visits t J))
    balances G z = let c = balance G z t J in let d = next_nothing n a G z (only (holds v) (last t J)) none_left in omega arith

    pub loop_ended : (F : Fraction → End → ℕ) → Zero F → sum_of_all F (loop_from t J) ≡ sum_of_all F (faults v (visits t J)) + sum_of_all F (ends (visits t J))
    loop_ended F z =
        let c = all_ended F z t J in
        let d = ended_nothing n a F z (only (holds v) (last t J)) none_left in
        let e = end_nothing F (limit Turns) (only (holds v) (last t J)) z none_left in
        omega arith

    pub turns_suffice : Suffice (ends (visits t J))
    turns_suffice = let c = loop_ended out_of_turns out_zero in omega arith
