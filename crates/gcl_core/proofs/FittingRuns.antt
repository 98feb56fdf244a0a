-- Numbers of 64 bits stay numbers of 64 bits: in blocks, rounds and runs.
use Rattle.std.proofs.Common.{◌≡◌, ℕ, zero, suc, ◌<◌, ℤ, Bool, true, false, Option, Some, None, Ok, Err, List, [], ◌∷◌, ◌++◌, length, refl, subst, arith}
use Rattle.std.specs.Prelude.{FitsSigned, IfSome, if◌then◌else◌}
use Rattle.std.specs.Int.{w64}
use Rattle.gcl_core.specs.declared.answers.Answer.TheVariants.{Ended}
use Rattle.gcl_core.specs.declared.answers.Limits.{Limits}
use Rattle.gcl_core.specs.declared.answers.Outcome.{Outcome}
use Rattle.gcl_core.specs.declared.answers.Outcome.TheVariants as outcome
use Rattle.gcl_core.specs.meaning.Bounds.{BlockFits}
use Rattle.gcl_core.specs.meaning.Syntax.{Statements, SourceProgram}
use Rattle.gcl_core.specs.meaning.Value.{State, Value, value_of, fits_64}
use Rattle.gcl_core.specs.meaning.Reading.{Reading, gives, more_bits, after}
use Rattle.gcl_core.specs.meaning.Draw.{class_of, first_of, decides, bits_for, last_end, attempt_from, attempt_on, draw_on}
use Rattle.gcl_core.specs.meaning.Blocks.{End, on, failed, fault, limit, block_on, class_on}
use Rattle.gcl_core.proofs.Plays.{Play, on_bits, block_bits}
use Rattle.gcl_core.specs.meaning.Fitting.{state_fits}
use Rattle.gcl_core.specs.meaning.Checked.{IsChecked}
use Rattle.gcl_core.specs.meaning.Runs.{rounds_on, answer_of, run_on}
use Rattle.gcl_core.specs.meaning.Outcomes.{zeros, outcome_of}
use Rattle.gcl_core.proofs.Classes.{class_within}
use Rattle.gcl_core.proofs.CutPlays.{Cut, same_end, no_turns, same_draw, block_cut}
use Rattle.gcl_core.proofs.FittingValues.{end_fits, zeros_fit, ValueFits, each_value_fits, signed_64}

-- ---- facts of what a reading answers

abbrev OnAnswer : {A : Type 0} → (A → Type 0) → Reading A → Type 0
OnAnswer P (gives a rest) = P a
OnAnswer P more_bits = Unit {0}

after_on : {A B : Type 0} (P : A → Type 0) (Q : B → Type 0) (x : Reading A) (go : A → List Bool → Reading B) →
    OnAnswer P x → ((a : A) (rest : List Bool) → P a → OnAnswer Q (go a rest)) → OnAnswer Q (after x go)
after_on P Q (gives a rest) go h next = next a rest h
after_on P Q more_bits go h next = tt

-- ---- draws: a class is below the number of the ends

abbrev ClassBelow : ℕ → Option ℕ → Type 0
ClassBelow n class = IfSome class (λ i. i < n)

attempt_below : (ends : List ℕ) (k : ℕ) (u w : List Bool) → OnAnswer (ClassBelow (length ends)) (attempt_from ends k u w)
attempt_below ends k u [] = by_test (decides ends k u)
  where
    by_test : (b : Bool) → OnAnswer (ClassBelow (length ends)) (if b then gives (class_of ends (first_of k u)) [] else more_bits)
    by_test true = class_within ends (first_of k u) (class_of ends (first_of k u)) refl
    by_test false = tt
attempt_below ends k u (c ∷ w) = by_test (decides ends k u) (attempt_from ends k (u ++ c ∷ []) w) (attempt_below ends k (u ++ c ∷ []) w)
  where
    by_test : (b : Bool) (x : Reading (Option ℕ)) → OnAnswer (ClassBelow (length ends)) x → OnAnswer (ClassBelow (length ends)) (if b then gives (class_of ends (first_of k u)) (c ∷ w) else x)
    by_test true x h = class_within ends (first_of k u) (class_of ends (first_of k u)) refl
    by_test false x h = h

draw_below : (ends : List ℕ) (r : ℕ) (w : List Bool) → OnAnswer (ClassBelow (length ends)) (draw_on ends r w)
draw_below ends zero w = tt
draw_below ends (suc r) w =
    after_on (ClassBelow (length ends)) (ClassBelow (length ends)) (attempt_on ends w) _ (attempt_below ends (bits_for (last_end ends)) [] w)
    (elim [ Some i ↦ λ rest lt. lt | None ↦ λ rest h. draw_below ends r rest ])

-- ---- blocks

abbrev Fits : Reading End → Type 0
Fits x = OnAnswer (λ e. end_fits e ≡ true) x

drawn_fits : (ends : List ℕ) (r : ℕ) (w : List Bool) (go : ℕ → List Bool → Reading End) → ((i : ℕ) (rest : List Bool) → i < length ends → Fits (go i rest)) →
    Fits (class_on (draw_on ends r w) go)
drawn_fits ends r w go next =
    after_on (ClassBelow (length ends)) (λ e. end_fits e ≡ true) (draw_on ends r w) _ (draw_below ends r w) (elim [ Some i ↦ λ rest lt. next i rest lt | None ↦ λ rest h. refl ])

play_fits : (r d : ℕ) (p q : Play) → Cut r ⊥ ⊥ d p q → (w : List Bool) → Fits (on_bits r q w)
play_fits r d p q (same_end e h) w = h
play_fits r d p q (no_turns l h) w = absurd l
play_fits r d p q (same_draw e cs k k' ok le h) w = drawn_fits cs r w _ (λ i rest lt. play_fits r e (k i) (k' i) (h i lt) rest)

block_fits : (n r : ℕ) (b : Statements) → BlockFits b → (s : State) (w : List Bool) → state_fits s ≡ true → Fits (block_on n r b s w)
block_fits n r b fit s w h = subst (λ reader. Fits (reader w)) (block_bits n r b s) (play_fits r _ _ _ (block_cut r ⊥ ⊥ n n (omega arith) (λ lt. absurd (omega arith)) b (λ x. absurd x) fit s h) w)

pub block_state : (n r : ℕ) (b : Statements) (s end : State) (w rest : List Bool) → BlockFits b → state_fits s ≡ true → block_on n r b s w ≡ gives (on end) rest → state_fits end ≡ true
block_state n r b s end w rest fit h is = subst Fits is (block_fits n r b fit s w h)

pub round_state : (p : SourceProgram) (n r : ℕ) (end : State) (w rest : List Bool) → IsChecked p → block_on n r p.body (zeros (length p.names)) w ≡ gives (on end) rest → state_fits end ≡ true
round_state p n r end w rest ok is = block_state n r p.body (zeros (length p.names)) end w rest ok.numbers.body (zeros_fit (length p.names)) is

-- ---- runs

abbrev OutcomeFits : Outcome → Type 0
OutcomeFits (outcome.Value v) = fits_64 v ≡ true
OutcomeFits (outcome.Fault f) = Unit {0}
OutcomeFits (outcome.Limit l) = Unit {0}

outcome_fits : (v : Value) → ValueFits v → OutcomeFits (outcome_of v)
outcome_fits (Ok v) h = h
outcome_fits (Err f) h = tt

rounds_fit : (p : SourceProgram) → IsChecked p → (n r R : ℕ) (w : List Bool) → OnAnswer OutcomeFits (rounds_on p n r R w)
rounds_fit p ok n r zero w = tt
rounds_fit p ok n r (suc R) w =
    after_on (λ e. end_fits e ≡ true) OutcomeFits (block_on n r p.body (zeros (length p.names)) w) _ (block_fits n r p.body ok.numbers.body (zeros (length p.names)) w (zeros_fit (length p.names)))
    (elim [
      | on s ↦ λ rest h. outcome_fits (value_of p.result s) (each_value_fits p.result s ok.numbers.result h)
      | failed ↦ λ rest h. rounds_fit p ok n r R rest
      | fault f ↦ λ rest h. tt
      | limit l ↦ λ rest h. tt
    ])

answer_fits : (w : List Bool) (x : Reading Outcome) (v : ℤ) (read : ℕ) → OnAnswer OutcomeFits x → answer_of w x ≡ Ended (outcome.Value v) read → fits_64 v ≡ true
answer_fits w (gives x rest) v read h is = let e : x ≡ outcome.Value v = cc in subst OutcomeFits e h
answer_fits w more_bits v read h is = cc

pub run_value : (p : SourceProgram) (l : Limits) (w : List Bool) (v : ℤ) (read : ℕ) → IsChecked p → run_on p l w ≡ Ended (outcome.Value v) read → FitsSigned w64 v
run_value p l w v read ok is = (signed_64 v).0 (answer_fits w (rounds_on p l.turns l.attempts l.rounds w) v read (rounds_fit p ok l.turns l.attempts l.rounds w) is)
