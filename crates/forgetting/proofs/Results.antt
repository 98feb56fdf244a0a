-- What runs and weights make of a body is what they make of the body with its result behind it. So bodies that play alike before
-- the result give the same.
use Rattle.std.proofs.Common.{◌≡◌, ℕ, zero, suc, Bool, false, Option, Some, None, Ok, Err, List, [], ◌∷◌, ◌++◌, length, refl, sym, ap, ◌∙◌}
use Rattle.std.specs.Prelude.{if◌then◌else◌}
use Rattle.std.proofs.Math.Path.{fun_ext}
use Rattle.gcl_core.specs.declared.answers.Limit.TheVariants.{Attempts, Rounds}
use Rattle.gcl_core.specs.declared.answers.Outcome.{Outcome}
use Rattle.gcl_core.specs.declared.answers.Outcome.TheVariants as outcome
use Rattle.gcl_core.specs.meaning.Syntax.{Expression, Var, SourceProgram}
use Rattle.gcl_core.specs.meaning.Value.{State, Value, value_of}
use Rattle.gcl_core.specs.meaning.Reading.{Reading, gives, more_bits, after}
use Rattle.gcl_core.specs.meaning.Draw.{draw_on}
use Rattle.gcl_core.specs.meaning.Outcomes.{zeros, outcome_of}
use Rattle.gcl_core.specs.meaning.Blocks.{End, on, failed, fault, limit, by_end, by_class, class_on}
use Rattle.gcl_core.specs.meaning.Runs.{by_round, rounds_with, answer_of}
use Rattle.gcl_core.specs.meaning.Runs as runs
use Rattle.gcl_core.specs.weighing.Fractions.{Fraction, zero_share, one, plus, times, power, power_sum, divided_by_rest}
use Rattle.gcl_core.specs.weighing.WeightedEnds.{Weighted, sure, scaled, taken_on, weighted_classes, weighted_ends}
use Rattle.gcl_core.specs.weighing.Mass.{sum_of, ends_in, is_failed, round_mass, failed_mass, mass_of_those}
use Rattle.gcl_core.proofs.Plays.{Play, ended, drawing, with_end, block_play, on_bits, block_bits}
use Rattle.weighing_law.proofs.WeighedPlays.{weighed, weighed_block}
use Rattle.forgetting.specs.Liveness.{no_names, reads}
use Rattle.forgetting.specs.Forgetful.{forgetful_of}
use Rattle.forgetting.specs.SameMeaning.{SameMeaning}
use Rattle.forgetting.proofs.Agreeing.{value_agrees}
use Rattle.forgetting.proofs.Forgetting.{Alike, block_alike}
use Rattle.forgetting.proofs.Trimmed.{trimmed, same_bits, same_weights}

-- ---- the result, as the end of a block: a state of one number
abbrev pub value_end : Value → End
value_end (Ok v) = on (v ∷ [])
value_end (Err f) = fault f

module _ (result : Expression) where
  abbrev finished : End → End
  finished e = by_end e (λ e. e) (λ s. value_end (value_of result s))

  abbrev pub with_result : Play → Play
  with_result p = with_end p (λ s. ended (value_end (value_of result s)))

  -- ---- on bits
  behind_draw : (r : ℕ) (k : ℕ → Play) (x : Reading (Option ℕ)) →
      ((i : ℕ) (w : List Bool) → on_bits r (with_result (k i)) w ≡ after (on_bits r (k i) w) (λ e rest. gives (finished e) rest)) →
      class_on x (λ i. on_bits r (with_result (k i))) ≡ after (class_on x (λ i. on_bits r (k i))) (λ e rest. gives (finished e) rest)
  behind_draw r k (gives None rest) h = refl
  behind_draw r k (gives (Some i) rest) h = h i rest
  behind_draw r k more_bits h = refl

  bits_finish : (r : ℕ) (p : Play) (w : List Bool) → on_bits r (with_result p) w ≡ after (on_bits r p w) (λ e rest. gives (finished e) rest)
  bits_finish r (ended (on s)) w = refl
  bits_finish r (ended failed) w = refl
  bits_finish r (ended (fault f)) w = refl
  bits_finish r (ended (limit l)) w = refl
  bits_finish r (drawing cs k) w = behind_draw r k (draw_on cs r w) (λ i w. bits_finish r (k i) w)

  round_finish : {A : Type 0} (e : End) (stop : Outcome → A) (again : A) → by_round e result stop again ≡ by_round (finished e) (Var 0) stop again
  round_finish (on s) stop again = by_result (value_of result s)
    where
      by_result : (v : Value) → stop (outcome_of v) ≡ by_round (value_end v) (Var 0) stop again
      by_result (Ok v) = refl
      by_result (Err f) = refl
  round_finish failed stop again = refl
  round_finish (fault f) stop again = refl
  round_finish (limit l) stop again = refl

  one_round : (x : Reading End) (go ho : List Bool → Reading Outcome) → ((w : List Bool) → go w ≡ ho w) →
      after x (λ e rest. by_round e result (λ x. gives x rest) (go rest))
      ≡ after (after x (λ e rest. gives (finished e) rest)) (λ e rest. by_round e (Var 0) (λ x. gives x rest) (ho rest))
  one_round (gives e rest) go ho h = ap (by_round e result (λ x. gives x rest)) (h rest) ∙ round_finish e (λ x. gives x rest) (ho rest)
  one_round more_bits go ho h = refl

  rounds_finish : (r : ℕ) (p : Play) (R : ℕ) (w : List Bool) → rounds_with (on_bits r p) result R w ≡ rounds_with (on_bits r (with_result p)) (Var 0) R w
  rounds_finish r p zero w = refl
  rounds_finish r p (suc R) w =
      one_round (on_bits r p w) (rounds_with (on_bits r p) result R) (rounds_with (on_bits r (with_result p)) (Var 0) R) (rounds_finish r p R)
      ∙ ap (λ x. after x (λ e rest. by_round e (Var 0) (λ x. gives x rest) (rounds_with (on_bits r (with_result p)) (Var 0) R rest))) (sym (bits_finish r p w))

-- ---- by weight: the entries with what a test says of them
abbrev marked : {A : Type 0} → (A → Bool) → Weighted A → Weighted Bool
marked test [] = []
marked test (e ∷ m) = (e.0, test e.1) ∷ marked test m

marked_sum : {A : Type 0} (test : A → Bool) (m : Weighted A) → sum_of test m ≡ sum_of (λ b. b) (marked test m)
marked_sum test [] = refl
marked_sum test (e ∷ m) = ap (λ s. if test e.1 then plus e.0 s else s) (marked_sum test m)

marked_both : {A : Type 0} (test : A → Bool) (m k : Weighted A) → marked test (m ++ k) ≡ marked test m ++ marked test k
marked_both test [] k = refl
marked_both test (e ∷ m) k = ap (λ x. (e.0, test e.1) ∷ x) (marked_both test m k)

marked_scaled : {A : Type 0} (test : A → Bool) (p : Fraction) (m : Weighted A) → marked test (scaled p m) ≡ scaled p (marked test m)
marked_scaled test (zero, d) m = refl
marked_scaled test (suc n, d) [] = refl
marked_scaled test (suc n, d) (e ∷ m) = ap (λ x. (times (suc n, d) e.0, test e.1) ∷ x) (marked_scaled test (suc n, d) m)

marked_taken : {A B : Type 0} (test : B → Bool) (m : Weighted A) (go : A → Weighted B) → marked test (taken_on m go) ≡ taken_on m (λ a. marked test (go a))
marked_taken test [] go = refl
marked_taken test (e ∷ m) go =
    marked_both test (scaled e.0 (go e.1)) (taken_on m go)
    ∙ ap (λ x. x ++ marked test (taken_on m go)) (marked_scaled test e.0 (go e.1))
    ∙ ap (λ x. scaled e.0 (marked test (go e.1)) ++ x) (marked_taken test m go)

-- a test of the ends, and one of the ends with the result behind them
module _ (result : Expression) (r : Option ℕ) (test after_test : End → Bool) (same : (e : End) → test e ≡ after_test (finished result e)) where
  weights_finish : (p : Play) → marked test (weighed r p) ≡ marked after_test (weighed r (with_result result p))
  weights_finish (ended (on s)) = ap (λ b. (one, b) ∷ []) (same (on s))
  weights_finish (ended failed) = ap (λ b. (one, b) ∷ []) (same failed)
  weights_finish (ended (fault f)) = ap (λ b. (one, b) ∷ []) (same (fault f))
  weights_finish (ended (limit l)) = ap (λ b. (one, b) ∷ []) (same (limit l))
  weights_finish (drawing cs k) =
      marked_taken test (weighted_classes cs r) (λ class. by_class class (sure (limit Attempts)) (λ i. weighed r (k i)))
      ∙ ap (taken_on (weighted_classes cs r)) (fun_ext (elim [ None ↦ ap (λ b. (one, b) ∷ []) (same (limit Attempts)) | Some i ↦ weights_finish (k i) ]))
      ∙ sym (marked_taken after_test (weighted_classes cs r) (λ class. by_class class (sure (limit Attempts)) (λ i. weighed r (with_result result (k i)))))

  sums_finish : (p : Play) → sum_of test (weighed r p) ≡ sum_of after_test (weighed r (with_result result p))
  sums_finish p = marked_sum test (weighed r p) ∙ ap (sum_of (λ b. b)) (weights_finish p) ∙ sym (marked_sum after_test (weighed r (with_result result p)))

  sums_same : (p q : Play) → trimmed (with_result result p) ≡ trimmed (with_result result q) → sum_of test (weighed r q) ≡ sum_of test (weighed r p)
  sums_same p q e = sums_finish q ∙ ap (sum_of after_test) (same_weights r _ _ (sym e)) ∙ sym (sums_finish p)

meant_finish : (result : Expression) (meant : Outcome → Bool) (e : End) → ends_in result meant e ≡ ends_in (Var 0) meant (finished result e)
meant_finish result meant (on s) = by_result (value_of result s)
  where
    by_result : (v : Value) → meant (outcome_of v) ≡ ends_in (Var 0) meant (value_end v)
    by_result (Ok v) = refl
    by_result (Err f) = refl
meant_finish result meant failed = refl
meant_finish result meant (fault f) = refl
meant_finish result meant (limit l) = refl

failed_finish : (result : Expression) (e : End) → is_failed e ≡ is_failed (finished result e)
failed_finish result (on s) = by_result (value_of result s)
  where
    by_result : (v : Value) → false ≡ is_failed (value_end v)
    by_result (Ok v) = refl
    by_result (Err f) = refl
failed_finish result failed = refl
failed_finish result (fault f) = refl
failed_finish result (limit l) = refl

-- ---- a program and its forgetful one
module _ (p : SourceProgram) where
  abbrev pub start : State
  start = zeros (length p.names)

  abbrev pub play : ℕ → Play
  play n = block_play n p.body start

  abbrev pub forgetful_play : ℕ → Play
  forgetful_play n = block_play n (forgetful_of p).body start

  plays_alike : (n : ℕ) → Alike (λ x. reads x p.result) (play n) (forgetful_play n)
  plays_alike n = block_alike n (length p.names) p.body no_names (λ x. reads x p.result) start start (record { lengths = refl; values = λ x h. refl })

  pub results_same : (n : ℕ) → trimmed (with_result p.result (play n)) ≡ trimmed (with_result p.result (forgetful_play n))
  results_same n = (plays_alike n).same _ _ (λ s t a. ap (λ v. ended (value_end v)) (value_agrees (λ x. reads x p.result) p.result s t (λ x k. k) a))

  same_rounds : (n r R : ℕ) (w : List Bool) → runs.rounds_on (forgetful_of p) n r R w ≡ runs.rounds_on p n r R w
  same_rounds n r R w =
      ap (λ body. rounds_with body p.result R w) (sym (block_bits n r (forgetful_of p).body start))
      ∙ rounds_finish p.result r (forgetful_play n) R w
      ∙ ap (λ body. rounds_with body (Var 0) R w) (same_bits r _ _ (sym (results_same n)))
      ∙ sym (rounds_finish p.result r (play n) R w)
      ∙ ap (λ body. rounds_with body p.result R w) (block_bits n r p.body start)

  same_sums : (n : ℕ) (r : Option ℕ) (test after_test : End → Bool) → ((e : End) → test e ≡ after_test (finished p.result e)) →
      sum_of test (weighted_ends n r (forgetful_of p).body start) ≡ sum_of test (weighted_ends n r p.body start)
  same_sums n r test after_test same =
      ap (sum_of test) (sym (weighed_block r n (forgetful_of p).body start))
      ∙ sums_same p.result r test after_test same (play n) (forgetful_play n) (results_same n)
      ∙ ap (sum_of test) (weighed_block r n p.body start)

  same_round : (n : ℕ) (r : Option ℕ) (meant : Outcome → Bool) → round_mass (forgetful_of p) n r meant ≡ round_mass p n r meant
  same_round n r meant = same_sums n r (ends_in p.result meant) (ends_in (Var 0) meant) (meant_finish p.result meant)

  same_failed : (n : ℕ) (r : Option ℕ) → failed_mass (forgetful_of p) n r ≡ failed_mass p n r
  same_failed n r = same_sums n r is_failed is_failed (failed_finish p.result)

  same_masses : (n : ℕ) (r R : Option ℕ) (meant : Outcome → Bool) → mass_of_those (forgetful_of p) n r R meant ≡ mass_of_those p n r R meant
  same_masses n r None meant =
      ap (λ m. divided_by_rest m (failed_mass (forgetful_of p) n r)) (same_round n r meant) ∙ ap (divided_by_rest (round_mass p n r meant)) (same_failed n r)
  same_masses n r (Some R) meant =
      ap (λ m. plus (times m (power_sum (failed_mass (forgetful_of p) n r) R)) (if meant (outcome.Limit Rounds) then power (failed_mass (forgetful_of p) n r) R else zero_share)) (same_round n r meant)
      ∙ ap (λ f. plus (times (round_mass p n r meant) (power_sum f R)) (if meant (outcome.Limit Rounds) then power f R else zero_share)) (same_failed n r)

  pub same_meaning : SameMeaning p (forgetful_of p)
  same_meaning = record {
    reads = λ l w. same_rounds l.turns l.attempts l.rounds w;
    runs = λ l w. ap (answer_of w) (same_rounds l.turns l.attempts l.rounds w);
    round = same_round;
    failed = same_failed;
    masses = same_masses;
  }
