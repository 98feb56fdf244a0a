-- The law of costs, from the trees of draws and of runs.
use Rattle.std.proofs.Common.{◌≡◌, ℕ, ◌+◌, ◌*◌, ◌^◌, ◌≤◌, ◌<◌, ◌-◌, Bool, true, Option, Some, List, [], length, sym, ap, ◌∙◌, subst, arith}
use Rattle.std.proofs.lemmas.Nat.{pow_pos}
use Rattle.gcl_core.specs.declared.answers.Answer.{Answer}
use Rattle.gcl_core.specs.declared.answers.Limits.{Limits}
use Rattle.gcl_core.specs.declared.answers.Outcome.{Outcome}
use Rattle.gcl_core.specs.meaning.Blocks.{block_on}
use Rattle.gcl_core.specs.meaning.Draw.{bits_for, last_end, attempt_on, draw_on}
use Rattle.gcl_core.specs.meaning.Checked.{IsChecked}
use Rattle.gcl_core.specs.weighing.Mass.{is_failed, failed_mass}
use Rattle.gcl_core.specs.weighing.OneDraw.{Ascends}
use Rattle.gcl_core.specs.meaning.Runs.{rounds_on, answer_of, run_on}
use Rattle.gcl_core.specs.meaning.Outcomes.{zeros}
use Rattle.gcl_core.specs.weighing.StringWeight.{reading_to, answer_in}
use Rattle.gcl_core.specs.meaning.Syntax.{SourceProgram}
use Rattle.gcl_core.specs.weighing.WeightedEnds.{weighted_ends}
use Rattle.gcl_core.proofs.Accepted.{checked_weights}
use Rattle.gcl_core.proofs.AttemptTrees.{attempt_runs, attempt_within}
use Rattle.gcl_core.proofs.DrawTrees.{draw_tree, draw_runs, draw_within}
use Rattle.gcl_core.proofs.Trees.{Tree, run, Within, within_more}
use Rattle.gcl_core.proofs.TreeWeights.{chi}
use Rattle.weighing_law.proofs.EveryLength.{within_from}
use Rattle.gcl_core.proofs.FittingValues.{zeros_fit}
use Rattle.weighing_law.proofs.Shares.{Share, counts_sum, sum_pos, product_pos, power_sum_pos}
use Rattle.weighing_law.proofs.WholeRuns.{answer_reading, round_bits, all_bits, body_matches, run_tree, run_within, run_reads, all_suffice}
use Rattle.gcl_core.specs.weighing.Fractions.{zero_share}
use Rattle.cost_law.specs.Costing.{DrawCosts, CostsExactly}
use Rattle.cost_law.specs.ExpectedBits.{undecided_from, attempt_bits, draw_bits, block_bits, expected_bits}
use Rattle.cost_law.proofs.AskedBits.{asks, same_tree}
use Rattle.cost_law.proofs.AskedLengths.{lengths_exact, lengths_within}
use Rattle.cost_law.proofs.BlockCosts.{block_costs}
use Rattle.cost_law.proofs.CostedReaders.{Costs}
use Rattle.cost_law.proofs.DrawBits.{one_attempt, attempt_asked, draw_share, draw_bits_pos}
use Rattle.cost_law.proofs.RoundCosts.{rounds_cost}

-- ---- one draw
within_all : {A : Type 0} (t : Tree A) (d L : ℕ) → d ≤ L → Within d t → Within L t
within_all t d L le w = let p : d + (L - d) ≡ L = omega arith in subst (λ n. Within n t) p (within_more t d (L - d) w)

attempt_share : (N U a : ℕ) → a ≡ U → N * a ≡ U * N
attempt_share N U a e = rw e (omega arith)

pub draws_cost : (ends : List ℕ) (r : ℕ) → Ascends 0 ends → DrawCosts ends r
draws_cost ends r up =
    let k = bits_for (last_end ends) in
    let t = one_attempt ends in
    let zero_left : 0 + k ≡ k = omega arith in
    record {
      attempt = λ L le.
          lengths_exact (λ w. reading_to (λ c. true) (attempt_on ends w)) t (λ w. ap (reading_to (λ c. true)) (sym (attempt_runs ends k k [] w zero_left))) k (attempt_within ends k k []) (attempt_bits ends)
          (attempt_share (2 ^ k) (undecided_from ends k k []) (asks t k) (attempt_asked ends)) L (within_all t k L le (attempt_within ends k k []));
      draw = λ L le.
          lengths_exact (λ w. reading_to (λ c. true) (draw_on ends r w)) (draw_tree ends r) (λ w. ap (reading_to (λ c. true)) (sym (draw_runs ends r w))) (k * r) (draw_within ends r) (draw_bits ends r)
          (draw_share ends r up) L (within_all (draw_tree ends r) (k * r) L le (draw_within ends r));
      fraction = draw_bits_pos ends r;
    }

-- ---- a run
module _ (p : SourceProgram) (l : Limits) (ok : IsChecked p) where
  body_costs : Costs (round_bits p l ok) (block_on l.turns l.attempts p.body (zeros (length p.names))) (block_bits l.turns l.attempts p.body (zeros (length p.names)) (λ s. zero_share))
  body_costs = block_costs l.turns l.attempts p.body (checked_weights p ok) ok.numbers.body (zeros (length p.names)) (zeros_fit (length p.names))

  run_share : Share (2 ^ all_bits p l ok) (asks (run_tree p l ok) (all_bits p l ok)) (expected_bits p l)
  run_share =
      let m = body_matches p l ok in
      let c = body_costs in
      let d = round_bits p l ok in
      let cost = block_bits l.turns l.attempts p.body (zeros (length p.names)) (λ s. zero_share) in
      let same = same_tree c.tree m.tree (λ w. c.runs w ∙ sym (m.runs w)) in
      rounds_cost p.result m.tree d cost (failed_mass p l.turns (Some l.attempts)) m.within (subst (λ x. Share (2 ^ d) (asks x d) cost) same c.share)
      (counts_sum (2 ^ d) is_failed (weighted_ends l.turns (Some l.attempts) p.body (zeros (length p.names))) _ (m.counts (chi is_failed))) l.rounds

  pub expected_pos : 0 < (expected_bits p l).1
  expected_pos =
      let m = body_matches p l ok in
      let c = body_costs in
      let f = failed_mass p l.turns (Some l.attempts) in
      let some = sum_pos (2 ^ round_bits p l ok) is_failed (chi is_failed) (weighted_ends l.turns (Some l.attempts) p.body (zeros (length p.names))) _ (pow_pos (round_bits p l ok)) (m.counts (chi is_failed)) in
      product_pos _ _ c.some (power_sum_pos f some l.rounds)

pub costs_exactly : (p : SourceProgram) (l : Limits) (answers : List Bool → Answer) → IsChecked p → ((w : List Bool) → answers w ≡ run_on p l w) → CostsExactly answers p l (expected_bits p l)
costs_exactly p l answers ok same =
    let t = run_tree p l ok in
    let any : Outcome → Bool = λ x. true in
    let read : List Bool → Option Bool = λ w. answer_in any (answers w) in
    let reads : (w : List Bool) → read w ≡ reading_to any (run t w) =
    λ w. ap (answer_in any) (same w) ∙ answer_reading any w (rounds_on p l.turns l.attempts l.rounds w) ∙ ap (reading_to any) (run_reads p l ok w) in
    record {
      within = λ L. lengths_within read t reads (all_bits p l ok) (run_within p l ok) (expected_bits p l) (run_share p l ok) L;
      exact = λ L suffices.
          lengths_exact read t reads (all_bits p l ok) (run_within p l ok) (expected_bits p l) (run_share p l ok) L
          (within_from t L (λ w e q. suffices w e _ (same w ∙ ap (answer_of w) (run_reads p l ok w ∙ q))));
      enough = all_suffice p l ok answers same;
      fraction = expected_pos p l ok;
    }
