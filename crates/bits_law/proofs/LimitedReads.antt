-- What a round counts and fails with under limits, as rational numbers: both rise with the limits to what they come to in the limit.
use Rattle.std.proofs.Common.{◌≡◌, ℕ, suc, ◌+◌, ◌*◌, ◌≤◌, ◌<◌, max, Bool, false, List, Option, Some, None, length, refl, ap, subst, arith}
use Rattle.std.proofs.Math.Path.{fun_ext}
use Rattle.gcl_core.specs.declared.answers.Limit.TheVariants.{Turns, Attempts}
use Rattle.gcl_core.specs.meaning.Bounds.{BlockIsWeighed}
use Rattle.gcl_core.specs.meaning.Checked.{IsChecked}
use Rattle.gcl_core.specs.meaning.Outcomes.{zeros}
use Rattle.gcl_core.specs.meaning.Syntax.{Statements, SourceProgram}
use Rattle.gcl_core.specs.meaning.Value.{State}
use Rattle.gcl_core.specs.meaning.Blocks.{End, on, failed, fault, limit, by_class, block_in}
use Rattle.gcl_core.specs.meaning.Draw.{last_end}
use Rattle.gcl_core.specs.weighing.Mass.{is_failed, failed_mass}
use Rattle.gcl_core.specs.weighing.WeightedEnds.{sure, weighted_classes, weighted_ends}
use Rattle.gcl_core.proofs.Accepted.{checked_weights}
use Rattle.gcl_core.proofs.Plays.{Play, ended, drawing, with_end, block_play, block_folds}
use Rattle.table_flow.proofs.Paths.{ends_positive}
use Rattle.weighing_law.proofs.WeighedPlays.{weighed, weighed_block}
use Rattle.unlimited_law.specs.Settling.{Outflow}
use Rattle.unlimited_law.specs.SettledMasses.{ProgramSettles, settled_failed}
use Rattle.unlimited_law.proofs.Numbers.{Rational, ◌⊕◌, ◌⊗◌, ◌⊑◌, ◌≃◌, nought, below_refl, below_trans, same_sym, same_trans, add_below, times_nought, nought_below, nought_add, add_nought}
use Rattle.unlimited_law.proofs.FractionNumbers.{of}
use Rattle.unlimited_law.proofs.Integrals.{integral, integral_same, integral_sure, integral_taken}
use Rattle.unlimited_law.proofs.Near.{Near, near_same}
use Rattle.unlimited_law.proofs.Covers.{sign}
use Rattle.unlimited_law.proofs.SameWeights.{sum_some, sum_is}
use Rattle.unlimited_law.proofs.BlockLimits.{all_fractions, event_test, settled_some, settled_is, test_near}
use Rattle.bits_law.proofs.Readers.{Reads, end_counts, then_reads, class_counts, block_counts, turn_reads, turn_rises, block_counts_rise}
use Rattle.bits_law.proofs.Tends.{left_max, right_max, two_halves, then_near}
use Rattle.bits_law.proofs.LoopTends.{small_part}
use Rattle.bits_law.proofs.Shares.{share}
use Rattle.bits_law.proofs.Attempts.{Closes, closes_block}

-- ---- what a play counts
module _ (H : End → Rational) (cost : Option ℕ → List ℕ → Rational) where
  abbrev play_counts : Option ℕ → Play → Reads
  play_counts r (ended e) = end_counts H e
  play_counts r (drawing cs k) = class_counts (cost r) r cs (λ i. play_counts r (k i))

  counts_then : (r : Option ℕ) (p : Play) (go : State → Play) (F : State → Rational) → play_counts r (with_end p go) F ≡ then_reads (play_counts r p) (λ s. play_counts r (go s)) F
  counts_then r (ended (on s)) go F = refl
  counts_then r (ended failed) go F = refl
  counts_then r (ended (fault f)) go F = refl
  counts_then r (ended (limit l)) go F = refl
  counts_then r (drawing cs k) go F = ap (λ f. cost r cs ⊕ integral f (weighted_classes cs r)) (fun_ext (elim [ None ↦ refl | Some i ↦ counts_then r (k i) go F ]))

  play_block : (r : Option ℕ) (n : ℕ) (b : Statements) (s : State) → play_counts r (block_play n b s) ≡ block_counts H (cost r) r n b s
  play_block r n = block_folds (end_counts H) then_reads (class_counts (cost r) r) (play_counts r) (λ e. refl) (λ cs k. refl) (λ p go. fun_ext (counts_then r p go)) n

-- ---- failed rounds
abbrev pub fails : End → Rational
fails = sign is_failed

abbrev pub no_cost : Option ℕ → List ℕ → Rational
no_cost r cs = nought

fails_are : (r : Option ℕ) (p : Play) → integral fails (weighed r p) ≃ play_counts fails no_cost r p (λ s. nought)
fails_are r (ended (on s)) = integral_sure fails (on s)
fails_are r (ended failed) = integral_sure fails failed
fails_are r (ended (fault f)) = integral_sure fails (fault f)
fails_are r (ended (limit l)) = integral_sure fails (limit l)
fails_are r (drawing cs k) =
    let m = weighted_classes cs r in
    let go = λ (class : Option ℕ). by_class class (sure (limit Attempts)) (λ i. weighed r (k i)) in
    same_trans (integral_taken fails m go)
    (same_trans
    (integral_same (λ class. integral fails (go class)) (λ class. by_class class nought (λ i. play_counts fails no_cost r (k i) (λ s. nought))) m (elim [ None ↦ integral_sure fails (limit Attempts) | Some i ↦ fails_are r (k i) ]))
    (same_sym (nought_add _)))

-- ---- what rises with both limits
pub record Approached (c : ℕ → ℕ → Rational) (X : Rational) : Type 0 where
  pub rises : (n m r t : ℕ) → n ≤ m → r ≤ t → c n r ⊑ c m t
  pub most : (n r : ℕ) → c n r ⊑ X
  pub near : (j : ℕ) → 0 < j → (least : ℕ) × ((n r : ℕ) → least ≤ n → least ≤ r → X ⊑ c n r ⊕ of (1, j))

module _ (p : SourceProgram) (ok : IsChecked p) where
  abbrev pub start : State
  start = zeros (length p.names)

  abbrev play : ℕ → Play
  play n = block_play n p.body start

  pub weights : BlockIsWeighed p.body
  weights = checked_weights p ok

  abbrev pub after : State → Rational
  after s = nought

  module _ (H : End → Rational) (spared : H (limit Turns) ⊑ nought) (cost : Option ℕ → List ℕ → Rational)
      (cost_share : (cs : List ℕ) (some : 0 < last_end cs) (r : ℕ) → cost (Some r) cs ≃ share cs some r ⊗ cost None cs) (turns : Bool) where
    -- what the body counts by at most so many attempts, or by as many as it takes
    abbrev pub counted : Option ℕ → ℕ → Rational
    counted r n = block_in (end_counts H) then_reads (class_counts (cost r) r) (turn_reads turns) n p.body start after

    closes : (n : ℕ) → Closes (λ r. block_in (end_counts H) then_reads (class_counts (cost (Some r)) (Some r)) (turn_reads turns) n p.body start) (block_in (end_counts H) then_reads (class_counts (cost None) None) (turn_reads turns) n p.body start)
    closes n = closes_block cost cost_share H turns n p.body weights start

    same_after : (s : State) → after s ⊑ after s
    same_after s = below_refl nought

    more_turns : (n m : ℕ) → n ≤ m → (r : Option ℕ) → counted r n ⊑ counted r m
    more_turns n m le r = block_counts_rise H spared (cost r) r (turn_reads turns) (turn_rises turns) n m le p.body start after after same_after

    pub limits_rise : (n m r t : ℕ) → n ≤ m → r ≤ t → counted (Some r) n ⊑ counted (Some t) m
    limits_rise n m r t a b = below_trans ((closes n).rises r t b after after same_after) (more_turns n m a (Some t))

    pub enough_attempts : (n j : ℕ) → 0 < j → (r : ℕ) × (counted None n ⊑ counted (Some r) n ⊕ of (1, j))
    enough_attempts n j pos =
        (closes n).near after (λ r. after) (λ r t le s. below_refl nought) (λ s k some. (0, below_trans (add_nought _).above (add_below (below_refl nought) (nought_below (of (1, k)))))) j pos

    pub approached : (X : Rational) → ((n : ℕ) → counted None n ⊑ X) → ((j : ℕ) → 0 < j → (n : ℕ) × (X ⊑ counted None n ⊕ of (1, j))) → Approached (λ n r. counted (Some r) n) X
    approached X most near = record {
      rises = limits_rise;
      most = λ n r. below_trans ((closes n).most r after after same_after) (most n);
      near = λ j pos.
          let two : 0 < 2 * j = omega arith in
          let x = near (2 * j) two in
          let y = enough_attempts x.0 (2 * j) two in
          let least = max x.0 y.0 in (
            least,
            λ n r a b.
                let le : x.0 ≤ n = let h = left_max x.0 y.0 in omega arith in
                let few : y.0 ≤ r = let h = right_max x.0 y.0 in omega arith in
                then_near X (counted None x.0) (counted (Some r) n) (of (1, 2 * j)) (of (1, j)) x.1 (below_trans y.1 (add_below (limits_rise x.0 n y.0 r le few) (below_refl (of (1, 2 * j))))) (two_halves j pos),
          );
    }

  -- ---- what it fails with
  pub no_share : (cs : List ℕ) (some : 0 < last_end cs) (r : ℕ) → no_cost (Some r) cs ≃ share cs some r ⊗ no_cost None cs
  no_share cs some r = same_sym (times_nought (share cs some r))

  abbrev failing : Option ℕ → ℕ → Rational
  failing = counted fails (below_refl nought) no_cost no_share false

  abbrev pub fails_at : ℕ → ℕ → Rational
  fails_at n r = failing (Some r) n

  pub fails_rise : (n m r t : ℕ) → n ≤ m → r ≤ t → fails_at n r ⊑ fails_at m t
  fails_rise = limits_rise fails (below_refl nought) no_cost no_share false

  ends_fractions : (n : ℕ) (r : Option ℕ) → 0 < (failed_mass p n r).1
  ends_fractions n r = sum_some is_failed (weighted_ends n r p.body start) (all_fractions (weighted_ends n r p.body start) (ends_positive n r p.body start weights))

  pub failed_some : (n r : ℕ) → 0 < (failed_mass p n (Some r)).1
  failed_some n r = ends_fractions n (Some r)

  failed_of : (n : ℕ) (r : Option ℕ) → of (failed_mass p n r) ≃ failing r n
  failed_of n r =
      same_trans (sum_is is_failed (weighted_ends n r p.body start) (all_fractions (weighted_ends n r p.body start) (ends_positive n r p.body start weights)))
      (subst (λ m. integral fails (weighted_ends n r p.body start) ≃ m after) (play_block fails no_cost r n p.body start)
      (subst (λ m. integral fails m ≃ play_counts fails no_cost r (play n) after) (weighed_block r n p.body start) (fails_are r (play n))))

  pub failed_is : (n r : ℕ) → of (failed_mass p n (Some r)) ≃ fails_at n r
  failed_is n r = failed_of n (Some r)

  module _ (f : Outflow) (o : ProgramSettles p f) where
    pub limit_some : 0 < (settled_failed p f).1
    limit_some = settled_some p.body (sure start) f weights o is_failed

    failed_near : (n : ℕ) → 0 < n → Near n (of (failed_mass p n None)) (of (settled_failed p f)) f.turns
    failed_near n some =
        near_same n
        (same_trans (sum_is is_failed (weighted_ends n None p.body start) (all_fractions (weighted_ends n None p.body start) (ends_positive n None p.body start weights)))
        (same_sym (integral_sure (λ s. integral fails (weighted_ends n None p.body s)) start)))
        (settled_is p.body (sure start) f weights o is_failed) (test_near p.body (sure start) f weights o n some fails (event_test is_failed refl))

    failed_most : (n : ℕ) → failing None n ⊑ of (settled_failed p f)
    failed_most n =
        below_trans (more_turns fails (below_refl nought) no_cost no_share false n (suc n) (omega arith) None)
        (below_trans (failed_of (suc n) None).above (failed_near (suc n) (omega arith)).low)

    pub failed_approached : Approached fails_at (of (settled_failed p f))
    failed_approached =
        approached fails (below_refl nought) no_cost no_share false (of (settled_failed p f)) failed_most
        (λ j pos.
        let n = j * (of f.turns).num + 1 in
        let some : 0 < n = omega arith in
        (n, below_trans (failed_near n some).high (add_below (failed_of n None).below (small_part j pos (of f.turns)))))
