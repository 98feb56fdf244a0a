-- A program whose runs have all ended by some number of turns settles to its flow at that number: its masses there are exact.
use Rattle.std.proofs.Common.{◌≡◌, ℕ, zero, suc, ◌+◌, ◌*◌, ◌-◌, ◌<◌, ◌≤◌, Bool, true, false, not, Ok, Err, None, length, refl, sym, ap, ◌∙◌, subst, arith}
use Rattle.std.proofs.Math.Nat.{le_refl, lt_of_mul-lt-mul_left, mul-lt-mul_of_pos_right, le_of_mul-le-mul_right}
use Rattle.std.specs.Prelude.{Contains}
use Rattle.numbers.specs.Fraction.{IsEqual}
use Rattle.numbers.specs.Arithmetic.{InLowest}
use Rattle.numbers.proofs.Divisors.{cancel, product_pos}
use Rattle.gcl_core.specs.declared.answers.Limit.{Limit}
use Rattle.gcl_core.specs.declared.answers.Limit.TheVariants.{Turns}
use Rattle.gcl_core.specs.declared.answers.Outcome.{Outcome}
use Rattle.gcl_core.specs.declared.answers.Outcome.TheVariants as outcome
use Rattle.gcl_core.specs.meaning.Blocks.{End, on}
use Rattle.gcl_core.specs.meaning.Checked.{IsChecked}
use Rattle.gcl_core.specs.meaning.Outcomes.{same_outcome, zeros}
use Rattle.gcl_core.specs.meaning.Syntax.{SourceProgram}
use Rattle.gcl_core.specs.weighing.Fractions.{Fraction, IsBelowOne, IsOne, divided_by_rest}
use Rattle.gcl_core.specs.weighing.Mass.{sum_of, ends_in, is_failed, round_mass, mass_of, failed_mass}
use Rattle.gcl_core.specs.weighing.WeightedEnds.{sure, weighted_ends}
use Rattle.gcl_core.proofs.Accepted.{checked_weights}
use Rattle.gcl_core.proofs.TreeWeights.{chi}
use Rattle.table_flow.specs.Scale.{Wholes, WholeAtWidth, amount, weight}
use Rattle.table_flow.specs.Tables.{Table, Flow, tables_of, peak_of}
use Rattle.table_flow.specs.Width.{round_width}
use Rattle.table_flow.proofs.Amounts.{amount_none}
use Rattle.table_flow.proofs.AtWidth.{at_width}
use Rattle.table_flow.proofs.Kept.{kept_all}
use Rattle.table_flow.proofs.Linear.{sum_amount}
use Rattle.table_flow.proofs.Masses.{last_few, sum_held}
use Rattle.table_flow.proofs.Paths.{ends_positive}
use Rattle.table_flow.proofs.Positive.{Positive, FlowPositive, p_all}
use Rattle.table_flow.proofs.Wholes.{whole_from}
use Rattle.mass_fold.proofs.LowestTerms.{lowest_same}
use Rattle.mass_fold.specs.Rows.{Rows, AreMasses}
use Rattle.mass_fold.proofs.OutcomeRows.{lowest_is, one_value}
use Rattle.weighing_law.proofs.Costs as costs
use Rattle.weighing_law.proofs.Shares.{Share, counts_sum, factor_pos}
use Rattle.weighing_law.proofs.StatedMasses.{rest_share}
use Rattle.bounds_law.proofs.EntrySums.{whole_at}
use Rattle.bounds_law.proofs.Growth.{scale, scale_pos, growth}
use Rattle.bounds_law.proofs.OneLimit.{Sums}
use Rattle.unlimited_law.specs.Ended.{is_out_of_turns, TurnsSuffice, flowed_in}
use Rattle.unlimited_law.specs.Settling.{Outflow}
use Rattle.unlimited_law.specs.SettledMasses.{ProgramSettles, EndlessTends, over, settled_weight, settled_failed, settled_mass, endless_mass, runs_out}
use Rattle.unlimited_law.proofs.BlockLimits.{all_fractions, all_positive}
use Rattle.unlimited_law.proofs.EndedBlocks.{sum_suffices, FlowSettles, block_ended}
use Rattle.unlimited_law.proofs.EndedLoops.{Suffice}
use Rattle.unlimited_law.proofs.EndlessLimits.{endless_tends}
use Rattle.unlimited_law.proofs.FreeBlocks.{alike_itself}
use Rattle.unlimited_law.proofs.Likeness.{settles_like}
use Rattle.unlimited_law.proofs.LinearFlows.{alike_sums}
use Rattle.unlimited_law.proofs.ProgramLimits.{above_one}
use Rattle.unlimited_law.proofs.SameWeights.{sum_some}
use Rattle.exact_fold.specs.Exact.{all_of, IsExact, FailsAlways}
use Rattle.exact_fold.specs.inner.Settled.{AreUnlimited}
use Rattle.exact_fold.proofs.FreeFlows.{stopped_unlimited}
use Rattle.exact_fold.proofs.Rows.{same_weight, nothing_weighs, both_at}
use Rattle.exact_fold.proofs.RowsOfOne.{rows_are_all}
use Rattle.exact_fold.proofs.SpentEnds.{AreSpent, are_spent, only_turns, stopped, are_stopped, stopped_sum, stopped_fractions, stopped_wholes, stopped_amount, out_below, out_or_failed, all_or_failed}

-- ---- numbers
none_of : (a b : ℕ) → 0 < b → a * b ≡ 0 → a ≡ 0
none_of zero b some e = refl
none_of (suc a) b some e = let z = product_pos (suc a) b (omega arith) some in absurd (omega arith)

both_none : (p q : Fraction) → p.0 ≡ 0 → q.0 ≡ 0 → IsEqual p q
both_none p q e h = let x = ap (λ z. z * q.1) e in let y = ap (λ z. z * p.1) h in omega arith

module _ (p : SourceProgram) (ok : IsChecked p) (n : ℕ) (some : 1 ≤ n) where
  abbrev start : Table
  start = sure (zeros (length p.names))

  abbrev flow : Flow
  flow = tables_of p n None

  start_positive : Positive start
  start_positive = all_positive start (omega arith, tt)

  flow_positive : FlowPositive flow
  flow_positive = p_all n None p.body start (checked_weights p ok) start_positive

  abbrev fails : Fraction
  fails = failed_mass p n None

  -- ---- at the width
  abbrev Q : ℕ
  Q = round_width p n None

  abbrev within : WholeAtWidth p n None
  within = at_width p n None (checked_weights p ok)

  whole_next : Wholes Q flow.next
  whole_next = (last_few n None Q (peak_of p n None) p.body start within.within.tables).0

  kept : weight Q flow.next + weight Q flow.ended ≡ Q
  kept =
      let k = kept_all n None Q (peak_of p n None) p.body (checked_weights p ok) start within.within in
      let o = whole_from Q (1, 1) Q (omega arith) (omega arith) in
      let z = o.0 in
      omega arith

  -- what an event weighs in the flow
  abbrev flow_amount : (End → Bool) → ℕ
  flow_amount event = amount Q (chi (λ s. event (on s))) flow.next + amount Q (chi event) flow.ended

  ends_share : (event : End → Bool) → Share Q (flow_amount event) (sum_of event (weighted_ends n None p.body (zeros (length p.names))))
  ends_share event = sum_held n None Q (peak_of p n None) p.body (zeros (length p.names)) within.within event

  ends_some : (event : End → Bool) → 0 < (sum_of event (weighted_ends n None p.body (zeros (length p.names)))).1
  ends_some event = sum_some event _ (all_fractions _ (ends_positive n None p.body (zeros (length p.names)) (checked_weights p ok)))

  fails_some : 0 < fails.1
  fails_some = ends_some is_failed

  failed_only : flow_amount is_failed ≡ amount Q (chi is_failed) flow.ended
  failed_only = let z = amount_none Q flow.next in omega arith

  -- ---- whether turns suffice
  suffice_at : amount Q (chi is_out_of_turns) flow.ended ≡ 0 → TurnsSuffice flow.ended
  suffice_at none = by (sum_of is_out_of_turns flow.ended) (sum_amount Q is_out_of_turns flow.ended within.within.ended)
    where
      by : (q : Fraction) → q.1 * amount Q (chi is_out_of_turns) flow.ended ≡ q.0 * Q → q.0 ≡ 0
      by q e = none_of q.0 Q within.positive (let z = ap (λ z. q.1 * z) none in omega arith)

  -- where the limit of turns has no mass
  pub no_mass_suffices : (mass_of p n None None (outcome.Limit Turns)).0 ≡ 0 → TurnsSuffice flow.ended
  no_mass_suffices none =
      let meant = ends_in p.result (same_outcome (outcome.Limit Turns)) in
      let round = round_mass p n None (same_outcome (outcome.Limit Turns)) in
      let e : round.0 ≡ 0 = none_of round.0 fails.1 fails_some none in
      let a : flow_amount meant ≡ 0 = none_of (flow_amount meant) round.1 (ends_some meant) (let h = ends_share meant in let z = ap (λ z. z * Q) e in omega arith) in
      suffice_at (let b = out_below Q meant refl flow.ended in omega arith)

  -- where each round fails
  pub all_fail_suffices : IsOne fails → TurnsSuffice flow.ended
  all_fail_suffices one =
      let a : flow_amount is_failed ≡ Q = cancel fails.1 _ _ fails_some (let h = ends_share is_failed in let z = ap (λ z. z * Q) one in omega arith) in
      suffice_at (let b = out_or_failed Q flow.ended in let c = failed_only in let k = kept in omega arith)

  module _ (suffice : TurnsSuffice flow.ended) where
    none_out : Suffice flow.ended
    none_out = sum_suffices flow.ended (all_fractions flow.ended flow_positive.ended) suffice

    spent : AreSpent flow.ended
    spent = are_spent flow.ended none_out (only_turns n p.body start)

    abbrev settled_flow : FlowSettles n p.body start
    settled_flow = block_ended n p.body (checked_weights p ok) start start_positive none_out

    abbrev outflow : Outflow
    outflow = record { next = flow.next; ended = stopped flow.ended; turns = settled_flow.turns }

    settles : ProgramSettles p outflow
    settles = settles_like p.body start outflow (flowed_in settled_flow.turns flow)
        (record {
          next = alike_itself flow.next flow_positive.next;
          ended = alike_sums (stopped flow.ended) flow.ended (stopped_fractions flow.ended (all_fractions flow.ended flow_positive.ended)) (all_fractions flow.ended flow_positive.ended) (λ F z. stopped_sum F z flow.ended spent);
          turns = refl;
          fraction = settled_flow.some;
        })
        settled_flow.settles

    abbrev lost : Fraction
    lost = settled_failed p outflow

    whole_ended : Wholes Q outflow.ended
    whole_ended = stopped_wholes Q flow.ended within.within.ended

    settled_share : (event : End → Bool) → Share Q (flow_amount event) (settled_weight event outflow)
    settled_share event =
        let a = both_at (sum_of (λ s. event (on s)) flow.next) (sum_of (over event) outflow.ended) _ _ Q (sum_amount Q (λ s. event (on s)) flow.next whole_next) (sum_amount Q (over event) outflow.ended whole_ended) in
        let b = stopped_amount Q event flow.ended spent in
        let w = settled_weight event outflow in
        let c = ap (λ z. w.1 * (amount Q (chi (λ s. event (on s))) flow.next + z)) b in
        omega arith

    weight_pos : (event : End → Bool) → 0 < (settled_weight event outflow).1
    weight_pos event =
        product_pos (sum_of (λ s. event (on s)) outflow.next).1 (sum_of (over event) outflow.ended).1 (sum_some (λ s. event (on s)) outflow.next (all_fractions outflow.next flow_positive.next))
        (sum_some (over event) outflow.ended (stopped_fractions flow.ended (all_fractions flow.ended flow_positive.ended)))

    fails_same : IsEqual lost fails
    fails_same = one_value Q (flow_amount is_failed) lost fails within.positive (settled_share is_failed) (ends_share is_failed)

    pub ended_fails : IsOne fails → FailsAlways p
    ended_fails e = record { settled = outflow; settles = settles; fails = by fails.0 fails.1 lost.0 lost.1 fails_some e fails_same }
      where
        by : (a b c d : ℕ) → 0 < b → a ≡ b → c * b ≡ a * d → 1 * d ≤ c * 1
        by a b c d some e h = le_of_mul-le-mul_right {m = 1 * d} {n = c * 1} {k = b} (let x = ap (λ z. z * d) e in omega arith) some

    module _ (below : IsBelowOne fails) where
      passes : IsBelowOne lost
      passes = by fails.0 fails.1 lost.0 lost.1 fails_same (weight_pos is_failed) below
        where
          by : (a b c d : ℕ) → c * b ≡ a * d → 0 < d → a < b → c < d
          by a b c d e some l = lt_of_mul-lt-mul_left b (let z = mul-lt-mul_of_pos_right l some in omega arith)

      -- ---- all that ends
      abbrev unlimited : AreUnlimited outflow.ended
      unlimited = stopped_unlimited outflow.ended (are_stopped flow.ended spent)

      abbrev all : Fraction
      all = settled_weight (ends_in p.result (λ x. true)) outflow

      all_is_one : all.0 * lost.1 ≡ all.1 * (lost.1 - lost.0)
      all_is_one =
          let event = ends_in p.result (λ x. true) in
          let a = settled_share event in
          let b = settled_share is_failed in
          let s = all_or_failed Q p.result flow.ended in
          let k = kept in
          let f = failed_only in
          by all.0 all.1 lost.0 lost.1 (lost.1 - lost.0) (flow_amount event) (flow_amount is_failed) Q within.positive (let z = passes in omega arith) a b (omega arith)
        where
          by : (a b c d u v w N : ℕ) → 0 < N → d ≡ c + u → b * v ≡ a * N → d * w ≡ c * N → v + w ≡ N → a * d ≡ b * u
          by a b c d u v w N some e h k s =
              cancel N _ _ some (let x = ap (λ z. z * d) h in let y = ap (λ z. z * b) k in let z = ap (λ z. z * b * d) s in let o = ap (λ z. z * b * N) e in omega arith)

      -- ---- outcomes
      limits_none : (k : Limit) → (settled_mass p outflow (same_outcome (outcome.Limit k))).0 ≡ 0
      limits_none k =
          ap (λ w. (divided_by_rest w lost).0) (same_weight p.result (same_outcome (outcome.Limit k)) (λ x. false) outflow unlimited (elim [ Ok z ↦ refl | Err h ↦ refl ]) (λ h. refl))
          ∙ ap (λ z. z * lost.1) (nothing_weighs p.result outflow) ∙ none lost.1
        where
          none : (n : ℕ) → 0 * n ≡ 0
          none n = omega arith

      abbrev never : EndlessTends p outflow 1
      never = endless_tends p ok outflow settles passes 1 (omega arith)

      none_endless : (endless_mass p outflow).0 ≡ 0
      none_endless =
          ap (λ w. (divided_by_rest w lost).1 - (divided_by_rest w lost).0) (sym (same_weight p.result (λ x. true) (λ x. not (runs_out x)) outflow unlimited (elim [ Ok z ↦ refl | Err h ↦ refl ]) (λ h. refl)))
          ∙ ap (λ z. all.1 * (lost.1 - lost.0) - z) all_is_one ∙ none (all.1 * (lost.1 - lost.0))
        where
          none : (n : ℕ) → n - n ≡ 0
          none n = omega arith

      record IsSame (x : Outcome) : Type 0 where
        pub same : IsEqual (mass_of p n None None x) (settled_mass p outflow (same_outcome x))
        pub first : 0 < (mass_of p n None None x).1
        pub second : 0 < (settled_mass p outflow (same_outcome x)).1

      failing : flow_amount is_failed < Q
      failing = above_one Q (flow_amount is_failed) fails within.positive (ends_share is_failed) below

      same_of : (x : Outcome) → IsSame x
      same_of x =
          let event = ends_in p.result (same_outcome x) in
          let round = round_mass p n None (same_outcome x) in
          let settled = settled_weight event outflow in
          let passing = Q - flow_amount is_failed in
          let f = failing in
          let rest : passing + flow_amount is_failed ≡ Q = omega arith in
          let m = rest_share Q passing (flow_amount event) (flow_amount is_failed) round fails (ends_share event) (ends_share is_failed) below rest in
          let s = rest_share Q passing (flow_amount event) (flow_amount is_failed) settled lost (settled_share event) (settled_share is_failed) passes rest in
          record {
            same = one_value passing (flow_amount event) (mass_of p n None None x) (settled_mass p outflow (same_outcome x)) (omega arith) m s;
            first = product_pos round.1 (fails.1 - fails.0) (ends_some event) (let z = below in omega arith);
            second = product_pos settled.1 (lost.1 - lost.0) (weight_pos event) (let z = passes in omega arith);
          }

      -- ---- the sum of the rows
      abbrev N : ℕ
      N = scale p ok n n (le_refl n) None

      abbrev low_sum : (End → ℕ) → ℕ
      low_sum = (growth p ok n n (le_refl n) None).low

      failed_share : fails.1 * low_sum (chi is_failed) ≡ fails.0 * N
      failed_share = counts_sum N is_failed _ _ ((growth p ok n n (le_refl n) None).low_counts (chi is_failed))

      failed_less : low_sum (chi is_failed) < N
      failed_less = above_one N (low_sum (chi is_failed)) fails (scale_pos p ok n n (le_refl n) None) failed_share below

      abbrev sums : Sums p n N
      sums = record { sum = low_sum; counts = (growth p ok n n (le_refl n) None).low_counts; some = scale_pos p ok n n (le_refl n) None; passed = N - low_sum (chi is_failed); rest = let z = failed_less in omega arith; passes = below }

      rows_are_one : (rows : Rows) → AreMasses (mass_of p n None None) rows → (all_of rows).1 ≡ (all_of rows).0
      rows_are_one rows are =
          let w = costs.whole p ok n 0 in
          rows_are_all p n N sums (whole_at w.scale N _ (low_sum (λ e. 1)) w.positive (scale_pos p ok n n (le_refl n) None) w.holds ((growth p ok n n (le_refl n) None).low_counts (λ e. 1))) rows are (let z = failed_less in omega arith)

      pub ended_exact : (rows : Rows) (endless : Fraction) → AreMasses (mass_of p n None None) rows → InLowest endless → endless.0 ≡ 0 → IsExact p rows endless
      ended_exact rows endless are low none = record {
        settled = outflow;
        settles = settles;
        passes = passes;
        masses = record {
          ascending = are.ascending;
          each = λ x f c.
              let r = are.each x f c in
              let s = same_of x in
              (above (mass_of p n None None x) (settled_mass p outflow (same_outcome x)) s.same s.first s.second r.0, r.1 ∙ lowest_same (mass_of p n None None x) (settled_mass p outflow (same_outcome x)) s.first s.second s.same);
          all = λ x h.
              let s = same_of x in
              let m = mass_of p n None None x in
              let q = settled_mass p outflow (same_outcome x) in
              subst (λ f. Contains rows (x, f)) (lowest_same m q s.first s.second s.same) (are.all x (above q m (sym s.same) s.second s.first h));
        };
        rest = lowest_is endless (endless_mass p outflow) low (let z = never.endless_fraction in omega arith) (both_none endless (endless_mass p outflow) none none_endless);
        no_limit = limits_none;
        sum = closed (all_of rows).0 (all_of rows).1 endless.0 endless.1 none (rows_are_one rows are);
      }
        where
          above : (m s : Fraction) → IsEqual m s → 0 < m.1 → 0 < s.1 → 0 < m.0 → 0 < s.0
          above m s e h k l = factor_pos s.0 m.1 (m.0 * s.1) (sym e) (product_pos m.0 s.1 l k)

          closed : (a b x y : ℕ) → x ≡ 0 → b ≡ a → (a * y + x * b) * 1 ≡ 1 * (b * y)
          closed a b x y e h = let u = ap (λ z. z * b) e in let v = ap (λ z. z * y) h in omega arith
