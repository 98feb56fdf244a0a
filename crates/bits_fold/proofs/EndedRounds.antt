-- A program whose runs have all ended by some number of turns: what a round of merged tables reads and fails with there, and why its bits
-- are refused.
use Rattle.std.proofs.Common.{◌≡◌, ℕ, zero, suc, ◌+◌, ◌-◌, ◌*◌, ◌/◌, ◌%◌, ◌^◌, ◌≤◌, ◌<◌, cond, List, [], ◌∷◌, Option, Some, None, length, refl, sym, ap, ◌∙◌, arith}
use Rattle.std.proofs.Math.Nat.{lt_of_mul-lt-mul_left, mul-le-mul_left, mul-lt-mul_of_pos_right}
use Rattle.std.proofs.lemmas.Nat.{div-add-mod', mod_below}
use Rattle.std.proofs.lemmas.Nat.Gcd.{dvd_refl}
use Rattle.numbers.specs.Arithmetic.{product_of}
use Rattle.numbers.specs.Fraction.{IsEqual, lowest}
use Rattle.numbers.proofs.Divisors.{product_pos, cancel, equal_trans, lowest_equal}
use Rattle.gcl_core.specs.declared.answers.Limit.TheVariants.{Turns}
use Rattle.gcl_core.specs.declared.answers.Outcome.TheVariants as outcome
use Rattle.gcl_core.specs.meaning.Blocks.{End, on, failed, fault, limit}
use Rattle.gcl_core.specs.meaning.Bounds.{BlockIsWeighed}
use Rattle.gcl_core.specs.meaning.Checked.{IsChecked}
use Rattle.gcl_core.specs.meaning.Draw.{bits_for, last_end, rejected_numbers}
use Rattle.gcl_core.specs.meaning.Outcomes.{same_outcome, zeros}
use Rattle.gcl_core.specs.meaning.Syntax.{SourceProgram}
use Rattle.gcl_core.specs.weighing.Fractions.{Fraction}
use Rattle.gcl_core.specs.weighing.Mass.{sum_of, is_failed, round_mass, mass_of, failed_mass}
use Rattle.gcl_core.specs.weighing.WeightedEnds.{Weighted, sure}
use Rattle.gcl_core.proofs.Accepted.{checked_weights}
use Rattle.cost_law.specs.ExpectedBits.{attempt_bits}
use Rattle.table_flow.specs.Scale.{whole, Whole, AllWhole, Wholes, WholeAtWidth, amount}
use Rattle.table_flow.specs.Tables.{Table, Flow, tables_of, peak_of, ReachedDraws}
use Rattle.table_flow.specs.Width.{round_width, common_denominator}
use Rattle.table_flow.proofs.FlowWords.{draws_of}
use Rattle.table_flow.proofs.AtWidth.{at_width}
use Rattle.table_flow.proofs.Denominators.{AllPositive, common_positive, wholes_at}
use Rattle.table_flow.proofs.Linear.{sum_amount}
use Rattle.table_flow.proofs.Masses.{last_few, sum_held}
use Rattle.table_flow.proofs.Positive.{FlowPositive, p_sure, p_all}
use Rattle.table_flow.proofs.Wholes.{whole_from, whole_multiple, product_wide}
use Rattle.mass_fold.specs.Body.{BitsAt, RoundBits, IsMass}
use Rattle.mass_fold.specs.Metering.{Priced, price}
use Rattle.mass_fold.proofs.DrawsWhole.{block_whole}
use Rattle.mass_fold.proofs.Insertion.{product_below}
use Rattle.mass_fold.proofs.RoundMasses.{round_positive}
use Rattle.mass_fold.proofs.Transfer.{EachShare, average_amount}
use Rattle.unlimited_law.specs.Ended.{TurnsSuffice, flowed_in}
use Rattle.unlimited_law.specs.Settling.{Outflow}
use Rattle.unlimited_law.specs.SettledMasses.{over, settled_failed}
use Rattle.unlimited_law.proofs.BlockLimits.{all_fractions}
use Rattle.unlimited_law.proofs.EndedBlocks as settling
use Rattle.unlimited_law.proofs.EndedBlocks.{sum_suffices, FlowSettles}
use Rattle.unlimited_law.proofs.EndedLoops.{Suffice}
use Rattle.unlimited_law.proofs.SameWeights.{sum_some}
use Rattle.exact_fold.specs.Exact.{FailsWith}
use Rattle.exact_fold.proofs.EndedMasses.{no_mass_suffices}
use Rattle.exact_fold.proofs.Rows.{both_at}
use Rattle.bits_law.specs.Draws.{bits_of_draw, bits_of_draws}
use Rattle.bits_law.specs.Price.{bits_price}
use Rattle.bits_law.specs.InTheLimit.{RoundReads}
use Rattle.bits_law.proofs.EndedReads.{block_ended}
use Rattle.bits_law.proofs.LimitedDraws.{block_counted}
use Rattle.bits_law.proofs.TableReads.{average_some}
use Rattle.bits_fold.specs.Refused.{number_weights, bit_parts, bits_width}
use Rattle.bits_fold.specs.inner.AsWritten.{RoundsBlame}
use Rattle.bits_fold.specs.inner.Reading.{ReadsInRound}
use Rattle.bits_fold.proofs.DrawSums.{price_is}
use Rattle.bits_fold.proofs.SameReads.{block_as}
use Rattle.exact_fold.proofs.SameLists.{alike_refl}

-- ---- a bound of X, in parts of N
record Bound (X N : ℕ) : Type 0 where
  pub bound : ℕ
  pub some : 1 ≤ bound
  pub within : X ≤ N * bound
  pub close : N * bound ≤ N + X

bound_of : (X N : ℕ) → 0 < N → Bound X N
bound_of X N pos =
    let e = div-add-mod' X N in
    let m = mod_below X N pos in
    record { bound = suc (X / N); some = omega arith; within = above (X / N) (X % N) e m; close = below (X / N) (X % N) e }
  where
    above : (q r : ℕ) → q * N + r ≡ X → r < N → X ≤ N * suc q
    above q r e m = omega arith

    below : (q r : ℕ) → q * N + r ≡ X → N * suc q ≤ N + X
    below q r e = omega arith

-- ---- draws of which each has a number
abbrev HasNumbers : ReachedDraws → Type 0
HasNumbers [] = Unit {0}
HasNumbers (e ∷ D) = (0 < last_end e.1) × HasNumbers D

numbers_of : (D : ReachedDraws) → 0 < (bits_of_draws D).1 → HasNumbers D
numbers_of [] h = tt
numbers_of (e ∷ D) h =
    let K = 2 ^ bits_for (last_end e.1) in
    let u = K - rejected_numbers (last_end e.1) in
    let B = (bits_of_draws D).1 in
    let a : 0 < e.0.1 * (K * u) = product_below (e.0.1 * (K * u)) B h in
    let b : 0 < B = product_below B (e.0.1 * (K * u)) (turned (e.0.1 * (K * u)) B h) in
    let c : 0 < u = product_below u (e.0.1 * K) (three e.0.1 K u a) in
    (number (last_end e.1) K c, numbers_of D b)
  where
    turned : (a b : ℕ) → 0 < a * b → 0 < b * a
    turned a b h = omega (arith, h)

    three : (a b c : ℕ) → 0 < a * (b * c) → 0 < c * (a * b)
    three a b c h = omega (arith, h)

    number : (b K : ℕ) → 0 < K - (K - b) → 0 < b
    number b K h = omega arith

all_positive : (D : ReachedDraws) → HasNumbers D → AllPositive (number_weights D)
all_positive [] h = tt
all_positive (e ∷ D) h = (h.0, all_positive D h.1)

module _ (M : ℕ) where
  priced : (D : ReachedDraws) → AllWhole M (number_weights D) → Priced None M D
  priced [] h = tt
  priced (e ∷ D) h = (record { one = h.0; none = (whole_from M (0, 1) 0 (omega arith) (omega arith)).1 }, priced D h.1)

  share : (ends : List ℕ) → Whole M (1, last_end ends) → (bits_of_draw None ends).1 * price None M ends ≡ (bits_of_draw None ends).0 * M
  share ends w =
      let U = (attempt_bits ends).0 in
      let b = last_end ends in
      by U b (bits_of_draw None ends).0 (bits_of_draw None ends).1 (whole M (1, b)) (price_is bits_price ends U b (U, b) refl refl refl) w.exact
    where
      by : (U b x y W : ℕ) → U * y ≡ x * b → b * W ≡ 1 * M → y * (U * W) ≡ x * M
      by U b x y W e h = let z = ap (λ v. v * W) e in let v = ap (λ v. x * v) h in omega arith

  shares : (D : ReachedDraws) → AllWhole M (number_weights D) → EachShare M (bits_of_draw None) (price None M) D
  shares [] h = tt
  shares (e ∷ D) h = (share e.1 h.0, shares D h.1)

-- ---- what fails
same_failed : (e : End) → over is_failed e ≡ is_failed e
same_failed (on s) = refl
same_failed failed = refl
same_failed (fault f) = refl
same_failed (limit l) = refl

failed_amount : (N : ℕ) (m : Weighted End) → amount N (λ x. cond (over is_failed x) 1 0) m ≡ amount N (λ x. cond (is_failed x) 1 0) m
failed_amount N [] = refl
failed_amount N (e ∷ m) = let a = ap (λ z. whole N e.0 * cond z 1 0) (same_failed e.1) in let b = failed_amount N m in omega arith

-- two fractions of the same share
one_share : (p q : Fraction) (V N : ℕ) → 0 < N → p.1 * V ≡ p.0 * N → q.1 * V ≡ q.0 * N → IsEqual p q
one_share p q V N pos e h = by p.0 p.1 q.0 q.1 e h
  where
    by : (a b c d : ℕ) → b * V ≡ a * N → d * V ≡ c * N → a * d ≡ c * b
    by a b c d e h = cancel N _ _ pos (let x = ap (λ z. d * z) e in let y = ap (λ z. b * z) h in omega arith)

module _ (p : SourceProgram) (ok : IsChecked p) (n : ℕ) where
  w : BlockIsWeighed p.body
  w = checked_weights p ok

  abbrev s : Table
  s = sure (zeros (length p.names))

  abbrev flow : Flow
  flow = tables_of p n None

  positive : FlowPositive flow
  positive = p_all n None p.body s w (p_sure (zeros (length p.names)))

  abbrev D : ReachedDraws
  D = draws_of p n None

  abbrev read : Fraction
  read = bits_of_draws D

  abbrev Q : ℕ
  Q = round_width p n None

  abbrev M : ℕ
  M = common_denominator (number_weights D)

  abbrev N : ℕ
  N = bit_parts p n

  abbrev X : ℕ
  X = amount Q (price None M) D

  at : WholeAtWidth p n None
  at = at_width p n None w

  read_some : 0 < read.1
  read_some = average_some (bits_of_draw None) D (block_counted n p.body w s (p_sure (zeros (length p.names))))

  numbers : AllPositive (number_weights D)
  numbers = all_positive D (numbers_of D read_some)

  Mp : 0 < M
  Mp = common_positive (number_weights D) numbers

  Np : 0 < N
  Np = product_pos Q M at.positive Mp

  all_whole : AllWhole M (number_weights D)
  all_whole = wholes_at M (number_weights D) numbers (dvd_refl M)

  read_share : read.1 * X ≡ read.0 * N
  read_share = average_amount Q M (bits_of_draw None) (price None M) D (block_whole n None Q (peak_of p n None) p.body s at.within) (shares M D all_whole)

  read_parts : whole N read ≡ X
  read_parts = (whole_from N read X read_some read_share).0

  counted : (o : Option Fraction) → RoundBits p n None o → BitsAt N X o
  counted o h = h M Mp (priced M D all_whole)

  -- ---- why they are refused
  pub bits_wide : RoundBits p n None None → 2 ^ 128 ≤ bits_width p n
  bits_wide h =
      let b = bound_of X N Np in
      let c = counted None h b.bound b.some b.within in
      let d = b.close in
      let e = read_parts in
      omega arith

  pub round_wide : 2 ^ 128 ≤ Q → 2 ^ 128 ≤ bits_width p n
  round_wide h = let z : Q * 1 ≤ Q * M = mul-le-mul_left Q Mp in omega arith

  pub rounds_wide : (b f : Fraction) → RoundBits p n None (Some b) → IsMass Q f → RoundsBlame b f → 2 ^ 128 ≤ bits_width p n
  rounds_wide b f h m blame =
      let c = counted (Some b) h in
      let d = blame N Np c.0 (whole_multiple Q M f m.parts).1 in
      let e = read_parts in
      let g = c.1 in
      omega arith

  module _ (suffice : TurnsSuffice (tables_of p n None).ended) where
    none_out : Suffice flow.ended
    none_out = sum_suffices flow.ended (all_fractions flow.ended positive.ended) suffice

    -- ---- what a round reads
    reads : RoundReads p flow.next read
    reads = block_ended n p.body w s (p_sure (zeros (length p.names))) none_out

    pub round_reads : (b : Fraction) → RoundBits p n None (Some b) → ReadsInRound p b
    round_reads b h =
        let c = counted (Some b) h in
        let e : b.1 * X ≡ b.0 * N = ap (λ z. b.1 * z) (sym c.1) ∙ c.0.exact in
        let some = c.0.positive in
        (flow.next, block_as bits_price p.body s flow.next flow.next read b (alike_refl flow.next (all_fractions flow.next positive.next)) (one_share b read X N Np e read_share) (omega arith) reads)

    -- ---- what a round fails with
    abbrev settled : FlowSettles n p.body s
    settled = settling.block_ended n p.body w s (p_sure (zeros (length p.names))) none_out

    abbrev outflow : Outflow
    outflow = flowed_in settled.turns flow

    abbrev lost : Fraction
    lost = settled_failed p outflow

    lost_some : 0 < lost.1
    lost_some =
        product_pos (sum_of (λ s. is_failed (on s)) outflow.next).1 (sum_of (over is_failed) outflow.ended).1 (sum_some (λ s. is_failed (on s)) outflow.next (all_fractions outflow.next positive.next)) (sum_some (over is_failed) outflow.ended (all_fractions outflow.ended positive.ended))

    lost_is : IsEqual (failed_mass p n None) lost
    lost_is =
        let next = outflow.next in
        let ended = outflow.ended in
        let first : Wholes Q next = (last_few n None Q (peak_of p n None) p.body s at.within.tables).0 in
        let A = amount Q (λ s. cond (is_failed (on s)) 1 0) next in
        let a = both_at (sum_of (λ s. is_failed (on s)) next) (sum_of (over is_failed) ended) A (amount Q (λ x. cond (over is_failed x) 1 0) ended) Q (sum_amount Q (λ s. is_failed (on s)) next first) (sum_amount Q (over is_failed) ended at.within.ended) in
        let b = sum_held n None Q (peak_of p n None) p.body (zeros (length p.names)) at.within is_failed in
        let e : A + amount Q (λ x. cond (over is_failed x) 1 0) ended ≡ A + amount Q (λ x. cond (is_failed x) 1 0) ended = ap (λ z. A + z) (failed_amount Q ended) in
        one_share (failed_mass p n None) lost (A + amount Q (λ x. cond (is_failed x) 1 0) ended) Q at.positive b (ap (λ z. lost.1 * z) (sym e) ∙ a)

    pub round_fails : (f : Fraction) → f ≡ lowest (failed_mass p n None) → FailsWith p f
    round_fails f e =
        let g = failed_mass p n None in
        let same : IsEqual f g = rw e (lowest_equal g.0 g.1) in
        record {
          settled = outflow;
          settles = settled.settles;
          fails = equal_trans f g lost fails_some same lost_is;
          fraction = let z = lost_some in omega arith;
        }
      where
        fails_some : 0 < (failed_mass p n None).1
        fails_some = round_positive p n None w is_failed

-- ---- whether some run goes on at a limit of turns
module _ (p : SourceProgram) (ok : IsChecked p) (n : ℕ) where
  abbrev out : Fraction
  out = round_mass p n None (same_outcome (outcome.Limit Turns))

  abbrev fails : Fraction
  fails = failed_mass p n None

  pub still_runs : 0 < out.0 → 0 < (mass_of p n None None (outcome.Limit Turns)).0
  still_runs some = product_pos out.0 fails.1 some (round_positive p n None (checked_weights p ok) is_failed)

  pub none_runs : 1 ≤ n → (0 < out.0 → ⊥) → TurnsSuffice (tables_of p n None).ended
  none_runs one none = no_mass_suffices p ok n one (ap (λ z. z * fails.1) (nothing out.0 none) ∙ no_parts fails.1)
    where
      nothing : (k : ℕ) → (0 < k → ⊥) → k ≡ 0
      nothing zero h = refl
      nothing (suc k) h = absurd (h (omega arith))

      no_parts : (k : ℕ) → 0 * k ≡ 0
      no_parts k = omega arith

-- ---- all rounds
module _ (read failed rounds : Fraction) (less : failed.0 < failed.1) (is : IsEqual rounds (failed.1, failed.1 - failed.0)) (some : 1 ≤ rounds.1) where
  pub rounds_blame : product_of read rounds ≡ None → RoundsBlame read failed
  rounds_blame none N pos wr wf =
      let F = whole N failed in
      let X = whole N read in
      let few : F < N = lt_of_mul-lt-mul_left failed.1 (let z = mul-lt-mul_of_pos_right less pos in let y = wf.exact in omega arith) in
      let P = N - F in
      let Pp : 0 < P = omega arith in
      let q = scaled failed.1 (failed.1 - failed.0) N P rounds.0 rounds.1 (omega arith) is (passed failed.1 failed.0 (failed.1 - failed.0) N F P (omega arith) (omega arith) wf.exact) in
      let rp : 0 < rounds.1 = omega arith in
      let k = whole_from P (read.0 * rounds.0, read.1 * rounds.1) X (product_pos read.1 rounds.1 wr.positive rp) (both read.0 read.1 rounds.0 rounds.1 N P X wr.exact q) in
      let b = bound_of X P Pp in
      let wide = product_wide P b.bound read rounds Pp b.some k.1 (let z = k.0 in let y = b.within in omega arith) none in
      let close = b.close in
      omega arith
    where
      passed : (d n u N F P : ℕ) → d ≡ n + u → N ≡ F + P → d * F ≡ n * N → d * P ≡ u * N
      passed d n u N F P e h k = let x = ap (λ z. z * N) e in let y = ap (λ z. d * z) h in omega arith

      scaled : (d u N P r0 r1 : ℕ) → 0 < d → r0 * u ≡ d * r1 → d * P ≡ u * N → r1 * N ≡ r0 * P
      scaled d u N P r0 r1 h e k = cancel d _ _ h (let x = ap (λ z. z * N) e in let y = ap (λ z. r0 * z) k in omega arith)

      both : (a b c d N P X : ℕ) → b * X ≡ a * N → d * N ≡ c * P → b * d * X ≡ a * c * P
      both a b c d N P X e h = let x = ap (λ z. d * z) e in let y = ap (λ z. a * z) h in omega arith
