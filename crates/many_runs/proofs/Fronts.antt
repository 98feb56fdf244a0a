-- A run on a stream ends as it does on the front of it that is just read.
use Rattle.std.proofs.Common.{◌≡◌, ◌⊎◌, inl, inr, ℕ, zero, suc, ◌+◌, ◌-◌, ◌*◌, ◌^◌, ◌≤◌, Bool, true, false, ◌&&◌, cond, Option, List, [], ◌∷◌, ◌++◌, length, refl, sym, ap, ◌∙◌, subst, arith}
use Rattle.std.specs.Prelude.{All, if◌then◌else◌}
use Rattle.std.proofs.lemmas.List.Elements.{All-head, All-tail, All-weaker}
use Rattle.std.proofs.lemmas.Nat.{pow-add}
use Rattle.std.proofs.Math.Nat.{mul-le-mul_left}
use Rattle.gcl_core.specs.declared.answers.Answer.{Answer}
use Rattle.gcl_core.specs.declared.answers.Answer.TheVariants.{Ended, MoreBits}
use Rattle.gcl_core.specs.declared.answers.Limits.{Limits}
use Rattle.gcl_core.specs.declared.answers.Outcome.{Outcome}
use Rattle.gcl_core.specs.meaning.Checked.{IsChecked}
use Rattle.gcl_core.specs.meaning.Outcomes.{same_outcome}
use Rattle.gcl_core.specs.meaning.Runs.{run_on}
use Rattle.gcl_core.specs.meaning.Syntax.{SourceProgram}
use Rattle.gcl_core.specs.weighing.Fractions.{Fraction, IsShare}
use Rattle.gcl_core.specs.weighing.StringWeight.{string_weight_from, answer_in, outcome_weight}
use Rattle.weighing_law.specs.Prefixes.{has_ended_in, needs_more, each_shorter_front, is_just_read}
use Rattle.weighing_law.specs.Weighing.{Suffices, limited_mass}
use Rattle.weighing_law.proofs.InOrder.{reads_in_order}
use Rattle.weighing_law.proofs.Shares.{cancel}
use Rattle.weighing_law.proofs.StringWeights.{weight_ended, weight_short, weight_goes_on, weight_behind}
use Rattle.weighing_law.proofs.WeighingLaw.{weighs_exactly}
use Rattle.many_runs.specs.Fronts.{off_even, FollowsFronts}
use Rattle.many_runs.specs.Streams.{runs_to, begins, beginning, BeginEvenly}
use Rattle.many_runs.specs.StringSums.{sum_of_those, over_just_read, apart}
use Rattle.many_runs.proofs.AllStrings.{count-cons}
use Rattle.many_runs.proofs.Undecided.{falls_short}
use Rattle.many_runs.proofs.StringSums.{apart_mul, sum_none, sum_never, sum_ext, sum_add, sum_mul, sum_apart}

module _ (x : Outcome) where
  -- ---- strings behind a bit, by whether the empty string needs more
  with_first : (answers : List Bool → Answer) (f : List Bool → ℕ) (needs b : Bool) (h : ℕ) → needs_more (answers []) ≡ needs →
      sum_of_those (λ v. is_just_read answers x (b ∷ v)) f h
      ≡ sum_of_those (λ v. (needs && each_shorter_front (λ u. needs_more (answers (b ∷ u))) v) && has_ended_in x (answers (b ∷ v))) f h
  with_first answers f needs b h e =
      ap (λ n. sum_of_those (λ v. (n && each_shorter_front (λ u. needs_more (answers (b ∷ u))) v) && has_ended_in x (answers (b ∷ v))) f h) e

  at_empty : (answers : List Bool → Answer) (f : List Bool → ℕ) (y : Outcome) (n : ℕ) → answers [] ≡ Ended y n → over_just_read answers x f 0 ≡ cond (same_outcome x y) (f []) 0
  at_empty answers f y n e = ap (λ a. if has_ended_in x a then f [] else 0) e ∙ by_test (same_outcome x y) (f [])
    where
      by_test : (b : Bool) (n : ℕ) → (if b then n else 0) ≡ cond b n 0
      by_test true n = refl
      by_test false n = refl

  at_once : (answers : List Bool → Answer) (f : List Bool → ℕ) (y : Outcome) (n h : ℕ) → answers [] ≡ Ended y n → over_just_read answers x f h ≡ cond (same_outcome x y) (f []) 0
  at_once answers f y n zero e = at_empty answers f y n e
  at_once answers f y n (suc h) e =
      let here = at_empty answers f y n e in
      let low = with_first answers (λ v. f (false ∷ v)) false false h (ap needs_more e) ∙ sum_never (λ v. f (false ∷ v)) h in
      let high = with_first answers (λ v. f (true ∷ v)) false true h (ap needs_more e) ∙ sum_never (λ v. f (true ∷ v)) h in
      omega arith

  none_yet : (answers : List Bool → Answer) (f : List Bool → ℕ) (n : ℕ) → answers [] ≡ MoreBits n → over_just_read answers x f 0 ≡ 0
  none_yet answers f n e = ap (λ a. if has_ended_in x a then f [] else 0) e

  goes_on : (answers : List Bool → Answer) (f : List Bool → ℕ) (n h : ℕ) → answers [] ≡ MoreBits n →
      over_just_read answers x f (suc h)
      ≡ over_just_read (λ v. answers (false ∷ v)) x (λ v. f (false ∷ v)) h + over_just_read (λ v. answers (true ∷ v)) x (λ v. f (true ∷ v)) h
  goes_on answers f n h e =
      let here = none_yet answers f n e in
      let low = with_first answers (λ v. f (false ∷ v)) true false h (ap needs_more e) in
      let high = with_first answers (λ v. f (true ∷ v)) true true h (ap needs_more e) in
      omega arith

  -- ---- what an outcome weighs
  abbrev read : (List Bool → Answer) → List Bool → Option Bool
  read answers w = answer_in (same_outcome x) (answers w)

  weighs_by : (L : ℕ) (answers : List Bool → Answer) (a : Answer) → answers [] ≡ a → string_weight_from (read answers) L [] ≡ over_just_read answers x (λ u. 2 ^ (L - length u)) L
  weighs_by L answers (Ended y n) e =
      let whole : L - length {A = Bool} [] ≡ L = omega arith in
      weight_ended (read answers) L [] (same_outcome x y) (ap (answer_in (same_outcome x)) e)
      ∙ ap (λ k. cond (same_outcome x y) (2 ^ k) 0) (sym whole) ∙ sym (at_once answers (λ u. 2 ^ (L - length u)) y n L e)
  weighs_by zero answers (MoreBits n) e = weight_short (read answers) [] (ap (answer_in (same_outcome x)) e) ∙ sym (none_yet answers (λ u. 2 ^ (0 - length u)) n e)
  weighs_by (suc L) answers (MoreBits n) e =
      let low = weight_behind (read answers) L false [] ∙ weighs_by L (λ v. answers (false ∷ v)) (answers (false ∷ [])) refl in
      let high = weight_behind (read answers) L true [] ∙ weighs_by L (λ v. answers (true ∷ v)) (answers (true ∷ [])) refl in
      let on = weight_goes_on (read answers) L [] (ap (answer_in (same_outcome x)) e) in
      let sum = goes_on answers (λ u. 2 ^ (suc L - length u)) n L e in
      let low' = shorter (λ v. answers (false ∷ v)) false in
      let high' = shorter (λ v. answers (true ∷ v)) true in
      omega arith
    where
      shorter : (answers : List Bool → Answer) (b : Bool) → over_just_read answers x (λ v. 2 ^ (suc L - length (b ∷ v))) L ≡ over_just_read answers x (λ v. 2 ^ (L - length v)) L
      shorter answers b = sum_ext (is_just_read answers x) (λ v. 2 ^ (suc L - length (b ∷ v))) (λ v. 2 ^ (L - length v)) L (λ v le. ap (λ n. 2 ^ n) (let e : suc L - length (b ∷ v) ≡ L - length v = omega arith in e))

  -- ---- one stream

  abbrev Stays : (List Bool → Answer) → Type 0
  Stays answers = (y : Outcome) (n : ℕ) (u v : List Bool) → answers u ≡ Ended y n → answers (u ++ v) ≡ Ended y n

  -- the stream has just so many bits, or enough
  abbrev Fits : (List Bool → Answer) → ℕ → List Bool → Type 0
  Fits answers L s = (length s ≡ L) ⊎ (Suffices answers L × (L ≤ length s))

  fits_on : (answers : List Bool → Answer) (L : ℕ) (b : Bool) (s : List Bool) → Fits answers (suc L) (b ∷ s) → Fits (λ v. answers (b ∷ v)) L s
  fits_on answers L b s (inl e) = inl (omega (arith, e))
  fits_on answers L b s (inr h) = let le = h.1 in inr (λ w f. h.0 (b ∷ w) (omega (arith, f)), omega arith)

  one_stream : (L : ℕ) (answers : List Bool → Answer) (s : List Bool) (a : Answer) → Stays answers → Fits answers L s → answers [] ≡ a →
      cond (has_ended_in x (answers s)) 1 0 ≡ over_just_read answers x (λ u. cond (begins u s) 1 0) L
  one_stream L answers s (Ended y n) stays fits e =
      ap (λ a. cond (has_ended_in x a) 1 0) (stays y n [] s e) ∙ sym (at_once answers (λ u. cond (begins u s) 1 0) y n L e)
  one_stream zero answers [] (MoreBits n) stays (inl f) e = ap (λ a. cond (has_ended_in x a) 1 0) e ∙ sym (none_yet answers (λ u. cond (begins u []) 1 0) n e)
  one_stream zero answers (b ∷ s) (MoreBits n) stays (inl f) e = absurd (omega (arith, f))
  one_stream zero answers s (MoreBits n) stays (inr h) e = absurd (h.0 [] refl n e)
  one_stream (suc L) answers [] (MoreBits n) stays (inl f) e = absurd (omega (arith, f))
  one_stream (suc L) answers [] (MoreBits n) stays (inr h) e = absurd (omega (arith, h.1))
  one_stream (suc L) answers (false ∷ s) (MoreBits n) stays fits e =
      let low = one_stream L (λ v. answers (false ∷ v)) s (answers (false ∷ [])) (λ y n u v. stays y n (false ∷ u) v) (fits_on answers L false s fits) refl in
      let high = sum_none (is_just_read (λ v. answers (true ∷ v)) x) (λ v. cond (begins (true ∷ v) (false ∷ s)) 1 0) L (λ v. refl) in
      let sum = goes_on answers (λ u. cond (begins u (false ∷ s)) 1 0) n L e in
      omega arith
  one_stream (suc L) answers (true ∷ s) (MoreBits n) stays fits e =
      let high = one_stream L (λ v. answers (true ∷ v)) s (answers (true ∷ [])) (λ y n u v. stays y n (true ∷ u) v) (fits_on answers L true s fits) refl in
      let low = sum_none (is_just_read (λ v. answers (false ∷ v)) x) (λ v. cond (begins (false ∷ v) (true ∷ s)) 1 0) L (λ v. refl) in
      let sum = goes_on answers (λ u. cond (begins u (true ∷ s)) 1 0) n L e in
      omega arith

  abbrev EachFits : (List Bool → Answer) → ℕ → List (List Bool) → Type 0
  EachFits answers L ss = All (Fits answers L) ss

  fits_of : (answers : List Bool → Answer) (L : ℕ) (ss : List (List Bool)) → All (λ s. length s ≡ L) ss → EachFits answers L ss
  fits_of answers L ss h = All-weaker (λ s. length s ≡ L) (Fits answers L) (λ s e. inl e) ss h

  fits_long : (answers : List Bool → Answer) (L : ℕ) (ss : List (List Bool)) → Suffices answers L → All (λ s. L ≤ length s) ss → EachFits answers L ss
  fits_long answers L ss suffices h = All-weaker (λ s. L ≤ length s) (Fits answers L) (λ s le. inr (suffices, le)) ss h

  -- ---- all streams
  module _ (answers : List Bool → Answer) (stays : Stays answers) (L : ℕ) where
    pub each_stream : (ss : List (List Bool)) → EachFits answers L ss → runs_to answers x ss ≡ over_just_read answers x (λ u. beginning u ss) L
    each_stream [] h = sym (sum_none (is_just_read answers x) (λ u. 0) L (λ u. refl))
    each_stream (s ∷ ss) h =
        let one = one_stream L answers s (answers []) stays (All-head (Fits answers L) s ss h) refl in
        let rest = each_stream ss (All-tail (Fits answers L) s ss h) in
        let sum = sum_add (is_just_read answers x) (λ u. cond (begins u s) 1 0) (λ u. beginning u ss) L in
        let here = count-cons (λ s. has_ended_in x (answers s)) s ss in
        let each = sum_ext (is_just_read answers x) (λ u. beginning u (s ∷ ss)) (λ u. cond (begins u s) 1 0 + beginning u ss) L (λ u le. count-cons (begins u) s ss) in
        omega arith

    module _ (ss : List (List Bool)) (fit : EachFits answers L ss) where
      abbrev N : ℕ
      N = length ss

      abbrev W : ℕ
      W = outcome_weight answers x L

      abbrev count : ℕ
      count = runs_to answers x ss

      -- both at the scale of 2 ^ L
      counted : 2 ^ L * count ≡ over_just_read answers x (λ u. 2 ^ L * beginning u ss) L
      counted = ap (λ n. 2 ^ L * n) (each_stream ss fit) ∙ sym (sum_mul (is_just_read answers x) (2 ^ L) (λ u. beginning u ss) L)

      expected : N * W ≡ over_just_read answers x (λ u. 2 ^ (L - length u) * N) L
      expected =
          ap (λ w. N * w) (weighs_by L answers (answers []) refl) ∙ sym (sum_mul (is_just_read answers x) N (λ u. 2 ^ (L - length u)) L)
          ∙ sum_ext (is_just_read answers x) (λ u. N * 2 ^ (L - length u)) (λ u. 2 ^ (L - length u) * N) L (λ u le. turned N (2 ^ (L - length u)))
        where
          turned : (a b : ℕ) → a * b ≡ b * a
          turned a b = omega arith

      pub off_weight : apart (2 ^ L * count) (N * W) ≤ off_even answers x L ss
      off_weight =
          let h = sum_apart (is_just_read answers x) (λ u. 2 ^ L * beginning u ss) (λ u. 2 ^ (L - length u) * N) L in
          let k = subst (λ a. apart a (over_just_read answers x (λ u. 2 ^ (L - length u) * N) L) ≤ off_even answers x L ss) (sym counted) h in
          subst (λ b. apart (2 ^ L * count) b ≤ off_even answers x L ss) (sym expected) k

      -- against the fraction that it weighs
      module _ (m : Fraction) (share : IsShare (outcome_weight answers x L) (2 ^ L) m) where
        scaled : apart (m.1 * count) (m.0 * N) * 2 ^ L ≡ m.1 * apart (2 ^ L * count) (N * W)
        scaled =
            turned (apart (m.1 * count) (m.0 * N)) (2 ^ L) ∙ sym (apart_mul (2 ^ L) (m.1 * count) (m.0 * N))
            ∙ ap (λ a. apart a (2 ^ L * (m.0 * N))) (first (2 ^ L) m.1 count) ∙ ap (λ b. apart (m.1 * (2 ^ L * count)) b) (second (2 ^ L) m.0 m.1 N W share)
            ∙ apart_mul m.1 (2 ^ L * count) (N * W)
          where
            turned : (a b : ℕ) → a * b ≡ b * a
            turned a b = omega arith

            first : (a b c : ℕ) → a * (b * c) ≡ b * (a * c)
            first a b c = omega arith

            second : (T m0 m1 N W : ℕ) → m1 * W ≡ m0 * T → T * (m0 * N) ≡ m1 * (N * W)
            second T m0 m1 N W e = let f = ap (λ x. N * x) e in omega arith

        pub off : apart (m.1 * count) (m.0 * N) * 2 ^ L ≤ m.1 * off_even answers x L ss
        off = subst (λ a. a ≤ m.1 * off_even answers x L ss) (sym scaled) (mul-le-mul_left m.1 off_weight)

        pub even : BeginEvenly L ss → IsShare count N m
        even evenly =
            let same = counted ∙ sum_ext (is_just_read answers x) (λ u. 2 ^ L * beginning u ss) (λ u. 2 ^ (L - length u) * N) L (λ u le. at_scale u le) ∙ sym expected in
            cancel L (m.1 * count) (m.0 * N) (joined (2 ^ L) count m.0 m.1 N W same share)
          where
            regroup : (a b c : ℕ) → a * b * c ≡ a * (b * c)
            regroup a b c = omega arith

            at_scale : (u : List Bool) → length u ≤ L → 2 ^ L * beginning u ss ≡ 2 ^ (L - length u) * N
            at_scale u le =
                let e : L ≡ L - length u + length u = omega (arith, le) in
                let p = ap (λ n. 2 ^ n) e ∙ pow-add 2 (L - length u) (length u) in
                ap (λ n. n * beginning u ss) p ∙ regroup (2 ^ (L - length u)) (2 ^ length u) (beginning u ss) ∙ ap (λ n. 2 ^ (L - length u) * n) (evenly u le)

            joined : (T c m0 m1 N W : ℕ) → T * c ≡ N * W → m1 * W ≡ m0 * T → m1 * c * T ≡ m0 * N * T
            joined T c m0 m1 N W e f = let a = ap (λ x. m1 * x) e in let b = ap (λ x. N * x) f in omega arith

pub follows_fronts : (p : SourceProgram) (l : Limits) (answers : List Bool → Answer) → IsChecked p → ((w : List Bool) → answers w ≡ run_on p l w) → FollowsFronts answers p l
follows_fronts p l answers ok same =
    let order = reads_in_order p l answers same in
    let weighs = weighs_exactly p l answers ok same in
    record {
      weighs = λ x L. weighs_by x L answers (answers []) refl;
      short_by = λ x L. falls_short p l ok answers same x L;
      counts_of = λ x L ss of. each_stream x answers order.stays L ss (fits_of x answers L ss of);
      off_weight = λ x L ss of. off_weight x answers order.stays L ss (fits_of x answers L ss of);
      counts = λ x L ss suffices long. each_stream x answers order.stays L ss (fits_long x answers L ss suffices long);
      off_by = λ x L ss suffices long. off x answers order.stays L ss (fits_long x answers L ss suffices long) (limited_mass p l x) (weighs.exact x L suffices);
      exact = λ x L ss suffices long evenly. even x answers order.stays L ss (fits_long x answers L ss suffices long) (limited_mass p l x) (weighs.exact x L suffices) evenly;
    }
