-- The rows of some rounds, and of all of them, hold the masses.
use Rattle.std.proofs.Common.{◌≡◌, ℕ, zero, suc, ◌+◌, ◌-◌, ◌*◌, ◌^◌, ◌≤◌, ◌<◌, Bool, true, false, cond, Option, Some, None, IfSome, IfNone, Result, Ok, Err, IfOk, refl, sym, ap, ◌∙◌, subst, arith}
use Rattle.std.proofs.Math.Nat.{pow-suc, lt_of_mul-lt-mul_left, mul-lt-mul_of_pos_right, le_of_mul-le-mul_right, mul-le-mul_left}
use Rattle.gcl_core.specs.declared.answers.Limit.TheVariants.{Rounds}
use Rattle.gcl_core.specs.declared.answers.Outcome.TheVariants as outcome
use Rattle.gcl_core.specs.weighing.Fractions.{Fraction, zero_share, plus, times, power, power_sum, IsBelowOne}
use Rattle.gcl_core.specs.weighing.Mass.{round_mass, failed_mass, mass_of_those}
use Rattle.gcl_core.specs.meaning.Syntax.{SourceProgram}
use Rattle.numbers.specs.Fraction.{IsEqual, lowest}
use Rattle.numbers.specs.Arithmetic.{InLowest}
use Rattle.numbers.proofs.Divisors.{product_pos, cancel}
use Rattle.table_flow.specs.Scale.{whole}
use Rattle.table_flow.specs.Tables.{peak_of}
use Rattle.table_flow.specs.Width.{round_width, width_of}
use Rattle.mass_fold.specs.declared.error.MassError.{MassError}
use Rattle.mass_fold.specs.declared.error.MassError.TheVariants.{TooWide, TooManyStates, AllFailed, OutOfMemory}
use Rattle.mass_fold.specs.Amounts.{held, WholeWithin}
use Rattle.mass_fold.specs.inner.Masses.{counted, HoldMasses, RoundGives}
use Rattle.mass_fold.specs.Refused.{IsLimit, RoundRefused, MassRefused}
use Rattle.mass_fold.specs.Rounds.{geometric, scale_of}
use Rattle.mass_fold.specs.inner.Rounds.{InRounds, RoundsBlame, OverRest, OverRestBlames}
use Rattle.mass_fold.specs.Rows.{Rows}
use Rattle.mass_fold.proofs.Failing.{at_scale}
use Rattle.mass_fold.proofs.OutcomeRows.{lowest_is}
use Rattle.mass_fold.proofs.Repeats.{scale_is}
use Rattle.mass_fold.proofs.Rest.{rest_above}

-- ---- sums of powers
power_sum_pos : (g : Fraction) (R : ℕ) → 0 < g.1 → 0 < (power_sum g R).1
power_sum_pos g zero h = omega arith
power_sum_pos g (suc k) h = let i = product_pos g.1 (power_sum g k).1 h (power_sum_pos g k h) in omega arith

power_pos : (g : Fraction) (R : ℕ) → 0 < g.1 → 0 < (power g R).1
power_pos g zero h = omega arith
power_pos g (suc k) h = product_pos g.1 (power g k).1 h (power_pos g k h)

-- fractions of one value have powers of one value
same_powers : (f g : Fraction) → IsEqual f g → (R : ℕ) → (power g R).1 * (power f R).0 ≡ (power g R).0 * (power f R).1
same_powers f g e zero = refl
same_powers f g e (suc k) = more f.0 f.1 g.0 g.1 (power f k).0 (power f k).1 (power g k).0 (power g k).1 e (same_powers f g e k)
  where
    more : (a b c d P p Q q : ℕ) → a * d ≡ c * b → q * P ≡ Q * p → d * q * (a * P) ≡ c * Q * (b * p)
    more a b c d P p Q q e i = let x = ap (λ z. z * (q * P)) e in let y = ap (λ z. c * b * z) i in omega arith

-- and sums of powers; that of f is so many parts of a power of its denominator
pub same_sums : (f g : Fraction) → IsEqual f g → (R : ℕ) → f.1 * ((power_sum g R).1 * geometric f R) ≡ (power_sum g R).0 * f.1 ^ R
same_sums f g e zero = omega arith
same_sums f g e (suc k) =
    rw (pow-suc f.1 k) (more f.0 f.1 g.0 g.1 (power_sum g k).0 (power_sum g k).1 (geometric f k) (f.1 ^ k) e (same_sums f g e k))
  where
    more : (a b c d P p G D : ℕ) → a * d ≡ c * b → b * (p * G) ≡ P * D → b * (1 * (d * p) * (D + a * G)) ≡ (1 * (d * p) + c * P * 1) * (D * b)
    more a b c d P p G D e i = let x = ap (λ z. b * p * G * z) e in let y = ap (λ z. c * b * z) i in omega arith

-- ---- some rounds
module _ (p : SourceProgram) (n : ℕ) (r : Option ℕ) (rows : Rows) (f : Fraction) (round : RoundGives p n r rows f) where
  abbrev Q : ℕ
  Q = round_width p n r

  abbrev g : Fraction
  g = failed_mass p n r

  pub at_most_one : f.0 ≤ f.1
  at_most_one = le_of_mul-le-mul_right {k = Q} (let h = round.parts in let z = mul-le-mul_left f.1 (let y = h.sum in let x : whole Q f ≤ Q = omega arith in x) in omega (arith, h.failed.exact)) round.parts.positive

  pub failed_is : InLowest f → f ≡ lowest g
  failed_is l = lowest_is f g l round.fails round.failed

  pub some_pass : f.0 < f.1 → IsBelowOne g
  some_pass h = lt_of_mul-lt-mul_left f.1 (let z = mul-lt-mul_of_pos_right h round.fails in let y = round.failed in omega arith)

  module _ (k : ℕ) where
    abbrev M : ℕ
    M = Q * f.1 ^ k

    abbrev limit_of : Bool → Fraction
    limit_of b = cond b (power g (suc k)) zero_share

    limit_exact : (b : Bool) (W : ℕ) → (power f (suc k)).1 * W ≡ (power f (suc k)).0 * M → (limit_of b).1 * (W * cond b 1 0) ≡ (limit_of b).0 * M
    limit_exact true W e =
        let P = power f (suc k) in
        let G = power g (suc k) in
        cancel P.1 _ _ (power_pos f (suc k) round.parts.failed.positive) (across P.0 P.1 G.0 G.1 W M e (same_powers f g round.failed (suc k)))
      where
        across : (a b c d W M : ℕ) → b * W ≡ a * M → d * a ≡ c * b → b * (d * (W * 1)) ≡ b * (c * M)
        across a b c d W M e s = let x = ap (λ z. d * z) e in let y = ap (λ z. z * M) s in omega arith
    limit_exact false W e = omega arith

    limit_pos : (b : Bool) → 0 < (limit_of b).1
    limit_pos true = power_pos g (suc k) round.fails
    limit_pos false = omega arith

    sum_exact : (power_sum g (suc k)).1 * geometric f (suc k) ≡ (power_sum g (suc k)).0 * f.1 ^ k
    sum_exact =
        let S = power_sum g (suc k) in
        let s = same_sums f g round.failed (suc k) in
        let e = pow-suc f.1 k in
        cancel f.1 _ _ round.parts.failed.positive (s ∙ ap (λ z. S.0 * z) e ∙ (let z : S.0 * (f.1 ^ k * f.1) ≡ f.1 * (S.0 * f.1 ^ k) = omega arith in z))

    both : (b : Bool) (s : Fraction) (h W held : ℕ) → s.1 * h ≡ s.0 * Q → (power f (suc k)).1 * W ≡ (power f (suc k)).0 * M → held ≡ geometric f (suc k) * h + W * cond b 1 0 →
        (plus (times s (power_sum g (suc k))) (limit_of b)).1 * held ≡ (plus (times s (power_sum g (suc k))) (limit_of b)).0 * M
    both b s h W held e w q =
        let S = power_sum g (suc k) in
        let L = limit_of b in
        ap (λ z. s.1 * S.1 * L.1 * z) q ∙ joined s.0 s.1 S.0 S.1 L.0 L.1 h (geometric f (suc k)) (W * cond b 1 0) Q (f.1 ^ k) e sum_exact (limit_exact b W w)
      where
        joined : (s0 s1 S0 S1 L0 L1 h G V Q D : ℕ) → s1 * h ≡ s0 * Q → S1 * G ≡ S0 * D → L1 * V ≡ L0 * (Q * D) → s1 * S1 * L1 * (G * h + V) ≡ (s0 * S0 * L1 + L0 * (s1 * S1)) * (Q * D)
        joined s0 s1 S0 S1 L0 L1 h G V Q D e s l =
            let x = ap (λ z. S1 * G * L1 * z) e in
            let y = ap (λ z. s0 * Q * L1 * z) s in
            let u = ap (λ z. s1 * S1 * z) l in
            omega arith

  pub rounds_hold : (R : ℕ) → 1 ≤ R → (masses : Rows) → InRounds f R rows masses → HoldMasses (scale_of Q f R) (mass_of_those p n r (Some R)) masses
  rounds_hold zero some masses h = absurd (omega arith)
  rounds_hold (suc k) some masses h =
      let a = at_scale f rows (suc k) some at_most_one Q round.parts in
      let s = h Q round.parts in
      record {
        positive = a.positive;
        kept = s.0;
        fraction = λ meant. product_pos ((round_mass p n r meant).1 * (power_sum g (suc k)).1) (limit_of k (meant (outcome.Limit Rounds))).1
            (product_pos (round_mass p n r meant).1 (power_sum g (suc k)).1 (round.holds.fraction meant) (power_sum_pos g (suc k) round.fails)) (limit_pos k (meant (outcome.Limit Rounds)));
        sums = λ meant. both k (meant (outcome.Limit Rounds)) (round_mass p n r meant) (held Q (counted meant) rows) (whole (Q * f.1 ^ k) (power f (suc k))) (held (Q * f.1 ^ k) (counted meant) masses) (round.holds.sums meant) a.exact.exact (s.1 (counted meant));
      }

  -- ---- no limit of rounds
  pub rest_holds : f.0 < f.1 → (masses : Rows) → OverRest f rows masses → HoldMasses (Q - whole Q f) (mass_of_those p n r None) masses
  rest_holds below masses h =
      let s = h Q round.parts in
      let l : g.0 < g.1 = some_pass below in
      record {
        positive = rest_above f rows below Q round.parts;
        kept = s.0;
        fraction = λ meant. product_pos (round_mass p n r meant).1 (g.1 - g.0) (round.holds.fraction meant) (omega arith);
        sums = λ meant.
            let m = round_mass p n r meant in
            ap (λ z. m.1 * (g.1 - g.0) * z) (s.1 (counted meant)) ∙ joined m.0 m.1 (held Q (counted meant) rows) (round.holds.sums meant);
      }
    where
      -- the rest at the scale of a round
      rest_exact : g.1 * (Q - whole Q f) ≡ (g.1 - g.0) * Q
      rest_exact =
          let t = round.parts in
          let l : g.0 < g.1 = some_pass below in
          exact f.0 f.1 g.0 g.1 (g.1 - g.0) (whole Q f) Q (Q - whole Q f) (omega arith) (let z = t.sum in omega arith) t.failed.positive round.failed t.failed.exact
        where
          exact : (a b c d u W Q M : ℕ) → d ≡ c + u → Q ≡ M + W → 0 < b → a * d ≡ c * b → b * W ≡ a * Q → d * M ≡ u * Q
          exact a b c d u W Q M e s pos i w =
              let x : d * W ≡ c * Q = cancel b _ _ pos (let y = ap (λ z. d * z) w in let z = ap (λ z. z * Q) i in let v : b * (d * W) ≡ b * (c * Q) = omega arith in v) in
              let y = ap (λ z. d * z) s in
              let z = ap (λ z. z * Q) e in
              omega arith

      joined : (m0 m1 h : ℕ) → m1 * h ≡ m0 * Q → m1 * (g.1 - g.0) * h ≡ m0 * g.1 * (Q - whole Q f)
      joined m0 m1 h e = let x = ap (λ z. (g.1 - g.0) * z) e in let y = ap (λ z. m0 * z) rest_exact in omega arith

  -- the masses are parts of what does not fail
  pub rest_parts : f.0 < f.1 → (masses : Rows) → OverRest f rows masses → WholeWithin Q masses
  rest_parts below masses h =
      let s = h Q round.parts in
      record {
        scale = Q - whole Q f;
        positive = rest_above f rows below Q round.parts;
        within = omega arith;
        kept = s.0;
        sum = let z = s.1 (λ x. 1) in let y = round.parts.sum in omega arith;
      }

  -- ---- why they are refused
  pub rounds_refused : InLowest f → (R : ℕ) → 1 ≤ R → (e : MassError) → RoundsBlame e f R rows → MassRefused e p n r (Some R)
  rounds_refused l R some TooWide h =
      let d = h Q (peak_of p n r) round.parts in
      let s = scale_is Q f R some in
      let w = ap (λ f. Q * f.1 ^ (R - 1)) (failed_is l) in
      omega arith
  rounds_refused l R some TooManyStates h = h Q (peak_of p n r) round.parts
  rounds_refused l R some AllFailed h = absurd (h Q (peak_of p n r) round.parts)
  rounds_refused l R some OutOfMemory h = tt

  pub rest_refused : (e : MassError) → OverRestBlames e f rows → MassRefused e p n r None
  rest_refused TooWide h = h Q (peak_of p n r) round.parts
  rest_refused TooManyStates h = h Q (peak_of p n r) round.parts
  rest_refused AllFailed h = absurd (h Q (peak_of p n r) round.parts)
  rest_refused OutOfMemory h = tt

pub round_refused : (p : SourceProgram) (n : ℕ) (r R : Option ℕ) (e : MassError) → round_width p n r ≤ width_of p n r R → RoundRefused e p n r → MassRefused e p n r R
round_refused p n r R TooWide w h = omega arith
round_refused p n r R TooManyStates w h = h
round_refused p n r R AllFailed w h = absurd h
round_refused p n r R OutOfMemory w h = tt

-- ---- as the code has them
pub some_limit : (R : Option ℕ) (k : ℕ) → R ≡ Some k → IfSome R IsLimit → 1 ≤ k
some_limit R k e h = let l : IfSome (Some k) IsLimit = subst (λ R. IfSome R IsLimit) e h in l.0

pub if_passes : {A : Type 0} (result : Result A MassError) (R : Option ℕ) (f : Fraction) → IsBelowOne f → IfOk result (λ a. IfNone R (IsBelowOne f))
if_passes (Ok a) None f h = h
if_passes (Ok a) (Some k) f h = tt
if_passes (Err e) R f h = tt

pub if_parts : (es : Rows) (result : Result Rows MassError) (R : Option ℕ) (most : ℕ) → WholeWithin most es → IfOk result (λ rows. rows ≡ es) → IfOk result (λ rows. IfNone R (WholeWithin most rows))
if_parts es (Ok rows) None most h p = subst (WholeWithin most) (sym p) h
if_parts es (Ok rows) (Some k) most h p = tt
if_parts es (Err e) R most h p = tt

pub no_parts : {A : Type 0} (result : Result A MassError) (R : Option ℕ) (k : ℕ) (Fact : A → Type 0) → R ≡ Some k → IfOk result (λ a. IfNone R (Fact a))
no_parts (Ok a) None k Fact e = cc
no_parts (Ok a) (Some k) l Fact e = tt
no_parts (Err e) R k Fact p = tt
