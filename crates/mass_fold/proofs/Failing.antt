-- The limit of rounds: that all rounds fail. And the weights of some rounds with it.
use Rattle.std.proofs.Common.{◌≡◌, ℕ, zero, suc, ◌+◌, ◌*◌, ◌^◌, ◌≤◌, ◌<◌, refl, sym, ap, ◌∙◌, arith}
use Rattle.std.proofs.Math.Nat.{pow-suc, pow-zero, one-le-pow}
use Rattle.gcl_core.specs.declared.answers.Limit.TheVariants.{Rounds}
use Rattle.gcl_core.specs.declared.answers.Outcome.{Outcome}
use Rattle.gcl_core.specs.declared.answers.Outcome.TheVariants as outcome
use Rattle.gcl_core.specs.weighing.Fractions.{Fraction, power}
use Rattle.numbers.proofs.Divisors.{product_pos}
use Rattle.table_flow.specs.Scale.{whole, Whole}
use Rattle.table_flow.proofs.Wholes.{whole_from}
use Rattle.mass_fold.specs.declared.error.MassError.{MassError}
use Rattle.mass_fold.specs.Amounts.{held, AreHeld}
use Rattle.mass_fold.specs.inner.Outcomes.{AddGives, AddBlames}
use Rattle.mass_fold.specs.Rounds.{geometric, scale_of}
use Rattle.mass_fold.specs.inner.Rounds.{TableParts, InRounds, RoundsBlame}
use Rattle.mass_fold.specs.Rows.{Rows}
use Rattle.mass_fold.specs.inner.Steps.{IsPower, PowerBlames}
use Rattle.mass_fold.proofs.Powers.{equal_whole}
use Rattle.mass_fold.proofs.Repeats.{within}

-- ---- powers of 0 and of 1
pub power_of_none : (f : Fraction) (R : ℕ) → 1 ≤ R → 0 < f.1 → f.0 ≡ 0 → IsPower f R f
power_of_none f zero h pos z = absurd (omega arith)
power_of_none f (suc k) h pos z = record { positive = pos; at_most_one = omega arith; is = rw z (omega arith) }

same_parts : (f : Fraction) → f.0 ≡ f.1 → (R : ℕ) → (power f R).0 ≡ (power f R).1
same_parts f e zero = refl
same_parts f e (suc k) = ap (λ n. n * (power f k).0) e ∙ ap (λ n. f.1 * n) (same_parts f e k)

pub power_of_all : (f : Fraction) (R : ℕ) → 0 < f.1 → f.0 ≡ f.1 → IsPower f R f
power_of_all f R pos e = record {
  positive = pos;
  at_most_one = omega arith;
  is = ap (λ n. n * (power f R).1) e ∙ (let s = same_parts f e R in let z = ap (λ n. f.1 * n) (sym s) in omega arith);
}

-- ---- at the scale of all rounds
power_parts : (f : Fraction) (R : ℕ) → ((power f R).0 ≡ f.0 ^ R) × ((power f R).1 ≡ f.1 ^ R)
power_parts f zero = (sym (pow-zero f.0), sym (pow-zero f.1))
power_parts f (suc k) =
    let i = power_parts f k in
    let a = pow-suc f.0 k in
    let b = pow-suc f.1 k in
    let x = ap (λ n. f.0 * n) i.0 in
    let y = ap (λ n. f.1 * n) i.1 in
    (omega arith, omega arith)

module _ (f : Fraction) (N : ℕ) (k : ℕ) (pos : 0 < N) (w : Whole N f) where
  pub scale_pos : 0 < N * f.1 ^ k
  scale_pos = product_pos N (f.1 ^ k) pos (one-le-pow k f.1 w.positive)

  pub power_whole : (whole (N * f.1 ^ k) (power f (suc k)) ≡ f.0 ^ k * whole N f) × Whole (N * f.1 ^ k) (power f (suc k))
  power_whole =
      let p = power_parts f (suc k) in
      let e : (power f (suc k)).1 * (f.0 ^ k * whole N f) ≡ (power f (suc k)).0 * (N * f.1 ^ k)
      = rw (p.0, p.1, pow-suc f.0 k, pow-suc f.1 k) (exact f.0 f.1 (whole N f) N (f.0 ^ k) (f.1 ^ k) w.exact) in
      whole_from (N * f.1 ^ k) (power f (suc k)) (f.0 ^ k * whole N f) (rw p.1 (one-le-pow (suc k) f.1 w.positive)) e
    where
      exact : (n d W N p D : ℕ) → d * W ≡ n * N → D * d * (p * W) ≡ p * n * (N * D)
      exact n d W N p D e = let x = ap (λ z. D * p * z) e in omega arith

-- what holds at the scale of R rounds
pub record AtScale (f : Fraction) (rows : Rows) (N R : ℕ) : Type 0 where
  pub positive : 0 < scale_of N f R
  pub exact : Whole (scale_of N f R) (power f R)
  pub room : geometric f R * held N (λ x. 1) rows + whole (scale_of N f R) (power f R) ≤ scale_of N f R

pub at_scale : (f : Fraction) (rows : Rows) (R : ℕ) → 1 ≤ R → f.0 ≤ f.1 → (N : ℕ) → TableParts N rows f → AtScale f rows N R
at_scale f rows zero some small N h = absurd (omega arith)
at_scale f rows (suc k) some small N h =
    let p = power_whole f N k h.positive h.failed in
    record {
      positive = scale_pos f N k h.positive h.failed;
      exact = p.1;
      room = let w = within f N (whole N f) (held N (λ x. 1) rows) k h.failed.exact h.sum small h.failed.positive in omega (arith, p.0);
    }

pub rows_room : (f : Fraction) (rows : Rows) (R : ℕ) → 1 ≤ R → f.0 ≤ f.1 → (N : ℕ) → TableParts N rows f → geometric f R * held N (λ x. 1) rows ≤ scale_of N f R
rows_room f rows R some small N h = let a = (at_scale f rows R some small N h).room in omega arith

module _ (f : Fraction) (R : ℕ) (some : 1 ≤ R) (small : f.0 ≤ f.1) (rows masses : Rows)
    (sums : (N : ℕ) → TableParts N rows f → AreHeld (scale_of N f R) masses × ((G : Outcome → ℕ) → held (scale_of N f R) G masses ≡ geometric f R * held N G rows)) where
  module _ (g : Fraction) (is : IsPower f R g) where
    pub with_limit : (masses' : Rows) → AddGives masses masses' (outcome.Limit Rounds) g → InRounds f R rows masses'
    with_limit masses' a N h =
        let z = at_scale f rows R some small N h in
        let s = sums N h in
        let e = equal_whole (scale_of N f R) g (power f R) is.positive is.is z.exact in
        let b = a (scale_of N f R) z.positive s.0 e.1 in
        (b.0, λ G. let x = b.1 G in let y = s.1 G in let v = ap (λ n. n * G (outcome.Limit Rounds)) e.0 in omega arith)

    pub limit_blames : (e : MassError) → AddBlames e masses g → RoundsBlame e f R rows
    limit_blames e a N L h =
        let z = at_scale f rows R some small N h in
        let s = sums N h in
        let q = equal_whole (scale_of N f R) g (power f R) is.positive is.is z.exact in
        a (scale_of N f R) L z.positive s.0 q.1 (let y = s.1 (λ x. 1) in omega (arith, z.room, q.0))

pub power_blames : (f : Fraction) (R : ℕ) → 1 ≤ R → f.0 ≤ f.1 → (rows : Rows) → PowerBlames f R → (N : ℕ) → TableParts N rows f → 2 ^ 128 ≤ scale_of N f R
power_blames f R some small rows p N h = let z = at_scale f rows R some small N h in p (scale_of N f R) z.positive z.exact
