-- What a block settles to does not depend on which visits are given: each event weighs the same. And masses come as near to their limit as
-- is asked.
use Rattle.std.proofs.Common.{◌≡◌, ℕ, zero, suc, ◌+◌, ◌*◌, ◌-◌, ◌≤◌, ◌<◌, Bool, false, None, ⊎_elim, subst, arith}
use Rattle.std.proofs.Math.Nat.{mul-le-mul, mul-le-mul_left, mul-le-mul_right, le_of_mul-le-mul_right}
use Rattle.std.proofs.lemmas.Bool.{cases_lt}
use Rattle.numbers.specs.Fraction.{IsEqual}
use Rattle.gcl_core.specs.declared.answers.Limit.TheVariants.{Turns}
use Rattle.gcl_core.specs.declared.answers.Outcome.{Outcome}
use Rattle.gcl_core.specs.declared.answers.Outcome.TheVariants as outcome
use Rattle.gcl_core.specs.meaning.Bounds.{BlockIsWeighed}
use Rattle.gcl_core.specs.meaning.Syntax.{Statements, SourceProgram}
use Rattle.gcl_core.specs.meaning.Blocks.{End, limit}
use Rattle.gcl_core.specs.weighing.Fractions.{AtMost, IsBelowOne}
use Rattle.gcl_core.specs.weighing.Mass.{mass_of_those}
use Rattle.table_flow.specs.Tables.{Table}
use Rattle.unlimited_law.specs.Alike.{AreFractions}
use Rattle.unlimited_law.specs.Settling.{Outflow}
use Rattle.unlimited_law.specs.SettledMasses.{Settles, settled_weight, ProgramSettles, settled_failed, settled_mass, MassConverges}
use Rattle.unlimited_law.proofs.BlockLimits.{table_near}
use Rattle.unlimited_law.proofs.ProgramLimits.{mass_tends}

-- p is at most q and a part c / n of a cost, for each n: then it is at most q
pub parts_vanish : (p0 p1 q0 q1 c0 c1 : ℕ) → 0 < c1 → ((n : ℕ) → 1 ≤ n → p0 * (q1 * (n * c1)) ≤ (q0 * (n * c1) + c0 * q1) * p1) → p0 * q1 ≤ q0 * p1
parts_vanish p0 p1 q0 q1 c0 c1 some h = large (p0 * q1) (q0 * p1) (c0 * q1 * p1) c1 some (λ n k. let x = h n k in omega arith)
  where
    large : (a b d c : ℕ) → 0 < c → ((n : ℕ) → 1 ≤ n → n * (a * c) ≤ n * (b * c) + d) → a ≤ b
    large a b d c some h =
        ⊎_elim
        (λ (more : b < a).
        let x = mul-le-mul_left (suc d) (mul-le-mul_right c (let z : b + 1 ≤ a = omega arith in z)) in
        let y = mul-le-mul_left (suc d) (let z : 1 ≤ c = omega arith in z) in
        absurd (omega (arith, h (suc d) (omega arith))))
        (λ (le : a ≤ b). le) (cases_lt b a)

-- through a weight
pub through : (p0 p1 w0 w1 q0 q1 c0 c1 : ℕ) → 0 < w1 → p0 * (w1 * c1) ≤ (w0 * c1 + c0 * w1) * p1 → w0 * q1 ≤ q0 * w1 → p0 * (q1 * c1) ≤ (q0 * c1 + c0 * q1) * p1
through p0 p1 w0 w1 q0 q1 c0 c1 some h k =
    le_of_mul-le-mul_right {k = w1} (let x = mul-le-mul_right q1 h in let y = mul-le-mul_right (c1 * p1) k in omega arith) some

module _ (b : Statements) (I : Table) (w : BlockIsWeighed b) (fractions : AreFractions I) (event : End → Bool) (spared : event (limit Turns) ≡ false) where
  below_other : (f g : Outflow) → Settles b I f → Settles b I g → AtMost (settled_weight event f) (settled_weight event g)
  below_other f g o q =
      let p = settled_weight event f in
      let r = settled_weight event g in
      parts_vanish p.0 p.1 r.0 r.1 f.turns.0 f.turns.1 (let z = (table_near b I f w o 1 (omega arith) event spared fractions).cost_fraction in omega arith)
      (λ n low.
      let x = table_near b I f w o n (omega arith) event spared fractions in
      let y = table_near b I g w q n (omega arith) event spared fractions in
      let e : 1 * f.turns.0 ≡ f.turns.0 = omega arith in
      let wf = x.weight_fraction in
      let t = through p.0 p.1 _ _ r.0 r.1 (1 * f.turns.0) (n * f.turns.1) (omega arith) x.from_above y.from_below in
      omega arith)

  pub one_limit : (f g : Outflow) → Settles b I f → Settles b I g → IsEqual (settled_weight event f) (settled_weight event g)
  one_limit f g o q = let x = below_other f g o q in let y = below_other g f q o in omega arith

-- ---- masses
module _ (p : SourceProgram) (f : Outflow) (w : BlockIsWeighed p.body) (o : ProgramSettles p f) (passes : IsBelowOne (settled_failed p f)) (meant : Outcome → Bool) (spared : meant (outcome.Limit Turns) ≡ false) where
  -- a gap that is at most 1 / k
  smaller : (s0 s1 m0 m1 t u n k : ℕ) → 1 ≤ u → k * t ≤ n → s0 * (m1 * (n * u)) ≤ (m0 * (n * u) + t * m1) * s1 → 1 ≤ n → s0 * (m1 * k) ≤ (m0 * k + 1 * m1) * s1
  smaller s0 s1 m0 m1 t u n k some least h one =
      le_of_mul-le-mul_right {k = n * u}
      (let x = mul-le-mul_left k h in
      let y = mul-le-mul_left (m1 * s1) least in
      let z = mul-le-mul_left (m1 * s1 * n) some in
      omega arith)
      (omega (arith, mul-le-mul one some))

  pub mass_converges : MassConverges p f meant
  mass_converges = record {
    from_below = λ n one. (mass_tends p f w o passes n (omega arith) meant spared).from_below;
    from_above = λ k some. (
      k * (1 * f.turns.0 * (settled_failed p f).1),
      λ n one least.
          let h = mass_tends p f w o passes n (omega arith) meant spared in
          let s = settled_mass p f meant in
          let m = mass_of_those p n None None meant in
          let g = h.gap_fraction in
          let lost = settled_failed p f in
          let u = f.turns.1 * (lost.1 - lost.0) in
          let turned : n * f.turns.1 * (lost.1 - lost.0) ≡ n * u = omega arith in
          smaller s.0 s.1 m.0 m.1 (1 * f.turns.0 * lost.1) u n k (positive n u (omega arith)) least (subst (λ x. s.0 * (m.1 * x) ≤ (m.0 * x + 1 * f.turns.0 * lost.1 * m.1) * s.1) turned h.from_above) one,
    );
    mass_fraction = λ n one. (mass_tends p f w o passes n (omega arith) meant spared).mass_fraction;
    settled_fraction = (mass_tends p f w o passes 1 (omega arith) meant spared).settled_fraction;
  }
    where
      positive : (n u : ℕ) → 1 ≤ n * u → 1 ≤ u
      positive n zero h = absurd (omega arith)
      positive n (suc u) h = omega arith
