-- A walk over the weights of a table, each turned into another at a scale of its own.
use Rattle.std.proofs.Common.{◌≡◌, ℕ, ◌+◌, ◌*◌, ◌≤◌, ◌<◌, [], ◌∷◌, ap, subst, arith}
use Rattle.gcl_core.specs.declared.answers.Outcome.{Outcome}
use Rattle.gcl_core.specs.weighing.Fractions.{Fraction}
use Rattle.table_flow.specs.Scale.{whole, Whole}
use Rattle.mass_fold.specs.declared.error.MassError.{MassError}
use Rattle.mass_fold.specs.Amounts.{held, AreHeld}
use Rattle.mass_fold.specs.inner.Amounts.{Blames}
use Rattle.mass_fold.specs.inner.Outcomes.{AddGives, AddBlames}
use Rattle.mass_fold.specs.inner.Rounds.{ArePartsOfOne, TableParts}
use Rattle.mass_fold.specs.Rows.{Rows}

-- what stands once the rest is left: each weight at scale M is C times what it was at scale N
pub record Passing (N M C : ℕ) (rows masses rest : Rows) : Type 0 where
  pub kept : AreHeld M masses
  pub left : AreHeld N rest
  pub less : held N (λ x. 1) rest ≤ held N (λ x. 1) rows
  pub sums : (G : Outcome → ℕ) → held M G masses + C * held N G rest ≡ C * held N G rows

-- the scale M and the factor C at each scale N at which the rows and f are parts of a whole
module _ (M C : ℕ → ℕ) (f : Fraction) (rows : Rows) where
  abbrev pub PassesOn : Rows → Rows → Type 0
  PassesOn masses rest = (N : ℕ) → TableParts N rows f → Passing N (M N) (C N) rows masses rest

  -- a weight s turned into t
  abbrev pub TurnsTo : Fraction → Fraction → Type 0
  TurnsTo s t = (N : ℕ) → ArePartsOfOne N s f → Whole (M N) t × (whole (M N) t ≡ C N * whole N s)

  pub passing_end : (masses rest : Rows) → rest ≡ [] → PassesOn masses rest → (N : ℕ) → TableParts N rows f → AreHeld (M N) masses × ((G : Outcome → ℕ) → held (M N) G masses ≡ C N * held N G rows)
  passing_end masses rest p on N h = let a = subst (Passing N (M N) (C N) rows masses) p (on N h) in (a.kept, λ G. let z = a.sums G in omega arith)

  module _ (masses rest : Rows) (x : Outcome) (s : Fraction) (rest' : Rows) (p : rest ≡ (x, s) ∷ rest') (on : PassesOn masses rest) where
    now : (N : ℕ) → TableParts N rows f → Passing N (M N) (C N) rows masses ((x, s) ∷ rest')
    now N h = subst (Passing N (M N) (C N) rows masses) p (on N h)

    pub parts_here : (N : ℕ) → TableParts N rows f → ArePartsOfOne N s f
    parts_here N h =
        let a = now N h in
        record { positive = h.positive; first = a.left.1; second = h.failed; sum = omega (arith, h.sum, a.less) }

    module _ (t : Fraction) (turns : TurnsTo s t) where
      pub passing_next : (masses' : Rows) → ((N : ℕ) → TableParts N rows f → 0 < M N) → AddGives masses masses' x t → PassesOn masses' rest'
      passing_next masses' pos a N h =
          let n = now N h in
          let u = turns N (parts_here N h) in
          let b = a (M N) (pos N h) n.kept u.0 in
          record {
            kept = b.0;
            left = n.left.2;
            less = omega (arith, n.less);
            sums = λ G. let z = n.sums G in let y = b.1 G in let v = ap (λ k. k * G x) u.1 in omega arith;
          }

      pub passing_blames : ((N : ℕ) → TableParts N rows f → 0 < M N) → ((N : ℕ) → TableParts N rows f → C N * held N (λ x. 1) rows ≤ M N) → (e : MassError) → AddBlames e masses t →
          (N L : ℕ) → TableParts N rows f → Blames e (M N) L
      passing_blames pos room e a N L h =
          let n = now N h in
          let u = turns N (parts_here N h) in
          a (M N) L (pos N h) n.kept u.0 (let z = n.sums (λ x. 1) in let y = room N h in omega (arith, u.1))
