-- A walk over the states that a body ends in, with the outcome of each added.
use Rattle.std.proofs.Common.{◌≡◌, ℕ, ◌+◌, ◌*◌, ◌<◌, [], ◌∷◌, ap, subst, arith}
use Rattle.gcl_core.specs.declared.answers.Outcome.{Outcome}
use Rattle.gcl_core.specs.weighing.Fractions.{Fraction}
use Rattle.gcl_core.specs.meaning.Outcomes.{outcome_of}
use Rattle.gcl_core.specs.meaning.Syntax.{Expression}
use Rattle.gcl_core.specs.meaning.Value.{State, value_of}
use Rattle.table_flow.specs.Scale.{whole}
use Rattle.mass_fold.specs.declared.error.MassError.{MassError}
use Rattle.mass_fold.specs.Amounts.{held, AreHeld}
use Rattle.mass_fold.specs.inner.Amounts.{Entries}
use Rattle.mass_fold.specs.Rows.{Rows}
use Rattle.mass_fold.specs.inner.Outcomes.{AddGives, AddBlames, by_result, ResultsGive, ResultsBlame}

-- what stands once the rest of the states is left
pub record Left (N : ℕ) (result : Expression) (table : Entries) (es fs : Rows) (rest : Entries) : Type 0 where
  pub kept : AreHeld N fs
  pub left : AreHeld N rest
  pub sums : (G : Outcome → ℕ) → held N G fs + held N (by_result result G) rest ≡ held N G es + held N (by_result result G) table

abbrev pub ResultsOn : Expression → Entries → Rows → Rows → Entries → Type 0
ResultsOn result table es fs rest = (N : ℕ) → 0 < N → AreHeld N table → AreHeld N es → Left N result table es fs rest

module _ (result : Expression) (table : Entries) (es : Rows) where
  pub results_end : (fs : Rows) (rest : Entries) → rest ≡ [] → ResultsOn result table es fs rest → ResultsGive result table es fs
  results_end fs rest p on N pos h k =
      let l = subst (ResultsOn result table es fs) p on N pos h k in (l.kept, λ G. let z = l.sums G in omega arith)

  module _ (fs : Rows) (rest : Entries) (s : State) (f : Fraction) (rest' : Entries) (p : rest ≡ (s, f) ∷ rest') (on : ResultsOn result table es fs rest) where
    now : ResultsOn result table es fs ((s, f) ∷ rest')
    now = subst (ResultsOn result table es fs) p on

    module _ (x : Outcome) (q : x ≡ outcome_of (value_of result s)) where
      pub results_next : (fs' : Rows) → AddGives fs fs' x f → ResultsOn result table es fs' rest'
      results_next fs' a N pos h k =
          let l = now N pos h k in
          let b = a N pos l.kept l.left.1 in
          record { kept = b.0; left = l.left.2; sums = λ G. let z = l.sums G in let y = b.1 G in let x = ap (λ x. whole N f * G x) q in omega arith }

      pub results_blame : (e : MassError) → AddBlames e fs f → ResultsBlame e table es
      results_blame e a N L pos h k most =
          let l = now N pos h k in
          a N L pos l.kept l.left.1 (let z = l.sums (λ x. 1) in omega arith)
