-- The rows of one round hold its masses.
use Rattle.std.proofs.Common.{◌≡◌, ℕ, ◌+◌, ◌-◌, ◌*◌, ◌≤◌, ◌<◌, Bool, cond, [], length, Option, Some, None, refl, sym, ap, ◌∙◌, subst, arith}
use Rattle.std.proofs.Math.Nat.{one-le-pow, mul-le-mul_left}
use Rattle.gcl_core.specs.declared.answers.Outcome.{Outcome}
use Rattle.gcl_core.specs.meaning.Blocks.{End, on}
use Rattle.gcl_core.specs.meaning.Bounds.{BlockIsWeighed}
use Rattle.gcl_core.specs.weighing.Mass.{sum_of, ends_in, is_failed, round_mass, failed_mass}
use Rattle.gcl_core.specs.meaning.Outcomes.{zeros}
use Rattle.gcl_core.specs.meaning.Syntax.{SourceProgram}
use Rattle.gcl_core.specs.weighing.WeightedEnds.{weighted_ends}
use Rattle.numbers.specs.Fraction.{lowest}
use Rattle.numbers.proofs.Divisors.{lowest_in_lowest}
use Rattle.table_flow.specs.Scale.{amount}
use Rattle.table_flow.specs.Tables.{peak_of}
use Rattle.table_flow.specs.Width.{round_width, width_of}
use Rattle.table_flow.proofs.AtWidth.{at_width}
use Rattle.table_flow.proofs.Paths.{ends_positive, sum_positive}
use Rattle.mass_fold.specs.declared.ended.Ended.{Ended}
use Rattle.mass_fold.specs.declared.error.MassError.{MassError}
use Rattle.mass_fold.specs.declared.error.MassError.TheVariants.{TooWide, TooManyStates, AllFailed, OutOfMemory}
use Rattle.mass_fold.specs.Amounts.{held, AreHeld}
use Rattle.mass_fold.specs.inner.Amounts.{Entries, Blames}
use Rattle.mass_fold.specs.inner.Body.{BodyGives}
use Rattle.mass_fold.specs.inner.Ended.{rows_of}
use Rattle.mass_fold.specs.inner.Masses.{counted, RoundGives}
use Rattle.mass_fold.specs.inner.Outcomes.{by_result, ResultsGive, ResultsBlame, EndedGive, EndedBlame}
use Rattle.mass_fold.specs.Refused.{RoundRefused}
use Rattle.mass_fold.specs.Rows.{Rows}

refused_by : (p : SourceProgram) (n : ℕ) (r : Option ℕ) (e : MassError) → Blames e (round_width p n r) (peak_of p n r) → RoundRefused e p n r
refused_by p n r TooWide h = h
refused_by p n r TooManyStates h = h
refused_by p n r AllFailed h = h
refused_by p n r OutOfMemory h = h

module _ (p : SourceProgram) (n : ℕ) (r : Option ℕ) (w : BlockIsWeighed p.body) where
  abbrev Q : ℕ
  Q = round_width p n r

  pub round_positive : (is : End → Bool) → 0 < (sum_of is (weighted_ends n r p.body (zeros (length p.names)))).1
  round_positive is = sum_positive is (weighted_ends n r p.body (zeros (length p.names))) (ends_positive n r p.body (zeros (length p.names)) w)

  -- the width of some rounds is no less than that of one
  pub wider : (R : Option ℕ) → Q ≤ width_of p n r R
  wider None = omega arith
  wider (Some R) =
      let f = failed_mass p n r in
      let l = lowest_in_lowest f.0 f.1 (let z = round_positive is_failed in omega arith) in
      let o = one-le-pow (R - 1) (lowest f).1 (let z = l.positive in omega arith) in
      let m = mul-le-mul_left Q o in
      omega arith

  module _ (es : Entries) (E : Ended) (b : BodyGives p n r es E) (none : Rows) (is_none : none ≡ []) where
    nothing_held : AreHeld Q none × ((G : Outcome → ℕ) → held Q G none ≡ 0)
    nothing_held = subst (λ none. AreHeld Q none × ((G : Outcome → ℕ) → held Q G none ≡ 0)) (sym is_none) (tt, λ G. refl)

    pub results_refused : (e : MassError) → ResultsBlame e es none → RoundRefused e p n r
    results_refused e h =
        let z = nothing_held in
        refused_by p n r e (h Q (peak_of p n r) (at_width p n r w).positive b.stands.kept z.0 (let y = z.1 (λ x. 1) in let t = b.total in omega arith))

    module _ (rows : Rows) (results : ResultsGive p.result es none rows) where
      first : AreHeld Q rows × ((G : Outcome → ℕ) → held Q G rows ≡ held Q (by_result p.result G) es)
      first =
          let z = nothing_held in
          let s = results Q (at_width p n r w).positive b.stands.kept z.0 in
          (s.0, λ G. let y = s.1 G in let x = z.1 G in omega arith)

      pub ended_refused : (e : MassError) → EndedBlame e E rows → RoundRefused e p n r
      ended_refused e h =
          let f = first in
          refused_by p n r e (h Q (peak_of p n r) (at_width p n r w).positive b.ends.kept f.0 (let y = f.1 (λ x. 1) in let t = b.total in omega arith))

      pub round_gives : (rows' : Rows) → EndedGive E rows rows' → RoundGives p n r rows' E.failed
      round_gives rows' ended =
          let f = first in
          let pos = (at_width p n r w).positive in
          let s = ended Q pos b.ends.kept f.0 in
          record {
            holds = record {
              positive = pos;
              kept = s.0;
              fraction = λ meant. round_positive (ends_in p.result meant);
              sums = λ meant.
                  let m = round_mass p n r meant in
                  let y = f.1 (counted meant) in
                  let x = s.1 (counted meant) in
                  let t = b.masses (ends_in p.result meant) in
                  let e : held Q (counted meant) rows' ≡ held Q (λ s. cond (ends_in p.result meant (on s)) 1 0) es + amount Q (λ x. cond (ends_in p.result meant x) 1 0) (rows_of E) = omega arith in
                  ap (λ k. m.1 * k) e ∙ t;
            };
            parts = record {
              positive = pos;
              kept = s.0;
              failed = b.ends.kept.0;
              sum = let y = f.1 (λ x. 1) in let x = s.1 (λ x. 1) in let t = b.total in omega arith;
            };
            failed = b.failed;
            fails = round_positive is_failed;
          }
