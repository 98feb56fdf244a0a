-- The table and what has ended at the start of a round, and the whole round.
use Rattle.std.proofs.Common.{◌≡◌, ℕ, ◌*◌, [], ◌∷◌, length, Option, refl, sym, ap, subst, arith}
use Rattle.gcl_core.specs.meaning.Syntax.{SourceProgram}
use Rattle.gcl_core.specs.meaning.Bounds.{BlockIsWeighed}
use Rattle.gcl_core.specs.meaning.Outcomes.{zeros}
use Rattle.gcl_core.specs.meaning.Value.{State}
use Rattle.gcl_core.specs.weighing.Mass.{is_failed, failed_mass}
use Rattle.gcl_core.specs.weighing.Fractions.{Fraction}
use Rattle.gcl_core.specs.weighing.WeightedEnds.{sure}
use Rattle.table_flow.specs.Tables.{block_flow, peak_of}
use Rattle.table_flow.specs.Width.{round_width}
use Rattle.table_flow.specs.Scale.{whole, Whole}
use Rattle.table_flow.proofs.FlowWords.{block_draws}
use Rattle.table_flow.proofs.AtWidth.{at_width}
use Rattle.table_flow.proofs.Kept.{kept_all}
use Rattle.table_flow.proofs.Wholes.{whole_from}
use Rattle.mass_fold.specs.declared.error.MassError.{MassError}
use Rattle.mass_fold.specs.declared.ended.Ended.{Ended}
use Rattle.mass_fold.specs.inner.Amounts.{Entries, Blames}
use Rattle.mass_fold.specs.inner.Ended.{IsNoWeight, IsNone}
use Rattle.mass_fold.specs.inner.Fold.{Stands, EndStands, FoldsTo, FoldBlames}
use Rattle.mass_fold.specs.inner.Body.{BodyGives, BodyMeters}
use Rattle.mass_fold.specs.declared.meter.Meter.{Meter}
use Rattle.mass_fold.specs.inner.Metering.{Meters}
use Rattle.mass_fold.proofs.BodyMasses.{masses_held, failed_equal}

pub no_weight : (N : ℕ) (f : Fraction) → IsNoWeight f → (whole N f ≡ 0) × Whole N f
no_weight N f h = whole_from N f 0 h.1 (let z = ap (λ x. x * N) h.0 in omega arith)

none_stands : (N : ℕ) (E : Ended) → IsNone E → EndStands N E []
none_stands N E h =
    let a = no_weight N E.failed h.failed in
    let b = no_weight N E.overflow h.overflow in
    let c = no_weight N E.divisor h.divisor in
    let d = no_weight N E.bound h.bound in
    let e = no_weight N E.turns h.turns in
    let f = no_weight N E.attempts h.attempts in
    record { kept = (a.1, (b.1, (c.1, (d.1, (e.1, (f.1, tt)))))); same = λ G. rw (a.0, b.0, c.0, d.0, e.0, f.0) (omega arith) }

sure_stands : (N : ℕ) (s : State) (es : Entries) → es ≡ (s, (1, 1)) ∷ [] → Stands N es (sure s)
sure_stands N s es p =
    let w : Whole N (1, 1) = (whole_from N (1, 1) N (omega arith) (omega arith)).1 in
    subst (λ es. Stands N es (sure s)) (sym p) (record { kept = (omega arith, w, tt); same = λ G. refl })

module _ (p : SourceProgram) (n : ℕ) (r : Option ℕ) (w : BlockIsWeighed p.body) (es : Entries) (E : Ended) (one : es ≡ (zeros (length p.names), (1, 1)) ∷ []) (no : IsNone E) where
  abbrev Q : ℕ
  Q = round_width p n r

  pub body_gives : (fs : Entries) (F : Ended) → FoldsTo (block_flow n r p.body) es E fs F → BodyGives p n r fs F
  body_gives fs F d =
      let a = at_width p n r w in
      let x = d Q (peak_of p n r) (sure (zeros (length p.names))) [] a.positive (sure_stands Q (zeros (length p.names)) es one) (none_stands Q E no) a.within in
      let m = masses_held n r Q (peak_of p n r) p.body (zeros (length p.names)) fs F a.within x.0 x.1 in
      let k = kept_all n r Q (peak_of p n r) p.body w (sure (zeros (length p.names))) a.within in
      let o : whole Q (1, 1) ≡ Q = (whole_from Q (1, 1) Q (omega arith) (omega arith)).0 in
      record { total = let y = x.0.same (λ s. 1) in let z = x.1.same (λ s. 1) in omega arith; stands = x.0; ends = x.1; masses = m; failed = failed_equal Q fs F (failed_mass p n r) a.positive x.1.kept (m is_failed) }

  pub body_blames : (e : MassError) → FoldBlames (block_flow n r p.body) es E e → Blames e Q (peak_of p n r)
  body_blames e d =
      let a = at_width p n r w in
      let one_whole : whole Q (1, 1) ≡ Q = (whole_from Q (1, 1) Q (omega arith) (omega arith)).0 in
      d Q (peak_of p n r) (sure (zeros (length p.names))) [] a.positive (sure_stands Q (zeros (length p.names)) es one) (none_stands Q E no) a.within (omega arith)

  pub body_meters : (m m' : Meter) → Meters r (block_flow n r p.body) (block_draws n r p.body) es E m m' → BodyMeters p n r m m'
  body_meters m m' d M Mp k =
      let a = at_width p n r w in
      d Q M (peak_of p n r) (sure (zeros (length p.names))) [] a.positive Mp (sure_stands Q (zeros (length p.names)) es one) (none_stands Q E no) a.within k
