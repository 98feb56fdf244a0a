use Rattle.std.proofs.Common.{◌≡◌, ◌∙◌, Err, sym, subst, arith}
use Rattle.gcl_core.specs.meaning.Views.{source_of}
use Rattle.bounds_law.specs.Rows.{AreBoundsOf}
use Rattle.posterior_bounds.proofs.BoundsOfMasses.{others_is, are_bounds, rows_hold, raise_refused}
use Rattle.posterior_bounds.proofs.bounding.bounds.Goals as goal

pub returns-in_err-raised-clause-refused : goal.returns-in_err-raised-clause-refused
returns-in_err-raised-clause-refused c =
    let p = source_of c.args.p.now in
    let m = c.in_ok-masses.ensures in
    let k = c.is_kept.ensures.kept in
    let out : c.from_residual-in_err-raised.result ≡ Err c.in_err-raised.field-0.0 = grind arith in
    rw out (raise_refused p c.args.turns k m.passes c.in_ok-masses.masses m.rows c.undecided-other.result (c.undecided-other.ensures ∙ others_is p c.args.turns k m.passes c.in_ok-masses.masses m.rows)
    c.in_err-raised.field-0.0 m.parts c.in_err-raised.ensures.refused c.undecided-other.ensures)

pub returns-clause-other : goal.returns-clause-other
returns-clause-other c =
    let m = c.in_ok-masses.ensures in
    c.undecided-other.ensures ∙ others_is (source_of c.args.p.now) c.args.turns c.is_kept.ensures.kept m.passes c.in_ok-masses.masses m.rows

pub returns-clause-rows : goal.returns-clause-rows
returns-clause-rows c =
    let m = c.in_ok-masses.ensures in
    subst (AreBoundsOf (source_of c.args.p.now) c.args.turns) (sym c.in_ok-raised.ensures.rows)
    (are_bounds (source_of c.args.p.now) c.args.turns c.is_kept.ensures.kept m.passes c.in_ok-masses.masses m.rows c.undecided-other.result (returns-clause-other c))

pub returns-clause-hold : goal.returns-clause-hold
returns-clause-hold c =
    let m = c.in_ok-masses.ensures in
    rows_hold (source_of c.args.p.now) c.args.turns c.is_kept.ensures.kept m.passes c.in_ok-raised.field-0 c.undecided-other.result (returns-clause-rows c) (returns-clause-other c)
