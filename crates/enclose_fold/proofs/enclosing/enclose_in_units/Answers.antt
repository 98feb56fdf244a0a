use Rattle.std.proofs.Common.{◌∙◌, ap, sym, subst, arith}
use Rattle.std.specs.Prelude.{not}
use Rattle.gcl_core.specs.meaning.Views.{source_of}
use Rattle.gcl_core.specs.weighing.Fractions.{IsBelowOne}
use Rattle.gcl_core.specs.weighing.Mass.{failed_mass}
use Rattle.units_law.specs.Enclosures.{NothingPasses, SomePasses}
use Rattle.units_law.specs.FewOthers.{HaveLittle}
use Rattle.enclose_fold.proofs.Enclosed.{rows_are, other_is}
use Rattle.enclose_fold.proofs.Ending.{unlimited, anyway, limited, implied, may_end}
use Rattle.enclose_fold.proofs.NonePass.{units_told, cause_told}
use Rattle.enclose_fold.proofs.enclosing.enclose_in_units.Goals.{else-is_none-via-then-is_none+else-given-eq0, else-is_none-via-else-is_none}
use Rattle.enclose_fold.proofs.enclosing.enclose_in_units.Goals as goal

pub returns-clause-rows : goal.returns-clause-rows
returns-clause-rows c =
    rows_are (source_of c.args.p.now) c.args.turns c.args.attempts c.args.rounds c.args.all_turns _ _ _ c.in_ok-given.ensures.ok _ c.all_units.ensures _ c.in_ok-bound_rows.ensures.rows

pub returns-clause-other : goal.returns-clause-other
returns-clause-other c = other_is (source_of c.args.p.now) c.args.turns c.args.attempts c.args.rounds c.args.all_turns _ _ _ c.in_ok-given.ensures.ok _ c.all_units.ensures _ c.upper_of_rest.ensures

pub returns-clause-some : goal.returns-clause-some
returns-clause-some c =
    let p = source_of c.args.p.now in
    elim c.else-is_none.branch [
      | else-is_none-via-then-is_none+else-given-eq0 w ↦
          let z = c.in_ok-given.ensures.ok.passed in
          let some : SomePasses p c.args.turns c.args.attempts = omega (arith, z, w.if-given-eq0.false) in
          anyway (SomePasses p c.args.turns c.args.attempts) c.args.rounds some
      | else-is_none-via-else-is_none w ↦ limited (SomePasses p c.args.turns c.args.attempts) c.args.rounds (c.is_none.ensures ∙ ap not w.if-is_none.false)
    ]

pub returns-clause-passes : goal.returns-clause-passes
returns-clause-passes c =
    let p = source_of c.args.p.now in
    implied (SomePasses p c.args.turns c.args.attempts) (IsBelowOne (failed_mass p c.args.turns c.args.attempts))
    (c.masses_lie_between.ensures.passes p c.args.turns c.args.attempts c.is_kept.ensures.kept) c.args.rounds (returns-clause-some c)

pub returns-clause-enclose : goal.returns-clause-enclose
returns-clause-enclose c = λ n is may.
    c.masses_lie_between.ensures.rows (source_of c.args.p.now) c.args.turns n c.args.attempts c.args.rounds c.args.all_turns c.is_kept.ensures.kept is may
    c.in_ok-bound_rows.field-0 c.upper_of_rest.result (returns-clause-rows c) (returns-clause-other c)

pub returns-clause-close : goal.returns-clause-close
returns-clause-close c =
    let p = source_of c.args.p.now in
    c.bounds_are_as_wide_as_what_is_lost.ensures.rows p c.args.turns c.args.attempts c.args.rounds c.args.all_turns c.is_kept.ensures.kept
    (may_end p c.args.turns c.args.attempts c.args.rounds (returns-clause-passes c)) c.in_ok-bound_rows.field-0 c.upper_of_rest.result (returns-clause-rows c) (returns-clause-other c)

pub returns-clause-ordered : goal.returns-clause-ordered
returns-clause-ordered c =
    let p = source_of c.args.p.now in
    c.masses_lie_between.ensures.ordered p c.args.turns c.args.attempts c.args.rounds c.args.all_turns c.is_kept.ensures.kept
    (may_end p c.args.turns c.args.attempts c.args.rounds (returns-clause-passes c)) c.in_ok-bound_rows.field-0 c.upper_of_rest.result (returns-clause-rows c) (returns-clause-other c)

pub returns-clause-few : goal.returns-clause-few
returns-clause-few c =
    let p = source_of c.args.p.now in
    subst (HaveLittle p c.args.turns c.args.attempts c.args.rounds c.args.all_turns) (sym (returns-clause-other c))
    (c.others_have_little.ensures.by_tables p c.args.turns c.args.attempts c.args.rounds c.args.all_turns c.is_kept.ensures.kept
    (may_end p c.args.turns c.args.attempts c.args.rounds (returns-clause-passes c)))

pub returns-then-given-eq0-clause-refused : goal.returns-then-given-eq0-clause-refused
returns-then-given-eq0-clause-refused c =
    let p = source_of c.args.p.now in
    let given = c.in_ok-given.ensures.ok in
    let nothing : NothingPasses p c.args.turns c.args.attempts = let z = given.passed in omega (arith, z, c.if-given-eq0.true) in
    cause_told p c.args.turns c.args.attempts c.in_ok-given.given.failed given.failed (let z = given.within in omega (arith, z)) nothing c.none_passes.result c.none_passes.ensures.all c.none_passes.ensures.some
    (c.masses_lie_between.ensures.fails p c.args.turns c.args.attempts c.is_kept.ensures.kept)
    (c.others_have_little.ensures.none p c.args.turns c.args.attempts c.is_kept.ensures.kept nothing)
    c.args.rounds (unlimited c.args.rounds (c.is_none.ensures ∙ ap not c.if-is_none.true))

pub returns-then-given-eq0-clause-units : goal.returns-then-given-eq0-clause-units
returns-then-given-eq0-clause-units c =
    let p = source_of c.args.p.now in
    let given = c.in_ok-given.ensures.ok in
    let nothing : NothingPasses p c.args.turns c.args.attempts = let z = given.passed in omega (arith, z, c.if-given-eq0.true) in
    units_told p c.args.turns c.args.attempts c.in_ok-given.given.failed given.failed (let z = given.within in omega (arith, z)) nothing c.none_passes.result c.none_passes.ensures.all c.none_passes.ensures.some
