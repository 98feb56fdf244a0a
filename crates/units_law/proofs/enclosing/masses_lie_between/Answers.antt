use Rattle.std.specs.Prelude.{true}
use Rattle.units_law.proofs.InARound.{units_below, fails_below, all_fail}
use Rattle.units_law.proofs.Given.{is_between, failing_below}
use Rattle.units_law.proofs.RowsHold.{some_whole, rows_enclose}
use Rattle.units_law.proofs.Ordered.{rows_ordered, whole_most}
use Rattle.units_law.proofs.Widths.{passes}
use Rattle.units_law.proofs.enclosing.masses_lie_between.Goals as goal

pub returns-clause-events : goal.returns-clause-events
returns-clause-events c p n n' r R all_turns ok is ends meant = is_between p n r (units_below p ok n r) (fails_below p ok n r) ok n' R all_turns is ends meant

pub returns-clause-rows : goal.returns-clause-rows
returns-clause-rows c p n n' r R all_turns ok is ends rows other are same =
    rows_enclose p n n' r R all_turns (is_between p n r (units_below p ok n r) (fails_below p ok n r) ok n' R all_turns is ends)
    (some_whole p n n' r R all_turns (failing_below p n r (units_below p ok n r) (fails_below p ok n r) ok all_turns n' is) ends) rows other are same

pub returns-clause-ordered : goal.returns-clause-ordered
returns-clause-ordered c p n r R all_turns ok ends rows other are is =
    rows_ordered p n r R all_turns (some_whole p n n r R all_turns (fails_below p ok n r) ends) (whole_most p n r R all_turns) rows other are is

pub returns-clause-passes : goal.returns-clause-passes
returns-clause-passes c p n r ok some = passes p ok n r (units_below p ok n r (λ x. true)) some

pub returns-clause-fails : goal.returns-clause-fails
returns-clause-fails c p n r ok all = all_fail p ok n r all
