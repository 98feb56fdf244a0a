use Rattle.std.proofs.Common.{◌∷◌, [], arith, length}
use Rattle.numbers.specs.declared.units.TheConstants.{ALL}
use Rattle.gcl_core.specs.meaning.Outcomes.{zeros}
use Rattle.gcl_core.proofs.Accepted.{checked_weights}
use Rattle.units_law.specs.Down.{down}
use Rattle.units_law.proofs.Downs.{rounds_down}
use Rattle.units_law.proofs.Spent.{block_loses}
use Rattle.units_law.proofs.InARound.{fails_below, fails_most}
use Rattle.units_law.proofs.RowsHold.{some_whole}
use Rattle.units_law.proofs.Widths.{rows_close, lost_is}
use Rattle.units_law.proofs.enclosing.bounds_are_as_wide_as_what_is_lost.Goals as goal

pub returns-clause-rows : goal.returns-clause-rows
returns-clause-rows c p n r R all_turns ok ends rows other are is = rows_close p n r all_turns (fails_most p ok n r) R (some_whole p n n r R all_turns (fails_below p ok n r) ends) rows other are is

pub returns-clause-lost : goal.returns-clause-lost
returns-clause-lost c p n k r ok few =
    let x = (block_loses down rounds_down k ALL r few n p.body (checked_weights p ok) ((zeros (length p.names), ALL) ∷ []) (omega arith)).1 in
    let e = lost_is p n r in
    omega arith
