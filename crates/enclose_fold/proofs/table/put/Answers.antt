use Rattle.std.proofs.Common.{rules, ◌≡◌, ◌∙◌, None, Some, sym, arith}
use Rattle.std.specs.BTreeMap.{is_at}
use Rattle.std.specs.Map.{lookup}
use Rattle.units_law.specs.Merged.{order}
use Rattle.enclose_fold.proofs.Putting.{put_new, at_some, at_most}
use Rattle.enclose_fold.proofs.table.put.Goals as goal

pub returns-then-is_none-clause-cause : goal.returns-then-is_none-clause-cause
returns-then-is_none-clause-cause c =
    let none : lookup (is_at (order c.args.s)) c.args.states.now.entries ≡ None = search rules in
    let a = put_new c.args.states.now.entries c.args.s c.args.w (omega (arith, c.requires.some)) none in
    omega (arith, a)

pub overflow_add-sum : goal.overflow_add-sum
overflow_add-sum c =
    let there : lookup (is_at (order c.args.s)) c.args.states.now.entries ≡ Some c.get-in-Occupied.result.now = sym (rw c.in-Occupied.is at c.in_ok-at.ensures.value) ∙ c.get-in-Occupied.ensures in
    let a = at_some c.args.states.now.entries c.args.s _ there in
    let b = at_most c.args.states.now.entries c.args.s in
    omega (arith, a, b, c.requires.within)
