use Rattle.std.proofs.Common.{ap, [], arith}
use Rattle.std.proofs.lemmas.List.{drop_all}
use Rattle.scaled_fold.proofs.Stacks.{most_in, most_stacked}
use Rattle.scaled_fold.proofs.stack.Stack.most.Goals as goal

pub returns : goal.returns
returns c =
    let d = ap most_in (drop_all c.loop-table.table-index c.deref-table-items.result.now (omega (arith, c.loop-table-test.false))) in
    let s = most_stacked c.args.self.now.tables.items [] in
    let e = ap most_in c.deref-table-items.ensures.value in
    omega (arith, d, s, e, c.loop-table.invariant.so_far)
