use Rattle.std.proofs.Common.{◌<◌, arith}
use Rattle.enclose_fold.proofs.Sizes.{sized_after, once_after, few_after}
use Rattle.enclose_fold.proofs.table.Table.put.Goals as goal

pub invariant_of-self : goal.invariant_of-self
invariant_of-self c =
    let some : 0 < c.args.w = grind (arith, c.if-w-eq0.false) in
    let t = c.args.self.now in
    let e = c.put.ensures in
    record {
      sized = sized_after t.states.entries _ c.args.s c.args.w c.put.result _ e.ok e.same some t.sized c.requires.sized;
      once = once_after t.states.entries _ c.args.s c.args.w c.put.result e.ok e.same t.once;
      few = few_after t.states.entries _ c.args.s c.args.w c.put.result e.ok e.same t.few e.room;
    }
