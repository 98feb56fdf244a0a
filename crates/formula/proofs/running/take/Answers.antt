use Rattle.std.proofs.Common.{subst, length}
use Rattle.std.specs.Prelude.{nat_lt, length}
use Rattle.formula.specs.inner.OnStack.{move, Goes, values}
use Rattle.formula.proofs.OneStep.{put_room, load_room}
use Rattle.formula.proofs.running.take.Goals as goal

pub put-requires-clause-room : goal.put-requires-clause-room
put-requires-clause-room c =
    put_room (length c.args.slots.now) c.in-Push.n c.args.top c.args.held c.args.slots.now
    (subst (λ op. Goes (move (length c.args.slots.now) c.args.vars.now op c.args.at (values c.args.top c.args.held c.args.slots.now))) c.in-Push.is c.requires.goes)

pub put-requires-in-Truth-clause-room : goal.put-requires-in-Truth-clause-room
put-requires-in-Truth-clause-room c =
    put_room (length c.args.slots.now) _ c.args.top c.args.held c.args.slots.now
    (subst (λ op. Goes (move (length c.args.slots.now) c.args.vars.now op c.args.at (values c.args.top c.args.held c.args.slots.now))) c.in-Truth.is c.requires.goes)

pub put-requires-in-Load-clause-room : goal.put-requires-in-Load-clause-room
put-requires-in-Load-clause-room c =
    load_room (nat_lt c.in-Load.x (length c.args.vars.now)) (length c.args.slots.now) _ c.args.top c.args.held c.args.slots.now
    (subst (λ op. Goes (move (length c.args.slots.now) c.args.vars.now op c.args.at (values c.args.top c.args.held c.args.slots.now))) c.in-Load.is c.requires.goes)
