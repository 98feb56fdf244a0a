use Rattle.std.proofs.Common.{sym}
use Rattle.mass_fold.proofs.Meters.{product_refuses, sum_refuses, sum_gives}
use Rattle.mass_fold.proofs.meter.sum_with.Goals as goal

pub returns-in-None : goal.returns-in-None
returns-in-None c = λ N M Np Mp wb wf ws C one h. product_refuses c.args.sum.now c.args.bits.now c.args.f.now N M Np Mp wb wf (sym c.in-None.ensures) C one h

pub returns-in-None-add : goal.returns-in-None-add
returns-in-None-add c = λ N M Np Mp wb wf ws C one h.
    sum_refuses c.args.sum.now c.args.bits.now c.args.f.now N M Np Mp wb wf c.in-Some.more (sym c.in-Some.ensures) c.is_lowest.ensures c.is_lowest-in-Some.ensures (sym c.in-None-add.ensures) ws C one h

pub returns-in-Some-add : goal.returns-in-Some-add
returns-in-Some-add c = λ N M Np Mp wb wf ws.
    sum_gives c.args.sum.now c.args.bits.now c.args.f.now N M Np Mp wb wf c.in-Some.more (sym c.in-Some.ensures) c.in-Some-add.total (sym c.in-Some-add.ensures) ws
