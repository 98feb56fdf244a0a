use Rattle.std.proofs.Common.{arith}
use Rattle.audit_walk.proofs.Counted.{ended_counts, none_counts}
use Rattle.audit_walk.proofs.walking.decided.Goals as goal

pub returns-in_ok-ended-in-Ended-clause-some : goal.returns-in_ok-ended-in-Ended-clause-some
returns-in_ok-ended-in-Ended-clause-some c =
    ended_counts c.args.state.now c.in-Ended.outcome c.args.left _ _ c.in-Ended.ensures.told
    (c.in-Ended.ensures.ended c.in-Ended.outcome c.in-Ended.ensures.told) c.in_ok-ended-in-Ended.ensures.rows c.in_ok-ended-in-Ended.ensures.undecided

pub returns-in-NeedBit-clause-some : goal.returns-in-NeedBit-clause-some
returns-in-NeedBit-clause-some c =
    none_counts c.args.state.now c.args.left _ _ c.in-NeedBit.ensures.told (omega arith) c.undecided.ensures.rows c.undecided.ensures.undecided
