use Rattle.std.proofs.Common.{length}
use Rattle.run_tests.proofs.claiming.+claim_in_threads+fn-claim_in_threads-join_mut+arg2+fn-claim_in_threads-join_mut+arg3.Given as goal

abbrev pub decreases-join_mut+arg2 : goal.decreases-join_mut+arg2
decreases-join_mut+arg2 g l = length l.front.now

abbrev pub decreases-join_mut+arg3 : goal.decreases-join_mut+arg3
decreases-join_mut+arg3 g l = length l.back.now

abbrev pub decreases-claim_in_threads : goal.decreases-claim_in_threads
decreases-claim_in_threads g l = length l.passes.now
