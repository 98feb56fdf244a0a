use Rattle.std.proofs.Common.{[]}
use Rattle.sampler_run.proofs.Standing.{stands_then}
use Rattle.run_tests.proofs.feeding.go_both_ways.Goals as goal

pub returns-clause-there : goal.returns-clause-there
returns-clause-there c =
    stands_then [] c.args.there.now c.args.state.now c.in_ok-other.other c.feed_all-2.new.self c.in_ok-other.ensures.rest c.feed_all-2.ensures.fed
