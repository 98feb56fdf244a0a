use Rattle.std.proofs.Common.{subst}
use Rattle.sampler_run.specs.Held.{StandsAfter}
use Rattle.run_tests.proofs.feeding.go_on_from.Goals as goal

pub returns-clause-stands : goal.returns-clause-stands
returns-clause-stands c = subst (λ s. StandsAfter c.args.next.now s c.feed_all.new.self) c.fork_from.ensures c.feed_all.ensures.fed
