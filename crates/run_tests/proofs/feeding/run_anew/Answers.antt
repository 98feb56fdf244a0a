use Rattle.std.proofs.Common.{[], subst}
use Rattle.sampler_run.specs.Held.{StandsAfter, set_back}
use Rattle.sampler_run.proofs.Standing.{stands_then}
use Rattle.run_tests.proofs.feeding.run_anew.Goals as goal

pub returns-clause-stands : goal.returns-clause-stands
returns-clause-stands c =
    subst (λ s. StandsAfter c.args.bits.now s c.feed_all-2.new.self) c.feed_all.ensures.same_start
    (stands_then [] c.args.bits.now (set_back c.feed_all.new.self) c.restart.new.self c.feed_all-2.new.self c.restart.ensures.rest c.feed_all-2.ensures.fed)
