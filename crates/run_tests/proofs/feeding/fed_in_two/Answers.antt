use Rattle.std.proofs.Common.{[], ◌++◌}
use Rattle.sampler_run.specs.Held.{run_begun}
use Rattle.sampler_run.proofs.Standing.{stands_then, reached_here}
use Rattle.run_tests.proofs.feeding.fed_in_two.Goals as goal

pub returns : goal.returns
returns c =
    let u = c.args.first.now in
    let w = c.args.second.now in
    let begun = c.in_ok-state.state in
    let end = c.feed_all-2.new.self in
    let first = run_begun c.in_ok-sampler.sampler c.args.l.now in
    let stands = stands_then [] (u ++ w) first begun end c.in_ok-state.ensures.rest (stands_then u w begun c.feed_all.new.self end c.feed_all.ensures.fed c.feed_all-2.ensures.fed) in
    c.feed_all-2.ensures.told _ (reached_here (u ++ w) first end _ stands (c.in_ok-sampler.ensures.sampler.runs c.args.l.now c.requires.limits (u ++ w)).1)
