use Rattle.std.proofs.Common.{rules, ◌≡◌, ◌<◌, length, ◌∙◌, subst}
use Rattle.least_board.specs.Board.{IsLeast}
use Rattle.hunt_range.specs.Sought.{sought_of}
use Rattle.hunt_range.specs.inner.Hunters.{HasHuntedRuns}
use Rattle.hunt_range.proofs.Pairs.{parting_more, all_passes, some_passes}
use Rattle.hunt_range.proofs.LeastStream.{hunted_runs, one_found, none_found}
use Rattle.hunt_range.proofs.hunting.close_both.Goals as goal

pub loop-hunter-preserved : goal.loop-hunter-preserved
loop-hunter-preserved g c =
    parting_more c.args.board c.args.least (HasHuntedRuns c.args.job.now.sampler.now c.args.job.now.limits.now c.args.job.now.range.now c.args.want.now)
    c.loop-hunter.passes.items c.push.new.self.items c.loop-hunter.bids.items c.push-in-Some.new.self.items c.loop-hunter.hunters.items c.pop.new.self.items
    c.in-Some.hunter
    c.loop-hunter.invariant c.in_ok-push.ensures.items c.in_ok-push-2.ensures.items c.in-Some.ensures.items (search rules)

pub returns-then-found-job : goal.returns-then-found-job
returns-then-found-job g c = λ run is.
    let s = sought_of run c.args.job.now.range.now c.args.want.now in
    let i = c.loop-hunter.invariant in
    let ps = c.loop-hunter.passes.items in
    let qs = c.loop-hunter.bids.items in
    let last : length c.loop-hunter.hunters.items ≡ 0 = let e = c.in_default.ensures.cases.0 in search rules in
    let some : 0 < length ps = some_passes c.args.board c.args.least
    (HasHuntedRuns c.args.job.now.sampler.now c.args.job.now.limits.now c.args.job.now.range.now c.args.want.now) ps
    (all_passes c.args.board c.args.least (HasHuntedRuns c.args.job.now.sampler.now c.args.job.now.limits.now c.args.job.now.range.now c.args.want.now) ps qs
    c.loop-hunter.hunters.items i last) in
    one_found s c.close.result.dealt c.close-found.result ps qs some c.requires.job.range.ordered
    (hunted_runs c.args.job.now.sampler.now c.args.job.now.limits.now c.args.job.now.range.now c.args.want.now run is ps qs i.hunted) c.close.ensures.dealt
    (λ any. c.close.ensures.all any ∙ c.requires.fits.blocks)
    (subst (λ top. IsLeast top qs c.close-found.result) c.requires.fits.top c.close-found.ensures.least) c.close-found.ensures.seen c.if-found-job.true

pub returns : goal.returns
returns g c = λ run is.
    let s = sought_of run c.args.job.now.range.now c.args.want.now in
    let i = c.loop-hunter.invariant in
    let ps = c.loop-hunter.passes.items in
    let qs = c.loop-hunter.bids.items in
    let last : length c.loop-hunter.hunters.items ≡ 0 = let e = c.in_default.ensures.cases.0 in search rules in
    let some : 0 < length ps = some_passes c.args.board c.args.least
    (HasHuntedRuns c.args.job.now.sampler.now c.args.job.now.limits.now c.args.job.now.range.now c.args.want.now) ps
    (all_passes c.args.board c.args.least (HasHuntedRuns c.args.job.now.sampler.now c.args.job.now.limits.now c.args.job.now.range.now c.args.want.now) ps qs
    c.loop-hunter.hunters.items i last) in
    none_found s c.close.result.dealt c.close-found.result ps qs some c.requires.job.range.ordered
    (hunted_runs c.args.job.now.sampler.now c.args.job.now.limits.now c.args.job.now.range.now c.args.want.now run is ps qs i.hunted) c.close.ensures.dealt
    (λ any. c.close.ensures.all any ∙ c.requires.fits.blocks)
    (subst (λ top. IsLeast top qs c.close-found.result) c.requires.fits.top c.close-found.ensures.least) c.close-found.ensures.seen c.if-found-job.false
