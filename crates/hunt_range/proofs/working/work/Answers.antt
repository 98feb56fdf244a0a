use Rattle.std.proofs.Common.{Some, None, refl, [], ◌∷◌, ◌++◌, sym, ap, subst, ◌∙◌, arith}
use Rattle.claim_board.specs.Board.{blocks_of, dealt_to}
use Rattle.sampler_run.specs.Held.{Held, IsRestOf, StandsAfter}
use Rattle.hunt_range.specs.Sought.{sought_of}
use Rattle.hunt_range.specs.inner.Blocks.{FirstWanted}
use Rattle.hunt_range.proofs.Searching.{HasSearched, ends, stops, goes_on, offers, fewer_left, hunts_on}
use Rattle.hunt_range.proofs.working.work.Goals as goal

pub first_wanted-requires-clause-home : goal.first_wanted-requires-clause-home
first_wanted-requires-clause-home g c =
    let start = c.in_ok-home.ensures.start in
    record { stands = subst (λ (s : Held). StandsAfter [] s c.in_ok-home.home) (sym start) c.in_ok-home.ensures.rest; same = c.loop-block.invariant.1 ∙ sym start }

pub returns-then-look-first-clause-hunted : goal.returns-then-look-first-clause-hunted
returns-then-look-first-clause-hunted g c = λ run is.
    let i = c.loop-block.invariant.0 in
    let e = c.look.ensures in
    stops (sought_of run c.args.job.now.range.now c.args.want.now) c.loop-block.hunter.pass c.claim.new.pass c.loop-block.hunter.bid c.look.new.pass c.in-Some.block (i.searched run is) c.in-Some.ensures.some.2 (omega (arith, e.seen, e.below.0)) e.offers
    (omega (arith, e.seen, c.if-look-first.true, c.first_stream-first.ensures.first))

pub loop-block-smaller-in-Some-first_wanted : goal.loop-block-smaller-in-Some-first_wanted
loop-block-smaller-in-Some-first_wanted g c = let s = c.in-Some.ensures.some in fewer_left (blocks_of c.args.board.now) c.in-Some.block (dealt_to c.loop-block.hunter.pass) (dealt_to c.claim.new.pass) s.1 s.0 s.2

pub loop-block-preserved-in-Some-first_wanted : goal.loop-block-preserved-in-Some-first_wanted
loop-block-preserved-in-Some-first_wanted g c =
    let i = c.loop-block.invariant.0 in
    let some = c.in-Some.ensures.some in
    let e = c.look.ensures in
    let o = c.offer.ensures in
    let f = c.in-Some-first_wanted.ensures in (
      hunts_on c.args.board.now c.args.least.now (HasSearched c.args.job.now.sampler.now c.args.job.now.limits.now c.args.job.now.range.now c.args.want.now) c.args.hunter.now c.loop-block.hunter c.claim.new.pass c.offer.new.pass c.enter.new.self c.in-Some.block c.loop-block.hunter.done i c.in-Some.ensures.pass
          (o.pass.0 ∙ e.pass.0, o.pass.1 ∙ e.pass.1) some.0 some.1 some.2 some.3 c.enter.ensures
          (λ run is. offers (sought_of run c.args.job.now.range.now c.args.want.now) c.loop-block.hunter.pass c.claim.new.pass c.loop-block.hunter.bid c.offer.new.pass c.in-Some.block (i.searched run is) some.2 (omega (arith, o.seen.0, e.seen, e.below.0))
          c.in-Some-first_wanted.stream (o.offers ∙ ap (λ l. l ++ c.in-Some-first_wanted.stream ∷ []) e.offers) o.seen.1
          (subst (λ n. FirstWanted (sought_of run c.args.job.now.range.now c.args.want.now) n c.args.job.now.range.now.to (Some c.in-Some-first_wanted.stream)) c.first_stream-first.ensures.first
          (f.first run (subst (λ (h : Held). IsRestOf h run) (sym c.loop-block.invariant.1) is)))),
      f.same_start ∙ c.loop-block.invariant.1,
    )

pub loop-block-smaller : goal.loop-block-smaller
loop-block-smaller g c = let s = c.in-Some.ensures.some in fewer_left (blocks_of c.args.board.now) c.in-Some.block (dealt_to c.loop-block.hunter.pass) (dealt_to c.claim.new.pass) s.1 s.0 s.2

pub loop-block-preserved : goal.loop-block-preserved
loop-block-preserved g c =
    let i = c.loop-block.invariant.0 in
    let some = c.in-Some.ensures.some in
    let e = c.look.ensures in
    let f = c.in_default-first_wanted.ensures in (
      hunts_on c.args.board.now c.args.least.now (HasSearched c.args.job.now.sampler.now c.args.job.now.limits.now c.args.job.now.range.now c.args.want.now)
          c.args.hunter.now c.loop-block.hunter c.claim.new.pass c.look.new.pass c.enter.new.self c.in-Some.block c.loop-block.hunter.done i c.in-Some.ensures.pass e.pass
          some.0 some.1 some.2 some.3 c.enter.ensures
          (λ run is. goes_on (sought_of run c.args.job.now.range.now c.args.want.now) c.loop-block.hunter.pass c.claim.new.pass c.loop-block.hunter.bid c.look.new.pass c.in-Some.block (i.searched run is) some.2 (omega (arith, e.seen, e.below.0)) e.offers
          (subst (λ n. FirstWanted (sought_of run c.args.job.now.range.now c.args.want.now) n c.args.job.now.range.now.to None) c.first_stream-first.ensures.first
          (f.first run (subst (λ (h : Held). IsRestOf h run) (sym c.loop-block.invariant.1) is)))),
      f.same_start ∙ c.loop-block.invariant.1,
    )

pub returns-clause-hunted : goal.returns-clause-hunted
returns-clause-hunted g c = λ run is.
    let none = c.in_default.ensures.none refl in
    ends (sought_of run c.args.job.now.range.now c.args.want.now) c.loop-block.hunter.pass c.claim.new.pass c.loop-block.hunter.bid (c.loop-block.invariant.0.searched run is) none.0 none.1
