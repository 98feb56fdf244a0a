use Rattle.std.proofs.Common.{refl, sym, ap, ◌∙◌, subst, arith}
use Rattle.gcl_core.specs.declared.answers.TallyKey.{TallyKey}
use Rattle.sampler_run.specs.Held.{Held, IsRestOf}
use Rattle.tally_range.specs.Rows.{counted_at}
use Rattle.tally_range.proofs.Counting.{counted_le, count_more, count_none}
use Rattle.tally_range.proofs.streams.count_streams.Goals as goal

pub loop-at-init : goal.loop-at-init
loop-at-init c = (
  omega arith,
  c.requires.order,
  refl,
  λ run is key. let z = count_none run c.args.range.now.seed c.args.range.now.budget c.args.first key in omega arith,
  λ key. omega arith,
)

pub run_on_stream-key-requires-clause-home : goal.run_on_stream-key-requires-clause-home
run_on_stream-key-requires-clause-home c = record { stands = c.requires.home.stands; same = c.loop-at.invariant.2 ∙ c.requires.home.same }

pub count_key-requires : goal.count_key-requires
count_key-requires c = let i = c.loop-at.invariant in let t = c.loop-at-test.true in let key : TallyKey = c.run_on_stream-key.result in
    let fits = c.requires.fits key in let now = i.4 key in omega arith

pub loop-at-preserved : goal.loop-at-preserved
loop-at-preserved c = let i = c.loop-at.invariant in let t = c.loop-at-test.true in let r = c.run_on_stream-key.ensures in
    let seed = c.args.range.now.seed in let budget = c.args.range.now.budget in let at = c.loop-at.at in (
      omega arith,
      omega arith,
      r.same_start ∙ i.2,
      λ run is key. let added = c.in_ok-count_key.ensures key in let more = count_more run seed budget c.args.first at key i.0 in
          let one = ap (λ k. counted_at k 1 key) (r.key run (subst (λ (s : Held). IsRestOf s run) (sym i.2) is)) in let all = i.3 run is key in omega arith,
      λ key. let added = c.in_ok-count_key.ensures key in let one = counted_le c.run_on_stream-key.result 1 key in let all = i.4 key in omega arith,
    )
