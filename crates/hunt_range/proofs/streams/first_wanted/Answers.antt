use Rattle.std.proofs.Common.{sym, ap, subst, ◌∙◌, arith}
use Rattle.gcl_core.specs.meaning.Order.{same_key}
use Rattle.sampler_run.specs.Held.{Held, IsRestOf}
use Rattle.hunt_range.specs.Sought.{sought_of}
use Rattle.hunt_range.proofs.Searching.{none_more}
use Rattle.hunt_range.proofs.streams.first_wanted.Goals as goal

pub run_on_stream-key-requires-clause-home : goal.run_on_stream-key-requires-clause-home
run_on_stream-key-requires-clause-home c = record { stands = c.requires.home.stands; same = c.loop-at.invariant.start ∙ c.requires.home.same }

pub returns-then-is_same-clause-first : goal.returns-then-is_same-clause-first
returns-then-is_same-clause-first c = λ run is.
    let i = c.loop-at.invariant in
    let here = subst (λ (h : Held). IsRestOf h run) (sym i.start) is in
    let key = c.run_on_stream-key.ensures.key run here in (
      i.from,
      omega (arith, c.loop-at-test.true, c.end_of_block-end.ensures),
      omega (arith, c.loop-at-test.true, c.end_of_block-end.ensures),
      ap (λ k. same_key k c.args.want.now) (sym key) ∙ sym c.is_same.ensures ∙ c.if-is_same.true,
      i.none run here,
    )

pub loop-at-preserved : goal.loop-at-preserved
loop-at-preserved c =
    let i = c.loop-at.invariant in
    record {
      from = omega (arith, i.from);
      within = omega (arith, c.loop-at-test.true);
      start = c.run_on_stream-key.ensures.same_start ∙ i.start;
      none = λ run is.
          let here = subst (λ (h : Held). IsRestOf h run) c.run_on_stream-key.ensures.same_start is in
          let key = c.run_on_stream-key.ensures.key run here in
          none_more (sought_of run c.args.range.now c.args.want.now) c.args.first c.loop-at.at (i.none run here)
          (ap (λ k. same_key k c.args.want.now) (sym key) ∙ sym c.is_same.ensures ∙ c.if-is_same.false);
    }

pub returns-clause-first : goal.returns-clause-first
returns-clause-first c = λ run is j low high inside w.
    let i = c.loop-at.invariant in
    i.none run (subst (λ (h : Held). IsRestOf h run) (sym i.start) is) j low (omega (arith, c.loop-at-test.false, c.end_of_block-end.ensures)) w
