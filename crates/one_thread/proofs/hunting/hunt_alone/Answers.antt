use Rattle.std.proofs.Common.{[], sym, ap, subst, ◌∙◌, arith}
use Rattle.gcl_core.specs.meaning.Order.{same_key}
use Rattle.hunt_range.specs.Sought.{sought_of}
use Rattle.hunt_range.proofs.Searching.{none_more}
use Rattle.sampler_run.specs.Held.{Held, IsRestOf, StandsAfter}
use Rattle.one_thread.proofs.hunting.hunt_alone.Goals as goal

pub run_on_stream-key-requires-clause-home : goal.run_on_stream-key-requires-clause-home
run_on_stream-key-requires-clause-home c =
    let start = c.in_ok-home.ensures.start in
    record {
      stands = subst (λ (s : Held). StandsAfter [] s c.in_ok-home.home) (sym start) c.in_ok-home.ensures.rest;
      same = c.loop-at.invariant.start ∙ c.in_ok-state.ensures.same_start;
    }

pub returns-then-is_same : goal.returns-then-is_same
returns-then-is_same c = record {
  found = λ run is.
      let i = c.loop-at.invariant in
      let here = subst (λ (h : Held). IsRestOf h run) (sym (i.start ∙ c.in_ok-state.ensures.same_start ∙ c.in_ok-home.ensures.start)) is in
      let key = c.run_on_stream-key.ensures.key run here in (
        i.from,
        c.loop-at-test.true,
        ap (λ k. same_key k c.args.want.now) (sym key) ∙ sym c.is_same.ensures ∙ c.if-is_same.true,
        i.none run here,
      );
}

pub loop-at-preserved : goal.loop-at-preserved
loop-at-preserved c =
    let i = c.loop-at.invariant in
    record {
      from = omega (arith, i.from);
      within = omega (arith, c.loop-at-test.true);
      start = c.run_on_stream-key.ensures.same_start ∙ i.start;
      none = λ run is.
          let here = subst (λ (h : Held). IsRestOf h run) c.run_on_stream-key.ensures.same_start is in
          let key = c.run_on_stream-key.ensures.key run here in
          none_more (sought_of run c.args.range.now c.args.want.now) c.args.range.now.from c.loop-at.at (i.none run here)
          (ap (λ k. same_key k c.args.want.now) (sym key) ∙ sym c.is_same.ensures ∙ c.if-is_same.false);
    }

pub returns : goal.returns
returns c = record {
  found = λ run is j low high w.
      let i = c.loop-at.invariant in
      let here = subst (λ (h : Held). IsRestOf h run) (sym (i.start ∙ c.in_ok-state.ensures.same_start ∙ c.in_ok-home.ensures.start)) is in
      i.none run here j low (omega (arith, c.loop-at-test.false, high)) w;
}
