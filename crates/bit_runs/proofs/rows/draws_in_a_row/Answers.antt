use Rattle.std.proofs.Common.{◌≡◌, ◌<◌, ◌≤◌, ◌+◌, [], w64, to_z, of_z, refl, sym, subst, ◌∙◌, arith, rules}
use Rattle.std.proofs.lemmas.Int.{to_z-of_z}
use Rattle.gcl_core.specs.meaning.Runs.{reads, run_on}
use Rattle.gcl_core.specs.meaning.Views.{source_of}
use Rattle.sampler_run.specs.Held.{StandsAfter, run_begun, set_back}
use Rattle.sampler_run.specs.Sampled.{reached_by}
use Rattle.stream_runs.proofs.OneAnswer.{answer_reached}
use Rattle.zar_io.proofs.TraceLemmas.{agrees_before}
use Rattle.bit_runs.proofs.OneByOne.{so_far_none, so_far_more, so_far_all, left_read}
use Rattle.bit_runs.proofs.rows.draws_in_a_row.Goals as goal

pub loop-k-init : goal.loop-k-init
loop-k-init g c = record {
  alike = c.requires.alike;
  same_length = refl;
  home = subst (λ h. StandsAfter [] h c.in_ok-state.state) (sym c.in_ok-state.ensures.start) c.in_ok-state.ensures.rest;
  start = refl;
  so_far = λ file agrees. so_far_none (source_of c.args.program.now) c.args.l.now (g.B.Bits.left c.args.bits.now file) c.args.values.now c.args.ends.now;
  fails = refl;
}

pub loop-k-preserved : goal.loop-k-preserved
loop-k-preserved g c =
    let inv = c.loop-k.invariant in
    let p = source_of c.args.program.now in
    let l = c.args.l.now in
    let s = c.in_ok-sampler.sampler in
    let back : set_back c.go_on.new.state ≡ set_back c.in_ok-state.state = c.in_ok-stop.ensures.same_start ∙ inv.start in
    let kept : to_z w64 (of_z w64 c.value_of.result) ≡ c.value_of.result = grind (arith, to_z-of_z) in
    record {
      alike = search rules;
      same_length = search rules;
      home = subst (λ h. StandsAfter [] h c.restart.new.self) back c.restart.ensures.rest;
      start = c.restart.ensures.same_start ∙ back;
      so_far = λ file agrees.
          let before = g.B.Bits.left c.loop-k.bits file in
          let next = g.B.Bits.left c.go_on.new.bits file in
          let a = reached_by c.in_ok-stop.stop in
          let law = c.runs_leave_the_rest.ensures p l s c.in_ok-sampler.ensures.sampler c.requires.limits in
          let here = subst (λ h. StandsAfter [] h c.loop-k.state) c.in_ok-state.ensures.start inv.home in
          let took = c.in_ok-stop.ensures.taken file agrees 0 (law.begins c.loop-k.state here) in
          let is = answer_reached (run_begun s l) c.loop-k.state (run_on p l) before a here (c.in_ok-stop.ensures.answer file agrees) (c.in_ok-sampler.ensures.sampler.runs l c.requires.limits) in
          so_far_more p l c.loop-k.k (g.B.Bits.left c.args.bits.now file) before c.loop-k.values c.loop-k.ends c.loop-k.read
          (inv.so_far file (agrees_before file [] (g.B.Bits.answered c.loop-k.bits) (g.B.Bits.answered c.go_on.new.bits) c.in_ok-stop.ensures.goes_on agrees))
          a.answer next took.asked.taken (to_z w64 (of_z w64 c.value_of.result)) c.end_of.result _ (search rules) (search rules) is
          (left_read _ _ _ (law.reads c.loop-k.state _ _ _ here took)) took.asked.split took.counted (kept ∙ c.value_of.ensures) c.end_of.ensures (search rules);
      fails = c.in_ok-stop.ensures.fails ∙ inv.fails;
    }

pub returns-clause-row : goal.returns-clause-row
returns-clause-row g c = λ file agrees.
    so_far_all (source_of c.args.program.now) c.args.l.now c.loop-k.k (g.B.Bits.left c.args.bits.now file) (g.B.Bits.left c.loop-k.bits file) c.loop-k.values c.loop-k.ends c.loop-k.read
    (c.loop-k.invariant.so_far file agrees) (search rules) c.loop-k.invariant.alike
