use Rattle.std.proofs.Common.{◌≡◌, ◌<◌, ◌≤◌, ◌+◌, [], refl, sym, subst, ◌∙◌, arith}
use Rattle.gcl_core.specs.meaning.Runs.{reads}
use Rattle.gcl_core.specs.meaning.Views.{source_of}
use Rattle.sampler_run.specs.Held.{StandsAfter, set_back}
use Rattle.zar_io.proofs.TraceLemmas.{agrees_before}
use Rattle.library_user.proofs.Rows.{IsSoFar, read_to, read_short, so_far_none, so_far_more, so_far_short, so_far_all}
use Rattle.library_user.proofs.drawing.draw_row.Goals as goal

pub loop-i-init : goal.loop-i-init
loop-i-init g c = record {
  home = subst (λ h. StandsAfter [] h c.in_ok-state.state) (sym c.in_ok-state.ensures.start) c.in_ok-state.ensures.rest;
  start = refl;
  drawn = λ file agrees.
      let bits = g.B.Bits.left c.args.bits.now file in
      let run = reads (source_of c.args.p.now) c.args.l.now in
      subst (λ xs. IsSoFar run c.args.count 0 bits xs bits) (sym c.new-row.ensures.items) (so_far_none run c.args.count bits);
  fails = refl;
}

pub returns-in-MoreBits-clause-none : goal.returns-in-MoreBits-clause-none
returns-in-MoreBits-clause-none g c = λ file agrees.
    let p = source_of c.args.p.now in
    let l = c.args.l.now in
    let inv = c.loop-i.invariant in
    let lt : c.loop-i._i < c.args.count = grind arith in
    let law = c.runs_leave_the_rest.ensures p l c.in_ok-sampler.sampler c.in_ok-sampler.ensures.sampler c.requires.limits in
    let home = subst (λ h. StandsAfter [] h c.loop-i.state) c.in_ok-state.ensures.start inv.home in
    let read = law.reads c.loop-i.state _ _ _ home (c.in_ok-stop.ensures.taken file agrees 0 (law.begins c.loop-i.state home)) in
    so_far_short (reads p l) c.args.count c.loop-i._i (g.B.Bits.left c.args.bits.now file) c.loop-i.row.items (g.B.Bits.left c.loop-i.bits file) (inv.drawn file (agrees_before file [] (g.B.Bits.answered c.loop-i.bits) (g.B.Bits.answered c.go_on.new.bits) c.in_ok-stop.ensures.goes_on agrees)) lt
    (read_short _ _ _ c.in-MoreBits.field-0 c.in-MoreBits.is read)

pub loop-i-preserved : goal.loop-i-preserved
loop-i-preserved g c =
    let inv = c.loop-i.invariant in
    let p = source_of c.args.p.now in
    let l = c.args.l.now in
    let s = c.in_ok-sampler.sampler in
    let back : set_back c.go_on.new.state ≡ set_back c.in_ok-state.state = c.in_ok-stop.ensures.same_start ∙ inv.start in
    record {
      home = subst (λ h. StandsAfter [] h c.restart.new.self) back c.restart.ensures.rest;
      start = c.restart.ensures.same_start ∙ back;
      drawn = λ file agrees.
          let lt : c.loop-i._i < c.args.count = grind arith in
          let law = c.runs_leave_the_rest.ensures p l s c.in_ok-sampler.ensures.sampler c.requires.limits in
          let here = subst (λ h. StandsAfter [] h c.loop-i.state) c.in_ok-state.ensures.start inv.home in
          let read = law.reads c.loop-i.state _ _ _ here (c.in_ok-stop.ensures.taken file agrees 0 (law.begins c.loop-i.state here)) in
          let before = g.B.Bits.left c.args.bits.now file in
          let next = g.B.Bits.left c.go_on.new.bits file in
          subst (λ xs. IsSoFar (reads p l) c.args.count (c.loop-i._i + 1) before xs next) (sym c.in-Ok.ensures.items)
          (so_far_more (reads p l) c.args.count c.loop-i._i before c.loop-i.row.items (g.B.Bits.left c.loop-i.bits file) (inv.drawn file (agrees_before file [] (g.B.Bits.answered c.loop-i.bits) (g.B.Bits.answered c.go_on.new.bits) c.in_ok-stop.ensures.goes_on agrees)) c.in-Ended.outcome next lt
          (read_to _ _ _ c.in-Ended.outcome c.in-Ended.field-1 c.in-Ended.is read));
      fails = c.in_ok-stop.ensures.fails ∙ inv.fails;
    }

pub returns-clause-row : goal.returns-clause-row
returns-clause-row g c = λ file agrees.
    let le : c.args.count ≤ c.loop-i._i = grind arith in
    so_far_all (reads (source_of c.args.p.now) c.args.l.now) c.args.count c.loop-i._i (g.B.Bits.left c.args.bits.now file) c.loop-i.row.items (g.B.Bits.left c.loop-i.bits file)
    (c.loop-i.invariant.drawn file agrees) le
