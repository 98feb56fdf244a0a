use Rattle.std.proofs.Common.{◌≡◌, ◌∙◌, ◌+◌, ◌++◌, List, ℕ, append_assoc, length, length-append, sym, ap, subst, arith}
use Rattle.report_text.specs.Lines.{answer_text}
use Rattle.sampler_run.specs.Held.{Held, IsRestOf}
use Rattle.stream_lines.specs.Lines.{line_on, lines_over}
use Rattle.stream_lines.specs.inner.Begun.{block_at, blocks_begun}
use Rattle.stream_lines.proofs.Fronts.{texts_more}
use Rattle.zar_io.specs.Visits.{blocks_told}
use Rattle.stream_lines.proofs.filling.fill.Goals as goal

pub loop-at-preserved : goal.loop-at-preserved
loop-at-preserved g c =
    let i = c.loop-at.invariant in
    let t = c.loop-at-test.true in
    let r = c.args.job.now.range.now in
    let first = c.args.first in
    let at = c.loop-at.at in
    let long : length c.push.new.self ≡ length c.loop-at.batch + length c.bytes.result.now = ap length c.push.ensures ∙ length-append c.loop-at.batch c.bytes.result.now in (
      omega (arith, i.0),
      omega (arith, t),
      c.answer_on_stream-answer.ensures.same_start ∙ i.2,
      omega (arith, long, i.0, i.3, c.bytes.ensures.within),
      λ run is.
          let line : c.bytes.result.now ≡ line_on run r.seed r.budget at =
          c.bytes.ensures.text ∙ c.set_sample.ensures ∙ ap answer_text (c.answer_on_stream-answer.ensures.answer run (subst (λ (s : Held). IsRestOf s run) (sym i.2) is)) in
          c.push.ensures ∙ ap (λ w. w ++ c.bytes.result.now) (i.4 run is) ∙ ap (λ w. lines_over run r.seed r.budget first at ++ w) line
          ∙ sym (texts_more (line_on run r.seed r.budget) first at i.0),
      let told : List ℕ = blocks_told c.args.visits.now in
          c.enter.ensures ∙ ap (λ w. w ++ block_at r.from at) i.5 ∙ append_assoc told (blocks_begun r.from first at) (block_at r.from at)
          ∙ ap (λ w. told ++ w) (sym (texts_more (block_at r.from) first at i.0)),
    )
