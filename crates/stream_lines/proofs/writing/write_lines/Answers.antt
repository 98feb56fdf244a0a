use Rattle.std.proofs.Common.{◌≡◌, ◌∙◌, ◌*◌, ◌≤◌, Result, Ok, Err, OnErr, flat_map, length, sym, ap, arith}
use Rattle.std.proofs.Math.Nat.{one-le-mul}
use Rattle.zar_io.specs.Trace.{written}
use Rattle.stream_lines.specs.Lines.{line_on, lines_over}
use Rattle.stream_lines.specs.inner.Rounds.{lines_in}
use Rattle.stream_lines.proofs.Fronts.{round_behind, round_cut}
use Rattle.stream_lines.proofs.writing.write_lines.Goals as goal

on_err : {A E P : Type 0} (r : Result A E) → P → OnErr r P
on_err (Ok a) p = tt
on_err (Err e) p = p

pub returns-in_err-put_round-clause-front : goal.returns-in_err-put_round-clause-front
returns-in_err-put_round-clause-front g c = on_err c.from_residual.result (λ run is.
    let i = c.loop-at.invariant in
    let r = c.args.job.now.range.now in
    let cut = c.in_err-put_round.ensures.front in
    let end = c.batch_start-end.ensures in
    let lines : flat_map lines_in c.fill_round.new.workers ≡ lines_over run r.seed r.budget c.loop-at.at c.batch_start-end.result =
    c.fill_round.ensures.lines run is ∙ ap (lines_over run r.seed r.budget c.loop-at.at) (sym end) in
    round_cut (line_on run r.seed r.budget) r.from c.loop-at.at c.batch_start-end.result r.to cut.0
    (written (g.S.Sink.answered c.args.sink.now)) (written (g.S.Sink.answered c.loop-at.sink)) (written (g.S.Sink.answered c.put_round.new.sink)) (flat_map lines_in c.fill_round.new.workers)
    i.0 (omega (arith, end, i.1)) (omega (arith, end)) lines (i.7 run is) cut.1 cut.2)

pub loop-at-preserved : goal.loop-at-preserved
loop-at-preserved g c =
    let i = c.loop-at.invariant in
    let r = c.args.job.now.range.now in
    let end = c.batch_start-end.ensures in
    let on : c.loop-at.at ≤ c.batch_start-end.result = omega (arith, end, i.1) in (
      omega (arith, i.0, on),
      omega (arith, end),
      omega (arith, i.2),
      omega arith,
      c.fill_round.ensures.workers,
      c.fill_round.ensures.count ∙ i.5,
      c.in_ok-put_round.ensures.fails ∙ i.6,
      λ run is.
          let lines : flat_map lines_in c.fill_round.new.workers ≡ lines_over run r.seed r.budget c.loop-at.at c.batch_start-end.result =
          c.fill_round.ensures.lines run is ∙ ap (lines_over run r.seed r.budget c.loop-at.at) (sym end) in
          round_behind (line_on run r.seed r.budget) r.from c.loop-at.at c.batch_start-end.result
          (written (g.S.Sink.answered c.args.sink.now)) (written (g.S.Sink.answered c.loop-at.sink)) (written (g.S.Sink.answered c.put_round.new.sink)) (flat_map lines_in c.fill_round.new.workers)
          i.0 on lines (i.7 run is) c.in_ok-put_round.ensures.whole,
    )

pub loop-at-smaller : goal.loop-at-smaller
loop-at-smaller g c =
    let i = c.loop-at.invariant in
    let some = c.requires.count.0 in
    let step : 1 ≤ length c.loop-at.workers * c.loop-at.size = one-le-mul (omega (arith, i.5, some)) i.2 in
    omega (arith, c.batch_start-end.ensures, c.loop-at-test.true, step)
