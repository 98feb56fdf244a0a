use Rattle.std.proofs.Common.{◌≡◌, ◌<◌, ◌++◌, ℕ, List, Result, Ok, Err, OnErr, length, take, subst}
use Rattle.zar_io.specs.Trace.{written}
use Rattle.stream_lines.specs.declared.worker.Worker.{Worker}
use Rattle.stream_lines.specs.inner.Rounds.{lines_in}
use Rattle.stream_lines.proofs.Batches.{part_of_next}
use Rattle.stream_lines.proofs.writing.put_round.Goals as goal

on_err : {A E P : Type 0} (r : Result A E) → P → OnErr r P
on_err (Ok a) p = tt
on_err (Err e) p = p

pub returns-in_err-put-clause-front : goal.returns-in_err-put-clause-front
returns-in_err-put-clause-front g c = on_err c.from_residual.result (
    let i = c.loop-worker.invariant in
    let cut = c.in_err-put.ensures.1 in
    part_of_next c.args.workers.now lines_in c.loop-worker.worker-index c.worker-item.result c.loop-worker-test.true cut.0
    (written (g.S.Sink.answered c.args.sink.now)) (written (g.S.Sink.answered c.loop-worker.sink)) (written (g.S.Sink.answered c.put.new.sink)) i.1
    (subst (λ (w : Worker). cut.0 < length (lines_in w)) c.worker-item.is (subst (λ (w : List ℕ). cut.0 < length w) c.bytes.ensures cut.1))
    (subst (λ (w : Worker). written (g.S.Sink.answered c.put.new.sink) ≡ written (g.S.Sink.answered c.loop-worker.sink) ++ take cut.0 (lines_in w)) c.worker-item.is
    (subst (λ (w : List ℕ). written (g.S.Sink.answered c.put.new.sink) ≡ written (g.S.Sink.answered c.loop-worker.sink) ++ take cut.0 w) c.bytes.ensures cut.2)))
