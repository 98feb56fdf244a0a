use Rattle.std.proofs.Common.{◌+◌, List, [], ◌∷◌, All, length, length-append, sym, ap, subst, ◌∙◌, arith}
use Rattle.std.proofs.lemmas.List.Elements.{All-push}
use Rattle.stream_lines.specs.declared.worker.Worker.{Worker}
use Rattle.stream_lines.specs.inner.Rounds.{IsWorkerOf}
use Rattle.stream_lines.proofs.filling.workers_of.Goals as goal

pub loop-made-preserved : goal.loop-made-preserved
loop-made-preserved c =
    let i = c.loop-made.invariant in
    let worker : Worker = c.in_ok-worker_of.field-0 in (
      subst (λ (l : List Worker). All (IsWorkerOf c.args.home.now) l) (sym c.in_ok-push.ensures.items)
          (All-push (IsWorkerOf c.args.home.now) c.loop-made.workers.items worker i.0 c.in_ok-worker_of.ensures),
      ap length c.in_ok-push.ensures.items ∙ length-append c.loop-made.workers.items (worker ∷ []) ∙ ap (λ k. k + 1) i.1,
      omega (arith, c.loop-made-test.true),
    )
