use Rattle.std.proofs.Common.{◌≡◌, ◌++◌, take, flat_map}
use Rattle.zar_io.specs.Trace.{failures, written}
use Rattle.stream_lines.specs.inner.Rounds.{lines_in}
use Rattle.stream_lines.proofs.writing.put_round.Given as goal

abbrev pub invariant-loop-worker : goal.invariant-loop-worker
invariant-loop-worker g l = (failures (g.S.Sink.answered l.sink) ≡ failures (g.S.Sink.answered l.initial.sink))
    × (written (g.S.Sink.answered l.sink) ≡ written (g.S.Sink.answered l.initial.sink) ++ flat_map lines_in (take l.worker-index l.workers))
