use Rattle.std.proofs.Common.{false, take, flat_map}
use Rattle.zar_io.specs.Written.{IsWritten}
use Rattle.zar_cli.specs.Help.{piece_text}
use Rattle.zar_cli.proofs.writing.put_part.Given as goal

abbrev pub invariant-loop-words : goal.invariant-loop-words
invariant-loop-words g l = record {
  written : IsWritten false (g.S.Sink.answered l.initial.sink) (g.S.Sink.answered l.sink)
      (flat_map (λ piece. piece_text piece.0.now piece.1) (take l.words-index l.part));
}
