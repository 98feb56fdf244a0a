use Rattle.std.proofs.Common.{◌≡◌, false, true, is_err, sym, subst}
use Rattle.zar_io.specs.Written.{IsWritten}
use Rattle.stream_lines.specs.Lines.{lines_of_range}
use Rattle.stream_lines.proofs.Behind.{cut_short, one_behind}
use Rattle.stream_lines.proofs.Taken.{lines_taken}
use Rattle.stream_lines.proofs.running.write_behind.Goals as goal

pub returns-in_err-put : goal.returns-in_err-put
returns-in_err-put g c = λ run is.
    rw c.from_residual.ensures.0 (cut_short (g.S.Sink.answered c.args.sink.now) (g.S.Sink.answered c.put.new.sink) c.args.front.now (lines_of_range run c.args.job.now.range.now) c.in_err-put.ensures)

pub returns : goal.returns
returns g c = λ run is.
    one_behind _ _ _ _ _ _ c.in_ok-put.ensures
    (lines_taken run c.args.job.now.range.now c.write_lines.result _ _ _ is c.write_lines.ensures.fails c.write_lines.ensures.whole c.write_lines.ensures.front)
