use Rattle.std.proofs.Common.{◌≡◌, ◌∙◌, Some, Err, refl, ap, sym, subst, arith}
use Rattle.zar_cli.specs.inner.Readings.{OfFile, ReadsWritten}
use Rattle.zar_cli.proofs.Files.{writes_file}
use Rattle.zar_cli.proofs.source.read_written.Goals as goal

pub returns-in_err-text-clause-program : goal.returns-in_err-text-clause-program
returns-in_err-text-clause-program g c =
    let out : c.from_residual.result ≡ Err c.in_err-text.field-0.0 = grind arith in
    subst (λ r. OfFile c.args.name.now (g.F.Files.answered c.read_text.new.files) (λ file. ReadsWritten file r)) (sym out)
    (record { tells = c.in_err-text.ensures.no_text; some = c.in_err-text.ensures.some_text })

pub returns-clause-program : goal.returns-clause-program
returns-clause-program g c =
    let one = c.one_reading.ensures.written c.as_slice.result.now in
    record {
      tells = λ file agrees. writes_file _ _ _ (c.in_ok-text.ensures.text file agrees ∙ ap Some (sym c.as_slice.ensures.value)) one c.written_program.ensures.written;
      some = (Some c.as_slice.result.now, writes_file _ _ _ refl one c.written_program.ensures.written);
    }
