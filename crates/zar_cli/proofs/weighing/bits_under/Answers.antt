use Rattle.std.proofs.Common.{Err, sym, subst}
use Rattle.gcl_core.specs.meaning.Views.{source_of}
use Rattle.mass_lines.specs.BitLines.{IsBitLine}
use Rattle.mass_lines.specs.Reasons.{WhyNoBits}
use Rattle.zar_cli.specs.Weighed.{ShowsOrRefuses, shown}
use Rattle.zar_cli.specs.inner.Works.{Gives}
use Rattle.zar_cli.proofs.Refusals.{lines_refused}
use Rattle.zar_cli.proofs.weighing.bits_under.Goals as goal

pub returns-in-Ok : goal.returns-in-Ok
returns-in-Ok c = record { gives = λ file. shown c.in-Ok.line c.in-Ok.ensures.line }

pub returns-in-Err : goal.returns-in-Err
returns-in-Err c =
    let a = c.args in
    let p = source_of a.program.now in
    let Are = IsBitLine p a.limits.now a.decimals in
    let Cause = WhyNoBits p a.limits.now in
    record {
      gives = λ file. subst (λ e. Gives (ShowsOrRefuses Are Cause) (Err e)) (sym c.refusal_by.ensures) (lines_refused Are Cause c.in-Err.reason c.in-Err.ensures.refused);
    }
