use Rattle.std.proofs.Common.{Err, sym, subst}
use Rattle.gcl_core.specs.meaning.Views.{source_of}
use Rattle.mass_lines.specs.HowLongLines.{AreHowLongLines}
use Rattle.mass_lines.specs.Reasons.{WhyNotExpected}
use Rattle.zar_cli.specs.Weighed.{ShowsOrRefuses, shown}
use Rattle.zar_cli.specs.inner.Works.{Gives}
use Rattle.zar_cli.proofs.Refusals.{lines_refused}
use Rattle.zar_cli.proofs.weighing.how_long_of.Goals as goal

pub returns-in-Ok : goal.returns-in-Ok
returns-in-Ok c = record { gives = λ file. shown c.in-Ok.lines c.in-Ok.ensures.lines }

pub returns-in-Err : goal.returns-in-Err
returns-in-Err c =
    let Are = AreHowLongLines (source_of c.args.program.now) c.args.decimals in
    let Why = WhyNotExpected (source_of c.args.program.now) in
    record {
      gives = λ file. subst (λ e. Gives (ShowsOrRefuses Are Why) (Err e)) (sym c.refusal_by.ensures) (lines_refused Are Why c.in-Err.reason c.in-Err.ensures.refused);
    }
