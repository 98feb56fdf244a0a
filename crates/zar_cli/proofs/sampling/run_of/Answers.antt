use Rattle.std.proofs.Common.{refl, ap}
use Rattle.zar_cli.specs.declared.command.Source.TheVariants.{Stream}
use Rattle.zar_cli.specs.declared.command.Work.TheVariants.{Sample}
use Rattle.zar_cli.proofs.Worked.{works_alone, sample_said}
use Rattle.zar_cli.proofs.sampling.run_of.Goals as goal

pub returns-in-Stream : goal.returns-in-Stream
returns-in-Stream g c =
    let a = c.in-Stream in
    let l = c.args.limits.now in
    works_alone (Sample c.args.source.now l) (Sample (Stream a.seed a.stream a.budget) l) _ _ _ (ap (λ s. Sample s l) a.is) c.run_on_stream.ensures refl

pub returns-in_ok-answer-in-File : goal.returns-in_ok-answer-in-File
returns-in_ok-answer-in-File g c =
    let a = c.in-File in
    let answered = c.in_ok-answer-in-File in
    sample_said c.args.source.now _ a.bits _ _ _ _ answered.answer a.is c.text.ensures answered.ensures.stage answered.ensures.answer
