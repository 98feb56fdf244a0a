use Rattle.std.proofs.Common.{subst}
use Rattle.std.proofs.lemmas.Result.{IfOk-weaker, IfErr-weaker}
use Rattle.gcl_core.specs.meaning.Syntax.{SourceProgram}
use Rattle.gcl_core.specs.meaning.Views.{source_of}
use Rattle.cost_law.specs.ExpectedBits.{expected_bits}
use Rattle.forgetting.specs.Forgetful.{forgetful_of}
use Rattle.bits_fold.specs.Expected.{IsCount}
use Rattle.bits_fold.specs.inner.AsWritten.{RefusedAsWritten}
use Rattle.bits_fold.proofs.NoLoops.{refused_holds}
use Rattle.bits_fold.proofs.Programs.{counts_alike}
use Rattle.bits_fold.proofs.expected.cost_in_the_limit.Goals as goal

pub returns-clause-answer : goal.returns-clause-answer
returns-clause-answer c =
    let p = source_of c.args.p.now in
    let same = c.in_ok-q.ensures in
    IfOk-weaker c.bits_as_written.result _ _ (λ a h. counts_alike (expected_bits p) (expected_bits (forgetful_of p)) (c.forgetting_costs_nothing.ensures p) a (subst (λ (q : SourceProgram). IsCount (expected_bits q) a) same h)) c.bits_as_written.ensures.answer

pub returns-clause-refused : goal.returns-clause-refused
returns-clause-refused c =
    let p = source_of c.args.p.now in
    IfErr-weaker c.bits_as_written.result _ _ (λ e h. refused_holds p e (subst (λ (q : SourceProgram). RefusedAsWritten q e) c.in_ok-q.ensures h)) c.bits_as_written.ensures.refused
