use Rattle.std.proofs.Common.{subst}
use Rattle.std.proofs.lemmas.Result.{IfOk-weaker}
use Rattle.gcl_core.specs.meaning.Syntax.{SourceProgram}
use Rattle.gcl_core.specs.meaning.Views.{source_of}
use Rattle.forgetting.specs.Forgetful.{forgetful_of}
use Rattle.bits_law.specs.RunPrice.{expected_price}
use Rattle.bits_fold.specs.Counted.{price_of}
use Rattle.bits_fold.specs.Expected.{IsCount}
use Rattle.bits_fold.proofs.ForgottenCosts.{forgotten_costs}
use Rattle.bits_fold.proofs.Programs.{counts_alike}
use Rattle.bits_fold.proofs.counts.count_in_the_limit.Goals as goal

pub returns : goal.returns
returns c =
    let p = source_of c.args.p.now in
    let price = price_of c.args.what in
    let same = c.in_ok-q.ensures in
    record {
      answer = IfOk-weaker c.count_as_written.result _ _
          (λ a h. counts_alike (expected_price price p) (expected_price price (forgetful_of p)) (forgotten_costs price p (c.forgetting_changes_no_meaning.ensures p)) a (subst (λ (q : SourceProgram). IsCount (expected_price price q) a) same h)) c.count_as_written.ensures;
    }
