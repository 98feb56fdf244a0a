use Rattle.std.proofs.Common.{subst}
use Rattle.std.specs.Prelude.{IfSome, Option}
use Rattle.gcl_core.specs.meaning.Views.{source_of}
use Rattle.bounds_law.specs.declared.rows.Bounds.{Bounds}
use Rattle.enclose_fold.specs.inner.AsWritten.{ArePaired}
use Rattle.enclose_fold.proofs.Paired.{answers_alone}
use Rattle.enclose_fold.proofs.answering.in_pairs_alone.Goals as goal

pub returns-in-Some-clause-ok : goal.returns-in-Some-clause-ok
returns-in-Some-clause-ok c =
    let p = source_of c.args.p.now in
    let paired = subst (λ (o : Option Bounds). IfSome o (λ b. ArePaired p c.args.turns c.args.attempts c.args.all_turns b.rows b.other)) c.in-Some.is c.in_ok-pairs.ensures.ok in
    answers_alone p c.args.turns c.args.attempts c.args.all_turns c.in-Some.pairs.rows c.in-Some.pairs.other paired c.requires
