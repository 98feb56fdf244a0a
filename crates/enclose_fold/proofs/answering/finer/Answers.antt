use Rattle.std.proofs.Common.{refl, subst}
use Rattle.std.specs.Prelude.{IfSome, Option}
use Rattle.gcl_core.specs.meaning.Views.{source_of}
use Rattle.bounds_law.specs.declared.rows.Bounds.{Bounds}
use Rattle.enclose_fold.specs.inner.AsWritten.{ArePaired}
use Rattle.enclose_fold.proofs.Paired.{answers_finer}
use Rattle.enclose_fold.proofs.answering.finer.Goals as goal

pub returns-then-is_less-clause-ok : goal.returns-then-is_less-clause-ok
returns-then-is_less-clause-ok c =
    let p = source_of c.args.p.now in
    let paired = subst (λ (o : Option Bounds). IfSome o (λ b. ArePaired p c.args.turns c.args.attempts c.args.all_turns b.rows b.other)) c.in-Some.is c.in_ok-pairs.ensures.ok in
    answers_finer p c.args.turns c.args.attempts c.args.all_turns c.in-Some.pairs.rows c.in-Some.pairs.other paired c.args.units.rows c.args.units.other c.requires (c.if-is_less.ensures refl)
