use Rattle.enclose_fold.proofs.ManyRounds.{even_rounds, odd_rounds}
use Rattle.enclose_fold.proofs.rounds.+in_rounds.Goals as goal

pub returns-then-rounds-eq0-2-clause-value : goal.returns-then-rounds-eq0-2-clause-value
returns-then-rounds-eq0-2-clause-value t c =
    even_rounds c.args.one c.args.rounds c.if-rounds-eq0.false _ c.in_rounds-half.ensures.value _ c.followed-twice.ensures.value c.if-rounds-eq0-2.true

pub returns-else-rounds-eq0-2-clause-value : goal.returns-else-rounds-eq0-2-clause-value
returns-else-rounds-eq0-2-clause-value t c =
    odd_rounds c.args.one c.args.rounds c.if-rounds-eq0.false _ c.in_rounds-half.ensures.value _ c.followed-twice.ensures.value c.if-rounds-eq0-2.false _ c.followed.ensures.value
