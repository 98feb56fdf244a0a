use Rattle.bits_law.proofs.PriceLaw.{price_comes, price_nothing, price_unbounded, forever_unbounded}
use Rattle.bits_law.proofs.costs_tend_to_their_limit.Goals as goal

pub returns-clause-passes : goal.returns-clause-passes
returns-clause-passes c = λ price p J cost f ok o s passes. price_comes price p ok J cost o f s passes

pub returns-clause-nothing : goal.returns-clause-nothing
returns-clause-nothing c = λ price p J cost f ok o s all none. price_nothing price p ok J cost o f s all none

pub returns-clause-unbounded : goal.returns-clause-unbounded
returns-clause-unbounded c = λ price p J cost f ok o s all some. price_unbounded price p ok J cost o f s all some

pub returns-clause-forever : goal.returns-clause-forever
returns-clause-forever c = λ price p ok o. forever_unbounded price p ok o
