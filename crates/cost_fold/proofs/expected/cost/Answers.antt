use Rattle.std.proofs.Common.{Some, refl, subst}
use Rattle.gcl_core.specs.meaning.Views.{source_of}
use Rattle.mass_fold.specs.Body.{RoundBits}
use Rattle.cost_fold.proofs.Whole.{body_wide, rounds_wide, cost_is, cost_law}
use Rattle.cost_fold.proofs.expected.cost.Goals as goal

pub returns-in-None-clause-refused : goal.returns-in-None-clause-refused
returns-in-None-clause-refused c =
    let p = source_of c.args.p.now in
    let l = c.args.l.now in
    body_wide p l c.is_kept.ensures.kept c.requires.some_round (subst (RoundBits p l.turns (Some l.attempts)) c.in-None.is c.in-Ok.ensures.bits)

pub returns-in-None-repeated-clause-refused : goal.returns-in-None-repeated-clause-refused
returns-in-None-repeated-clause-refused c =
    let p = source_of c.args.p.now in
    let l = c.args.l.now in
    let told = subst (RoundBits p l.turns (Some l.attempts)) c.in-Some.is c.in-Ok.ensures.bits in
    rounds_wide p l c.is_kept.ensures.kept c.in-Ok.failed c.in-Ok.ensures.failed c.in-Ok.ensures.mass l.rounds c.requires.some_round refl c.in-Some.bits told c.in-None-repeated.ensures.cause

pub returns-in-Some-repeated-clause-bits : goal.returns-in-Some-repeated-clause-bits
returns-in-Some-repeated-clause-bits c =
    let p = source_of c.args.p.now in
    let l = c.args.l.now in
    let told = subst (RoundBits p l.turns (Some l.attempts)) c.in-Some.is c.in-Ok.ensures.bits in
    cost_is p l c.is_kept.ensures.kept c.in-Ok.failed c.in-Ok.ensures.failed c.in-Ok.ensures.mass l.rounds c.requires.some_round refl c.in-Some.bits told c.in-Some-repeated.f c.in-Some-repeated.ensures.value c.is_lowest.ensures

pub returns-in-Some-repeated-clause-lengths : goal.returns-in-Some-repeated-clause-lengths
returns-in-Some-repeated-clause-lengths c =
    let p = source_of c.args.p.now in
    let l = c.args.l.now in
    let told = subst (RoundBits p l.turns (Some l.attempts)) c.in-Some.is c.in-Ok.ensures.bits in
    cost_law p l c.is_kept.ensures.kept c.in-Ok.failed c.in-Ok.ensures.failed c.in-Ok.ensures.mass l.rounds c.requires.some_round refl c.in-Some.bits told c.in-Some-repeated.f c.in-Some-repeated.ensures.value c.is_lowest.ensures
