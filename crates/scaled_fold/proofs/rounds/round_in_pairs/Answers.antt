use Rattle.std.proofs.lemmas.Result.{IfOk-weaker}
use Rattle.gcl_core.specs.meaning.Views.{source_of}
use Rattle.units_law.specs.Down.{down}
use Rattle.scaled_law.specs.Up.{up}
use Rattle.scaled_fold.specs.Doubling.{doubling}
use Rattle.scaled_fold.proofs.Ending.{doubling_positive, lie_beside, some_given}
use Rattle.scaled_fold.proofs.rounds.round_in_pairs.Goals as goal

pub returns-clause-between : goal.returns-clause-between
returns-clause-between c =
    let p = source_of c.args.p.now in
    IfOk-weaker c.ends_of.result _ _
    (λ e g all_turns n is passes meant. lie_beside p c.args.turns c.args.attempts e.outcomes.entries e.loose g all_turns n meant
    (c.masses_lie_beside_others.ensures.between down up c.products_are_rounded_down.ensures.below c.products_are_rounded_up.ensures doubling doubling_positive p c.args.turns n c.args.attempts all_turns c.is_kept.ensures.kept is passes meant))
    c.ends_of.ensures.round

pub returns-clause-passes : goal.returns-clause-passes
returns-clause-passes c =
    let p = source_of c.args.p.now in
    IfOk-weaker c.ends_of.result _ _
    (λ e g all_turns n is some. c.masses_lie_beside_others.ensures.passes down up c.products_are_rounded_down.ensures.below doubling doubling_positive p c.args.turns n c.args.attempts all_turns c.is_kept.ensures.kept is
    (some_given p c.args.turns c.args.attempts e.outcomes.entries e.loose g all_turns some))
    c.ends_of.ensures.round
