use Rattle.std.proofs.Common.{◌*◌, ap, ◌∙◌}
use Rattle.std.proofs.lemmas.Result.{IfOk-weaker}
use Rattle.gcl_core.specs.meaning.Views.{expression_of, statement_of, statements_of, list_of_arms}
use Rattle.gcl_core.proofs.ViewLemmas.{skip_view, set_view, if_view, while_view, choice_view, choose_view, uniform_view, observe_view}
use Rattle.scaled_fold.proofs.MostReads.{reads_as, skip_reads, set_reads, observe_reads, uniform_reads, if_reads, choice_reads, choose_reads, while_reads}
use Rattle.scaled_fold.proofs.longest.+longest.Goals as goal

pub statement_reads-returns-in-Skip : goal.statement_reads-returns-in-Skip
statement_reads-returns-in-Skip t c = reads_as c.args.turns _ _ 0 (ap statement_of c.in-Skip.is ∙ skip_view) (skip_reads c.args.turns)

pub statement_reads-returns-in-Set : goal.statement_reads-returns-in-Set
statement_reads-returns-in-Set t c =
    reads_as c.args.turns _ _ 0 (ap statement_of c.in-Set.is ∙ set_view c.in-Set.field-0 c.in-Set.field-1) (set_reads c.args.turns c.in-Set.field-0 (expression_of c.in-Set.field-1))

pub statement_reads-returns-in-Observe : goal.statement_reads-returns-in-Observe
statement_reads-returns-in-Observe t c = reads_as c.args.turns _ _ 0 (ap statement_of c.in-Observe.is ∙ observe_view c.in-Observe.field-0) (observe_reads c.args.turns (expression_of c.in-Observe.field-0))

pub statement_reads-returns-in-Uniform : goal.statement_reads-returns-in-Uniform
statement_reads-returns-in-Uniform t c =
    reads_as c.args.turns _ _ 63 (ap statement_of c.in-Uniform.is ∙ uniform_view c.in-Uniform.field-0 c.in-Uniform.field-1) (uniform_reads c.args.turns c.in-Uniform.field-0 (expression_of c.in-Uniform.field-1))

pub statement_reads-returns-in_ok-block_reads-in-If : goal.statement_reads-returns-in_ok-block_reads-in-If
statement_reads-returns-in_ok-block_reads-in-If t c =
    let n = c.args.turns in
    let q = ap statement_of c.in-If.is ∙ if_view c.in-If.field-0 c.in-If.first c.in-If.second in
    IfOk-weaker c.sum.result _ _
    (λ all is. reads_as n _ _ all q
    (if_reads n (expression_of c.in-If.field-0) (statements_of c.in-If.first) (statements_of c.in-If.second) c.in_ok-one-in-If.one c.in_ok-block_reads-in-If.field-0 all c.in_ok-one-in-If.ensures c.in_ok-block_reads-in-If.ensures is))
    c.sum.ensures

pub statement_reads-returns-in_ok-both-in-Choice : goal.statement_reads-returns-in_ok-both-in-Choice
statement_reads-returns-in_ok-both-in-Choice t c =
    let n = c.args.turns in
    let q = ap statement_of c.in-Choice.is ∙ choice_view c.in-Choice.field-0 c.in-Choice.first c.in-Choice.second in
    IfOk-weaker c.sum-in-Choice-2.result _ _
    (λ all is. reads_as n _ _ all q
    (choice_reads n c.in-Choice.field-0 (statements_of c.in-Choice.first) (statements_of c.in-Choice.second) c.in_ok-one-in-Choice.one c.in_ok-block_reads-in-Choice.field-0 c.in_ok-both-in-Choice.both all
    c.in_ok-one-in-Choice.ensures c.in_ok-block_reads-in-Choice.ensures c.in_ok-both-in-Choice.ensures is))
    c.sum-in-Choice-2.ensures

pub statement_reads-returns-in_ok-arms_read-in-Choose : goal.statement_reads-returns-in_ok-arms_read-in-Choose
statement_reads-returns-in_ok-arms_read-in-Choose t c =
    let n = c.args.turns in
    let q = ap statement_of c.in-Choose.is ∙ choose_view c.in-Choose.arms in
    IfOk-weaker c.sum-in-Choose.result _ _
    (λ all is. reads_as n _ _ all q (choose_reads n (list_of_arms c.in-Choose.arms) c.in_ok-arms_read-in-Choose.field-0 all c.in_ok-arms_read-in-Choose.ensures is)) c.sum-in-Choose.ensures

pub statement_reads-returns-in_ok-block_reads-in-While : goal.statement_reads-returns-in_ok-block_reads-in-While
statement_reads-returns-in_ok-block_reads-in-While t c =
    let n = c.args.turns in
    let q = ap statement_of c.in-While.is ∙ while_view c.in-While.field-0 c.in-While.body in
    IfOk-weaker c.multiple.result _ _
    (λ all is. reads_as n _ _ all q
    (while_reads n (expression_of c.in-While.field-0) (statements_of c.in-While.body) c.in_ok-block_reads-in-While.field-0 all c.in_ok-block_reads-in-While.ensures (is ∙ ap (λ k. c.in_ok-block_reads-in-While.field-0 * k) c.from.ensures)))
    c.multiple.ensures
