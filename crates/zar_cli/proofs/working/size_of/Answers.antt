use Rattle.std.proofs.Common.{◌∙◌, Ok, length, sym, ap}
use Rattle.gcl_core.proofs.Listed.{listed_all}
use Rattle.gcl_core.specs.text.ReadingOrder.{listed}
use Rattle.gcl_core.specs.text.StatementCounts.{count_all}
use Rattle.gcl_core.specs.meaning.Views.{source_of, statements_of}
use Rattle.zar_cli.specs.declared.said.Said.TheVariants.{Accepted}
use Rattle.zar_cli.proofs.working.size_of.Goals as goal

pub returns : goal.returns
returns c =
    let p = c.args.program.now in
    let statements = c.count_statements.ensures ∙ ap (λ q. count_all (statements_of q.body)) c.program-p.ensures.same ∙ sym (listed_all (source_of p).body) in
    let names = c.count.ensures ∙ ap (λ q. length q.names) c.program-p.ensures.same in
    record { gives = λ file. ap (λ n. Ok (Accepted n c.count.result)) statements ∙ ap (λ n. Ok (Accepted (length (listed (source_of p).body)) n)) names }
