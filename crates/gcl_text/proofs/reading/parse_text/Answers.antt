use Rattle.std.proofs.Common.{sym, subst, ap, arith, length}
use Rattle.gcl_core.specs.text.Lexing.{IsLexed}
use Rattle.gcl_core.specs.text.Texts.{IsRefusedText}
use Rattle.gcl_text.specs.Readings.{NoneInText}
use Rattle.gcl_text.proofs.Refusals.{lex_refuses, parse_refuses}
use Rattle.gcl_text.proofs.Tokens.{tokens_fewer}
use Rattle.gcl_text.proofs.reading.parse_text.Goals as goal

pub returns-in-Err-clause-written : goal.returns-in-Err-clause-written
returns-in-Err-clause-written c =
    let text = c.args.text.now in
    subst (NoneInText (IsRefusedText text)) (sym c.lex_refusal.ensures) (lex_refuses text c.in-Err.error c.in-Err.ensures.refused)

pub returns-in-Ok-parse-clause-count : goal.returns-in-Ok-parse-clause-count
returns-in-Ok-parse-clause-count c =
    let fewer = tokens_fewer 0 c.in-Ok.tokens.items (length c.args.text.now) c.in-Ok.ensures.order in
    let short = c.in-Ok.ensures.short in
    let statements = c.in-Ok-parse.ensures.statements in
    let same = c.as_slice.ensures.value in
    let lengths = ap length same in
    omega arith

pub returns-clause-written : goal.returns-clause-written
returns-clause-written c =
    let text = c.args.text.now in
    let lexed = subst (IsLexed text) (sym c.as_slice.ensures.value) c.in-Ok.ensures.tokens in
    subst (NoneInText (IsRefusedText text)) (sym c.parse_refusal.ensures) (parse_refuses text c.as_slice.result.now lexed c.in-Err-parse.error c.in-Err-parse.ensures.refused)
