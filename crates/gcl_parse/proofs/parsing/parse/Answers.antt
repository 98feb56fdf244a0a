use Rattle.std.proofs.Common.{◌∙◌, sym, arith}
use Rattle.gcl_parse.proofs.Excludes.{only_memory}
use Rattle.gcl_parse.proofs.Programs.{words_in_range, derives, one_derivation, variables_below, is_written, arms_counted, few_statements, unexpected, left_within}
use Rattle.gcl_parse.proofs.FlawPlaces.{places_count}
use Rattle.gcl_parse.proofs.parsing.parse.Goals as goal

pub new-parser-requires : goal.new-parser-requires
new-parser-requires c = rw (c.deref.ensures.value, c.in_ok-words.ensures.words) (words_in_range c.args.text.now c.args.tokens.now c.requires.order)

pub returns-in-Ok-clause-program : goal.returns-in-Ok-clause-program
returns-in-Ok-clause-program c =
    derives c.args.text.now c.args.tokens.now (c.new-parser.ensures ∙ c.deref.ensures.value ∙ c.in_ok-words.ensures.words) c.in_ok-words.ensures.names c.in-Ok.ensures
    (c.of-places.ensures ∙ c.in_ok-beginnings-in-Ok.ensures)

pub returns-in-Ok-clause-only : goal.returns-in-Ok-clause-only
returns-in-Ok-clause-only c q at d = one_derivation c.args.text.now c.args.tokens.now (returns-in-Ok-clause-program c) d

pub returns-in-Ok-clause-variables : goal.returns-in-Ok-clause-variables
returns-in-Ok-clause-variables c = variables_below (returns-in-Ok-clause-program c)

pub returns-in-Ok-clause-written : goal.returns-in-Ok-clause-written
returns-in-Ok-clause-written c = is_written (returns-in-Ok-clause-program c)

pub returns-in-Ok-clause-arms : goal.returns-in-Ok-clause-arms
returns-in-Ok-clause-arms c = arms_counted (returns-in-Ok-clause-program c)

pub returns-in-Ok-clause-places : goal.returns-in-Ok-clause-places
returns-in-Ok-clause-places c = places_count (returns-in-Ok-clause-program c)

pub returns-in-Ok-clause-statements : goal.returns-in-Ok-clause-statements
returns-in-Ok-clause-statements c = few_statements (returns-in-Ok-clause-program c)

pub overflow_sub-tokens : goal.overflow_sub-tokens
overflow_sub-tokens c =
    let h = c.new-parser.ensures ∙ c.deref.ensures.value ∙ c.in_ok-words.ensures.words in
    let n = left_within c.args.text.now c.args.tokens.now _ _ h (c.in-Err-Unexpected.ensures.here c.in-Err-Unexpected.field-0-is) in
    omega (arith, n)

pub returns-in-Err-Unexpected-clause-refused : goal.returns-in-Err-Unexpected-clause-refused
returns-in-Err-Unexpected-clause-refused c =
    let h = c.new-parser.ensures ∙ c.deref.ensures.value ∙ c.in_ok-words.ensures.words in
    let n = c.left.ensures in (
      sym c.nesting_break.ensures ∙ c.in_default.is,
      unexpected c.args.text.now c.args.tokens.now _ _ h (c.in-Err-Unexpected.ensures.here c.in-Err-Unexpected.field-0-is) (rw (← n) c.place-in-Err-Unexpected.ensures),
    )

pub returns-in-Err-Unexpected-clause-derived : goal.returns-in-Err-Unexpected-clause-derived
returns-in-Err-Unexpected-clause-derived c q at d n = only_memory c.args.text.now c.args.tokens.now _ d n (returns-in-Err-Unexpected-clause-refused c)
