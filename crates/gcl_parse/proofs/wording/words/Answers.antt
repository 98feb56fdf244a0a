use Rattle.gcl_parse.proofs.Naming.{nothing_read, end_within, next_read}
use Rattle.gcl_parse.proofs.wording.words.Goals as goal

pub loop-token-init : goal.loop-token-init
loop-token-init c = rw (c.new-words.ensures.items, c.new-names.ensures) (nothing_read c.args.text.now c.args.tokens.now c.requires.order)

pub word-requires-clause-within : goal.word-requires-clause-within
word-requires-clause-within c = end_within c.args.tokens.now c.loop-token.token-index _ c.loop-token.invariant c.loop-token-test.true

pub loop-token-preserved : goal.loop-token-preserved
loop-token-preserved c =
    rw c.in_ok-push.ensures.items (next_read c.args.tokens.now c.loop-token.token-index _ c.loop-token.invariant c.loop-token-test.true c.in_ok-word.ensures.names c.in_ok-word.ensures.word)
