use Rattle.std.proofs.Common.{◌≡◌, ℕ, List, refl, sym, ◌∙◌, ◌<◌, [], ◌∷◌, Some, None, Err, length, take, arith}
use Rattle.std.proofs.lemmas.List.{append-nil}
use Rattle.gcl_core.specs.text.Lexing.{long_text}
use Rattle.gcl_lex.specs.inner.Reads.{StandsAs}
use Rattle.gcl_lex.proofs.Cuts.{front_is, no_front, some_len}
use Rattle.gcl_lex.proofs.InOrder.{lexed_in_order}
use Rattle.gcl_lex.proofs.PieceByPiece.{nothing_read, piece_read, text_read}
use Rattle.gcl_lex.proofs.OneReading.{apart, tokens_once}
use Rattle.gcl_lex.proofs.Refusing.{refuses, piece_stops, rest_stops}
use Rattle.gcl_lex.proofs.lexing.lex.Goals as goal

empty_is : (xs : List ℕ) → length xs ≡ 0 → xs ≡ []
empty_is [] h = refl
empty_is (x ∷ xs) h = absurd (omega arith)

pub returns-then-text-gt-LONGEST_TEXT-clause-refused :
    goal.returns-then-text-gt-LONGEST_TEXT-clause-refused
returns-then-text-gt-LONGEST_TEXT-clause-refused c = refuses (long_text (grind arith)) refl

pub loop-front-init : goal.loop-front-init
loop-front-init c = rw c.new-tokens.ensures.items (nothing_read c.args.text.now)

pub split_at-requires : goal.split_at-requires
split_at-requires c =
    let l = front_is c.loop-front.rest.now c.in-Some.front (sym c.front_of.ensures ∙ c.in-Some.is) in
    l.within

pub token_kind-requires : goal.token_kind-requires
token_kind-requires c =
    let l = front_is c.loop-front.rest.now c.in-Some.front (sym c.front_of.ensures ∙ c.in-Some.is) in
    rw c.split_at.ensures.front l.is

pub returns-in_err-kind-clause-refused : goal.returns-in_err-kind-clause-refused
returns-in_err-kind-clause-refused c =
    let r : c.from_residual.result ≡ Err c.in_err-kind.field-0.0 = grind arith in
    let l = front_is c.loop-front.rest.now c.in-Some.front (sym c.front_of.ensures ∙ c.in-Some.is) in
    rw r (piece_stops (grind arith) c.loop-front.invariant l (rw c.split_at.ensures.front at c.in_err-kind.ensures))

pub loop-front-smaller-in_ok-push : goal.loop-front-smaller-in_ok-push
loop-front-smaller-in_ok-push c =
    let l = front_is c.loop-front.rest.now c.in-Some.front (sym c.front_of.ensures ∙ c.in-Some.is) in
    let some = some_len _ _ _ l in
    omega (arith, some, c.split_at.ensures.back_len)

pub loop-front-preserved-in_ok-push : goal.loop-front-preserved-in_ok-push
loop-front-preserved-in_ok-push c =
    let l = front_is c.loop-front.rest.now c.in-Some.front (sym c.front_of.ensures ∙ c.in-Some.is) in
    let s : StandsAs c.in-Some.front.kind (take c.in-Some.front.len c.loop-front.rest.now) (Some c.in-Some-2.kind) = rw (c.in-Some-2.is, c.split_at.ensures.front) at c.in_ok-kind.ensures in
    rw (c.in_ok-push.ensures.items, c.split_at.ensures.back) (piece_read c.loop-front.invariant l s)

pub loop-front-smaller : goal.loop-front-smaller
loop-front-smaller c =
    let l = front_is c.loop-front.rest.now c.in-Some.front (sym c.front_of.ensures ∙ c.in-Some.is) in
    let some = some_len _ _ _ l in
    omega (arith, some, c.split_at.ensures.back_len)

pub loop-front-preserved : goal.loop-front-preserved
loop-front-preserved c =
    let l = front_is c.loop-front.rest.now c.in-Some.front (sym c.front_of.ensures ∙ c.in-Some.is) in
    let s : StandsAs c.in-Some.front.kind (take c.in-Some.front.len c.loop-front.rest.now) None = rw (c.in_default-2.is, c.split_at.ensures.front) at c.in_ok-kind.ensures in
    rw c.split_at.ensures.back (rw append-nil at (piece_read c.loop-front.invariant l s))

pub returns-then-is_empty-clause-order : goal.returns-then-is_empty-clause-order
returns-then-is_empty-clause-order c =
    let e = empty_is c.loop-front.rest.now (grind arith) in
    lexed_in_order (text_read (grind arith) c.loop-front.invariant e)

pub returns-then-is_empty-clause-only : goal.returns-then-is_empty-clause-only
returns-then-is_empty-clause-only c =
    let e = empty_is c.loop-front.rest.now (grind arith) in
    λ others h. tokens_once c.args.text.now others c.loop-front.tokens.items h (text_read (grind arith) c.loop-front.invariant e)

pub returns-then-is_empty-clause-accepted : goal.returns-then-is_empty-clause-accepted
returns-then-is_empty-clause-accepted c =
    let e = empty_is c.loop-front.rest.now (grind arith) in
    λ r h. apart c.args.text.now c.loop-front.tokens.items r (text_read (grind arith) c.loop-front.invariant e) h

pub returns-else-is_empty-clause-refused : goal.returns-else-is_empty-clause-refused
returns-else-is_empty-clause-refused c =
    let some : 0 < length c.loop-front.rest.now = grind arith in
    refuses (rest_stops (grind arith) c.loop-front.invariant some (no_front c.loop-front.rest.now (sym c.front_of.ensures ∙ c.in_default.is))) refl
