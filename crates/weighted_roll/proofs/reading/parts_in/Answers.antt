use Rattle.std.proofs.Common.{sym, ◌∙◌, arith, rules}
use Rattle.std.proofs.lemmas.Str.Pattern.{split_parts}
use Rattle.weighted_roll.proofs.Listing.{read_part, no_part, read_last, no_last}
use Rattle.weighted_roll.proofs.reading.parts_in.Goals as goal

pub returns-in-None : goal.returns-in-None
returns-in-None c =
    let l = c.parts in
    let cut = rw c.in-Some.is at (split_parts 44 l.rest.now c.split_once.result c.split_once.ensures.cases (omega arith)) in
    sym (no_part _ l.weights.items _ _ _ l.invariant cut.0 cut.1 (sym c.weight_in.ensures.weight ∙ c.in-None.is))

pub parts-preserved : goal.parts-preserved
parts-preserved c =
    let l = c.parts in
    let cut = rw c.in-Some.is at (split_parts 44 l.rest.now c.split_once.result c.split_once.ensures.cases (omega arith)) in
    rw c.in_ok-push-in-Some-weight_in.ensures.items (read_part _ l.weights.items _ _ _ l.invariant cut.0 cut.1 _ (search rules) (sym c.weight_in.ensures.weight ∙ c.in-Some-weight_in.is))

pub returns-in-None-weight_in : goal.returns-in-None-weight_in
returns-in-None-weight_in c =
    let l = c.parts in
    let none = rw c.in_default.is at (split_parts 44 l.rest.now c.split_once.result c.split_once.ensures.cases (omega arith)) in
    sym (no_last _ l.weights.items _ l.invariant none (sym c.weight_in-2.ensures.weight ∙ c.in-None-weight_in.is))

pub returns-in_ok-push-in-Some-weight_in-2 : goal.returns-in_ok-push-in-Some-weight_in-2
returns-in_ok-push-in-Some-weight_in-2 c =
    let l = c.parts in
    let none = rw c.in_default.is at (split_parts 44 l.rest.now c.split_once.result c.split_once.ensures.cases (omega arith)) in
    rw c.in_ok-push-in-Some-weight_in-2.ensures.items (sym (read_last _ l.weights.items _ l.invariant none _ (sym c.weight_in-2.ensures.weight ∙ c.in-Some-weight_in-2.is)))
