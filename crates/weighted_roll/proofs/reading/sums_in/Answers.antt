use Rattle.std.proofs.Common.{◌≡◌, None, sym, ◌∙◌, arith, rules}
use Rattle.std.proofs.lemmas.Str.Pattern.{split_parts}
use Rattle.weighted_roll.proofs.Listing.{read_part, no_part, read_last, no_last}
use Rattle.weighted_roll.proofs.Summing.{sums_part, sums_last}
use Rattle.weighted_roll.proofs.reading.sums_in.Goals as goal

pub returns-in_err-weight_in : goal.returns-in_err-weight_in
returns-in_err-weight_in c =
    let s = c.parts.invariant in
    let cut = rw c.in-Some.is at (split_parts 44 c.parts.rest.now c.split_once.result c.split_once.ensures.cases (omega arith)) in
    let gone : c.from_residual.result ≡ None = grind arith in
    rw gone (no_part _ s.ws _ _ _ s.read cut.0 cut.1 (sym c.weight_in.ensures.weight ∙ c.in_err-weight_in.was))

pub parts-preserved : goal.parts-preserved
parts-preserved c =
    let s = c.parts.invariant in
    let cut = rw c.in-Some.is at (split_parts 44 c.parts.rest.now c.split_once.result c.split_once.ensures.cases (omega arith)) in
    let more = c.with-sums.ensures in
    sums_part _ _ _ _ _ _ _ _ _ s c.in_ok-weight_in.ensures.small more.count more.sum more.greatest _ _
    (read_part _ s.ws _ _ _ s.read cut.0 cut.1 _ (search rules) (sym c.weight_in.ensures.weight ∙ c.in_ok-weight_in.was)) cut.0

pub returns-in_err-weight_in-2 : goal.returns-in_err-weight_in-2
returns-in_err-weight_in-2 c =
    let s = c.parts.invariant in
    let none = rw c.in_default.is at (split_parts 44 c.parts.rest.now c.split_once.result c.split_once.ensures.cases (omega arith)) in
    let gone : c.from_residual-in_err-weight_in-2.result ≡ None = grind arith in
    rw gone (no_last _ s.ws _ s.read none (sym c.weight_in-2.ensures.weight ∙ c.in_err-weight_in-2.was))

pub returns : goal.returns
returns c =
    let s = c.parts.invariant in
    let none = rw c.in_default.is at (split_parts 44 c.parts.rest.now c.split_once.result c.split_once.ensures.cases (omega arith)) in
    let more = c.with.ensures in
    sums_last _ _ _ _ _ _ _ _ _ s c.in_ok-weight_in-2.ensures.small more.count more.sum more.greatest (read_last _ s.ws _ s.read none _ (sym c.weight_in-2.ensures.weight ∙ c.in_ok-weight_in-2.was))
