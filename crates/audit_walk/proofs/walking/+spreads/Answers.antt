use Rattle.std.proofs.Common.{◌-◌, ◌≡◌, ◌+◌, ◌<◌, [], ◌∷◌, true, false, subst, arith}
use Rattle.std.specs.Prelude.{IfNone}
use Rattle.std.proofs.lemmas.Result.{IfOk-at_ok, IfOk-weaker}
use Rattle.sampler_run.specs.declared.machine.Progress.TheVariants.{NeedBit}
use Rattle.sampler_run.specs.Telling.{Tells}
use Rattle.sampler_run.proofs.Standing.{stands_then}
use Rattle.audit_walk.specs.inner.Sums.{AddsUp}
use Rattle.audit_walk.specs.inner.Counts.{IsCountFrom}
use Rattle.audit_walk.proofs.Counted.{both_fit, fork_counts, sides_count}
use Rattle.audit_walk.proofs.walking.+spreads.Goals as goal

pub returns-then-forks-eq0 : goal.returns-then-forks-eq0
returns-then-forks-eq0 g t c =
    let s = c.args.state.now in
    let whole = c.in_ok-whole.whole in
    IfOk-weaker c.walk.result (λ a. IsCountFrom whole c.args.left a.rows a.undecided) (λ a. IsCountFrom s c.args.left a.rows a.undecided)
    (λ a p. fork_counts s whole c.args.left a.rows a.undecided c.in_ok-whole.ensures.rest p) c.walk.ensures.count

pub add-requires : goal.add-requires
add-requires g t c =
    let zero = c.feed.new.self in
    let one = c.feed-2.new.self in
    let less = c.args.left - 1 in
    record {
      fits = both_fit zero one less _ _ _ _ (omega arith) (IfOk-at_ok (λ a. IsCountFrom zero less a.rows a.undecided) c.in_ok-first.was c.join-first.ensures.first)
          (IfOk-at_ok (λ a. IsCountFrom one less a.rows a.undecided) c.in_ok-second.was c.join-first.ensures.second);
    }

pub returns : goal.returns
returns g t c =
    let s = c.args.state.now in
    let zero = c.feed.new.self in
    let one = c.feed-2.new.self in
    let less = c.args.left - 1 in
    let first = c.in_ok-first.field-0 in
    let second = c.in_ok-second.field-0 in
    let told = subst (λ o. IfNone o (Tells s NeedBit)) c.in_default.is c.in_ok-audit.ensures.needs in
    let some = subst (λ o. IfNone o (0 < c.args.left)) c.in_default.is c.in_ok-audit.ensures.more in
    IfOk-weaker c.add.result (λ a. AddsUp first.rows second.rows a.rows × (a.undecided ≡ first.undecided + second.undecided))
    (λ a. IsCountFrom s c.args.left a.rows a.undecided)
    (λ a sums. sides_count s zero one c.args.left less first.rows second.rows a.rows first.undecided second.undecided a.undecided told (omega arith)
    (stands_then [] (false ∷ []) s c.in_ok-zero.zero zero c.in_ok-zero.ensures.rest c.feed.ensures.fed)
    (stands_then [] (true ∷ []) s c.in_ok-one.one one c.in_ok-one.ensures.rest c.feed-2.ensures.fed)
    (IfOk-at_ok (λ a. IsCountFrom zero less a.rows a.undecided) {r = c.join-first.result.0} c.in_ok-first.was c.join-first.ensures.first)
    (IfOk-at_ok (λ a. IsCountFrom one less a.rows a.undecided) {r = c.join-first.result.1} c.in_ok-second.was c.join-first.ensures.second) sums)
    c.add.ensures
