use Rattle.std.proofs.Common.{◌-◌, ◌≡◌, ◌+◌, ◌<◌, All, [], ◌∷◌, ◌∙◌, true, subst, arith}
use Rattle.std.specs.Prelude.{IfNone}
use Rattle.std.proofs.lemmas.Result.{IfOk-weaker}
use Rattle.sampler_run.specs.Held.{Held, set_back}
use Rattle.sampler_run.specs.declared.machine.Progress.TheVariants.{NeedBit}
use Rattle.sampler_run.specs.Telling.{Tells}
use Rattle.sampler_run.proofs.Standing.{stands_then}
use Rattle.audit_walk.specs.inner.Sums.{AddsUp}
use Rattle.audit_walk.specs.inner.Counts.{IsCountFrom}
use Rattle.audit_walk.proofs.Counted.{sides_count}
use Rattle.audit_walk.proofs.Spare.{spare_again}
use Rattle.audit_walk.proofs.walking.+walk.Goals as goal

pub returns-clause-count : goal.returns-clause-count
returns-clause-count t c =
    let s = c.args.state.now in
    let first = c.in_ok-first.first in
    let second = c.in_ok-second.second in
    let told = subst (λ o. IfNone o (Tells s NeedBit)) c.in_default.is c.in_ok-audit.ensures.needs in
    let some = subst (λ o. IfNone o (0 < c.args.left)) c.in_default.is c.in_ok-audit.ensures.more in
    IfOk-weaker c.add.result (λ a. AddsUp first.rows second.rows a.rows × (a.undecided ≡ first.undecided + second.undecided))
    (λ a. IsCountFrom s c.args.left a.rows a.undecided)
    (λ a sums. sides_count s c.feed.new.self c.feed-2.new.self c.args.left (c.args.left - 1) first.rows second.rows a.rows first.undecided second.undecided a.undecided
    told (omega arith) c.feed.ensures.fed (stands_then [] (true ∷ []) s c.in_ok-one.one c.feed-2.new.self c.in_ok-one.ensures.stands c.feed-2.ensures.fed)
    c.in_ok-first.ensures.count c.in_ok-second.ensures.count sums)
    c.add.ensures

pub returns-clause-same : goal.returns-clause-same
returns-clause-same t c =
    let s = c.args.state.now in
    let all = spare_again s c.feed-2.new.self c.walk-2.new.state c.walk-2.new.spare.items c.push.new.self.items (c.feed-2.ensures.same_start ∙ c.in_ok-one.ensures.start) c.in_ok-second.ensures.same c.in_ok-second.ensures.start c.in_ok-push.ensures.items in
    IfOk-weaker c.add.result _ (λ _. All (λ (o : Held). set_back o ≡ set_back s) c.push.new.self.items) (λ a sums. all) c.add.ensures
