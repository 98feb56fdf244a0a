use Rattle.std.proofs.Common.{◌≡◌, ◌^◌, ap, ◌∙◌}
use Rattle.std.proofs.lemmas.Result.{IfOk-weaker}
use Rattle.scaled_law.specs.Growth.{left_of}
use Rattle.scaled_law.specs.Scaled.{Scaled}
use Rattle.scaled_fold.specs.Doubling.{times_for}
use Rattle.scaled_fold.specs.inner.Holding.{Holds}
use Rattle.scaled_fold.proofs.Grown.{is_times, grown_follows, once_follows}
use Rattle.scaled_fold.proofs.growing.grown.Goals as goal

pub returns-then-more-eq0 : goal.returns-then-more-eq0
returns-then-more-eq0 c =
    let same : (f : Scaled) → Holds f c.args.walk → 2 ^ c.doublings-more.result ≡ times_for (left_of f) = λ f h. c.doublings-more.ensures.value ∙ is_times c.in_ok-left_of.field-0 ∙ ap times_for (c.in_ok-left_of.ensures f h) in
    grown_follows (2 ^ c.doublings-more.result) c.args.walk c.args.walk same (once_follows (2 ^ c.doublings-more.result) c.args.walk (ap (λ m. 2 ^ m) c.if-more-eq0.true))

pub returns : goal.returns
returns c =
    let same : (f : Scaled) → Holds f c.args.walk → 2 ^ c.doublings-more.result ≡ times_for (left_of f) = λ f h. c.doublings-more.ensures.value ∙ is_times c.in_ok-left_of.field-0 ∙ ap times_for (c.in_ok-left_of.ensures f h) in
    IfOk-weaker c.doubled_walk.result _ _ (λ t s. grown_follows (2 ^ c.doublings-more.result) c.args.walk t same s) c.doubled_walk.ensures
