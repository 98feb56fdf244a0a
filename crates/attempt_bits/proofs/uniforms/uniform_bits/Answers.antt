use Rattle.std.proofs.Common.{◌≡◌, ◌-◌, ◌∙◌, sym, ap, arith}
use Rattle.gcl_core.specs.meaning.Draw.{uniform_ends}
use Rattle.gcl_core.proofs.EqualClasses.{last_of_equal}
use Rattle.attempt_bits.specs.inner.Undecided.{undecided_below}
use Rattle.attempt_bits.proofs.Stretches.{attempt_is}
use Rattle.attempt_bits.proofs.Sides.{some_below}
use Rattle.attempt_bits.proofs.uniforms.uniform_bits.Goals as goal

pub returns-clause-value : goal.returns-clause-value
returns-clause-value c =
    let m = c.args.bound in
    let all : m - 0 ≡ m = omega arith in
    attempt_is (uniform_ends m) c.bits_for.result m c.undecided.result (sym (last_of_equal m)) c.bits_for.ensures.value
    (c.undecided.ensures.value ∙ ap (undecided_below c.bits_for.result) (sym all) ∙ sym (some_below m c.bits_for.result 0 (omega arith) (omega (arith, c.bits_for.ensures.enough))))
