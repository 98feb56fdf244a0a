use Rattle.std.proofs.Common.{◌≡◌}
use Rattle.bits_fold.proofs.finding.led_to.Given as goal

abbrev pub invariant-loop-led : goal.invariant-loop-led
invariant-loop-led l = l.all.vars ≡ l.fn.vars
