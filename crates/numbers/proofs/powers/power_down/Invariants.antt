use Rattle.std.proofs.Common.{◌≡◌, ◌≤◌}
use Rattle.numbers.specs.Units.{power_down}
use Rattle.numbers.specs.declared.units.TheConstants.{ALL}
use Rattle.numbers.proofs.powers.power_down.Given as goal

abbrev pub invariant-loop : goal.invariant-loop
invariant-loop l = (l.power ≡ power_down l.q l.counter) × (l.power ≤ ALL)
