use Rattle.std.proofs.Common.{◌≡◌, ◌<◌, ◌^◌, drop}
use Rattle.std.specs.Str.Parse.{digits_value_after}
use Rattle.gcl_core.proofs.numbers.value_of.Given as goal

abbrev pub invariant-loop-digit : goal.invariant-loop-digit
invariant-loop-digit l = record {
  small : l.value < 10 ^ l.digit-index;
  same : digits_value_after 10 0 l.digits ≡ digits_value_after 10 l.value (drop l.digit-index l.digits);
}
