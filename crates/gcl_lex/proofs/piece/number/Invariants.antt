use Rattle.std.proofs.Common.{◌≡◌, true, drop}
use Rattle.std.specs.List.{list_all}
use Rattle.std.specs.Str.Parse.{digits_value, digits_value_after}
use Rattle.gcl_core.specs.text.Pieces.{is_digit}
use Rattle.gcl_lex.proofs.piece.number.Given as goal

abbrev pub invariant-loop-digit : goal.invariant-loop-digit
invariant-loop-digit l = record {
  value : digits_value 10 l.digits ≡ digits_value_after 10 l.value (drop l.digit-index l.digits);
  digits : list_all is_digit (drop l.digit-index l.digits) ≡ true;
}
