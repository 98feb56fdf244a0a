-- What is said of a fraction holds of each that is equal to it.
use Rattle.std.proofs.Common.{◌*◌, ◌<◌, ap, arith}
use Rattle.std.proofs.Math.Nat.{mul-le-mul_right, le_of_mul-le-mul_right}
use Rattle.numbers.specs.Fraction.{IsEqual}
use Rattle.gcl_core.specs.weighing.Fractions.{Fraction, AtMost}

pub equal_below : (p q m : Fraction) → 0 < q.1 → IsEqual p q → AtMost q m → AtMost p m
equal_below p q m some e le =
    le_of_mul-le-mul_right {k = q.1} (let x = ap (λ x. m.1 * x) e in let y = mul-le-mul_right p.1 le in omega arith) some

pub equal_above : (m p q : Fraction) → 0 < q.1 → IsEqual p q → AtMost m q → AtMost m p
equal_above m p q some e le =
    le_of_mul-le-mul_right {k = q.1} (let x = ap (λ x. m.1 * x) e in let y = mul-le-mul_right p.1 le in omega arith) some
