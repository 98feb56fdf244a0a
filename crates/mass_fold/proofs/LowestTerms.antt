-- Lowest terms of fractions of one value, and of sums.
use Rattle.std.proofs.Common.{◌≡◌, ◌<◌, arith}
use Rattle.numbers.specs.Fraction.{lowest, IsEqual}
use Rattle.numbers.proofs.Divisors.{lowest_in_lowest, lowest_equal, equal_trans}
use Rattle.gcl_core.specs.weighing.Fractions.{Fraction, plus}
use Rattle.mass_fold.proofs.OutcomeRows.{lowest_is}
use Rattle.weighing_law.proofs.Shares.{product_pos}
use Rattle.table_flow.proofs.EqualFractions.{equal_plus}

pub lowest_same : (p q : Fraction) → 0 < p.1 → 0 < q.1 → IsEqual p q → lowest p ≡ lowest q
lowest_same p q pp qp e = lowest_is (lowest p) q (lowest_in_lowest p.0 p.1 (omega arith)) qp (equal_trans (lowest p) p q pp (lowest_equal p.0 p.1) e)

pub lowest_pos : (p : Fraction) → 0 < p.1 → 0 < (lowest p).1
lowest_pos p h = let l = lowest_in_lowest p.0 p.1 (omega arith) in let z = l.positive in omega arith

-- the sum of lowest terms is of the value of the sum
pub lowest_sum : (p q s : Fraction) → 0 < p.1 → 0 < q.1 → 0 < s.1 → IsEqual (plus p q) s → lowest (plus (lowest p) (lowest q)) ≡ lowest s
lowest_sum p q s pp qp sp e =
    lowest_same (plus (lowest p) (lowest q)) s (product_pos (lowest p).1 (lowest q).1 (lowest_pos p pp) (lowest_pos q qp)) sp
    (equal_trans (plus (lowest p) (lowest q)) (plus p q) s (product_pos p.1 q.1 pp qp) (equal_plus (lowest p) p (lowest q) q (lowest_equal p.0 p.1) (lowest_equal q.0 q.1)) e)
