-- At the common denominator of a round each fraction of its tables is whole.
use Rattle.std.proofs.Common.{ℕ, length, Option, arith}
use Rattle.std.proofs.lemmas.Nat.Gcd.{dvd_refl}
use Rattle.gcl_core.specs.meaning.Syntax.{SourceProgram}
use Rattle.gcl_core.specs.meaning.Bounds.{BlockIsWeighed}
use Rattle.gcl_core.specs.meaning.Outcomes.{zeros}
use Rattle.gcl_core.specs.weighing.WeightedEnds.{sure}
use Rattle.table_flow.specs.Tables.{tables_of, peak_of}
use Rattle.table_flow.specs.Width.{fractions, round_width}
use Rattle.table_flow.specs.Scale.{WholeAtWidth}
use Rattle.table_flow.proofs.Denominators.{common_positive, flow_within}
use Rattle.table_flow.proofs.Positive.{fractions_positive, p_all}

pub at_width : (p : SourceProgram) (n : ℕ) (r : Option ℕ) → BlockIsWeighed p.body → WholeAtWidth p n r
at_width p n r w =
    let f = tables_of p n r in
    let h = fractions_positive f (p_all n r p.body (sure (zeros (length p.names))) w (omega arith, tt)) in
    record {
      positive = common_positive (fractions f) h;
      within = flow_within (round_width p n r) (peak_of p n r) f h (dvd_refl (round_width p n r)) (omega arith);
    }
