use Rattle.std.proofs.Common.{subst}
use Rattle.std.proofs.lemmas.Result.{IfOk-weaker}
use Rattle.bits_fold.specs.Expected.{IsCount}
use Rattle.mass_lines.specs.ExpectedLines.{told}
use Rattle.mass_lines.proofs.rows.count_line.Goals as goal

pub returns-in-Expected : goal.returns-in-Expected
returns-in-Expected c = λ under comes.
    let is = subst (IsCount under) c.in-Expected.is comes in
    let line = c.number_line.ensures in
    IfOk-weaker c.number_line.result _ _ (λ text same. told c.in-Expected.number is.0 is.1 line.narrow same) line.line
