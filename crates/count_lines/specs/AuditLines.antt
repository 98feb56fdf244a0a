-- The lines of how the strings of one length end: exactly the rows of the audit, by the runs of the program, with d decimals.
use Rattle.std.specs.Prelude.{◌≡◌, ℕ, ◌==◌, ◌^◌, List, [], ◌++◌, if◌then◌else◌}
use Rattle.audit_walk.specs.Audited.{IsAuditOf}
use Rattle.audit_walk.specs.Rows.{Rows}
use Rattle.gcl_core.specs.declared.answers.Limits.{Limits}
use Rattle.gcl_core.specs.meaning.Runs.{run_on}
use Rattle.gcl_core.specs.meaning.Syntax.{SourceProgram}
use Rattle.gcl_core.specs.weighing.Fractions.{Fraction}
use Rattle.report_text.specs.RowLines.{rows_text}
use Rattle.numbers.specs.Fraction.{lowest}
use Rattle.report_text.specs.Lines.{mass_text, undecided_text}

-- n of the strings of `depth` bits, as a fraction in lowest terms
abbrev pub share_of : ℕ → ℕ → Fraction
share_of depth n = lowest (n, 2 ^ depth)

-- each outcome with its share of the strings of a length, and the share of those on which a run needs more, if there are any
abbrev pub audit_rows_text : ℕ → ℕ → Rows → List ℕ
audit_rows_text depth d rows = rows_text (λ row. mass_text d row.0 (share_of depth row.1)) rows

abbrev pub audit_text : ℕ → ℕ → Rows → ℕ → List ℕ
audit_text depth d rows undecided =
    audit_rows_text depth d rows ++ (if undecided == 0 then [] else undecided_text d (share_of depth undecided))

pub record AreAuditLines (p : SourceProgram) (depth : ℕ) (l : Limits) (d : ℕ) (text : List ℕ) : Type 0 where
  pub rows : Rows
  pub undecided : ℕ
  pub counted : IsAuditOf (run_on p l) depth rows undecided
  pub lines : text ≡ audit_text depth d rows undecided
