-- What is said of masses, bounds or bits of a program: their lines, or why they are refused.
use Rattle.std.specs.Prelude.{ℕ, List, None, Result, Ok, Err}
use Rattle.report_text.specs.declared.refusals.Refusal.{Refusal}
use Rattle.report_text.specs.declared.refusals.Refusal.TheVariants.{Coded}
use Rattle.zar_cli.specs.declared.said.Said.{Said}
use Rattle.zar_cli.specs.declared.said.Said.TheVariants.{Shown}

-- A refusal comes only by its cause.
pub data ShowsOrRefuses (Are : List ℕ → Type 0) (Cause : ℕ → Type 0) : Result Said Refusal → Type 0 where
  shown : (lines : List ℕ) → Are lines → ShowsOrRefuses Are Cause (Ok (Shown lines))
  refused : (code : ℕ) → Cause code → ShowsOrRefuses Are Cause (Err (Coded code None))
