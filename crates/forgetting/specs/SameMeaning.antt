-- Two programs that mean the same: their runs on bits answer the same with the same number of bits read, and their rounds weigh
-- the same, at all limits. This project's own rule.
use Rattle.std.specs.Prelude.{◌≡◌, ℕ, Bool, List, Option}
use Rattle.gcl_core.specs.declared.answers.Limits.{Limits}
use Rattle.gcl_core.specs.declared.answers.Outcome.{Outcome}
use Rattle.gcl_core.specs.meaning.Syntax.{SourceProgram}
use Rattle.gcl_core.specs.meaning.Runs.{reads, run_on}
use Rattle.gcl_core.specs.weighing.Mass.{round_mass, failed_mass, mass_of_those}

pub record SameMeaning (p q : SourceProgram) : Type 0 where
  pub reads : (l : Limits) (w : List Bool) → reads q l w ≡ reads p l w
  pub runs : (l : Limits) (w : List Bool) → run_on q l w ≡ run_on p l w
  pub round : (n : ℕ) (r : Option ℕ) (meant : Outcome → Bool) → round_mass q n r meant ≡ round_mass p n r meant
  pub failed : (n : ℕ) (r : Option ℕ) → failed_mass q n r ≡ failed_mass p n r
  pub masses : (n : ℕ) (r R : Option ℕ) (meant : Outcome → Bool) → mass_of_those q n r R meant ≡ mass_of_those p n r R meant
