-- The line of a hunt: the least stream of the range on whose bits the run of the program ends in the wanted way, or that there is none.
use Rattle.std.specs.Prelude.{◌≡◌, ℕ, List, Option}
use Rattle.gcl_core.specs.declared.answers.Limits.{Limits}
use Rattle.gcl_core.specs.declared.answers.TallyKey.{TallyKey}
use Rattle.gcl_core.specs.meaning.Runs.{run_on}
use Rattle.gcl_core.specs.meaning.Syntax.{SourceProgram}
use Rattle.hunt_range.specs.Sought.{LeastWanted, sought_of}
use Rattle.report_text.specs.Lines.{hunt_text}
use Rattle.stream_runs.specs.declared.range.SeedRange.{SeedRange}

-- the stream is the least whose run of the program has the key, and none is found exactly where there is none
abbrev pub IsFound : SourceProgram → SeedRange → Limits → TallyKey → Option ℕ → Type 0
IsFound p range limits want = LeastWanted (sought_of (run_on p limits) range want)

abbrev pub IsHuntText : SourceProgram → SeedRange → Limits → TallyKey → List ℕ → Type 0
IsHuntText p range limits want text = (stream : Option ℕ) × IsFound p range limits want stream × (text ≡ hunt_text stream)
