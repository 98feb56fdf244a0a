-- How lines are shown, and what is said of a generated program: how large it is, and how its runs end on the first streams of a seed.
use Rattle.std.specs.Prelude.{◌≡◌, ℕ, ◌++◌, List, length, Result, Ok}
use Rattle.count_lines.specs.TallyLines.{AreTallyLines}
use Rattle.gcl_core.specs.text.ReadingOrder.{listed}
use Rattle.gcl_core.specs.meaning.Syntax.{SourceProgram}
use Rattle.gcl_print.specs.Canonical.{canonical_text}
use Rattle.generated_program.specs.Generated.{generated}
use Rattle.report_text.specs.Lines.{number_text}
use Rattle.report_text.specs.declared.counts.Count.TheVariants.{Statements, Bytes, Streams}
use Rattle.report_text.specs.declared.refusals.Refusal.{Refusal}
use Rattle.stream_runs.specs.declared.range.SeedRange.{SeedRange}
use Rattle.zar_cli.specs.declared.said.Said.{Said}
use Rattle.zar_cli.specs.declared.said.Said.TheVariants.{Shown}
use Rattle.zar_cli.specs.declared.settings.TheConstants.{USUAL_BUDGET, USUAL_WORKERS, GENERATED_STREAMS}
use Rattle.zar_cli.specs.OptionWords.{limits_of, no_options}

-- a text of this kind is shown
abbrev pub ShowsText : (List ℕ → Type 0) → Result Said Refusal → Type 0
ShowsText Is output = (text : List ℕ) × Is text × (output ≡ Ok (Shown text))

-- one is shown behind this front
abbrev pub ShowsBehind : List ℕ → (List ℕ → Type 0) → Result Said Refusal → Type 0
ShowsBehind front Is output = (text : List ℕ) × Is text × (output ≡ Ok (Shown (front ++ text)))

-- how large a program is, and how many streams it is tallied over
abbrev pub size_text : SourceProgram → List ℕ
size_text p = number_text Statements (length (listed p.body)) ++ number_text Bytes (length (canonical_text p))
    ++ number_text Streams GENERATED_STREAMS

-- the first streams of the seed k
abbrev pub generated_range : ℕ → SeedRange
generated_range k = record { seed = k; from = 0; to = GENERATED_STREAMS; budget = USUAL_BUDGET; workers = USUAL_WORKERS }

-- the lines of the size and the tally of the generated program of k, under the limits where none is given
pub record IsGeneratedText (k : ℕ) (text : List ℕ) : Type 0 where
  pub rows : List ℕ
  pub tally : AreTallyLines (generated k) (generated_range k) (limits_of no_options) rows
  pub lines : text ≡ size_text (generated k) ++ rows
