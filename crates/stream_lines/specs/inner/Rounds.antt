-- Rounds of batches, one for each worker, and what workers leave in them.
use Rattle.std.specs.Prelude.{◌≡◌, ℕ, ◌+◌, ◌*◌, ◌<◌, ◌++◌, min, Bool, List, All, flat_map, get_or, length}
use Rattle.gcl_core.specs.declared.answers.Answer.{Answer}
use Rattle.sampler_run.specs.Held.{Held, IsRestOf, set_back}
use Rattle.stream_lines.specs.declared.worker.Worker.{Worker}
use Rattle.stream_lines.specs.Lines.{lines_over}
use Rattle.stream_lines.specs.inner.Begun.{blocks_begun}
use Rattle.stream_runs.specs.declared.range.SeedRange.{SeedRange}
use Rattle.stream_runs.specs.Homes.{IsHome}
use Rattle.zar_io.specs.Visits.{blocks_told}

-- where the batch number i begins of a round that begins at `first`, of batches of `size` streams, all below `to`
abbrev pub batch_start : ℕ → ℕ → ℕ → ℕ → ℕ
batch_start first to size i = min (first + i * size) to

abbrev pub lines_in : Worker → List ℕ
lines_in w = w.batch

-- the blocks that the gate was told of
abbrev pub told_by : Worker → List ℕ
told_by w = blocks_told w.visits

-- those that begin in the batch number i of a round
abbrev pub blocks_in : SeedRange → ℕ → ℕ → ℕ → List ℕ
blocks_in r first size i = blocks_begun r.from (batch_start first r.to size i) (batch_start first r.to size (i + 1))

-- its state is of the run of home
abbrev pub IsWorkerOf : Held → Worker → Type 0
IsWorkerOf home w = IsHome home w.state

-- a worker of this run, whose batch is the one of this number: behind the blocks `told`, the gate was told of those that begin in it
pub record HasBatch (home : Held) (r : SeedRange) (first size number : ℕ) (told : List ℕ) (w : Worker) : Type 0 where
  pub worker : IsWorkerOf home w
  pub lines : (run : List Bool → Answer) → IsRestOf (set_back home) run →
      lines_in w ≡ lines_over run r.seed r.budget (batch_start first r.to size number) (batch_start first r.to size (number + 1))
  pub entered : told_by w ≡ told ++ blocks_in r first size number

-- as many workers of this run, whose batches, one behind the other, are the lines of a round, and each told the gate of the blocks
-- that begin in its own
pub record HaveRound (home : Held) (r : SeedRange) (first size : ℕ) (old new : List Worker) : Type 0 where
  pub count : length new ≡ length old
  pub workers : All (IsWorkerOf home) new
  pub lines : (run : List Bool → Answer) → IsRestOf (set_back home) run →
      flat_map lines_in new ≡ lines_over run r.seed r.budget first (batch_start first r.to size (length old))
  pub entered : (i : ℕ) (d : Worker) → i < length old → told_by (get_or new i d) ≡ told_by (get_or old i d) ++ blocks_in r first size i
