-- Rows that count the runs on the streams of a range count the keys of these runs.
use Rattle.std.proofs.Common.{◌≡◌, ◌-◌, sym, subst}
use Rattle.std.proofs.Math.Path.{fun_ext}
use Rattle.count_lines.specs.TallyLines.{runs_with}
use Rattle.gcl_core.specs.declared.answers.Limits.{Limits}
use Rattle.gcl_core.specs.declared.answers.TallyKey.{TallyKey}
use Rattle.gcl_core.specs.meaning.Order.{same_key}
use Rattle.gcl_core.specs.meaning.Runs.{run_on}
use Rattle.gcl_core.specs.meaning.Syntax.{SourceProgram}
use Rattle.stream_runs.specs.declared.range.SeedRange.{SeedRange}
use Rattle.stream_runs.specs.Keys.{key_on}
use Rattle.tally_range.proofs.Fronts.{count_listed}
use Rattle.tally_range.specs.Counts.{count_range}
use Rattle.tally_range.specs.Rows.{Rows, IsTallyOf}

module _ (p : SourceProgram) (l : Limits) (r : SeedRange) where
  same_counts : (key : TallyKey) → runs_with p l r key ≡ count_range (run_on p l) r key
  same_counts key = count_listed (key_on (run_on p l) r.seed r.budget) (λ other. same_key other key) r.from (r.to - r.from)

  pub counted_keys : (rows : Rows) → IsTallyOf (count_range (run_on p l) r) rows → IsTallyOf (runs_with p l r) rows
  counted_keys rows h = subst (λ count. IsTallyOf count rows) (sym (fun_ext same_counts)) h
