-- How a run ends, as a call tells it: its value, how many bits it read, and which end it is.
use Rattle.std.specs.Prelude.{◌≡◌}
use Rattle.gcl_core.specs.declared.answers.Answer.{Answer}
use Rattle.sampler_run.specs.Telling.{used_in}
use Rattle.stream_runs.specs.Ends.{end_of, value_of}
use Rattle.zar_c.specs.declared.running.ZarRan.{ZarRan}

abbrev pub IsRan : Answer → ZarRan → Type 0
IsRan answer r = (r.value ≡ value_of answer) × (r.read ≡ used_in answer) × (r.end ≡ end_of answer)
