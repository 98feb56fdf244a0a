use Rattle.tally_range.proofs.SmallRows.{none_small}
use Rattle.tally_range.proofs.small_counts.SmallCounts.new.Goals as goal

pub returns : goal.returns
returns c = λ key. none_small 0 1024 key
