use Rattle.std.proofs.Common.{◌≡◌, ◌++◌}
use Rattle.count_lines.specs.TallyLines.{tally_text}
use Rattle.count_lines.proofs.tallies.tally_text.Given as goal

abbrev pub invariant-loop-key : goal.invariant-loop-key
invariant-loop-key l = l.text ++ tally_text l.key-iterator ≡ tally_text l.tally
