use Rattle.std.proofs.Common.{◌≡◌, ◌++◌, drop}
use Rattle.zar_cli.specs.WeightedRolls.{label_lines}
use Rattle.zar_cli.proofs.weighted.label_lines.Given as goal

abbrev pub invariant-loop-label : goal.invariant-loop-label
invariant-loop-label l = l.text ++ label_lines l.decimals l.label (drop l.label l.shares) ≡ label_lines l.decimals 0 l.shares
