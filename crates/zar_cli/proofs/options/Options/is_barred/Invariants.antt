use Rattle.std.proofs.Common.{◌≡◌, take}
use Rattle.zar_cli.specs.OptionWords.{is_barred}
use Rattle.zar_cli.specs.inner.OptionsView.{options_of}
use Rattle.zar_cli.proofs.options.Options.is_barred.Given as goal

abbrev pub invariant-loop-count : goal.invariant-loop-count
invariant-loop-count l = is_barred l.name (take l.count (options_of l.options)) ≡ is_barred l.name (take l.initial.count (options_of l.self))

abbrev pub decreases-loop-count : goal.decreases-loop-count
decreases-loop-count l = l.count
