use Rattle.std.proofs.Common.{◌≡◌, length}
use Rattle.gcl_core.specs.text.Names.{value_named}
use Rattle.zar_cli.specs.inner.OptionsView.{options_of}
use Rattle.zar_cli.proofs.options.Options.named.Given as goal

abbrev pub invariant-loop-name : goal.invariant-loop-name
invariant-loop-name l = value_named (options_of l.options) l.word ≡ value_named (options_of l.self) l.word

abbrev pub decreases-loop-name : goal.decreases-loop-name
decreases-loop-name l = length l.options.words.now
