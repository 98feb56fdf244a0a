use Rattle.std.proofs.Common.{◌≡◌, length, map}
use Rattle.std.specs.List.{list_all}
use Rattle.zar_cli.specs.OptionWords.{is_given}
use Rattle.zar_cli.specs.inner.OptionsView.{options_of}
use Rattle.zar_cli.proofs.options.Options.are_given.Given as goal

abbrev pub invariant-loop-settings : goal.invariant-loop-settings
invariant-loop-settings l =
    list_all (λ s. is_given s (options_of l.self)) (map (λ s. (s.0.now, s.1)) l.settings)
    ≡ list_all (λ s. is_given s (options_of l.self)) (map (λ s. (s.0.now, s.1)) l.initial.settings)

abbrev pub decreases-loop-settings : goal.decreases-loop-settings
decreases-loop-settings l = length l.settings
