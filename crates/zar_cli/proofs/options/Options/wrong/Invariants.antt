use Rattle.std.proofs.Common.{◌≡◌, ◌+◌, ◌≤◌, [], length, map, take, drop}
use Rattle.zar_cli.specs.OptionWords.{wrong_option}
use Rattle.zar_cli.specs.inner.OptionsView.{options_of}
use Rattle.zar_cli.proofs.options.Options.wrong.Given as goal

abbrev pub invariant-loop-name : goal.invariant-loop-name
invariant-loop-name l = record {
  words : l.at + length l.options.words.now ≡ 2 + length l.self.words.now;
  few : l.count + 2 ≤ l.at;
  behind : drop l.count (options_of l.self) ≡ options_of l.options;
  same : wrong_option (map (λ s. (s.0.now, s.1)) l.self.takes.now) 2 [] (options_of l.self)
      ≡ wrong_option (map (λ s. (s.0.now, s.1)) l.self.takes.now) l.at (take l.count (options_of l.self)) (options_of l.options);
}

abbrev pub decreases-loop-name : goal.decreases-loop-name
decreases-loop-name l = length l.options.words.now
