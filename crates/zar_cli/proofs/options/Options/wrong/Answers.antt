use Rattle.std.proofs.Common.{◌≡◌, ◌≤◌, ◌+◌, List, map, take, Option, None, ap, sym, ◌∙◌, arith}
use Rattle.std.specs.Prelude.{option_map}
use Rattle.zar_cli.specs.Forms.{CallWord}
use Rattle.zar_cli.specs.OptionWords.{Setting, form_behind, wrong_behind, words_of, wrong_option}
use Rattle.zar_cli.specs.inner.OptionsView.{options_of}
use Rattle.zar_cli.proofs.GivenOptions.{one_further, some_words, goes_on}
use Rattle.zar_cli.proofs.options.Options.wrong.Goals as goal

pub loop-name-preserved : goal.loop-name-preserved
loop-name-preserved c =
    let takes : List Setting = map (λ s. (s.0.now, s.1)) c.args.self.takes.now in
    let all = options_of c.args.self in
    let before = take c.loop-name.count all in
    let value : Option CallWord = option_map (λ w. w.now) c.in-Some.value in
    let rest = options_of c.in-Some.rest in
    let next = c.loop-name.invariant.behind ∙ c.in-Some.ensures.some in
    let none : None ≡ wrong_behind (form_behind takes before c.in-Some.name.now) value = c.in-None.ensures.behind ∙ ap (λ form. wrong_behind form value) c.form_behind.ensures in
    let further = one_further c.loop-name.count all (c.in-Some.name.now, value) rest next in
    let some = some_words value in
    record {
      words = omega (arith, c.loop-name.invariant.words, c.in-Some.ensures.words, c.words_of-at.ensures);
      few = omega (arith, c.loop-name.invariant.few, c.words_of-at.ensures, some);
      behind = further.1;
      same = c.loop-name.invariant.same ∙ ap (λ o. wrong_option takes c.loop-name.at before o) c.in-Some.ensures.some
          ∙ goes_on takes c.loop-name.at c.loop-name.count all (c.in-Some.name.now, value) rest next none
          ∙ ap (λ k. wrong_option takes (c.loop-name.at + k) (take (c.loop-name.count + 1) all) rest) (sym c.words_of-at.ensures);
    }
