use Rattle.std.proofs.Common.{◌≡◌, ◌≢◌, ℕ, [], ◌∷◌, None, refl, sym, ap, arith, if◌then◌else◌}
use Rattle.std.proofs.lemmas.Bool.{ne_eqb}
use Rattle.std.proofs.lemmas.Str.Pattern.{strip_prefix_char}
use Rattle.gcl_core.specs.declared.refusals.TheConstants.{TOO_UNLIKELY}
use Rattle.gcl_core.specs.text.Numbers.{number_in}
use Rattle.zar_cli.specs.Forms.{CallWord}
use Rattle.zar_cli.specs.Words.{code_behind}
use Rattle.zar_cli.proofs.help.code_behind.Goals as goal

without_letter : (letter : ℕ) (word : CallWord) → ((rest : CallWord) → word ≢ letter ∷ rest) → None ≡ code_behind letter word
without_letter letter [] none = refl
without_letter letter (b ∷ bs) none =
    let other = ne_eqb b letter (λ is. none bs (ap (λ x. x ∷ bs) is)) in
    sym (ap (λ letter. if letter then number_in 1 TOO_UNLIKELY bs else None) other)

pub returns-in-None : goal.returns-in-None
returns-in-None c = without_letter c.args.letter c.args.word.now (strip_prefix_char c.args.letter c.args.word.now None c.in-None.ensures.cases (omega arith))
