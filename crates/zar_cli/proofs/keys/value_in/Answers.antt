use Rattle.std.proofs.Common.{◌≡◌, ◌≢◌, ◌∙◌, ◌^◌, ◌-◌, pos, neg_ℤ, [], ◌∷◌, None, option_map, refl, sym, ap, arith, if◌then◌else◌}
use Rattle.std.proofs.lemmas.Bool.{ne_eqb}
use Rattle.std.proofs.lemmas.Str.Pattern.{strip_prefix_char}
use Rattle.gcl_core.specs.text.Numbers.{number_in}
use Rattle.zar_cli.specs.Forms.{CallWord, value_in}
use Rattle.zar_cli.proofs.keys.value_in.Goals as goal

without_sign : (word : CallWord) → ((rest : CallWord) → word ≢ 45 ∷ rest) → value_in word ≡ option_map pos (number_in 0 (2 ^ 63 - 1) word)
without_sign [] none = refl
without_sign (b ∷ bs) none =
    let other = ne_eqb b 45 (λ is. none bs (ap (λ x. x ∷ bs) is)) in
    ap (λ sign. if sign then option_map (λ n. neg_ℤ (pos n)) (number_in 0 (2 ^ 63) bs) else option_map pos (number_in 0 (2 ^ 63 - 1) (b ∷ bs))) other

pub returns-in_err-number_in-in-None : goal.returns-in_err-number_in-in-None
returns-in_err-number_in-in-None c =
    let out : c.from_residual-in_err-number_in-in-None.result ≡ None = grind arith in
    let none = without_sign c.args.word.now (strip_prefix_char 45 c.args.word.now None c.in-None.ensures.cases (omega arith)) in
    out ∙ sym (none ∙ ap (option_map pos) (sym c.in_err-number_in-in-None.ensures.number))
