use Rattle.std.proofs.Common.{◌≡◌, Err, sym, ◌∙◌, arith}
use Rattle.zar_cli.specs.declared.settings.TheConstants.{BITS}
use Rattle.zar_cli.specs.OptionWords.{has_source, value_of}
use Rattle.zar_cli.specs.Spelling.{NamesBits}
use Rattle.zar_cli.specs.Words.{roll_source}
use Rattle.zar_cli.specs.inner.OptionsView.{options_of}
use Rattle.zar_cli.proofs.Named.{refused_with, names_bits}
use Rattle.zar_cli.proofs.words.roll_source.Goals as goal

pub returns-in_err-source_of-clause-source : goal.returns-in_err-source_of-clause-source
returns-in_err-source_of-clause-source c =
    let o = options_of c.args.options in
    let e = c.in_err-source_of.field-0.0 in
    let out : c.from_residual.result ≡ Err e = grind arith in
    refused_with (λ source. source ≡ roll_source o) (λ _. NamesBits (roll_source o)) c.from_residual.result e out
    (names_bits (has_source o) (value_of BITS.0.now o) _ (sym c.has_source.ensures ∙ c.if-has_source.true) c.in_err-source_of.ensures.source)
