use Rattle.std.proofs.Common.{◌≡◌, Err, sym, subst, arith}
use Rattle.std.specs.Str.Parse.{digits_value}
use Rattle.zar_cli.specs.OptionWords.{of_code, is_given, cost_limits}
use Rattle.zar_cli.specs.Spelling.{KeepsWords}
use Rattle.zar_cli.specs.declared.command.Work.TheVariants.{Cost, HowLong}
use Rattle.zar_cli.specs.declared.settings.TheConstants.{FORGETFUL, HOW_LONG}
use Rattle.zar_cli.specs.Words.{command, decimals_of, flips_of, roll_source}
use Rattle.zar_cli.specs.inner.OptionsView.{options_of}
use Rattle.zar_cli.proofs.Named.{refused_with, keeps_bits, keeps_file, keeps_program}
use Rattle.zar_cli.proofs.words.command.Goals as goal

pub returns-in_err-source-in-Fast-clause-spelled : goal.returns-in_err-source-in-Fast-clause-spelled
returns-in_err-source-in-Fast-clause-spelled c =
    let o = options_of c.args.options in
    let first = c.args.first.now in
    let e = c.in_err-source-in-Fast.field-0.0 in
    let out : c.from_residual-in_err-source-in-Fast.result ≡ Err e = grind arith in
    refused_with (λ d. d ≡ command c.args.verb first o) (λ _. KeepsWords (command c.args.verb first o)) c.from_residual-in_err-source-in-Fast.result e out
    (subst (λ v. KeepsWords (command v first o)) (sym c.in-Fast.is) (keeps_bits (digits_value 10 first) (flips_of o) (roll_source o) (decimals_of o) c.in_err-source-in-Fast.ensures.source))

pub returns-in_err-program-in-Show-clause-spelled : goal.returns-in_err-program-in-Show-clause-spelled
returns-in_err-program-in-Show-clause-spelled c =
    let o = options_of c.args.options in
    let first = c.args.first.now in
    let e = c.in_err-program-in-Show.field-0.0 in
    let out : c.from_residual-in_err-program-in-Show.result ≡ Err e = grind arith in
    refused_with (λ d. d ≡ command c.args.verb first o) (λ _. KeepsWords (command c.args.verb first o)) c.from_residual-in_err-program-in-Show.result e out
    (subst (λ v. KeepsWords (command v first o)) (sym c.in-Show.is) (keeps_file (is_given (of_code FORGETFUL) o) first))

pub returns-in_err-program-in-Cost-clause-spelled : goal.returns-in_err-program-in-Cost-clause-spelled
returns-in_err-program-in-Cost-clause-spelled c =
    let o = options_of c.args.options in
    let first = c.args.first.now in
    let e = c.in_err-program-in-Cost.field-0.0 in
    let out : c.from_residual-in_err-program-in-Cost.result ≡ Err e = grind arith in
    refused_with (λ d. d ≡ command c.args.verb first o) (λ _. KeepsWords (command c.args.verb first o)) c.from_residual-in_err-program-in-Cost.result e out
    (subst (λ v. KeepsWords (command v first o)) (sym c.in-Cost.is) (keeps_program (is_given (of_code HOW_LONG) o) first (HowLong (decimals_of o)) (Cost (cost_limits o) (decimals_of o))))
