use Rattle.std.proofs.Common.{◌∙◌, sym, ◌*◌, ◌/◌}
use Rattle.numbers.proofs.Terms.{common_result, none_first, none_second, none_third, some_parts, common_positive}
use Rattle.numbers.proofs.fraction.over_common.Goals as goal

pub returns-in_err-multiple-clause-value : goal.returns-in_err-multiple-clause-value
returns-in_err-multiple-clause-value c =
    c.from_residual.ensures
    ∙ sym (common_result c.args.num c.args.den c.args.o_num c.args.o_den c.gcd-shared.result c.requires.first c.requires.second c.gcd-shared.ensures.value ∙ none_first _ _ _ c.in_err-multiple.ensures)

pub returns-in_err-left-clause-value : goal.returns-in_err-left-clause-value
returns-in_err-left-clause-value c =
    c.from_residual-in_err-left.ensures
    ∙ sym (common_result c.args.num c.args.den c.args.o_num c.args.o_den c.gcd-shared.result c.requires.first c.requires.second c.gcd-shared.ensures.value ∙ none_second _ _ _ c.in_err-left.ensures)

pub returns-in_err-right-clause-value : goal.returns-in_err-right-clause-value
returns-in_err-right-clause-value c =
    c.from_residual-in_err-right.ensures
    ∙ sym (common_result c.args.num c.args.den c.args.o_num c.args.o_den c.gcd-shared.result c.requires.first c.requires.second c.gcd-shared.ensures.value ∙ none_third (c.args.den * (c.args.o_den / c.gcd-shared.result)) (c.args.num * (c.args.o_den / c.gcd-shared.result)) _ c.in_err-right.ensures)

pub returns-clause-value : goal.returns-clause-value
returns-clause-value c =
    some_parts _ _ _ _ _ _ c.in_ok-multiple.ensures.0 c.in_ok-multiple.ensures.1 c.in_ok-left.ensures.0 c.in_ok-left.ensures.1 c.in_ok-right.ensures.0 c.in_ok-right.ensures.1
    ∙ sym (common_result c.args.num c.args.den c.args.o_num c.args.o_den c.gcd-shared.result c.requires.first c.requires.second c.gcd-shared.ensures.value)

pub returns-clause-positive : goal.returns-clause-positive
returns-clause-positive c = common_positive c.args.den c.args.o_den c.gcd-shared.result _ c.requires.first c.requires.second c.gcd-shared.ensures.value c.in_ok-multiple.ensures.1
