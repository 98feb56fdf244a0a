use Rattle.std.proofs.Common.{◌∙◌, sym, ◌*◌, ◌/◌}
use Rattle.numbers.proofs.Terms.{product_result, product_lowest, none_num, none_den, some_pair, lowest_at}
use Rattle.numbers.proofs.fraction.reduced_product.Goals as goal

pub returns-in_err-top-clause-value : goal.returns-in_err-top-clause-value
returns-in_err-top-clause-value c =
    c.from_residual.ensures
    ∙ sym (product_result c.args.num c.args.den c.args.o_num c.args.o_den c.gcd-left.result c.gcd-right.result c.requires.first c.requires.second c.gcd-left.ensures.value c.gcd-right.ensures.value ∙ none_num _ _ c.in_err-top.ensures)

pub returns-in_err-bottom-clause-value : goal.returns-in_err-bottom-clause-value
returns-in_err-bottom-clause-value c =
    c.from_residual-in_err-bottom.ensures
    ∙ sym (product_result c.args.num c.args.den c.args.o_num c.args.o_den c.gcd-left.result c.gcd-right.result c.requires.first c.requires.second c.gcd-left.ensures.value c.gcd-right.ensures.value
    ∙ none_den (c.args.num / c.gcd-left.result * (c.args.o_num / c.gcd-right.result)) _ c.in_err-bottom.ensures)

pub returns-clause-value : goal.returns-clause-value
returns-clause-value c =
    some_pair _ _ _ _ c.in_ok-top.ensures.0 c.in_ok-top.ensures.1 c.in_ok-bottom.ensures.0 c.in_ok-bottom.ensures.1
    ∙ sym (product_result c.args.num c.args.den c.args.o_num c.args.o_den c.gcd-left.result c.gcd-right.result c.requires.first c.requires.second c.gcd-left.ensures.value c.gcd-right.ensures.value)

pub returns-clause-lowest : goal.returns-clause-lowest
returns-clause-lowest c =
    lowest_at _ _ _ (product_lowest c.args.num c.args.den c.args.o_num c.args.o_den c.gcd-left.result c.gcd-right.result c.requires.first c.requires.second c.gcd-left.ensures.value c.gcd-right.ensures.value) c.in_ok-top.ensures.1 c.in_ok-bottom.ensures.1
