use Rattle.gcl_core.specs.declared.rules.TheConstants.{LONGEST_NAME}
use Rattle.std.proofs.Common.{◌<◌, length, sym, ◌∙◌, arith}
use Rattle.gcl_lex.specs.inner.Reads.{too_wide, too_long}
use Rattle.gcl_lex.proofs.Numbers.{number_digits, wide}
use Rattle.gcl_lex.proofs.piece.token_kind.Goals as goal

pub number-requires : goal.number-requires
number-requires c = number_digits c.args.bytes.now (rw c.in-Number.is at c.requires)

pub returns-in-None : goal.returns-in-None
returns-in-None c = rw c.in-Number.is (too_wide (wide c.args.bytes.now (sym c.number.ensures ∙ c.in-None.is)))

pub returns-in-Name : goal.returns-in-Name
returns-in-Name c =
    let w : LONGEST_NAME < length c.args.bytes.now = grind arith in
    rw c.in-Name.is (too_long w)
