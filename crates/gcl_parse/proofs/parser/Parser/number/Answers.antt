use Rattle.std.proofs.Common.{◌≡◌, Some, None, arith}
use Rattle.gcl_parse.specs.inner.Fronts.{first, number_at}
use Rattle.gcl_parse.proofs.Steps as step
use Rattle.gcl_parse.proofs.parser.Parser.number.Goals as goal

pub advance-requires : goal.advance-requires
advance-requires c =
    let n : number_at (first c.args.self.now) ≡ Some c.in-Some.n = grind arith in
    step.number_shorter _ n

pub returns-in_default : goal.returns-in_default
returns-in_default c =
    let n : number_at (first c.args.self.now) ≡ None = grind arith in
    step.fails_at (step.number_stops _ n)

pub returns : goal.returns
returns c =
    let n : number_at (first c.args.self.now) ≡ Some c.in-Some.n = grind arith in
    step.number_on _ n c.advance.ensures
