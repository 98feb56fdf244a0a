use Rattle.std.proofs.Common.{◌≡◌, ◌≢◌, Some, arith}
use Rattle.gcl_core.specs.declared.words.Word.TheVariants as w
use Rattle.gcl_parse.specs.inner.Fronts.{first}
use Rattle.gcl_parse.proofs.Steps as step
use Rattle.gcl_parse.proofs.parser.Parser.key.Goals as goal

pub returns-then-not-next_is : goal.returns-then-not-next_is
returns-then-not-next_is c =
    let n : first c.args.self.now ≢ Some (w.Key c.args.key) = grind arith in
    step.fails_at (step.key_stops _ _ n)

pub returns : goal.returns
returns c =
    let n : first c.args.self.now ≡ Some (w.Key c.args.key) = grind arith in
    let e = step.front_is _ n c.advance.ensures in
    (e, record { runs = λ s. step.key_on e s }, step.one_less e)
