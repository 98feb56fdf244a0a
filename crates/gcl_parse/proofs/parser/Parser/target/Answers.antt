use Rattle.std.proofs.Common.{◌≡◌, ◌≢◌, Some, arith}
use Rattle.gcl_core.specs.declared.words.Word.TheVariants as w
use Rattle.gcl_core.specs.declared.tokens.Sym.TheVariants as y
use Rattle.gcl_parse.specs.inner.Fronts.{first}
use Rattle.gcl_parse.proofs.Steps as step
use Rattle.gcl_parse.proofs.Steps.{after, fails_after, fails_here}
use Rattle.gcl_parse.proofs.parser.Parser.target.Goals as goal

pub returns-then-not-next_is : goal.returns-then-not-next_is
returns-then-not-next_is c =
    let n : first c.args.self.now ≢ Some (w.Sym y.Assign) = grind arith in
    step.draw_parses _ _ n _ _ c.draw.ensures

pub returns : goal.returns
returns c =
    let n : first c.args.self.now ≡ Some (w.Sym y.Assign) = grind arith in
    step.assign_parses _ (step.front_is _ n c.advance.ensures) _ _ c.assignment.ensures
