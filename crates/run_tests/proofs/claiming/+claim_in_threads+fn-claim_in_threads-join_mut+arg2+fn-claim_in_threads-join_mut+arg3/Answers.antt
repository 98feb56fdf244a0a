use Rattle.std.proofs.Common.{◌++◌, List, sym, subst, rules}
use Rattle.std.specs.List.{AllZip}
use Rattle.passes.proofs.Elements.{all_zip_append}
use Rattle.claim_board.specs.declared.pass.Pass.{Pass}
use Rattle.claim_board.specs.Board.{IsSamePass}
use Rattle.run_tests.proofs.claiming.+claim_in_threads+fn-claim_in_threads-join_mut+arg2+fn-claim_in_threads-join_mut+arg3.Goals as goal

pub returns : goal.returns
returns g t c =
    let front : AllZip IsSamePass c.split_at_mut-front.result.0.now c.front-1.given.0 = search rules in
    let back : AllZip IsSamePass c.split_at_mut-front.result.1.now c.back-1.given.0 = search rules in
    subst (λ (l : List Pass). AllZip IsSamePass l (c.front-1.given.0 ++ c.back-1.given.0)) (sym c.split_at_mut-front.ensures.value) (all_zip_append IsSamePass _ _ _ _ front back)
