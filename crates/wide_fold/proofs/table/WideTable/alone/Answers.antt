use Rattle.std.proofs.Common.{◌≡◌, ◌*◌, ◌≤◌, sym, subst, arith}
use Rattle.exact_fold.proofs.Turns.{put_alone}
use Rattle.wide_fold.proofs.table.WideTable.alone.Goals as goal

pub returns-clause-one : goal.returns-clause-one
returns-clause-one c =
    let f = c.in_ok-one.field-0 in
    put_alone c.args.state.now _ f _ _ c.new-table.ensures.empty c.in_ok-copy.ensures
    (subst (λ f. f.0 * 1 ≡ 1 * f.1) (sym c.in_ok-one.ensures) (omega arith)) (subst (λ f. 1 ≤ f.1) (sym c.in_ok-one.ensures) (omega arith)) c.in_ok-put.ensures.ok
