use Rattle.std.proofs.Common.{[], map, ap, ◌∙◌}
use Rattle.scaled_law.specs.Pairs.{merged_pairs}
use Rattle.scaled_law.specs.Scaled.{times_pairs}
use Rattle.scaled_fold.specs.inner.Stack.{stacked}
use Rattle.scaled_fold.proofs.Stacks.{timed, timed_all}
use Rattle.scaled_fold.proofs.stack.Stack.multiplied.Goals as goal

pub loop-table-init : goal.loop-table-init
loop-table-init c =
    let k = c.args.k in
    let ts = c.deref-table-items.result.now in
    record {
      vars = c.new-more.ensures.vars;
      so_far = ap (timed k ts) c.new-more.ensures.empty ∙ timed_all k ts [] ∙ ap (λ ts. map (λ J. merged_pairs (times_pairs (k, 1) J)) (stacked ts [])) c.deref-table-items.ensures.value;
    }
