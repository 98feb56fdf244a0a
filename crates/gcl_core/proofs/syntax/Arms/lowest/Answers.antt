use Rattle.std.proofs.Common.{◌∙◌, ap, arith}
use Rattle.std.proofs.lemmas.List.{with_items_is}
use Rattle.gcl_core.specs.declared.syntax.Arms.{out-Arms, out-roll-Arms}
use Rattle.gcl_core.specs.meaning.Lowest.{divided}
use Rattle.gcl_core.specs.meaning.Views.{arm_list_of}
use Rattle.gcl_core.proofs.ArmLists.{all_divided}
use Rattle.gcl_core.proofs.syntax.Arms.lowest.Goals as goal

pub returns : goal.returns
returns c =
    let i = c.loop-arm.invariant in
    let all = all_divided c.divisor-divisor.result _ _ i.long (λ k d lt. i.parts k d (omega (arith, lt, c.loop-arm-test.false))) (λ k d lt. i.blocks k d (omega (arith, lt, c.loop-arm-test.false))) in
    let put = with_items_is (out-Arms c.args.self.now).arms c.loop-arm.arm-items (c.loop-arm.auto.arm-items ∙ c.deref_mut-arm-items.ensures.len) in
    ap (λ r. arm_list_of r.arms.items) (out-roll-Arms _) ∙ ap arm_list_of put ∙ all
    ∙ ap (λ items. divided c.divisor-divisor.result (arm_list_of items)) c.deref_mut-arm-items.ensures.value ∙ ap (λ d. divided d (arm_list_of (out-Arms c.args.self.now).arms.items)) c.divisor-divisor.ensures.divisor
