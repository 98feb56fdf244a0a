use Rattle.std.proofs.Common.{◌≡◌, ℕ, zero, suc, ◌≤◌, ◌^◌, false, List, IfNone, sym, ap, ◌∙◌, subst, arith, true≢false}
use Rattle.gcl_core.specs.meaning.Draw.{have_one_class}
use Rattle.gcl_core.proofs.Strings.{shifted_one}
use Rattle.draw_tree.proofs.Halves.{one_number}
use Rattle.draw_tree.proofs.SmallClasses.{small_class}
use Rattle.draw_tree.proofs.deciding.decided_leaf.Goals as goal

-- numbers of two classes are more than one
some_depth : (ends : List ℕ) (first depth n : ℕ) → n ≡ 2 ^ depth → have_one_class ends first n ≡ false → 1 ≤ depth
some_depth ends first zero n e f = let one : n ≡ 1 = e in absurd (true≢false (sym (one_number ends first) ∙ ap (have_one_class ends first) (sym one) ∙ f))
some_depth ends first (suc depth) n e f = omega arith

pub returns-in_err-class-clause-last : goal.returns-in_err-class-clause-last
returns-in_err-class-clause-last c =
    let some : 1 ≤ c.args.depth = some_depth c.args.ends.now c.args.first c.args.depth _ (shifted_one c.args.depth c.requires.depth) c.in_err-class.ensures in
    subst (λ d. IfNone d (1 ≤ c.args.depth)) (sym c.from_residual.ensures) some

pub leaf_of-requires : goal.leaf_of-requires
leaf_of-requires c = small_class c.args.ends.now c.args.first c.in_ok-class.class c.requires.ends c.in_ok-class.ensures.1
