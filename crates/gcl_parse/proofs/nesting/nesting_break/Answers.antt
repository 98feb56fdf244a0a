use Rattle.gcl_core.specs.declared.rules.TheConstants.{DEEPEST_NESTING, MOST_OPERATORS}
use Rattle.std.proofs.Common.{◌<◌, sym, ◌∙◌, arith, ◌⊎◌, inl, inr}
use Rattle.std.proofs.lemmas.List.{drop_all}
use Rattle.gcl_parse.proofs.Nests.{broken, goes, mapped, none_mapped, some_mapped}
use Rattle.gcl_parse.proofs.nesting.nesting_break.Goals as goal
use Rattle.gcl_parse.proofs.nesting.nesting_break.Goals.{then-level-gt-DEEPEST_NESTING-via-then-level-gt-DEEPEST_NESTING, then-level-gt-DEEPEST_NESTING-via-else-level-gt-DEEPEST_NESTING+then-count-gt-MOST_OPERATORS}

pub returns-then-level-gt-DEEPEST_NESTING : goal.returns-then-level-gt-DEEPEST_NESTING
returns-then-level-gt-DEEPEST_NESTING c =
    let e = c.level_behind-level.ensures in
    let h : (DEEPEST_NESTING < c.level_behind-level.result) ⊎ (MOST_OPERATORS < c.count_behind-count.result) =
    elim c.then-level-gt-DEEPEST_NESTING.branch [
      | then-level-gt-DEEPEST_NESTING-via-then-level-gt-DEEPEST_NESTING w ↦ inl w.if-level-gt-DEEPEST_NESTING.true
      | then-level-gt-DEEPEST_NESTING-via-else-level-gt-DEEPEST_NESTING+then-count-gt-MOST_OPERATORS w ↦ inr w.if-count-gt-MOST_OPERATORS.true
    ] in
    sym (c.loop-i.invariant.2 ∙ some_mapped _ _ (broken _ _ _ _ _ _ _ c.loop-i-test.true e c.count_behind-count.ensures h))

pub loop-i-preserved : goal.loop-i-preserved
loop-i-preserved c = (
  omega arith,
  omega arith,
  c.loop-i.invariant.2 ∙ mapped _ _ _ (goes _ _ _ _ _ _ _ c.loop-i-test.true c.level_behind-level.ensures c.count_behind-count.ensures (omega arith) (omega arith)),
)

pub returns : goal.returns
returns c =
    let e = drop_all c.loop-i.i c.args.tokens.now (omega arith) in
    sym (c.loop-i.invariant.2 ∙ none_mapped _ _ _ _ e)
