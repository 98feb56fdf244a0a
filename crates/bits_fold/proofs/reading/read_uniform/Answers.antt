use Rattle.std.proofs.Common.{None, subst, ℕ}
use Rattle.gcl_core.specs.meaning.Views.{expression_of}
use Rattle.gcl_core.specs.meaning.Value.{value_of}
use Rattle.mass_fold.specs.inner.Steps.{UniformTo}
use Rattle.mass_fold.proofs.Folds.{fold_draw}
use Rattle.exact_fold.proofs.Turns.{none_fractions}
use Rattle.bits_fold.specs.Counted.{price_of}
use Rattle.bits_fold.specs.inner.Reading.{DrawsCost}
use Rattle.bits_fold.proofs.Steps.{uniform_reads}
use Rattle.bits_fold.proofs.Sums.{some_answered}
use Rattle.bits_fold.proofs.reading.read_uniform.Goals as goal
use Rattle.table_flow.specs.Tables.{fractions_kind, uniform_go}

pub returns-clause-ok : goal.returns-clause-ok
returns-clause-ok c =
    let es = c.args.table.states.entries in
    let E = c.none-ended.result in
    let x = c.args.x in
    let ex = expression_of c.args.e.now in
    let after = c.in_ok-table.table.states.entries in
    let drawn : UniformTo x (value_of ex) None es E after c.draw.new.ended = subst (λ r. UniformTo x (value_of ex) r es E after c.draw.new.ended) c.unlimited.ensures c.in_ok-table.ensures.ok in
    uniform_reads (price_of c.args.what) x ex es after E _ c.in_ok-bits.bits (none_fractions E c.none-ended.ensures) (some_answered _ _ c.in_ok-bits.bits (λ f. (x : ℕ) → DrawsCost (price_of c.args.what) (λ I. (uniform_go fractions_kind None x (value_of ex) I).reached) es f) c.cost_of_uniform.ensures c.in_ok-bits.ensures.value x)
    (fold_draw 0 None x ex es E c.len-count.ensures.ordered _ _ drawn)
