use Rattle.std.proofs.Common.{ℕ, ◌<◌, ◌≤◌, length, get_or, sym, ap, ◌∙◌, arith}
use Rattle.gcl_core.specs.declared.answers.TallyKey.{TallyKey}
use Rattle.tally_range.specs.Rows.{Rows, counted_at}
use Rattle.tally_range.specs.Sums.{count_in}
use Rattle.tally_range.specs.inner.SmallRows.{value_key}
use Rattle.tally_range.proofs.InRows.{counted_itself}
use Rattle.tally_range.proofs.Entries.{counted_none}
use Rattle.tally_range.proofs.SmallRows.{next_small, none_left}
use Rattle.tally_range.proofs.small_counts.SmallCounts.add_to.Goals.{then-count-gt0+in_ok-add, else-count-gt0}
use Rattle.tally_range.proofs.small_counts.SmallCounts.add_to.Goals as goal

pub loop-value-init : goal.loop-value-init
loop-value-init c = λ key. let seen = ap (λ (r : Rows). count_in r key) c.self.view_is in omega arith

pub add-requires-clause-fits : goal.add-requires-clause-fits
add-requires-clause-fits c = let test = c.loop-value-test.true in let told = c.self.told in let value : ℕ = c.loop-value.value in
    let lt : value < length c.self.inside.counts = omega arith in let key : TallyKey = c.key_of_value.result in
    let all = c.loop-value.invariant key in let fits = c.requires.fits key in
    let next = next_small value c.self.inside.counts value key lt in
    let itself = ap (λ (k : TallyKey). counted_at k (get_or c.self.inside.counts value 0) key) (sym c.key_of_value.ensures) ∙ counted_itself key (get_or c.self.inside.counts value 0) in omega arith

pub loop-value-preserved : goal.loop-value-preserved
loop-value-preserved c = let test = c.loop-value-test.true in let told = c.self.told in let value : ℕ = c.loop-value.value in
    let lt : value < length c.self.inside.counts = omega arith in λ key. let all = c.loop-value.invariant key in
    let next = next_small value c.self.inside.counts value key lt in
    elim c.if-count-gt0.branch [
      | then-count-gt0+in_ok-add w ↦ let added = w.in_ok-add.ensures.counted key in let table = ap (λ (r : Rows). count_in r key) w.table-is in
          let is = ap (λ (k : TallyKey). counted_at k (get_or c.self.inside.counts value 0) key) w.key_of_value.ensures in omega arith
      | else-count-gt0 w ↦ let none = counted_none (value_key value) (get_or c.self.inside.counts value 0) key (omega arith) in let table = ap (λ (r : Rows). count_in r key) w.table-is in omega arith
    ]

pub returns : goal.returns
returns c = let past = c.loop-value-test.false in let told = c.self.told in let le : length c.self.inside.counts ≤ c.loop-value.value = omega arith in record {
  counted = λ key. let all = c.loop-value.invariant key in let none = none_left c.loop-value.value c.self.inside.counts c.loop-value.value key le in omega arith;
}
