use Rattle.std.proofs.Common.{◌≡◌, ℕ, ◌+◌, ◌<◌, length, sym, ap, ◌∙◌, arith}
use Rattle.gcl_core.specs.declared.answers.TallyKey.{TallyKey}
use Rattle.tally_range.specs.Rows.{Rows, counted_at}
use Rattle.tally_range.specs.Sums.{count_in}
use Rattle.tally_range.specs.inner.SmallRows.{value_key, small_rows}
use Rattle.tally_range.proofs.SmallRows.{one_more, at_least}
use Rattle.tally_range.proofs.small_counts.SmallCounts.count.Goals as goal

pub overflow_add-self : goal.overflow_add-self
overflow_add-self c = let small = c.in-Some.ensures in let told = c.self.told in let lt : c.in-Some.value < length c.self.inside.counts = omega arith in
    let least = at_least 0 c.self.inside.counts c.in-Some.value lt in
    let at : 0 + c.in-Some.value ≡ c.in-Some.value = omega arith in
    let is = ap (λ (v : ℕ). count_in (small_rows 0 c.self.inside.counts) (value_key v)) at ∙ ap (λ (k : TallyKey). count_in (small_rows 0 c.self.inside.counts) k) (sym small.1) in
    let seen = ap (λ (r : Rows). count_in r c.args.key) c.self.view_is in omega arith

pub returns-in-Some-clause-counted : goal.returns-in-Some-clause-counted
returns-in-Some-clause-counted c = let small = c.in-Some.ensures in let told = c.self.told in let lt : c.in-Some.value < length c.self.inside.counts = omega arith in
    let at : 0 + c.in-Some.value ≡ c.in-Some.value = omega arith in λ yes other.
    let more = one_more 0 c.self.inside.counts c.in-Some.value other lt in
    let is = ap (λ (v : ℕ). counted_at (value_key v) 1 other) at ∙ ap (λ (k : TallyKey). counted_at k 1 other) (sym small.1) in
    let seen = ap (λ (r : Rows). count_in r other) c.self.view_is in omega arith
