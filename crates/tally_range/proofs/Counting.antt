-- Counts of keys.
use Rattle.std.proofs.Common.{◌≡◌, ℕ, ◌+◌, ◌-◌, ◌≤◌, Bool, true, false, List, ap, arith}
use Rattle.std.specs.Prelude.{if◌then◌else◌}
use Rattle.gcl_core.specs.declared.answers.Answer.{Answer}
use Rattle.gcl_core.specs.declared.answers.TallyKey.{TallyKey}
use Rattle.gcl_core.specs.meaning.Order.{same_key}
use Rattle.zar_io.specs.StreamBits.{stream_bits}
use Rattle.stream_runs.specs.Keys.{key_of_answer, key_on}
use Rattle.tally_range.specs.Rows.{counted_at}
use Rattle.tally_range.specs.Counts.{has_key, count_over, total_from}
use Rattle.tally_range.proofs.Totals.{total_from_le, total_from_more, total_from_same}

pub counted_le : (key : TallyKey) (n : ℕ) (other : TallyKey) → counted_at key n other ≤ n
counted_le key n other = by (same_key key other)
  where
    by : (b : Bool) → (if b then n else 0) ≤ n
    by true = omega arith
    by false = omega arith

module _ (run : List Bool → Answer) (seed budget : ℕ) where
  has_key_le : (key : TallyKey) (i : ℕ) → has_key run seed budget key i ≤ 1
  has_key_le key i = counted_le (key_on run seed budget i) 1 key

  pub count_le : (from to : ℕ) (key : TallyKey) → count_over run seed budget from to key ≤ to - from
  count_le from to key = total_from_le (has_key run seed budget key) from (to - from) (has_key_le key)

  pub count_more : (from at : ℕ) (key : TallyKey) → from ≤ at →
      count_over run seed budget from (at + 1) key ≡ count_over run seed budget from at key + has_key run seed budget key at
  count_more from at key le = total_from_more (has_key run seed budget key) from at le

  pub count_none : (from : ℕ) (key : TallyKey) → count_over run seed budget from from key ≡ 0
  count_none from key = let e : from - from ≡ 0 = omega arith in ap (total_from (has_key run seed budget key) from) e

-- runs that answer alike count alike
pub count_same : (run other : List Bool → Answer) (seed budget from to : ℕ) (key : TallyKey) → ((w : List Bool) → run w ≡ other w) →
    count_over run seed budget from to key ≡ count_over other seed budget from to key
count_same run other seed budget from to key same =
    total_from_same (has_key run seed budget key) (has_key other seed budget key) from (to - from) (λ i. ap (λ a. counted_at (key_of_answer a) 1 key) (same (stream_bits seed i budget)))
