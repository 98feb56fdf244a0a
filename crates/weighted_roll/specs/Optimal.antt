-- What a roll by weights comes to at every number of flips, and that no exact roll comes to more. That a tree with these leaves
-- needs the fewest flips is Knuth's and Yao's (1976); that it is said of every number of flips is this project's own.
use Rattle.std.specs.Prelude.{◌≡◌, ℕ, ◌+◌, ◌-◌, ◌*◌, ◌^◌, ◌/◌, ◌<◌, ◌≤◌, Bool, List, ◌++◌, length, take, nat_le, slice_index, Option, replicate}
use Rattle.std.specs.List.{sum}
use Rattle.dice_roll.specs.declared.answers.Roll.TheVariants.{MoreBits}
use Rattle.dice_roll.specs.FastRoll.{spelled, quota}
use Rattle.dice_roll.specs.Rolled.{flips_made}
use Rattle.weighted_roll.specs.WeightedRoll.{weighted_roll, weighted}
use Rattle.weighted_roll.specs.Rollers.{is_no_label, decided, undecided, flips_on, add_strings}
use Rattle.weighted_roll.specs.ExactRollers.{Keeps, HasLabels, HasAtMost, Tends, sum_below, fast}

pub record IsOptimal (ws : List ℕ) : Type 0 where
  -- within T flips the label i has the whole part of its share of the strings
  pub each : (i T : ℕ) → decided (weighted ws) i T ≡ 2 ^ T * slice_index ws i / sum ws
  pub keeps : Keeps (weighted ws)
  pub labels : HasLabels (weighted ws) (length ws)
  -- the strings of T bits that have no label, and those that have one, are all
  pub left : (T : ℕ) → undecided (weighted ws) T + sum_below (λ i. 2 ^ T * slice_index ws i / sum ws) (length ws) ≡ 2 ^ T
  -- said of the strings alone: they are those that spell a number past all that have a label
  pub places : (w : List Bool)
      → is_no_label (weighted ws w) ≡ nat_le (sum_below (λ i. 2 ^ length w * slice_index ws i / sum ws) (length ws)) (spelled w)
  -- they are fewer than the labels, however long they are
  pub few : (T : ℕ) → undecided (weighted ws) T < length ws
  -- it is exact
  pub tends : (i : ℕ) → Tends (weighted ws) i (slice_index ws i) (sum ws)
  -- no roller that is exact for a label has given it to more strings, at any number of flips
  pub most : (r : List Bool → Option ℕ) (i : ℕ) → Keeps r → HasAtMost r i (slice_index ws i) (sum ws)
      → (T : ℕ) → decided r i T ≤ decided (weighted ws) i T
  -- none that is exact has left fewer undecided
  pub fewest : (r : List Bool → Option ℕ) → Keeps r → HasLabels r (length ws)
      → ((i : ℕ) → HasAtMost r i (slice_index ws i) (sum ws)) → (T : ℕ) → undecided (weighted ws) T ≤ undecided r T
  -- a roll reads no bit behind its flips, and each that it reads is needed
  pub further : (u v : List Bool) → weighted_roll ws (length u) (u ++ v) ≡ weighted_roll ws (length u) u
  pub needed : (flips k : ℕ) (w : List Bool) → k < flips_made (weighted_roll ws flips w)
      → weighted_roll ws flips (take k w) ≡ MoreBits k
  -- the flips of rolls of at most N flips, added over the strings of N bits
  pub flips : (w : List Bool) → flips_made (weighted_roll ws (length w) w) ≡ flips_on (weighted ws) w
  pub cost : (N : ℕ) → add_strings (flips_on (weighted ws)) N ≡ sum_below (λ t. 2 ^ (N - t) * undecided (weighted ws) t) N
  -- of at most 2 ^ k labels they are at most k + 2 on average, whatever the weights and the limit
  pub average : (k N : ℕ) → length ws ≤ 2 ^ k → add_strings (flips_on (weighted ws)) N ≤ (k + 2) * 2 ^ N
  -- no roller that is exact makes fewer, at any limit
  pub cheapest : (r : List Bool → Option ℕ) → Keeps r → HasLabels r (length ws)
      → ((i : ℕ) → HasAtMost r i (slice_index ws i) (sum ws)) → (N : ℕ)
      → add_strings (flips_on (weighted ws)) N ≤ add_strings (flips_on r) N

pub record IsFastest (m : ℕ) : Type 0 where
  -- bit by bit the roll by m weights of 1
  pub same : (w : List Bool) → fast m w ≡ weighted (replicate m 1) w
  pub each : (i T : ℕ) → i < m → decided (fast m) i T ≡ quota m T
  pub keeps : Keeps (fast m)
  pub tends : (i : ℕ) → i < m → Tends (fast m) i 1 m
  pub most : (r : List Bool → Option ℕ) (i : ℕ) → i < m → Keeps r → HasAtMost r i 1 m
      → (T : ℕ) → decided r i T ≤ decided (fast m) i T
  pub cheapest : (r : List Bool → Option ℕ) → Keeps r → HasLabels r m → ((i : ℕ) → i < m → HasAtMost r i 1 m)
      → (N : ℕ) → add_strings (flips_on (fast m)) N ≤ add_strings (flips_on r) N
