-- What weights that a roll may have are, by the parts of the test.
use Rattle.std.proofs.Common.{◌≡◌, ℕ, ◌<◌, ◌≤◌, Bool, true, false, List, [], ◌∷◌, length, refl, arith}
use Rattle.std.specs.Prelude.{◌&&◌, nat_le, nat_lt}
use Rattle.std.specs.List.{All, sum, list_all}
use Rattle.std.proofs.lemmas.Bool.Decides.{nat_tests}
use Rattle.weighted_roll.specs.declared.rules.TheConstants.{GREATEST_SUM, MOST_LABELS}
use Rattle.weighted_roll.specs.Weights.{AreWeights}

parts : (n s : ℕ) (all : Bool) → (nat_le n MOST_LABELS && all && nat_lt 0 s && nat_le s GREATEST_SUM) ≡ true
    → (n ≤ MOST_LABELS) × (all ≡ true) × (0 < s) × (s ≤ GREATEST_SUM)
parts n s true h = (grind (arith, nat_tests, h), refl, grind (arith, nat_tests, h), grind (arith, nat_tests, h))
parts n s false h = absurd (grind (arith, nat_tests, h))

each_below : (s : ℕ) (ws : List ℕ) → list_all (λ a. nat_lt a s) ws ≡ true → All (λ a. a < s) ws
each_below s [] h = grind arith
each_below s (a ∷ ws) h = grind (arith, nat_tests, h, each_below s ws)

module _ (ws : List ℕ) (are : AreWeights ws) where
  pub are_few : length ws ≤ MOST_LABELS
  are_few = (parts (length ws) (sum ws) _ are).0

  pub are_below : All (λ a. a < sum ws) ws
  are_below = each_below (sum ws) ws (parts (length ws) (sum ws) _ are).1

  pub are_some : 0 < sum ws
  are_some = (parts (length ws) (sum ws) _ are).2

  pub are_small : sum ws ≤ GREATEST_SUM
  are_small = (parts (length ws) (sum ws) _ are).3
