-- A roll by weights that are laid out: where it stands.
use Rattle.std.proofs.Common.{◌≡◌, ℕ, ◌+◌, ◌*◌, ◌≤◌, ◌<◌, Bool, List, length, sym, refl, ◌∙◌, arith}
use Rattle.std.specs.List.{All}
use Rattle.std.specs.Int.{from_bool}
use Rattle.weighted_roll.specs.declared.columns.Column.TheVariants.{Rest}
use Rattle.weighted_roll.specs.Columns.{column}
use Rattle.weighted_roll.specs.inner.Tables.{after_flips}
use Rattle.weighted_roll.specs.inner.Walks.{Walk, Stands}
use Rattle.weighted_roll.proofs.Walking.{walk_number, walk_next}
use Rattle.weighted_roll.proofs.Tabled.{after_small, after_long, after_one}

module _ (b depth t k : ℕ) (ws room : List ℕ) (below : All (λ a. a < b) ws) (at : Stands b depth ws room t k) where
  stands_walk : Walk b (after_flips b t ws) k
  stands_walk = record { below = after_small b t ws below; within = at.within }

  pub stands_number : 0 < b → k + 1 ≤ length ws
  stands_number some = omega (arith, walk_number b k (after_flips b t ws) some stands_walk, after_long b t ws)

  pub stands_next : (x left : ℕ) (bit : Bool) (room' : List ℕ) → x ≡ from_bool bit → Rest left ≡ column b (after_flips b t ws) 0 (2 * k + x)
      → (depth < t + 1 → room' ≡ after_flips b (t + 1) ws) → length room' ≡ length room → Stands b depth ws room' (t + 1) left
  stands_next x left bit room' is_bit goes held same =
      let next = after_one b t ws (after_flips b t ws) _ refl refl in
      record {
        within = (walk_next b k x left (after_flips b t ws) (after_flips b (t + 1) ws) bit is_bit stands_walk goes (sym next)).within;
        long = same ∙ at.long;
        held = held;
      }
