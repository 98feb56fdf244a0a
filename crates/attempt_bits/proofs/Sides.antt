-- The strings that do not decide in a uniform draw.
use Rattle.std.proofs.Common.{◌≡◌, ℕ, zero, suc, ◌+◌, ◌*◌, ◌^◌, ◌≤◌, ◌<◌, ◌-◌, true, false, refl, ap, ⊎_elim, arith}
use Rattle.std.specs.Prelude.{nat_lt}
use Rattle.std.proofs.lemmas.Bool.{cases_lt, lt-ltb, le-ltb}
use Rattle.std.proofs.lemmas.Nat.{pow_pos}
use Rattle.gcl_core.specs.meaning.Draw.{have_one_class, uniform_ends}
use Rattle.gcl_core.proofs.EqualClasses.{equal_again, equal_more}
use Rattle.gcl_core.proofs.Sums.{two_more}
use Rattle.attempt_bits.specs.inner.Undecided.{undecided_at, undecided_below}

module _ (m : ℕ) where
  -- stretches whose numbers are all rejected
  none_below : (n first : ℕ) → m ≤ first → undecided_at (uniform_ends m) n first ≡ 0
  none_below zero first le = refl
  none_below (suc n) first le =
      let t = (equal_again m first (2 ^ suc n) (pow_pos (suc n)) le).0 in
      rw (t, none_below n first le, none_below n (first + 2 ^ n) (omega arith)) (omega arith)

  -- whose numbers have each a class of its own
  apart : (n first : ℕ) → first < m → have_one_class (uniform_ends m) first (2 ^ suc n) ≡ false
  apart n first lt = equal_more m first (2 ^ suc n) (let p = pow_pos n in let q = two_more n in omega arith) lt

  all_below : (n first : ℕ) → first + 2 ^ n ≤ m → undecided_at (uniform_ends m) n first ≡ n * 2 ^ n
  all_below zero first le = refl
  all_below (suc n) first le =
      let q = two_more n in
      let p = pow_pos n in
      rw (apart n first (omega arith), all_below n first (omega arith), all_below n (first + 2 ^ n) (omega arith)) (both (2 ^ suc n) (2 ^ n) n q)
    where
      both : (P H n : ℕ) → P ≡ H + H → P + (n * H + n * H) ≡ suc n * P
      both P H n e = let z = ap (λ x. n * x) e in omega arith

  pub some_below : (n first : ℕ) → first < m → m ≤ first + 2 ^ n → undecided_at (uniform_ends m) n first ≡ undecided_below n (m - first)
  some_below zero first lt le = refl
  some_below (suc n) first lt le =
      ⊎_elim
      (λ (more : first + 2 ^ n < m).
      let t : nat_lt (2 ^ n) (m - first) ≡ true = lt-ltb _ _ (omega arith) in
      let e : m - first - 2 ^ n ≡ m - (first + 2 ^ n) = omega arith in
      rw (apart n first lt, t, e, all_below n first (omega arith), some_below n (first + 2 ^ n) more (let q = two_more n in omega arith)) refl)
      (λ (less : m ≤ first + 2 ^ n).
      let t : nat_lt (2 ^ n) (m - first) ≡ false = le-ltb _ _ (omega arith) in
      rw (apart n first lt, t, some_below n first lt less, none_below n (first + 2 ^ n) less) (omega arith))
      (cases_lt (first + 2 ^ n) m)
