-- Orders of numbers that sums, products and common factors keep: at most, at least, and being nothing where the other is.
use Rattle.std.proofs.Common.{◌≡◌, ℕ, zero, suc, ◌+◌, ◌*◌, ◌≤◌, ◌<◌, arith, le_refl}
use Rattle.std.proofs.Math.Nat.{le_of_mul-le-mul_right, mul-le-mul_left}

pub record IsOrder (R : ℕ → ℕ → Type 0) : Type 0 where
  pub itself : (a : ℕ) → R a a
  pub further : (a b c : ℕ) → R a b → R b c → R a c
  pub sums : (a b c d : ℕ) → R a b → R c d → R (a + c) (b + d)
  pub products : (k a b : ℕ) → R a b → R (k * a) (k * b)
  pub cancels : (k a b : ℕ) → 0 < k → R (k * a) (k * b) → R a b

-- between numbers that are the same
pub along : (R : ℕ → ℕ → Type 0) (a b c d : ℕ) → c ≡ a → d ≡ b → R a b → R c d
along R a b c d p q h = rw (p, q) h

pub from_left : (k a b : ℕ) → 0 < k → k * a ≤ k * b → a ≤ b
from_left k a b p h = le_of_mul-le-mul_right {k = k} (omega arith) p

abbrev pub NoMore : ℕ → ℕ → Type 0
NoMore a b = a ≤ b

abbrev pub NoLess : ℕ → ℕ → Type 0
NoLess a b = b ≤ a

abbrev pub NothingWhere : ℕ → ℕ → Type 0
NothingWhere a b = b ≡ 0 → a ≡ 0

pub no_more : IsOrder NoMore
no_more = record {
  itself = le_refl;
  further = λ a b c h k. omega (arith, h, k);
  sums = λ a b c d h k. omega (arith, h, k);
  products = λ k a b h. mul-le-mul_left k h;
  cancels = from_left;
}

pub no_less : IsOrder NoLess
no_less = record {
  itself = le_refl;
  further = λ a b c h k. omega (arith, h, k);
  sums = λ a b c d h k. omega (arith, h, k);
  products = λ k a b h. mul-le-mul_left k h;
  cancels = λ k a b p h. from_left k b a p h;
}

nothing_times : (k a b : ℕ) → NothingWhere a b → k * b ≡ 0 → k * a ≡ 0
nothing_times zero a b h e = omega arith
nothing_times (suc k) a b h e = let x = h (omega arith) in rw x (omega arith)

nothing_over : (k a b : ℕ) → 0 < k → NothingWhere (k * a) (k * b) → NothingWhere a b
nothing_over zero a b p h e = absurd (omega arith)
nothing_over (suc k) a b p h e = let x = h (rw e (omega arith)) in omega arith

pub nothing_where : IsOrder NothingWhere
nothing_where = record {
  itself = λ a e. e;
  further = λ a b c h k e. h (k e);
  sums = λ a b c d h k e. let x = h (omega arith) in let y = k (omega arith) in omega arith;
  products = nothing_times;
  cancels = nothing_over;
}
