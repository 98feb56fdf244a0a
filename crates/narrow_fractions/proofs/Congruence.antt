-- Laws of numbers with the same remainder.
use Rattle.std.proofs.lemmas.Nat.{div-add-mod'}
use Rattle.std.proofs.Common.{◌≡◌, ℕ, zero, suc, ◌+◌, ◌*◌, ◌/◌, ◌%◌, ◌<◌, sym, ap, arith}
use Rattle.narrow_fractions.specs.Remainders.{Same}

pub equal : (m a b : ℕ) → a ≡ b → Same m a b
equal m a b e = (0, 0, omega (arith, e))

pub turned : (m a b : ℕ) → Same m a b → Same m b a
turned m a b s = (s.1, s.0, sym s.2)

pub chained : (m a b c : ℕ) → Same m a b → Same m b c → Same m a c
chained m a b c s t = (s.0 + t.0, s.1 + t.1, join m a b c s.0 s.1 t.0 t.1 s.2 t.2)
  where
    join : (m a b c x y z w : ℕ) → a + m * x ≡ b + m * y → b + m * z ≡ c + m * w → a + m * (x + z) ≡ c + m * (y + w)
    join m a b c x y z w p q = omega arith

pub added : (m a b c d : ℕ) → Same m a b → Same m c d → Same m (a + c) (b + d)
added m a b c d s t = (s.0 + t.0, s.1 + t.1, join m a b c d s.0 s.1 t.0 t.1 s.2 t.2)
  where
    join : (m a b c d x y z w : ℕ) → a + m * x ≡ b + m * y → c + m * z ≡ d + m * w → (a + c) + m * (x + z) ≡ (b + d) + m * (y + w)
    join m a b c d x y z w p q = omega arith

pub times : (m k a b : ℕ) → Same m a b → Same m (k * a) (k * b)
times m k a b s = (k * s.0, k * s.1, join m k a b s.0 s.1 s.2)
  where
    join : (m k a b x y : ℕ) → a + m * x ≡ b + m * y → k * a + m * (k * x) ≡ k * b + m * (k * y)
    join m k a b x y p = let q = ap (λ n. k * n) p in omega arith

pub dropped : (m a b c : ℕ) → Same m (c + a) (c + b) → Same m a b
dropped m a b c s = (s.0, s.1, join m a b c s.0 s.1 s.2)
  where
    join : (m a b c x y : ℕ) → c + a + m * x ≡ c + b + m * y → a + m * x ≡ b + m * y
    join m a b c x y p = omega arith

-- small numbers with the same remainder are equal
pub small : (m a b : ℕ) → a < m → b < m → Same m a b → a ≡ b
small m a b p q s = by m a b s.0 s.1 p q s.2
  where
    by : (m a b x y : ℕ) → a < m → b < m → a + m * x ≡ b + m * y → a ≡ b
    by m a b zero zero p q e = omega arith
    by m a b zero (suc y) p q e = absurd (omega arith)
    by m a b (suc x) zero p q e = absurd (omega arith)
    by m a b (suc x) (suc y) p q e = by m a b x y p q (omega arith)

-- a factor with an inverse falls away
pub cancelled : (m c u a b : ℕ) → Same m (u * c) 1 → Same m (c * a) (c * b) → Same m a b
cancelled m c u a b inverse s =
    let left : Same m (u * (c * a)) a = one a in
    let right : Same m (u * (c * b)) b = one b in
    chained m _ _ _ (turned m _ _ left) (chained m _ _ _ (times m u _ _ s) right)
  where
    one : (n : ℕ) → Same m (u * (c * n)) n
    one n = (n * inverse.0, n * inverse.1, join m c u n inverse.0 inverse.1 inverse.2)
      where
        join : (m c u n x y : ℕ) → u * c + m * x ≡ 1 + m * y → u * (c * n) + m * (n * x) ≡ n + m * (n * y)
        join m c u n x y p = let q = ap (λ k. n * k) p in omega arith

-- remainders at two moduli, one of which has an inverse at the other, are one at their product
pub joined : (m k u a b : ℕ) → Same k (u * m) 1 → Same m a b → Same k a b → Same (m * k) a b
joined m k u a b i s t = (u * t.0 + i.0 * s.0 + i.1 * s.1, u * t.1 + i.0 * s.1 + i.1 * s.0, join m k u a b i.0 i.1 s.0 s.1 t.0 t.1 i.2 s.2 t.2)
  where
    join : (m k u a b x y p q r s : ℕ) → u * m + k * x ≡ 1 + k * y → a + m * p ≡ b + m * q → a + k * r ≡ b + k * s
        → a + m * k * (u * r + x * p + y * q) ≡ b + m * k * (u * s + x * q + y * p)
    join m k u a b x y p q r s e f g =
        let ea = ap (λ n. n * a) e in
        let eb = ap (λ n. n * b) e in
        let fx = ap (λ n. k * x * n) f in
        let fy = ap (λ n. k * y * n) f in
        let gu = ap (λ n. u * m * n) g in
        omega arith

pub product : (m a b c d : ℕ) → Same m a b → Same m c d → Same m (a * c) (b * d)
product m a b c d s t =
    let left : Same m (a * c) (b * c) = chained m _ _ _ (equal m _ _ (omega arith)) (chained m _ _ _ (times m c a b s) (equal m _ _ (omega arith))) in
    chained m _ _ _ left (times m b c d t)

-- a number and its remainder
pub remainder : (m a : ℕ) → Same m (a % m) a
remainder m a = (a / m, 0, let e = div-add-mod' a m in omega (arith, e))
