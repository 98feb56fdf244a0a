-- Steps of an elimination modulo p over plain numbers, with w in the place of 2 ^ 64, and i of -1 over p modulo w.
use Rattle.std.proofs.Common.{◌≡◌, ℕ, ◌+◌, ◌*◌, ◌%◌, refl, arith}
use Rattle.narrow_fractions.specs.Remainders.{Same}
use Rattle.narrow_fractions.proofs.Congruence.{equal, turned, chained, added, times, dropped, product}
use Rattle.visit_finder.proofs.Forms.{without_word}

-- x is what leads to a state with visits v, back of it from itself; d is the form of 1 less that, and l of 1 over it
pub pivot_told : (w p d back l v x : ℕ) → Same p (d + back) w → Same p (l * d) (w * w) → Same p (w * v) (back * v + x) → Same p (w * (w * v)) (l * x)
pivot_told w p d back l v x whole inverse holds =
    let all : Same p ((d + back) * v) (back * v + x) = chained p _ _ _ (product p _ _ v v whole (equal p v v refl)) holds in
    let left : Same p (d * v) x = dropped p (d * v) x (back * v) (chained p _ _ _ (equal p _ _ (omega arith)) all) in
    chained p _ _ _ (equal p _ (w * w * v) (omega arith))
    (chained p _ _ _ (product p _ _ v v (turned p _ _ inverse) (equal p v v refl))
    (chained p _ _ _ (equal p _ (l * (d * v)) (omega arith)) (times p l _ _ left)))

-- A column has e for each of so many wholes, the part b of the state k, and r of others; k has ek and rk over l. With f for b over l the
-- column has g more for each whole, and r' of others.
pub column_told : (w p i once v vk e b r l ek rk f g e' r' : ℕ) → (p * i + 1) % w ≡ 0
    → Same p (w * v) (e * once + (b * vk + r)) → Same p (w * (w * vk)) (l * (ek * once + rk))
    → Same p (w * f) (b * l) → Same p (w * g) (f * ek) → Same p e' (e + g) → Same p (w * r') (w * r + f * rk)
    → Same p (w * v) (e' * once + r')
column_told w p i once v vk e b r l ek rk f g e' r' inverse holds pivot factor more sum row =
    without_word w p i _ _ inverse (without_word w p i _ _ inverse
    (chained p _ _ _ (times p w _ _ (times p w _ _ holds))
    (chained p _ _ _ (equal p _ (w * w * (e * once + r) + b * (w * (w * vk))) (omega arith))
    (chained p _ _ _ (added p _ _ _ _ (equal p _ _ refl) (times p b _ _ pivot))
    (chained p _ _ _ (equal p _ (w * w * (e * once + r) + b * l * (ek * once + rk)) (omega arith))
    (chained p _ _ _ (added p _ _ _ _ (equal p _ _ refl) (product p _ _ (ek * once + rk) (ek * once + rk) (turned p _ _ factor) (equal p _ _ refl)))
    (chained p _ _ _ (equal p _ (w * (w * (e * once) + (w * r + f * rk) + f * ek * once)) (omega arith))
    (times p w _ _ whole))))))))
  where
    whole : Same p (w * (e * once) + (w * r + f * rk) + f * ek * once) (w * (e' * once + r'))
    whole =
        let left : Same p (w * (e * once) + f * ek * once) (w * (e' * once)) =
        chained p _ _ _ (added p _ _ _ _ (equal p _ (w * (e * once)) refl) (product p _ _ once once (turned p _ _ more) (equal p once once refl)))
        (chained p _ _ _ (equal p _ (w * ((e + g) * once)) (omega arith)) (times p w _ _ (product p _ _ once once (turned p _ _ sum) (equal p once once refl)))) in
        chained p _ _ _ (equal p _ (w * (e * once) + f * ek * once + (w * r + f * rk)) (omega arith))
        (chained p _ _ _ (added p _ _ _ _ left (turned p _ _ row)) (equal p _ _ (omega arith)))

-- x is the product of a part and of what is found of a state that has so many wholes of it
pub found_told : (w p i once v part r x : ℕ) → (p * i + 1) % w ≡ 0 → Same p (w * v) (once * r) → Same p (w * x) (part * r) → Same p (once * x) (part * v)
found_told w p i once v part r x inverse found over =
    without_word w p i _ _ inverse
    (chained p _ _ _ (equal p _ (once * (w * x)) (omega arith))
    (chained p _ _ _ (times p once _ _ over)
    (chained p _ _ _ (equal p _ (part * (once * r)) (omega arith))
    (chained p _ _ _ (times p part _ _ (turned p _ _ found)) (equal p _ _ (omega arith))))))

-- r is what is found of a pivot, from what its column has by what is found
pub visit_told : (w p i once vk l x s r : ℕ) → (p * i + 1) % w ≡ 0 → Same p (w * (w * vk)) (l * x) → Same p (once * s) x → Same p (w * r) (s * l) → Same p (w * vk) (once * r)
visit_told w p i once vk l x s r inverse pivot sum over =
    without_word w p i _ _ inverse
    (chained p _ _ _ pivot
    (chained p _ _ _ (times p l _ _ (turned p _ _ sum))
    (chained p _ _ _ (equal p _ (once * (s * l)) (omega arith))
    (chained p _ _ _ (times p once _ _ (turned p _ _ over)) (equal p _ _ (omega arith))))))
