-- A power that one more product does not change stays as it is.
use Rattle.std.proofs.Common.{◌≡◌, ℕ, zero, suc, ◌+◌, ◌-◌, ◌≤◌, ap, sym, ◌∙◌, arith}
use Rattle.numbers.specs.Units.{shared, shared_up, power_down, power_up}

pub down_settles : (q i k : ℕ) → shared q (power_down q i) ≡ power_down q i → power_down q (i + k) ≡ power_down q i
down_settles q i zero e = ap (power_down q) (let z : i + zero ≡ i = omega arith in z)
down_settles q i (suc k) e =
    let next : i + suc k ≡ suc (i + k) = omega arith in
    ap (power_down q) next ∙ ap (shared q) (down_settles q i k e) ∙ e

pub up_settles : (q i k : ℕ) → shared_up q (power_up q i) ≡ power_up q i → power_up q (i + k) ≡ power_up q i
up_settles q i zero e = ap (power_up q) (let z : i + zero ≡ i = omega arith in z)
up_settles q i (suc k) e =
    let next : i + suc k ≡ suc (i + k) = omega arith in
    ap (power_up q) next ∙ ap (shared_up q) (up_settles q i k e) ∙ e

pub down_stays : (q i n x : ℕ) → i ≤ n → x ≡ power_down q i → shared q x ≡ x → x ≡ power_down q n
down_stays q i n x h e s =
    let k : i + (n - i) ≡ n = omega (arith, h) in
    e ∙ sym (down_settles q i (n - i) (rw (← e) s)) ∙ ap (power_down q) k

pub up_stays : (q i n x : ℕ) → i ≤ n → x ≡ power_up q i → shared_up q x ≡ x → x ≡ power_up q n
up_stays q i n x h e s =
    let k : i + (n - i) ≡ n = omega (arith, h) in
    e ∙ sym (up_settles q i (n - i) (rw (← e) s)) ∙ ap (power_up q) k
