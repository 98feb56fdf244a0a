-- Facts of the greatest common divisor: that it is one, common factors, products, and lowest terms.
use Rattle.std.proofs.Common.{◌≡◌, ℕ, zero, suc, Bool, true, false, ◌+◌, ◌*◌, ◌/◌, ◌%◌, ◌≤◌, ◌<◌, refl, sym, ap, ◌∙◌, subst, arith}
use Prim.Native.Nat.{◌∣◌}
use native.Mathlib.Nat.{dvd_refl, dvd-zero, dvd_trans, le_of_dvd, dvd-mul_left, one-dvd, mul-div_cancel', mul-div_right, pos_of_dvd_of_pos}
use Rattle.std.proofs.lemmas.Nat.{mod_below, mod-mul-add, div-add-mod'}
use Rattle.std.proofs.Math.Nat.{mul-le-mul_left}
use Rattle.std.proofs.lemmas.Nat.Gcd.{IsGcd-from_zero, IsGcd-swap, IsGcd-from_mod, same_from_IsGcd, dvd_of_mod-eq-zero, mod-eq-zero_of_dvd}
use Rattle.std.proofs.Math.Nat.{mul-div_assoc}
use Rattle.std.specs.Int.{IsGcd}
use Rattle.std.specs.Prelude.{◌&&◌, if◌then◌else◌, [], ◌∷◌}
use Rattle.std.specs.List.{sum}
use Rattle.std.proofs.lemmas.Bool.{false≢true, eqb-true, eq-eqb}
use Rattle.std.proofs.Math.Arith.{le_of_le-suc-ne}
use Rattle.gcl_core.specs.meaning.Divisor.{divides, greatest_divisor}
use Rattle.gcl_core.proofs.LowestParts.{sum_cons}
use Rattle.numbers.specs.Divisor.{gcd, lcm}
use Rattle.numbers.specs.Fraction.{lowest, Fraction, IsEqual}
use Rattle.numbers.specs.Arithmetic.{InLowest}

-- the greatest common divisor by remainders, with at most k of them
unfoldable euclid : ℕ → ℕ → ℕ → ℕ
euclid zero a b = a
euclid (suc k) a zero = a
euclid (suc k) a (suc b) = euclid k (suc b) (a % suc b)

euclid_is : (k a b : ℕ) → b ≤ k → IsGcd a b (euclid k a b)
unfolding euclid
euclid_is zero a b h = IsGcd-from_zero a b (omega arith)
euclid_is (suc k) a zero h = IsGcd-from_zero a zero refl
euclid_is (suc k) a (suc b) h =
    let small = mod_below a (suc b) (omega arith) in
    IsGcd-from_mod a (suc b) (euclid k (suc b) (a % suc b)) (euclid_is k (suc b) (a % suc b) (omega arith))

-- the search from k down finds the divisor that each common divisor divides
search_finds : (k a b g : ℕ) → IsGcd a b g → 0 < g → g ≤ k → greatest_divisor (a ∷ b ∷ []) k ≡ g
unfolding greatest_divisor
search_finds zero a b g h pos le = omega arith
search_finds (suc k) a b g h pos le = by_tests (divides (suc k) a) (divides (suc k) b) refl refl (search_finds k a b g h pos)
  where
    divided : (n : ℕ) → divides (suc k) n ≡ true → suc k ∣ n
    divided n e = dvd_of_mod-eq-zero (suc k) (eqb-true (n % suc k) 0 e)

    -- a divisor of a number that k + 1 does not divide is not k + 1
    lower : (n : ℕ) → g ∣ n → divides (suc k) n ≡ false → g ≤ k
    lower n d e = le_of_le-suc-ne le (λ same. false≢true (sym e ∙ eq-eqb (n % suc k) 0 (mod-eq-zero_of_dvd (suc k) (subst (λ m. m ∣ n) same d))))

    by_tests : (s t : Bool) → divides (suc k) a ≡ s → divides (suc k) b ≡ t → (g ≤ k → greatest_divisor (a ∷ b ∷ []) k ≡ g) → (if s && (t && true) then suc k else greatest_divisor (a ∷ b ∷ []) k) ≡ g
    by_tests true true e f more = let l = le_of_dvd pos (h.2 (suc k) (divided a e) (divided b f)) in omega arith
    by_tests true false e f more = more (lower b h.1 f)
    by_tests false t e f more = more (lower a h.0 e)

euclid_gcd : (a b : ℕ) → IsGcd a b (euclid b a b)
euclid_gcd a b = euclid_is b a b (omega arith)

found : (a b : ℕ) → 0 < euclid b a b → euclid b a b ≤ a + b → IsGcd a b (gcd a b)
found a b pos le =
    let first = sum_cons a (b ∷ []) in
    let second = sum_cons b [] in
    subst (IsGcd a b) (sym (search_finds (sum (a ∷ b ∷ [])) a b (euclid b a b) (euclid_gcd a b) pos (omega (arith, first, second, le)))) (euclid_gcd a b)

pub gcd_is : (a b : ℕ) → IsGcd a b (gcd a b)
unfolding greatest_divisor
gcd_is zero zero = IsGcd-from_zero zero zero refl
gcd_is (suc a) b =
    let d = (euclid_gcd (suc a) b).0 in
    let l = le_of_dvd (omega arith) d in
    found (suc a) b (pos_of_dvd_of_pos d (omega arith)) (omega arith)
gcd_is zero (suc b) =
    let d = (euclid_gcd zero (suc b)).1 in
    let l = le_of_dvd (omega arith) d in
    found zero (suc b) (pos_of_dvd_of_pos d (omega arith)) (omega arith)

pub gcd_unique : (a b g : ℕ) → IsGcd a b g → g ≡ gcd a b
gcd_unique a b g h = same_from_IsGcd a b g (gcd a b) h (gcd_is a b)

-- ---- a common factor
pub cancel : (c x y : ℕ) → 0 < c → c * x ≡ c * y → x ≡ y
cancel c x y pos e = sym (mul-div_right x pos) ∙ ap (λ z. z / c) e ∙ mul-div_right y pos

pub factor_pos : (c x n : ℕ) → 0 < n → c * x ≡ n → 0 < x
factor_pos c zero n h e = absurd (omega arith)
factor_pos c (suc x) n h e = omega arith

-- what is left of two numbers, crosswise
pub crosswise : (g a b j k : ℕ) → g * j ≡ a → g * k ≡ b → j * b ≡ a * k
crosswise g a b j k x y = rw (← x, ← y) (omega arith)

mul_mod_mul : (a b c : ℕ) → 0 < b → 0 < c → (c * a) % (c * b) ≡ c * (a % b)
mul_mod_mul a b c hb hc =
    let e : c * a ≡ (a / b) * (c * b) + c * (a % b) = ap (λ x. c * x) (sym (div-add-mod' a b)) ∙ omega arith in
    ap (λ x. x % (c * b)) e ∙ mod-mul-add (a / b) (c * b) (c * (a % b)) (below c (a % b) b hc (mod_below a b hb))
  where
    below : (c x y : ℕ) → 0 < c → x < y → c * x < c * y
    below c x y h k = let m = mul-le-mul_left c (let l : x + 1 ≤ y = omega arith in l) in omega arith

euclid_scaled : (k a b c : ℕ) → b ≤ k → 0 < c → IsGcd (c * a) (c * b) (c * euclid k a b)
unfolding euclid
euclid_scaled zero a b c h pos = IsGcd-from_zero _ _ (let e : b ≡ 0 = omega arith in rw e (omega arith))
euclid_scaled (suc k) a zero c h pos = IsGcd-from_zero _ _ (omega arith)
euclid_scaled (suc k) a (suc b) c h pos =
    let small = mod_below a (suc b) (omega arith) in
    IsGcd-from_mod (c * a) (c * suc b) _ (rw (mul_mod_mul a (suc b) c (omega arith) pos) (euclid_scaled k (suc b) (a % suc b) c (omega arith) pos))

pub scaled_gcd : (a b c : ℕ) → 0 < c → IsGcd (c * a) (c * b) (c * gcd a b)
scaled_gcd a b c pos = subst (λ g. IsGcd (c * a) (c * b) (c * g)) (gcd_unique a b (euclid b a b) (euclid_gcd a b)) (euclid_scaled b a b c (omega arith) pos)

pub along_to : (d m n : ℕ) → m ≡ n → d ∣ m → d ∣ n
along_to d m n e h = subst (λ x. d ∣ x) e h

-- what divides a product and has nothing in common with one factor divides the other
pub gauss : (d a b : ℕ) → 0 < b → IsGcd d a 1 → d ∣ a * b → d ∣ b
gauss d a b pos h p =
    let one : gcd d a ≡ 1 = same_from_IsGcd d a (gcd d a) 1 (gcd_is d a) h in
    let s : IsGcd (b * d) (b * a) (b * gcd d a) = scaled_gcd d a b pos in
    let q : d ∣ b * a = along_to d (a * b) (b * a) (omega arith) p in
    let t : d ∣ b * gcd d a = s.2 d (dvd-mul_left d b) q in
    along_to d (b * gcd d a) b (ap (λ x. b * x) one ∙ omega arith) t

-- ---- nothing in common
pub coprime_parts : (a b m n : ℕ) → m ∣ a → n ∣ b → IsGcd a b 1 → IsGcd m n 1
coprime_parts a b m n p q h = (one-dvd m, one-dvd n, λ d x y. h.2 d (dvd_trans d x p) (dvd_trans d y q))

pub coprime_product : (a b c : ℕ) → IsGcd a c 1 → IsGcd b c 1 → IsGcd (a * b) c 1
coprime_product a zero c h k = (one-dvd (a * zero), one-dvd c, λ d x y. k.2 d (dvd-zero d) y)
coprime_product a (suc b) c h k =
    (one-dvd (a * suc b), one-dvd c, λ d x y. k.2 d (gauss d a (suc b) (omega arith) (coprime_parts c a d a y (dvd_refl a) (IsGcd-swap a c 1 h)) x) y)

pub coprime_products : (a b c d : ℕ) → IsGcd a c 1 → IsGcd a d 1 → IsGcd b c 1 → IsGcd b d 1 → IsGcd (a * b) (c * d) 1
coprime_products a b c d ac ad bc bd =
    coprime_product a b (c * d)
    (IsGcd-swap (c * d) a 1 (coprime_product c d a (IsGcd-swap a c 1 ac) (IsGcd-swap a d 1 ad)))
    (IsGcd-swap (c * d) b 1 (coprime_product c d b (IsGcd-swap b c 1 bc) (IsGcd-swap b d 1 bd)))

-- a product that is above 0
pub product_pos : (a b : ℕ) → 0 < a → 0 < b → 0 < a * b
product_pos zero b h k = absurd (omega arith)
product_pos (suc a) b h k = omega arith

factor_one : (g x : ℕ) → 0 < g → g * x ≡ g → x ≡ 1
factor_one g zero h e = absurd (omega arith)
factor_one g (suc zero) h e = omega arith
factor_one g (suc (suc x)) h e = absurd (omega arith)

pub gcd_pos : (a b : ℕ) → 0 < b → 0 < gcd a b
gcd_pos a b h = pos_of_dvd_of_pos (gcd_is a b).1 h

-- what is left of two numbers once their greatest common divisor is taken out
pub coprime_rests : (a b : ℕ) → 0 < b → IsGcd (a / gcd a b) (b / gcd a b) 1
coprime_rests a b h =
    let g = gcd a b in
    let pos : 0 < g = gcd_pos a b h in
    let x : g * (a / g) ≡ a = mul-div_cancel' g (gcd_is a b).0 in
    let y : g * (b / g) ≡ b = mul-div_cancel' g (gcd_is a b).1 in
    let s : IsGcd (g * (a / g)) (g * (b / g)) (g * gcd (a / g) (b / g)) = scaled_gcd (a / g) (b / g) g pos in
    let s' : IsGcd a b (g * gcd (a / g) (b / g)) = subst (λ n. IsGcd a n (g * gcd (a / g) (b / g))) y (subst (λ n. IsGcd n (g * (b / g)) (g * gcd (a / g) (b / g))) x s) in
    let one : gcd (a / g) (b / g) ≡ 1 = factor_one g _ pos (same_from_IsGcd a b _ g s' (gcd_is a b)) in
    subst (λ n. IsGcd (a / g) (b / g) n) one (gcd_is (a / g) (b / g))

-- the least common multiple is one number times what is left of the other
pub lcm_is : (a b : ℕ) → lcm a b ≡ a * (b / gcd a b)
lcm_is a b = mul-div_assoc (gcd a b) a (gcd_is a b).1

rest_pos : (a b : ℕ) → 0 < b → 0 < b / gcd a b
rest_pos a b h = factor_pos (gcd a b) (b / gcd a b) b h (mul-div_cancel' (gcd a b) (gcd_is a b).1)

pub lowest_in_lowest : (a b : ℕ) → 1 ≤ b → InLowest (lowest (a, b))
lowest_in_lowest a b h = record { positive = let p = rest_pos a b (omega arith) in omega arith; coprime = coprime_rests a b (omega arith) }

-- lowest terms, once a common factor is seen
pub lowest_from : (c n d : ℕ) → 0 < c → 0 < d → IsGcd n d 1 → lowest (c * n, c * d) ≡ (n, d)
lowest_from c n d pos posd h =
    let one : gcd n d ≡ 1 = same_from_IsGcd n d (gcd n d) 1 (gcd_is n d) h in
    let e : gcd (c * n) (c * d) ≡ c = same_from_IsGcd (c * n) (c * d) _ _ (gcd_is (c * n) (c * d)) (scaled_gcd n d c pos) ∙ ap (λ x. c * x) one ∙ omega arith in
    ap (λ g. (c * n / g, c * d / g)) e ∙ ap (λ x. (x, c * d / c)) (mul-div_right n pos) ∙ ap (λ x. (n, x)) (mul-div_right d pos)

-- lowest terms have the same value
pub lowest_equal : (a b : ℕ) → a / gcd a b * b ≡ a * (b / gcd a b)
lowest_equal a b =
    let g = gcd a b in
    let x : g * (a / g) ≡ a = mul-div_cancel' g (gcd_is a b).0 in
    let y : g * (b / g) ≡ b = mul-div_cancel' g (gcd_is a b).1 in
    crosswise g a b (a / g) (b / g) x y

pub equal_trans : (p q t : Fraction) → 0 < q.1 → IsEqual p q → IsEqual q t → IsEqual p t
equal_trans p q t pos e f = cancel q.1 _ _ pos (joined p.0 p.1 q.0 q.1 t.0 t.1 e f)
  where
    joined : (p0 p1 q0 q1 t0 t1 : ℕ) → p0 * q1 ≡ q0 * p1 → q0 * t1 ≡ t0 * q1 → q1 * (p0 * t1) ≡ q1 * (t0 * p1)
    joined p0 p1 q0 q1 t0 t1 e f = let x = ap (λ z. z * t1) e in let y = ap (λ z. z * p1) f in omega arith
