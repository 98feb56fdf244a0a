-- What sums, products and differences of forms are at a place, whatever numbers the forms are of.
use Rattle.std.proofs.Common.{◌≡◌, ℕ, zero, suc, ◌+◌, ◌*◌, ◌%◌, ◌^◌, ◌<◌, List, [], ◌∷◌, map, slice_index, refl, sym, ap, subst, ◌∙◌, arith}
use Rattle.narrow_fractions.specs.Remainders.{Same}
use Rattle.narrow_fractions.proofs.Congruence.{equal, turned, chained, added, times, product}
use Rattle.visit_finder.specs.declared.primes.Prime.{Prime}
use Rattle.visit_finder.specs.declared.residues.Moduli.{Moduli}
use Rattle.visit_finder.specs.declared.residues.Residues.{Residues}
use Rattle.visit_finder.specs.Forms.{IsInverse}
use Rattle.visit_finder.specs.Places.{modulus, form_at, AreAt, AreForms, Loses}
use Rattle.visit_finder.proofs.Forms.{some_number, without_word}

-- what is above a form is one of the primes
pub prime_at : (moduli : Moduli) (place form : ℕ) → form < modulus moduli place → (prime : Prime) × (modulus moduli place ≡ prime.p)
prime_at moduli place form below = by moduli.primes place below
  where
    by : (primes : List Prime) (place : ℕ) → form < slice_index (map (λ prime. prime.p) primes) place → (prime : Prime) × (slice_index (map (λ prime. prime.p) primes) place ≡ prime.p)
    by [] place below = absurd (omega (arith, below))
    by (prime ∷ primes) zero below = (prime, refl)
    by (prime ∷ primes) (suc place) below = by primes place below

-- -1 over the modulus, modulo 2 ^ 64
pub inverse_at : (moduli : Moduli) (place form : ℕ) → form < modulus moduli place → (i : ℕ) × ((modulus moduli place * i + 1) % 2 ^ 64 ≡ 0)
inverse_at moduli place form below =
    let prime = prime_at moduli place form below in
    (prime.0.inverse, subst (λ p. (p * prime.0.inverse + 1) % 2 ^ 64 ≡ 0) (sym prime.1) prime.0.inverted)

-- each form below the modulus is one of a number
pub number_at : (moduli : Moduli) (place : ℕ) (one : Residues) → form_at place one < modulus moduli place → (v : ℕ) × AreAt moduli place one v
number_at moduli place one below =
    let i = inverse_at moduli place (form_at place one) below in
    let v = some_number (2 ^ 64) (modulus moduli place) i.0 (form_at place one) i.1 in
    (v.0, (below, v.1))

-- 2 ^ 64 falls away
pub without_word_at : (moduli : Moduli) (place form a b : ℕ) → form < modulus moduli place → Same (modulus moduli place) (2 ^ 64 * a) (2 ^ 64 * b) → Same (modulus moduli place) a b
without_word_at moduli place form a b below s = let i = inverse_at moduli place form below in without_word (2 ^ 64) (modulus moduli place) i.0 a b i.1 s

sum_over : (w p f g v u r : ℕ) → Same p f (w * v) → Same p g (w * u) → Same p r (w * (v + u)) → Same p r (f + g)
sum_over w p f g v u r a b s = chained p _ _ _ s (chained p _ _ _ (equal p _ (w * v + w * u) (omega arith)) (added p _ _ _ _ (turned p _ _ a) (turned p _ _ b)))

product_over : (w p f g v u r : ℕ) → Same p f (w * v) → Same p g (w * u) → Same p r (w * (v * u)) → Same p (w * r) (f * g)
product_over w p f g v u r a b s =
    chained p _ _ _ (times p w _ _ s) (chained p _ _ _ (equal p _ (w * v * (w * u)) (omega arith)) (product p _ _ _ _ (turned p _ _ a) (turned p _ _ b)))

difference_over : (w p f g v u d r : ℕ) → Same p f (w * v) → Same p g (w * u) → Same p (d + u) v → Same p r (w * d) → Same p (r + g) f
difference_over w p f g v u d r a b apart s =
    chained p _ _ _ (added p _ _ _ _ s b) (chained p _ _ _ (equal p _ (w * (d + u)) (omega arith)) (chained p _ _ _ (times p w _ _ apart) (turned p _ _ a)))

-- what is left of one number when the other is taken away
apart_by : (p v u : ℕ) → 0 < p → (d : ℕ) × Same p (d + u) v
apart_by zero v u some = absurd (omega (arith, some))
apart_by (suc q) v u some = (v + q * u, (0, u, join q v u))
  where
    join : (q v u : ℕ) → v + q * u + u + suc q * 0 ≡ v + suc q * u
    join q v u = omega arith

pub sum_at : (moduli : Moduli) (place : ℕ) (one other result : Residues) → ((v u : ℕ) → AreAt moduli place one v → AreAt moduli place other u → AreAt moduli place result (v + u)) →
    form_at place one < modulus moduli place → form_at place other < modulus moduli place →
    (form_at place result < modulus moduli place) × Same (modulus moduli place) (form_at place result) (form_at place one + form_at place other)
sum_at moduli place one other result clause below below' =
    let v = number_at moduli place one below in
    let u = number_at moduli place other below' in
    let is = clause v.0 u.0 v.1 u.1 in
    (is.0, sum_over (2 ^ 64) (modulus moduli place) (form_at place one) (form_at place other) v.0 u.0 (form_at place result) v.1.1 u.1.1 is.1)

pub product_at : (moduli : Moduli) (place : ℕ) (one other result : Residues) → ((v u : ℕ) → AreAt moduli place one v → AreAt moduli place other u → AreAt moduli place result (v * u)) →
    form_at place one < modulus moduli place → form_at place other < modulus moduli place →
    (form_at place result < modulus moduli place) × Same (modulus moduli place) (2 ^ 64 * form_at place result) (form_at place one * form_at place other)
product_at moduli place one other result clause below below' =
    let v = number_at moduli place one below in
    let u = number_at moduli place other below' in
    let is = clause v.0 u.0 v.1 u.1 in
    (is.0, product_over (2 ^ 64) (modulus moduli place) (form_at place one) (form_at place other) v.0 u.0 (form_at place result) v.1.1 u.1.1 is.1)

pub difference_at : (moduli : Moduli) (place : ℕ) (one other result : Residues) →
    ((v u d : ℕ) → AreAt moduli place one v → AreAt moduli place other u → Same (modulus moduli place) (d + u) v → AreAt moduli place result d) →
    form_at place one < modulus moduli place → form_at place other < modulus moduli place →
    (form_at place result < modulus moduli place) × Same (modulus moduli place) (form_at place result + form_at place other) (form_at place one)
difference_at moduli place one other result clause below below' =
    let p = modulus moduli place in
    let v = number_at moduli place one below in
    let u = number_at moduli place other below' in
    let d = apart_by p v.0 u.0 (omega (arith, below)) in
    let is = clause v.0 u.0 d.0 v.1 u.1 d.1 in
    (is.0, difference_over (2 ^ 64) p (form_at place one) (form_at place other) v.0 u.0 d.0 (form_at place result) v.1.1 u.1.1 d.1 is.1)

-- the moduli stay when some are lost
pub same_modulus : (old new : Moduli) (place : ℕ) → Loses old new → modulus new place ≡ modulus old place
same_modulus old new place loses = ap (λ primes. slice_index (map (λ prime. prime.p) primes) place) loses.0

over_inverse : (w p f g v u : ℕ) → Same p f (w * v) → Same p g (w * u) → Same p (u * v) 1 → Same p (g * f) (w * w)
over_inverse w p f g v u a b s =
    chained p _ _ _ (product p _ _ _ _ b a)
    (chained p _ _ _ (equal p _ (w * w * (u * v)) (omega arith)) (chained p _ _ _ (times p (w * w) _ _ s) (equal p _ _ (omega arith))))

pub over_inverse_at : (moduli : Moduli) (place : ℕ) (one other : Residues) → IsInverse (modulus moduli place) (form_at place one) (form_at place other) → form_at place one < modulus moduli place →
    Same (modulus moduli place) (form_at place other * form_at place one) (2 ^ 64 * 2 ^ 64)
over_inverse_at moduli place one other inverse below =
    let v = number_at moduli place one below in
    let u = inverse v.0 v.1 in
    over_inverse (2 ^ 64) (modulus moduli place) (form_at place one) (form_at place other) v.0 u.0 v.1.1 u.1.1 u.2

pub forms_after : (old new : Moduli) (residues : Residues) → Loses old new → AreForms old residues → AreForms new residues
forms_after old new residues loses forms place small = subst (λ p. form_at place residues < p) (sym (same_modulus old new place loses)) (forms place small)

pub forms_before : (old new : Moduli) (residues : Residues) → Loses old new → AreForms new residues → AreForms old residues
forms_before old new residues loses forms place small = subst (λ p. form_at place residues < p) (same_modulus old new place loses) (forms place small)

pub loses_none : (moduli : Moduli) → Loses moduli moduli
loses_none moduli = (refl, λ place kept. kept)

pub loses_after : (old new newer : Moduli) → Loses old new → Loses new newer → Loses old newer
loses_after old new newer first then = (then.0 ∙ first.0, λ place kept. first.1 place (then.1 place kept))
