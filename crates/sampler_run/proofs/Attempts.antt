-- The steps of an attempt below a bound, and the bits that it reads.
use Rattle.std.proofs.Common.{◌≡◌, ℕ, zero, suc, ◌+◌, ◌*◌, ◌^◌, ◌/◌, ◌%◌, ◌<◌, ◌==◌, pos, Bool, true, false, List, ◌∷◌, ◌++◌, Some, refl, sym, ap, ◌∙◌, arith, lt-ltb, pow-add}
use Rattle.std.specs.Prelude.{slice_get, if◌then◌else◌}
use Rattle.std.proofs.lemmas.Nat.{pow_pos}
use Rattle.std.proofs.Math.Arith.{mod-mul}
use Rattle.std.proofs.Math.Nat.{div-div-eq-div-mul}
use Rattle.gcl_core.specs.declared.answers.Limits.{Limits}
use Rattle.gcl_core.specs.meaning.Syntax.{Expression}
use Rattle.gcl_core.specs.meaning.Draw.{bit}
use Rattle.gcl_core.specs.meaning.Runs.{capped}
use Rattle.zar_io.specs.FileBits.{low_bits}
use Rattle.sampler_code.specs.Instruction.{Instruction, Range}
use Rattle.sampler_code.specs.Machine.{Machine, below, goes, asks, act, step, stored, narrowed, retry, draws_on, ranges}
use Rattle.sampler_run.specs.inner.Resting.{side}

-- ---- numbers and their bits

pub pow_sum : (j k : ℕ) → 2 ^ k * 2 ^ j ≡ 2 ^ (j + k)
pow_sum j k = sym (pow-add 2 k j) ∙ ap (λ i. 2 ^ i) (let e : k + j ≡ j + k = omega arith in e)

-- the first bits of some, and the others
pub low_bits_split : (j k n : ℕ) → low_bits (j + k) n ≡ low_bits j (n / 2 ^ k) ++ low_bits k n
unfolding low_bits
low_bits_split zero k n = let e : zero + k ≡ k = omega arith in ap (λ i. low_bits i n) e
low_bits_split (suc j) k n =
    let i : suc j + k ≡ suc (j + k) = omega arith in
    let e : n / 2 ^ k / 2 ^ j ≡ n / 2 ^ (j + k) = div-div-eq-div-mul n (2 ^ k) (2 ^ j) ∙ ap (λ p. n / p) (pow_sum j k) in
    ap (λ i. low_bits i n) i
    ∙ ap (λ v. (v % 2 == 1) ∷ low_bits (j + k) n) (sym e)
    ∙ ap (λ bits. (n / 2 ^ k / 2 ^ j % 2 == 1) ∷ bits) (low_bits_split j k n)

bit_of : (n : ℕ) → n < 2 → bit (n == 1) ≡ n
bit_of zero lt = refl
bit_of (suc zero) lt = refl
bit_of (suc (suc n)) lt = absurd (omega arith)

-- the number that is spelled by one bit more
pub spelled_more : (low k n : ℕ) → (2 * low + bit (n / 2 ^ k % 2 == 1)) * 2 ^ k + n % 2 ^ k ≡ low * 2 ^ suc k + n % 2 ^ suc k
spelled_more low k n =
    let p = 2 ^ k in
    let d = n / p % 2 in
    let b : bit (d == 1) ≡ d = bit_of d (omega arith) in
    let two : 2 ^ suc k ≡ 2 * p = omega arith in
    let m : n % (2 * p) ≡ d * p + n % p = mod-mul n {m = 2} {c = p} (omega arith) (pow_pos k) in
    let left : (2 * low + d) * p + n % p ≡ low * (2 * p) + (d * p + n % p) = omega arith in
    ap (λ b. (2 * low + b) * p + n % p) b ∙ left ∙ ap (λ m. low * (2 * p) + m) (sym m) ∙ sym (ap (λ q. low * q + n % q) two)

-- ---- the bits read

-- so many bits more
abbrev pub used_after : ℕ → ℕ → ℕ
used_after zero used = used
used_after (suc k) used = used_after k (capped (used + 1))

pub used_capped : (k used : ℕ) → used < 2 ^ 64 → used_after k used ≡ capped (used + k)
used_capped zero used lt = omega arith
used_capped (suc k) used lt = used_capped k (capped (used + 1)) (omega arith) ∙ (omega arith)

-- ---- the attempt

module _ (code : List Instruction) (l : Limits) (x : ℕ) (e : Expression) (b : ℕ) where
  pub step_draws : (m : Machine) (k low : ℕ) → slice_get code m.index ≡ Some (Range x e) → m.drawing ≡ below b k low → step code l m ≡ draws_on m x b k low
  step_draws m k low at is = ap (λ o. act l o m) at ∙ ap (λ d. ranges l x e m d) is

  pub stores : (m : Machine) (low : ℕ) → low < b → draws_on m x b zero low ≡ goes (stored m x (pos low))
  stores m low lt = ap (λ (c : Bool). if c then goes (stored m x (pos low)) else retry m b m.tries) (lt-ltb low b lt)

  pub asks_more : (m : Machine) (k low : ℕ) → low * 2 ^ suc k < b → draws_on m x b (suc k) low ≡ asks (narrowed m b k (2 * low)) (narrowed m b k (2 * low + 1))
  asks_more m k low lt =
      ap (λ (c : Bool). if c then asks (narrowed m b k (2 * low)) (narrowed m b k (2 * low + 1)) else retry m b m.tries) (lt-ltb (low * 2 ^ suc k) b lt)

  pub side_narrowed : (m : Machine) (k low : ℕ) (c : Bool) → side (asks (narrowed m b k (2 * low)) (narrowed m b k (2 * low + 1))) c m ≡ narrowed m b k (2 * low + bit c)
  side_narrowed m k low false = let e : 2 * low ≡ 2 * low + 0 = omega arith in ap (λ n. narrowed m b k n) e
  side_narrowed m k low true = refl
