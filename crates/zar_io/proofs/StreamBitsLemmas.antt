-- What is left of a stream, a bit at a time, and in parts of words.
use Rattle.std.proofs.Common.{◌≡◌, ℕ, zero, suc, ◌+◌, ◌*◌, ◌-◌, ◌/◌, ◌%◌, ◌^◌, ◌==◌, ◌<◌, ◌≤◌, ◌≢◌, ◌++◌, [], ◌∷◌, drop, refl, sym, ap, ◌∙◌, arith, pow-add}
use Rattle.std.proofs.Math.Nat.{div-div-eq-div-mul}
use Rattle.zar_io.specs.Bits.{BeginsWith}
use Rattle.zar_io.specs.FileBits.{low_bits}
use Rattle.zar_io.specs.StreamBits.{word_bit, word_bits}

pub none_left : (word : ℕ → ℕ) (n k : ℕ) → k ≡ 0 → word_bits word n k ≡ []
unfolding word_bits
none_left word n zero h = refl
none_left word n (suc k) h = absurd (omega arith)

-- the bit at a place of the word that stands at n
bit_of : (word : ℕ → ℕ) (w n p m : ℕ) → n + suc m ≡ 32 * p → m < 32 → w ≡ word (n / 32) → word_bit word n ≡ (w / 2 ^ m % 2 == 1)
bit_of word w n p m place within held =
    let e : 31 - n % 32 ≡ m = omega arith in
    ap (λ i. word (n / 32) / 2 ^ i % 2 == 1) e ∙ ap (λ v. v / 2 ^ m % 2 == 1) (sym held)

-- a bit is given
pub bit_given : (word : ℕ → ℕ) (w n k p waiting : ℕ) → n + waiting ≡ 32 * p → 0 < waiting → waiting ≤ 32 → w ≡ word (n / 32) → k ≢ 0
    → word_bits word n k ≡ (w / 2 ^ (waiting - 1) % 2 == 1) ∷ word_bits word (n + 1) (k - 1)
unfolding word_bits
bit_given word w n zero p waiting place some within held h = absurd (h refl)
bit_given word w n (suc k) p zero place some within held h = absurd (omega arith)
bit_given word w n (suc k) p (suc m) place some within held h =
    let e : suc k - 1 ≡ k = omega arith in
    let f : suc m - 1 ≡ m = omega arith in
    rw (e, f) (ap (λ b. b ∷ word_bits word (n + 1) k) (bit_of word w n p m place (omega arith) held))

-- so many bits of a word lie ahead, above its lowest m
pub bits_ahead : (word : ℕ → ℕ) (w n k left m p : ℕ) → n + (k + m) ≡ 32 * p → k + m ≤ 32 → k ≤ left → (0 < k → w ≡ word (n / 32))
    → word_bits word n left ≡ low_bits k (w / 2 ^ m) ++ word_bits word (n + k) (left - k)
unfolding word_bits low_bits
bits_ahead word w n zero left m p place within le held =
    let e : n + 0 ≡ n = omega arith in let f : left - 0 ≡ left = omega arith in rw (e, f) refl
bits_ahead word w n (suc k) zero m p place within le held = absurd (omega arith)
bits_ahead word w n (suc k) (suc left) m p place within le held =
    let lt : k + m < 32 = omega arith in
    let here : n + suc (k + m) ≡ 32 * p = omega arith in
    let next : n + 1 + (k + m) ≡ 32 * p = omega arith in
    let same : 0 < k → n / 32 ≡ (n + 1) / 32 = λ some. omega arith in
    let head : word_bit word n ≡ (w / 2 ^ m / 2 ^ k % 2 == 1) =
    bit_of word w n p (k + m) here lt (held (omega arith))
    ∙ ap (λ d. w / d % 2 == 1) (let q : k + m ≡ m + k = omega arith in ap (λ i. 2 ^ i) q ∙ pow-add 2 m k)
    ∙ ap (λ v. v % 2 == 1) (sym (div-div-eq-div-mul w (2 ^ m) (2 ^ k))) in
    let tail = bits_ahead word w (n + 1) k left m p next (omega arith) (omega arith) (λ some. held (omega arith) ∙ ap word (same some)) in
    let e : n + 1 + k ≡ n + suc k = omega arith in
    let f : left - k ≡ suc left - suc k = omega arith in
    ap (λ b. b ∷ word_bits word (n + 1) left) head
    ∙ ap (λ bits. (w / 2 ^ m / 2 ^ k % 2 == 1) ∷ bits) (tail ∙ ap (λ i. low_bits k (w / 2 ^ m) ++ word_bits word i (left - k)) e
    ∙ ap (λ i. low_bits k (w / 2 ^ m) ++ word_bits word (n + suc k) i) f)

-- the bits that lie ready are the first that are left
pub begins_ahead : (word : ℕ → ℕ) (w n left waiting count p : ℕ) → n + waiting ≡ 32 * p → waiting ≤ 32 → w ≡ word (n / 32) → count ≤ waiting → count ≤ left
    → BeginsWith (low_bits count (w / 2 ^ (waiting - count))) (word_bits word n left)
begins_ahead word w n left waiting count p place within held le few =
    (word_bits word (n + count) (left - count), bits_ahead word w n count left (waiting - count) p (omega arith) (omega arith) few (λ some. held))

-- so many bits are taken
pub bits_taken : (word : ℕ → ℕ) (n k left : ℕ) → k ≤ left → word_bits word (n + k) (left - k) ≡ drop k (word_bits word n left)
unfolding word_bits
bits_taken word n zero left le = let e : n + 0 ≡ n = omega arith in let f : left - 0 ≡ left = omega arith in rw (e, f) refl
bits_taken word n (suc k) zero le = absurd (omega arith)
bits_taken word n (suc k) (suc left) le =
    let e : n + suc k ≡ n + 1 + k = omega arith in
    let f : suc left - suc k ≡ left - k = omega arith in
    rw (e, f) (bits_taken word (n + 1) k left (omega arith))
