-- What holds of each lane, and of each word of a state.
use Rattle.std.proofs.Common.{◌≡◌, ℕ, get_or-set_other, zero, suc, ◌+◌, ◌<◌, ◌≤◌, inl, inr, eq-or-lt_of_le, ne_of_lt, ◌-◌, ◌*◌, ◌/◌, ◌%◌, ◌^◌, List, [], ◌∷◌, length, replicate, get_or, drop, slice_index, bit_or, bit_xor, arith, refl, sym, ap, ap₂, ◌∙◌}
use Rattle.std.specs.Prelude.{slice_set}
use Rattle.std.specs.Simd.Lanes.{zip2}
use Rattle.std.proofs.lemmas.Grind.{get_or-set_at}
use Rattle.std.proofs.lemmas.Simd.{length-zip2, get_or-zip2, get_or-replicate}
use Rattle.rand_chacha.specs.Block.{xor_rotate}
use Rattle.rand_chacha.specs.Lanes.{lane, lane_at}

-- what is done to each lane of two vectors
pub zip_lane : (f : ℕ → ℕ → ℕ) (a b : List ℕ) (j : ℕ) → length a ≡ 4 → length b ≡ 4 → j < 4 → slice_index (zip2 f a b) j ≡ f (slice_index a j) (slice_index b j)
zip_lane f a b j four also lt = get_or-zip2 f a b j 0 0 0 (omega arith) (omega arith)

-- to each lane of a vector and one number
splat_lane : (f : ℕ → ℕ → ℕ) (a : List ℕ) (n j : ℕ) → length a ≡ 4 → j < 4 → slice_index (zip2 f a (replicate 4 n)) j ≡ f (slice_index a j) n
splat_lane f a n j four lt = zip_lane f a (replicate 4 n) j four refl lt ∙ ap (f (slice_index a j)) (get_or-replicate 4 j n 0 lt)

-- two shifts are a turn
pub turned_lane : (k : ℕ) (a b : List ℕ) (j : ℕ) → 0 < k → k < 32 → length a ≡ 4 → length b ≡ 4 → j < 4
    → slice_index (zip2 bit_or (zip2 (λ x n. x * 2 ^ n % 2 ^ 32) (zip2 bit_xor a b) (replicate 4 k)) (zip2 (λ x n. x / 2 ^ n) (zip2 bit_xor a b) (replicate 4 (32 - k)))) j
    ≡ xor_rotate (slice_index a j) (slice_index b j) k
turned_lane k a b j some few four also lt =
    let up = λ (x n : ℕ). x * 2 ^ n % 2 ^ 32 in
    let down = λ (x n : ℕ). x / 2 ^ n in
    let differ = zip2 bit_xor a b in
    let long : length differ ≡ 4 = length-zip2 bit_xor a b (four ∙ sym also) ∙ four in
    let left : k % 32 ≡ k = omega arith in
    let right : (32 - k) % 32 ≡ 32 - k = omega arith in
    rw (left, right) (
    zip_lane bit_or (zip2 up differ (replicate 4 k)) (zip2 down differ (replicate 4 (32 - k))) j (length-zip2 up differ (replicate 4 k) long ∙ long) (length-zip2 down differ (replicate 4 (32 - k)) long ∙ long) lt
    ∙ ap₂ bit_or (splat_lane up differ k j long lt ∙ ap (λ x. up x k) (zip_lane bit_xor a b j four also lt))
    (splat_lane down differ (32 - k) j long lt ∙ ap (λ x. down x (32 - k)) (zip_lane bit_xor a b j four also lt))
    )

-- what a function gives for the first n numbers
abbrev pub values : {A : Type 0} → (ℕ → A) → ℕ → List A
values f zero = []
values f (suc n) = f 0 ∷ values (λ k. f (suc k)) n

-- functions that give the same for the first n numbers agree on each
pub agree : {A : Type 0} (f g : ℕ → A) (n : ℕ) → values f n ≡ values g n → (k : ℕ) → k < n → f k ≡ g k
agree f g zero same k lt = absurd (omega arith)
agree f g (suc n) same zero lt = ap (λ l. get_or l 0 (f 0)) same
agree f g (suc n) same (suc k) lt = agree (λ i. f (suc i)) (λ i. g (suc i)) n (ap (drop 1) same) k (omega arith)

-- a word of a state
pub lane_word : (x : List (List ℕ)) (j k : ℕ) → k < 16 → slice_index (lane j x) k ≡ lane_at x k j
lane_word x j = agree (λ k. slice_index (lane j x) k) (λ k. lane_at x k j) 16 refl

-- a row more is written
pub row_written : (rows : List (List ℕ)) (row : List ℕ) (i j k : ℕ) (f : ℕ → ℕ) → i < length rows → (k < i → lane_at rows k j ≡ f k) → slice_index row j ≡ f i → k < i + 1
    → lane_at (slice_set rows i row) k j ≡ f k
row_written rows row i j k f within before now lt =
    let le : k ≤ i = omega arith in
    elim (eq-or-lt_of_le le) [
      | inl here ↦ ap (λ r. slice_index r j) (get_or-set_at rows i k row [] here within) ∙ now ∙ ap f (sym here)
      | inr below ↦ ap (λ r. slice_index r j) (get_or-set_other rows i k row [] (ne_of_lt below)) ∙ before below
    ]
