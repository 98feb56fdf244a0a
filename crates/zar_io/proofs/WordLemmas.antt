-- The bits of a word are those of its bytes.
use Rattle.std.proofs.Common.{◌≡◌, ◌<◌, ◌≤◌, ◌+◌, ◌*◌, ◌/◌, ◌%◌, ◌^◌, ◌==◌, ◌++◌, ℕ, suc, zero, List, [], ◌∷◌, length, get_or, refl, sym, ap, ◌∙◌, arith, pow-add, append_assoc, w64}
use Rattle.std.specs.Prelude.{slice_range}
use Rattle.std.specs.Int.{from_be_bytes}
use Rattle.std.proofs.Math.Nat.{div-div-eq-div-mul}
use Rattle.std.proofs.lemmas.List.{append-nil}
use Rattle.zar_io.specs.FileBits.{low_bits, file_bits}
use Rattle.zar_io.proofs.FileBitsLemmas.{slice_range-first, slice_range-empty}

last_byte : (w b : ℕ) → b < 256 → low_bits 8 (256 * w + b) ≡ low_bits 8 b
unfolding low_bits
last_byte w b lt =
    let e7 : (256 * w + b) / 2 ^ 7 % 2 ≡ b / 2 ^ 7 % 2 = omega arith in
    let e6 : (256 * w + b) / 2 ^ 6 % 2 ≡ b / 2 ^ 6 % 2 = omega arith in
    let e5 : (256 * w + b) / 2 ^ 5 % 2 ≡ b / 2 ^ 5 % 2 = omega arith in
    let e4 : (256 * w + b) / 2 ^ 4 % 2 ≡ b / 2 ^ 4 % 2 = omega arith in
    let e3 : (256 * w + b) / 2 ^ 3 % 2 ≡ b / 2 ^ 3 % 2 = omega arith in
    let e2 : (256 * w + b) / 2 ^ 2 % 2 ≡ b / 2 ^ 2 % 2 = omega arith in
    let e1 : (256 * w + b) / 2 ^ 1 % 2 ≡ b / 2 ^ 1 % 2 = omega arith in
    let e0 : (256 * w + b) / 2 ^ 0 % 2 ≡ b / 2 ^ 0 % 2 = omega arith in
    rw (e7, e6, e5, e4, e3, e2, e1, e0) refl

-- a byte behind a word
byte_more : (k w b : ℕ) → b < 256 → low_bits (k + 8) (256 * w + b) ≡ low_bits k w ++ low_bits 8 b
unfolding low_bits
byte_more zero w b lt = last_byte w b lt
byte_more (suc k) w b lt =
    let p : 2 ^ (k + 8) ≡ 256 * 2 ^ k = let c : k + 8 ≡ 8 + k = omega arith in ap (λ i. 2 ^ i) c ∙ pow-add 2 8 k in
    let q : (256 * w + b) / 256 ≡ w = omega arith in
    let h : (256 * w + b) / 2 ^ (k + 8) ≡ w / 2 ^ k =
    ap (λ d. (256 * w + b) / d) p ∙ sym (div-div-eq-div-mul (256 * w + b) 256 (2 ^ k)) ∙ ap (λ v. v / 2 ^ k) q in
    let e : suc k + 8 ≡ suc (k + 8) = omega arith in
    ap (λ i. low_bits i (256 * w + b)) e ∙
    ap (λ v. (v % 2 == 1) ∷ low_bits (k + 8) (256 * w + b)) h ∙ ap (λ bits. (w / 2 ^ k % 2 == 1) ∷ bits) (byte_more k w b lt)

eight : (a b c d e f g h : ℕ) → b < 256 → c < 256 → d < 256 → e < 256 → f < 256 → g < 256 → h < 256
    → low_bits 64 (from_be_bytes w64 (a ∷ (b ∷ (c ∷ (d ∷ (e ∷ (f ∷ (g ∷ (h ∷ []))))))))) ≡ file_bits (a ∷ (b ∷ (c ∷ (d ∷ (e ∷ (f ∷ (g ∷ (h ∷ []))))))))
unfolding file_bits
eight a b c d e f g h lb lc ld le lf lg lh =
    let v1 : ℕ = 256 * a + b in
    let v2 : ℕ = 256 * v1 + c in
    let v3 : ℕ = 256 * v2 + d in
    let v4 : ℕ = 256 * v3 + e in
    let v5 : ℕ = 256 * v4 + f in
    let v6 : ℕ = 256 * v5 + g in
    let v7 : ℕ = 256 * v6 + h in
    let worth : from_be_bytes w64 (a ∷ (b ∷ (c ∷ (d ∷ (e ∷ (f ∷ (g ∷ (h ∷ [])))))))) ≡ v7 = omega arith in
    ap (λ n. low_bits 64 n) worth
    ∙ byte_more 56 v6 h lh
    ∙ ap (λ l. l ++ low_bits 8 h) (byte_more 48 v5 g lg
    ∙ ap (λ l. l ++ low_bits 8 g) (byte_more 40 v4 f lf
    ∙ ap (λ l. l ++ low_bits 8 f) (byte_more 32 v3 e le
    ∙ ap (λ l. l ++ low_bits 8 e) (byte_more 24 v2 d ld
    ∙ ap (λ l. l ++ low_bits 8 d) (byte_more 16 v1 c lc
    ∙ ap (λ l. l ++ low_bits 8 c) (byte_more 8 a b lb))))))
    ∙ simp (append_assoc, append-nil)

first_of : (xs : List ℕ) (i j k : ℕ) → k ≡ i + 1 → i < j → j ≤ length xs → slice_range xs i j ≡ get_or xs i 0 ∷ slice_range xs k j
first_of xs i j k e lt le = slice_range-first xs i j lt le ∙ ap (λ n. get_or xs i 0 ∷ slice_range xs n j) (sym e)

-- eight bytes of a list
eight_of : (xs : List ℕ) (i : ℕ) → i + 8 ≤ length xs → slice_range xs i (i + 8)
    ≡ get_or xs i 0 ∷ (get_or xs (i + 1) 0 ∷ (get_or xs (i + 2) 0 ∷ (get_or xs (i + 3) 0 ∷ (get_or xs (i + 4) 0 ∷ (get_or xs (i + 5) 0 ∷ (get_or xs (i + 6) 0 ∷ (get_or xs (i + 7) 0 ∷ [])))))))
eight_of xs i le =
    first_of xs i (i + 8) (i + 1) refl (omega arith) le
    ∙ ap (λ l. get_or xs i 0 ∷ l) (first_of xs (i + 1) (i + 8) (i + 2) (omega arith) (omega arith) le
    ∙ ap (λ l. get_or xs (i + 1) 0 ∷ l) (first_of xs (i + 2) (i + 8) (i + 3) (omega arith) (omega arith) le
    ∙ ap (λ l. get_or xs (i + 2) 0 ∷ l) (first_of xs (i + 3) (i + 8) (i + 4) (omega arith) (omega arith) le
    ∙ ap (λ l. get_or xs (i + 3) 0 ∷ l) (first_of xs (i + 4) (i + 8) (i + 5) (omega arith) (omega arith) le
    ∙ ap (λ l. get_or xs (i + 4) 0 ∷ l) (first_of xs (i + 5) (i + 8) (i + 6) (omega arith) (omega arith) le
    ∙ ap (λ l. get_or xs (i + 5) 0 ∷ l) (first_of xs (i + 6) (i + 8) (i + 7) (omega arith) (omega arith) le
    ∙ ap (λ l. get_or xs (i + 6) 0 ∷ l) (first_of xs (i + 7) (i + 8) (i + 8) (omega arith) (omega arith) le
    ∙ ap (λ l. get_or xs (i + 7) 0 ∷ l) (slice_range-empty xs (i + 8)))))))))

pub word_bytes : (xs : List ℕ) (i : ℕ) → i + 8 ≤ length xs → ((k : ℕ) → get_or xs k 0 < 256)
    → low_bits 64 (from_be_bytes w64 (get_or xs i 0 ∷ (get_or xs (i + 1) 0 ∷ (get_or xs (i + 2) 0 ∷ (get_or xs (i + 3) 0 ∷ (get_or xs (i + 4) 0 ∷ (get_or xs (i + 5) 0 ∷ (get_or xs (i + 6) 0 ∷ (get_or xs (i + 7) 0 ∷ [])))))))))
    ≡ file_bits (slice_range xs i (i + 8))
word_bytes xs i le small =
    eight (get_or xs i 0) (get_or xs (i + 1) 0) (get_or xs (i + 2) 0) (get_or xs (i + 3) 0) (get_or xs (i + 4) 0) (get_or xs (i + 5) 0) (get_or xs (i + 6) 0) (get_or xs (i + 7) 0)
    (small (i + 1)) (small (i + 2)) (small (i + 3)) (small (i + 4)) (small (i + 5)) (small (i + 6)) (small (i + 7))
    ∙ ap file_bits (sym (eight_of xs i le))
