-- Texts of more numbers, and what is written of them round by round.
use Rattle.std.proofs.Common.{◌≡◌, ◌∙◌, ℕ, zero, suc, ◌+◌, ◌-◌, ◌<◌, ◌≤◌, List, ◌++◌, flat_map, length, take, append_assoc, append-nil, length-append, sym, ap, arith}
use Rattle.std.specs.List.{range_with_len}
use Rattle.std.proofs.Math.Seq.{take-append-add}
use Rattle.std.proofs.lemmas.List.{take-append-le}

-- the texts of n numbers from a on, one behind the other
abbrev pub texts_from : (ℕ → List ℕ) → ℕ → ℕ → List ℕ
texts_from text a n = flat_map text (range_with_len a n)

-- those of n more
texts_add : (f : ℕ → List ℕ) (a m n : ℕ) → texts_from f a (m + n) ≡ texts_from f a m ++ texts_from f (a + m) n
texts_add f a zero n =
    let none : 0 + n ≡ n = omega arith in
    let place : a ≡ a + 0 = omega arith in
    ap (texts_from f a) none ∙ ap (λ k. texts_from f k n) place
texts_add f a (suc m) n =
    let next : suc m + n ≡ suc (m + n) = omega arith in
    let place : a + 1 + m ≡ a + suc m = omega arith in
    ap (texts_from f a) next ∙ ap (λ w. f a ++ w) (texts_add f (a + 1) m n ∙ ap (λ k. texts_from f (a + 1) m ++ texts_from f k n) place)
    ∙ sym (append_assoc (f a) (texts_from f (a + 1) m) (texts_from f (a + suc m) n))

-- those of one more
pub texts_more : (f : ℕ → List ℕ) (a at : ℕ) → a ≤ at → texts_from f a (at + 1 - a) ≡ texts_from f a (at - a) ++ f at
texts_more f a at le =
    let one : at + 1 - a ≡ (at - a) + 1 = omega arith in
    let place : a + (at - a) ≡ at = omega arith in
    ap (texts_from f a) one ∙ texts_add f a (at - a) 1 ∙ ap (λ w. texts_from f a (at - a) ++ w) (append-nil (f (a + (at - a))))
    ∙ ap (λ k. texts_from f a (at - a) ++ f k) place

-- those up to `end` are those up to `at`, and those from there
pub texts_joined : (f : ℕ → List ℕ) (a at end : ℕ) → a ≤ at → at ≤ end → texts_from f a (end - a) ≡ texts_from f a (at - a) ++ texts_from f at (end - at)
texts_joined f a at end le more =
    let sum : end - a ≡ (at - a) + (end - at) = omega arith in
    let place : a + (at - a) ≡ at = omega arith in
    ap (texts_from f a) sum ∙ texts_add f a (at - a) (end - at) ∙ ap (λ k. texts_from f a (at - a) ++ texts_from f k (end - at)) place

-- a round behind what was written
pub round_behind : (f : ℕ → List ℕ) (a at end : ℕ) (old now new round : List ℕ) → a ≤ at → at ≤ end → round ≡ texts_from f at (end - at)
    → now ≡ old ++ texts_from f a (at - a) → new ≡ now ++ round → new ≡ old ++ texts_from f a (end - a)
round_behind f a at end old now new round le more is before after =
    after ∙ ap (λ w. w ++ round) before ∙ append_assoc old (texts_from f a (at - a)) round
    ∙ ap (λ w. old ++ (texts_from f a (at - a) ++ w)) is ∙ ap (λ w. old ++ w) (sym (texts_joined f a at end le more))

-- a part of the front of a round behind what was written, of more texts
pub round_cut : (f : ℕ → List ℕ) (a at end to n : ℕ) (old now new round : List ℕ) → a ≤ at → at ≤ end → end ≤ to → round ≡ texts_from f at (end - at)
    → now ≡ old ++ texts_from f a (at - a) → n < length round → new ≡ now ++ take n round
    → (m : ℕ) × (m < length (texts_from f a (to - a))) × (new ≡ old ++ take m (texts_from f a (to - a)))
round_cut f a at end to n old now new round le more last is before below after =
    let first : List ℕ = texts_from f a (at - a) in
    let rest : List ℕ = texts_from f end (to - end) in
    let round_and : texts_from f at (to - at) ≡ round ++ rest = texts_joined f at end to more last ∙ ap (λ w. w ++ rest) (sym is) in
    let whole : texts_from f a (to - a) ≡ first ++ (round ++ rest) = texts_joined f a at to le (omega (arith, more, last)) ∙ ap (λ w. first ++ w) round_and in
    let long : length (texts_from f a (to - a)) ≡ length first + (length round + length rest) = ap length whole ∙ length-append first (round ++ rest) ∙ ap (λ k. length first + k) (length-append round rest) in
    let front : take (length first + n) (texts_from f a (to - a)) ≡ first ++ take n round =
    ap (take (length first + n)) whole ∙ take-append-add first (round ++ rest) n ∙ ap (λ w. first ++ w) (take-append-le n round rest (omega (arith, below))) in
    (length first + n, omega (arith, long, below), after ∙ ap (λ w. w ++ take n round) before ∙ append_assoc old first (take n round) ∙ ap (λ w. old ++ w) (sym front))
