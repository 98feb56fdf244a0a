-- The front of what is written, as a piece more is written.
use Rattle.std.proofs.Common.{◌≡◌, ◌∙◌, ◌≤◌, ◌+◌, ◌-◌, ◌++◌, ℕ, suc, zero, List, [], ◌∷◌, length, take, min, refl, ap, sym, arith}
use Rattle.std.proofs.lemmas.List.{take_min, length-take-le}
use Rattle.std.proofs.lemmas.Slice.{take-put_mid}
use Rattle.std.proofs.Math.Seq.{take-append-add}
use borrow.Rule.Slice.PartMut.{put_mid}

-- what is behind the front of the first list does not count
front_again : (most : ℕ) (xs ys : List ℕ) → take most (take most xs ++ ys) ≡ take most (xs ++ ys)
front_again zero xs ys = refl
front_again (suc most) [] ys = refl
front_again (suc most) (x ∷ xs) ys = ap (λ zs. x ∷ zs) (front_again most xs ys)

-- a piece behind a front, as far as there is room
behind_front : (most n : ℕ) (front piece : List ℕ) → length front ≤ most → n ≡ min (length piece) (most - length front)
    → front ++ take n piece ≡ take most (front ++ piece)
behind_front most n front piece within is =
    let room = most - length front in
    let all : length front + room ≡ most = omega (arith, within) in
    let same : n ≡ min room (length piece) = omega (arith, is) in
    ap (λ k. front ++ take k piece) same ∙ ap (λ xs. front ++ xs) (take_min room piece)
    ∙ sym (take-append-add front piece room) ∙ ap (λ k. take k (front ++ piece)) all

-- as much of a piece as there is room for is put behind the bytes that are kept
pub kept_then : (most kept n k : ℕ) (bytes part piece : List ℕ) → length bytes ≡ most → kept ≤ most
    → n ≡ min (length piece) (most - kept) → part ≡ take n piece
    → take (kept + n) (put_mid kept k bytes part) ≡ take most (take kept bytes ++ piece)
kept_then most kept n k bytes part piece full within is same =
    let few : n ≤ length piece = omega (arith, is) in
    let taken : length part ≡ n = ap length same ∙ length-take-le n piece few in
    let room : kept ≤ length bytes = omega (arith, full, within) in
    let front : length (take kept bytes) ≡ kept = length-take-le kept bytes room in
    take-put_mid kept k bytes part (kept + n) (omega (arith, taken)) room
    ∙ ap (λ xs. take kept bytes ++ xs) same
    ∙ behind_front most n (take kept bytes) piece (omega (arith, front, within)) (omega (arith, is, front))

-- what is kept is the front of what was written, as it was before
pub kept_on : (most n : ℕ) (front now before after piece : List ℕ) → now ≡ take most (front ++ take n piece)
    → front ≡ take most before → after ≡ before ++ take n piece → now ≡ take most after
kept_on most n front now before after piece kept was grown =
    kept ∙ ap (λ xs. take most (xs ++ take n piece)) was ∙ front_again most before (take n piece) ∙ ap (take most) (sym grown)
