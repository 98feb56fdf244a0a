-- The statements of a block between two places, and those that round nothing there.
use Rattle.std.proofs.Common.{◌≡◌, ℕ, zero, suc, ◌+◌, ◌-◌, ◌≤◌, ◌<◌, true, false, cond, List, [], ◌∷◌, ◌++◌, take, drop, get_or, drop-cons, length, sym, ap, ◌∙◌, subst, arith}
use Rattle.std.proofs.lemmas.List.{take-append-drop, drop-drop, get_or-drop, length-drop}
use Rattle.gcl_core.specs.declared.syntax.Stmt.{Stmt}
use Rattle.gcl_core.specs.meaning.Bounds.{StatementIsWeighed, BlockIsWeighed}
use Rattle.gcl_core.specs.meaning.Syntax.{Expression, Uniform, ◌▸◌}
use Rattle.gcl_core.specs.meaning.Views.{statement_of, list_of}
use Rattle.enclose_fold.specs.inner.Between.{part, between}
use Rattle.enclose_fold.specs.inner.Exact.{one_rounds, any_rounds, DrawsOnce}
use Rattle.enclose_fold.proofs.Parted.{neither}

pub part_behind : (from to : ℕ) (xs : List Stmt) → from ≤ to → part from to xs ++ drop to xs ≡ drop from xs
part_behind from to xs h =
    let e : from + (to - from) ≡ to = omega arith in
    ap (λ z. part from to xs ++ z) (ap (λ n. drop n xs) (sym e) ∙ sym (drop-drop (to - from) from xs)) ∙ take-append-drop (to - from) (drop from xs)

pub part_step : (xs : List Stmt) (at to : ℕ) (d : Stmt) → at < length xs → at < to → d ≡ get_or xs at d → list_of (part at to xs) ≡ statement_of d ▸ list_of (part (at + 1) to xs)
part_step xs at to d h l e =
    let p : drop at xs ≡ get_or xs at d ∷ drop (suc at) xs = drop-cons xs at d h in
    let q : to - at ≡ suc (to - (at + 1)) = omega arith in
    let r : suc at ≡ at + 1 = omega arith in
    ap list_of (ap (λ n. take n (drop at xs)) q ∙ ap (take (suc (to - (at + 1)))) p)
    ∙ ap (λ x. statement_of x ▸ list_of (take (to - (at + 1)) (drop (suc at) xs))) (sym e)
    ∙ ap (λ k. statement_of d ▸ list_of (take (to - (at + 1)) (drop k xs))) r

weighed_behind : (n : ℕ) (xs : List Stmt) → BlockIsWeighed (list_of xs) → BlockIsWeighed (list_of (drop n xs))
weighed_behind zero xs h = h
weighed_behind (suc n) [] h = h
weighed_behind (suc n) (x ∷ xs) h = weighed_behind n xs h.1

weighed_front : (n : ℕ) (xs : List Stmt) → BlockIsWeighed (list_of xs) → BlockIsWeighed (list_of (take n xs))
weighed_front zero xs h = tt
weighed_front (suc n) [] h = h
weighed_front (suc n) (x ∷ xs) h = (h.0, weighed_front n xs h.1)

pub weighed_between : (from to : ℕ) (xs : List Stmt) → BlockIsWeighed (list_of xs) → BlockIsWeighed (between from to xs)
weighed_between from to xs h = weighed_front (to - from) (drop from xs) (weighed_behind from xs h)

pub weighed_at : (xs : List Stmt) (k : ℕ) (d : Stmt) → k < length xs → BlockIsWeighed (list_of xs) → StatementIsWeighed (statement_of (get_or xs k d))
weighed_at [] k d lt h = absurd (omega arith)
weighed_at (x ∷ xs) zero d lt h = h.0
weighed_at (x ∷ xs) (suc k) d lt h = weighed_at xs k d (omega arith) h.1

-- ---- what rounds nothing between two places

pub none_rounds : (from to : ℕ) (xs : List Stmt) → to ≤ from → any_rounds (between from to xs) ≡ false
none_rounds from to xs h = let q : to - from ≡ 0 = omega arith in ap (λ k. any_rounds (list_of (take k (drop from xs)))) q

rounds_after : (k : ℕ) (xs : List Stmt) (d : Stmt) → k < length xs → any_rounds (list_of (take k xs)) ≡ false → one_rounds (statement_of (get_or xs k d)) ≡ false → any_rounds (list_of (take (suc k) xs)) ≡ false
rounds_after k [] d l h g = absurd (omega arith)
rounds_after zero (x ∷ xs) d l h g = ap (λ b. cond b true false) g
rounds_after (suc k) (x ∷ xs) d l h g =
    let z = neither (one_rounds (statement_of x)) (any_rounds (list_of (take k xs))) h in
    ap (λ b. cond b true (any_rounds (list_of (take (suc k) xs)))) z.0 ∙ rounds_after k xs d (omega arith) z.1 g

pub more_rounds : (from at : ℕ) (xs : List Stmt) (d : Stmt) → from ≤ at → at < length xs → any_rounds (between from at xs) ≡ false → one_rounds (statement_of (get_or xs at d)) ≡ false → any_rounds (between from (at + 1) xs) ≡ false
more_rounds from at xs d l h k g =
    let p : suc (at - from) ≡ at + 1 - from = omega arith in
    let q : from + (at - from) ≡ at = omega arith in
    let there : get_or (drop from xs) (at - from) d ≡ get_or xs at d = get_or-drop from xs (at - from) d ∙ ap (λ i. get_or xs i d) q in
    let short : at - from < length (drop from xs) = let e = length-drop from xs in omega (arith, l, h) in
    ap (λ i. any_rounds (list_of (take i (drop from xs)))) (sym p)
    ∙ rounds_after (at - from) (drop from xs) d short k (ap (λ x. one_rounds (statement_of x)) there ∙ g)

-- a draw, and what rounds nothing behind it
pub draws_once : (from to : ℕ) (xs : List Stmt) (d : Stmt) (x : ℕ) (e : Expression) → from < length xs → from < to → d ≡ get_or xs from d → statement_of d ≡ Uniform x e → any_rounds (between (from + 1) to xs) ≡ false →
    DrawsOnce (between from to xs)
draws_once from to xs d x e h l p q k = subst DrawsOnce (sym (part_step xs from to d h l p ∙ ap (λ s. s ▸ between (from + 1) to xs) q)) k
