-- All strings of one length: each begins with as many of them as any other of its length.
use Rattle.std.proofs.Common.{◌≡◌, ℕ, zero, suc, ◌+◌, ◌*◌, ◌^◌, ◌≤◌, Bool, true, false, cond, List, [], ◌∷◌, length, refl, sym, ap, ◌∙◌, arith}
use Rattle.std.specs.Prelude.{All, map, count_by}
use Rattle.std.proofs.lemmas.List.Elements.{All-nil, All-cons, All-append, All-map, All-weaker}
use Rattle.std.proofs.lemmas.List.Sums.{sum_by-cons, sum_by-append}
use Rattle.gcl_core.proofs.Sums.{two_more}
use Rattle.many_runs.specs.AllStrings.{all_strings}
use Rattle.many_runs.specs.Streams.{begins, beginning, BeginEvenly}

-- ---- counts
pub count-cons : {X : Type 0} (test : X → Bool) (s : X) (ss : List X) → count_by test (s ∷ ss) ≡ cond (test s) 1 0 + count_by test ss
count-cons test s ss = sum_by-cons (λ s. cond (test s) 1 0) s ss

count-map : (test : List Bool → Bool) (f : List Bool → List Bool) (ss : List (List Bool)) → count_by test (map f ss) ≡ count_by (λ s. test (f s)) ss
count-map test f [] = refl
count-map test f (s ∷ ss) = count-cons test (f s) (map f ss) ∙ ap (λ n. cond (test (f s)) 1 0 + n) (count-map test f ss) ∙ sym (count-cons (λ s. test (f s)) s ss)

count-none : (ss : List (List Bool)) → count_by (λ s. false) ss ≡ 0
count-none [] = refl
count-none (s ∷ ss) = let h = count-none ss in let c = count-cons (λ s. false) s ss in omega arith

count-all : (ss : List (List Bool)) → count_by (λ s. true) ss ≡ length ss
count-all [] = refl
count-all (s ∷ ss) = let h = count-all ss in let c = count-cons (λ s. true) s ss in omega arith

-- of all strings so many pass as of those that begin with 0 and those that begin with 1
count-both : (test : List Bool → Bool) (L : ℕ) →
    count_by test (all_strings (suc L)) ≡ count_by (λ s. test (false ∷ s)) (all_strings L) + count_by (λ s. test (true ∷ s)) (all_strings L)
count-both test L =
    sum_by-append (λ s. cond (test s) 1 0) (map (λ v. false ∷ v) (all_strings L)) (map (λ v. true ∷ v) (all_strings L))
    ∙ ap (λ n. n + count_by test (map (λ v. true ∷ v) (all_strings L))) (count-map test (λ v. false ∷ v) (all_strings L))
    ∙ ap (λ n. count_by (λ s. test (false ∷ s)) (all_strings L) + n) (count-map test (λ v. true ∷ v) (all_strings L))

all_count : (L : ℕ) → length (all_strings L) ≡ 2 ^ L
all_count zero = refl
all_count (suc L) =
    let h = all_count L in
    let a = count-both (λ s. true) L in
    let b = count-all (all_strings (suc L)) in
    let c = count-all (all_strings L) in
    omega (arith, two_more L)

-- ---- fronts
twice : (m m' n n' v v' : ℕ) → m' ≡ 2 * m → n' ≡ 2 * n → v' ≡ v → m * v ≡ n → m' * v' ≡ n'
twice m m' n n' v v' a b c e = rw (a, b, c) (let f = ap (λ x. 2 * x) e in omega arith)

all_begin : (u : List Bool) (L : ℕ) → length u ≤ L → 2 ^ length u * beginning u (all_strings L) ≡ 2 ^ L
all_begin [] L le = let a = count-all (all_strings L) in let b = all_count L in omega arith
all_begin (b ∷ u) zero le = absurd (omega (arith, le))
all_begin (false ∷ u) (suc L) le =
    let a = count-both (begins (false ∷ u)) L in
    let b = all_begin u L (omega (arith, le)) in
    let c = count-none (all_strings L) in
    twice (2 ^ length u) (2 ^ suc (length u)) (2 ^ L) (2 ^ suc L) (beginning u (all_strings L)) (beginning (false ∷ u) (all_strings (suc L))) (omega arith) (omega arith) (omega arith) b
all_begin (true ∷ u) (suc L) le =
    let a = count-both (begins (true ∷ u)) L in
    let b = all_begin u L (omega (arith, le)) in
    let c = count-none (all_strings L) in
    twice (2 ^ length u) (2 ^ suc (length u)) (2 ^ L) (2 ^ suc L) (beginning u (all_strings L)) (beginning (true ∷ u) (all_strings (suc L))) (omega arith) (omega arith) (omega arith) b

pub all_evenly : (L : ℕ) → BeginEvenly L (all_strings L)
all_evenly L u le = all_begin u L le ∙ sym (all_count L)

-- ---- lengths
longer : (b : Bool) (L : ℕ) (ss : List (List Bool)) → All (λ s. length s ≡ L) ss → All (λ s. length s ≡ suc L) (map (λ v. b ∷ v) ss)
longer b L ss h =
    All-map (λ (s : List Bool). length s ≡ suc L) (λ v. b ∷ v) ss (All-weaker (λ (s : List Bool). length s ≡ L) (λ s. length (b ∷ s) ≡ suc L) (λ s e. ap suc e) ss h)

pub all_long : (L : ℕ) → All (λ (s : List Bool). length s ≡ L) (all_strings L)
all_long zero = All-cons (λ (s : List Bool). length s ≡ 0) [] [] refl (All-nil (λ (s : List Bool). length s ≡ 0))
all_long (suc L) =
    All-append (λ (s : List Bool). length s ≡ suc L) (map (λ v. false ∷ v) (all_strings L)) (map (λ v. true ∷ v) (all_strings L)) (longer false L (all_strings L) (all_long L))
    (longer true L (all_strings L) (all_long L))
