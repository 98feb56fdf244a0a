-- One piece is the longest at the front of a text, and so a text is cut in one way.
use Rattle.std.proofs.Common.{◌≡◌, refl, ℕ, zero, suc, ◌<◌, arith, true, List, [], ◌∷◌, take}
use Rattle.gcl_core.specs.declared.tokens.PieceKind.{PieceKind}
use Rattle.gcl_core.specs.text.Pieces.{is_piece, Longest, Piece, Leads, no_piece_more, one_piece_more}
use Rattle.gcl_lex.proofs.Cuts.{begins, same_kind, some_len}

no_longer : {c d : PieceKind} (text : List ℕ) (n m : ℕ) → Longest c text n → Longest d text m → n < m → ⊥
no_longer {c} {d} text n m p q h = let e = p.last d m h q.within in let f : is_piece d (take m text) ≡ true = q.is in cc

pub one_length : {c d : PieceKind} (text : List ℕ) (n m : ℕ) → Longest c text n → Longest d text m → n ≡ m
one_length {c} {d} text n m p q =
    let a : n < m → ⊥ = λ h. no_longer text n m p q h in
    let b : m < n → ⊥ = λ h. no_longer text m n q p h in
    omega (arith, a, b)

pub one_kind : {c d : PieceKind} (text : List ℕ) (n : ℕ) → Longest c text n → Longest d text n → c ≡ d
one_kind [] zero p q = absurd (let z = some_len _ [] zero p in omega (arith, z))
one_kind text zero p q = absurd (let z = some_len _ text zero p in omega (arith, z))
one_kind [] (suc n) p q = absurd (let w = p.within in omega (arith, w))
one_kind (b ∷ bs) (suc n) p q = same_kind b (begins _ b (take n bs) q.is) (begins _ b (take n bs) p.is)

pub no_longest : {k : PieceKind} {n : ℕ} → Longest k [] n → ⊥
no_longest {k} {n} l = let z = some_len k [] n l in let w = l.within in omega (arith, z, w)

pub one_cut : {text : List ℕ} {ps qs : List Piece} → Leads text ps [] → Leads text qs [] → ps ≡ qs
one_cut no_piece_more no_piece_more = refl
one_cut no_piece_more (one_piece_more l r) = absurd (no_longest l)
one_cut (one_piece_more l r) no_piece_more = absurd (no_longest l)
one_cut (one_piece_more {text = text} {k = k} {n = n} {ps = ps} l r) (one_piece_more {k = j} {n = m} {ps = qs} g q) =
    let e = one_length text n m l g in
    let f = one_kind text n l (rw (← e) at g) in
    let i = one_cut r (rw (← e) at q) in
    cc
