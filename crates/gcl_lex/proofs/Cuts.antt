-- Cutting at the first byte gives the longest piece.
use Rattle.std.proofs.Common.{◌≡◌, ℕ, zero, suc, ◌<◌, ◌≤◌, ◌∙◌, refl, sym, subst, arith, one-add, Bool, true, false, cond, ◌==◌, ◌&&◌, ◌||◌, List, [], ◌∷◌, length, take, Option, Some, None, is_some}
use Rattle.std.specs.List.{prefix_len, list_all}
use Rattle.std.proofs.lemmas.Bool.{false_from_ne_true}
use Rattle.std.proofs.lemmas.Bool.Decides.{nat_tests}
use Rattle.std.proofs.lemmas.Slice.Eq.{bytes_eq-Decides}
use Rattle.gcl_core.specs.declared.tokens.Sym.{Sym}
use Rattle.gcl_core.specs.declared.tokens.PieceKind.{PieceKind}
use Rattle.gcl_core.specs.declared.tokens.PieceKind.TheVariants as kind
use Rattle.gcl_lex.specs.declared.cutting.Front.{Front}
use Rattle.gcl_core.specs.text.Names.{Name, same_name, value_named}
use Rattle.gcl_core.specs.text.Pieces.{is_blank, is_digit, is_letter, goes_on_name, in_comment, symbols, symbol_of, is_piece, Longest, NoPiece}
use Rattle.gcl_core.proofs.Booleans.{both}
use Rattle.gcl_lex.specs.inner.Cutting.{one_byte, two_bytes, begins_symbol, kind_begun, symbol_front, front_as, front_of}

prefix_passes : (p : ℕ → Bool) (bs : List ℕ) → list_all p (take (prefix_len p bs) bs) ≡ true
prefix_passes p [] = refl
prefix_passes p (b ∷ bs) = go (p b) refl (prefix_passes p bs)
  where
    go : (c : Bool) → p b ≡ c → list_all p (take (prefix_len p bs) bs) ≡ true → list_all p (take (prefix_len p (b ∷ bs)) (b ∷ bs)) ≡ true
    go true e ih = rw (e, one-add, e) ih
    go false e ih = rw e

prefix_most : (p : ℕ → Bool) (bs : List ℕ) (m : ℕ) → m ≤ length bs → list_all p (take m bs) ≡ true → m ≤ prefix_len p bs
prefix_most p bs zero h e = omega arith
prefix_most p [] (suc m) h e = absurd (omega arith)
prefix_most p (b ∷ bs) (suc m) h e = go (p b) refl (prefix_most p bs m (omega arith))
  where
    go : (c : Bool) → p b ≡ c → (list_all p (take m bs) ≡ true → m ≤ prefix_len p bs) → suc m ≤ prefix_len p (b ∷ bs)
    go true q ih = rw q (let i = ih (rw q at e) in omega (arith, i))
    go false q ih = let n : list_all p (take (suc m) (b ∷ bs)) ≡ false = rw q in cc

digit_not_blank : (b : ℕ) → is_digit b ≡ true → is_blank b ≡ false
digit_not_blank b h = grind (arith, nat_tests)

digit_not_hash : (b : ℕ) → is_digit b ≡ true → (b == 35) ≡ false
digit_not_hash b h = grind (arith, nat_tests)

letter_not_blank : (b : ℕ) → is_letter b ≡ true → is_blank b ≡ false
letter_not_blank b h = grind (arith, nat_tests)

letter_not_hash : (b : ℕ) → is_letter b ≡ true → (b == 35) ≡ false
letter_not_hash b h = grind (arith, nat_tests)

letter_not_digit : (b : ℕ) → is_letter b ≡ true → is_digit b ≡ false
letter_not_digit b h = grind (arith, nat_tests)

abbrev Each : (P : Name → Type 0) → List (Name × Sym) → Type 0
Each P [] = Unit {0}
Each P (e ∷ es) = P e.0 × Each P es

found_in : (P : Name → Type 0) (bytes : List ℕ) (es : List (Name × Sym)) → Each P es → is_some (value_named es bytes) ≡ true → P bytes
found_in P bytes [] h k = cc
found_in P bytes (e ∷ es) h k = go (same_name bytes e.0) refl (found_in P bytes es h.1)
  where
    go : (c : Bool) → same_name bytes e.0 ≡ c → (is_some (value_named es bytes) ≡ true → P bytes) → P bytes
    go true q ih = subst P (sym ((bytes_eq-Decides bytes e.0).0 q)) h.0
    go false q ih = ih (rw q at k)

-- a symbol is a byte that begins one, or this and the byte of `=`
abbrev IsMark : List ℕ → Type 0
IsMark [] = ⊥
IsMark (b ∷ []) = kind_begun b ≡ Some kind.Symbol
IsMark (b ∷ c ∷ []) = (kind_begun b ≡ Some kind.Symbol) × (c ≡ 61)
IsMark (b ∷ c ∷ d ∷ bs) = ⊥

all_marks : Each IsMark symbols
unfolding kind_begun symbol_of
all_marks = ((refl, refl), (refl, (refl, (refl, (refl, (refl, (refl, (refl, (refl, (refl, (refl, (refl, (refl, ((refl, refl), (refl, ((refl, refl), (refl, ((refl, refl), (refl, (refl, tt))))))))))))))))))))

pub symbol_mark : (bytes : List ℕ) → is_some (symbol_of bytes) ≡ true → IsMark bytes
unfolding symbol_of
symbol_mark bytes h = found_in IsMark bytes symbols all_marks h

hash_not_blank : (b : ℕ) → (b == 35) ≡ true → is_blank b ≡ false
hash_not_blank b h = grind (arith, nat_tests)

-- what a piece begins with says its kind
pub begins : (d : PieceKind) (b : ℕ) (bs : List ℕ) → is_piece d (b ∷ bs) ≡ true → kind_begun b ≡ Some d
unfolding is_piece kind_begun
begins kind.Blank b [] h = rw h
begins kind.Blank b (c ∷ bs) h = cc
begins kind.Comment b bs h = let q = (both (b == 35) (list_all in_comment bs) h).0 in rw (hash_not_blank b q, q)
begins kind.Number b bs h = let q = (both (is_digit b) (list_all is_digit bs) h).0 in rw (digit_not_blank b q, digit_not_hash b q, q)
begins kind.Name b bs h = let q = (both (is_letter b) (list_all goes_on_name bs) h).0 in rw (letter_not_blank b q, letter_not_hash b q, letter_not_digit b q, q)
begins kind.Symbol b [] h = symbol_mark (b ∷ []) h
begins kind.Symbol b (c ∷ []) h = (symbol_mark (b ∷ c ∷ []) h).0
begins kind.Symbol b (c ∷ d ∷ bs) h = absurd (symbol_mark (b ∷ c ∷ d ∷ bs) h)

prefix_within : (p : ℕ → Bool) (bs : List ℕ) → prefix_len p bs ≤ length bs
prefix_within p [] = omega arith
prefix_within p (b ∷ bs) = go (p b) refl (prefix_within p bs)
  where
    go : (c : Bool) → p b ≡ c → prefix_len p bs ≤ length bs → prefix_len p (b ∷ bs) ≤ length (b ∷ bs)
    go true e ih = rw e (omega (arith, ih))
    go false e ih = rw e (omega arith)

pub same_kind : (b : ℕ) {c d : PieceKind} → kind_begun b ≡ Some c → kind_begun b ≡ Some d → d ≡ c
same_kind b h k = let e = sym k ∙ h in cc

-- a piece that goes on as far as a test holds
longest_run : (c : PieceKind) (p : ℕ → Bool) (b : ℕ) (bs : List ℕ) → kind_begun b ≡ Some c → ((t : List ℕ) → is_piece c (b ∷ t) ≡ list_all p t) → Longest c (b ∷ bs) (suc (prefix_len p bs))
longest_run c p b bs h rule = record { within = (let w = prefix_within p bs in omega (arith, w)); is = rule (take (prefix_len p bs) bs) ∙ prefix_passes p bs; last = last }
  where
    last : (d : PieceKind) (m : ℕ) → suc (prefix_len p bs) < m → m ≤ length (b ∷ bs) → is_piece d (take m (b ∷ bs)) ≡ false
    last d zero n w = absurd (omega arith)
    last d (suc m) n w =
        false_from_ne_true _ (λ y.
        let e = same_kind b h (begins d b (take m bs) y) in
        let z : is_piece c (b ∷ take m bs) ≡ true = rw e at y in
        let i = prefix_most p bs m (omega (arith, w)) (sym (rule (take m bs)) ∙ z) in
        omega (arith, i, n))

blank_one : (b : ℕ) (bs : List ℕ) → is_blank b ≡ true → kind_begun b ≡ Some kind.Blank → Longest kind.Blank (b ∷ bs) 1
unfolding is_piece
blank_one b bs q h = record { within = omega arith; is = q; last = last }
  where
    last : (d : PieceKind) (m : ℕ) → 1 < m → m ≤ length (b ∷ bs) → is_piece d (take m (b ∷ bs)) ≡ false
    last d zero n w = absurd (omega arith)
    last d (suc zero) n w = absurd (omega arith)
    last d (suc (suc m)) n w = two bs w
      where
        two : (bs : List ℕ) → suc (suc m) ≤ length (b ∷ bs) → is_piece d (take (suc (suc m)) (b ∷ bs)) ≡ false
        two [] w = absurd (omega arith)
        two (c ∷ bs) w = false_from_ne_true _ (λ y. let e = same_kind b h (begins d b (c ∷ take m bs) y) in let z : is_piece kind.Blank (b ∷ c ∷ take m bs) ≡ true = rw e at y in cc)

-- a symbol of three bytes there is none
no_three : (b c : ℕ) (bs : List ℕ) (d : PieceKind) (m : ℕ) → kind_begun b ≡ Some kind.Symbol → 2 < m → m ≤ length (b ∷ c ∷ bs) → is_piece d (take m (b ∷ c ∷ bs)) ≡ false
unfolding is_piece
no_three b c bs d zero h n w = absurd (omega arith)
no_three b c bs d (suc zero) h n w = absurd (omega arith)
no_three b c bs d (suc (suc zero)) h n w = absurd (omega arith)
no_three b c [] d (suc (suc (suc m))) h n w = absurd (omega arith)
no_three b c (x ∷ bs) d (suc (suc (suc m))) h n w =
    false_from_ne_true _ (λ y. let e = same_kind b h (begins d b (c ∷ x ∷ take m bs) y) in let z : is_piece kind.Symbol (b ∷ c ∷ x ∷ take m bs) ≡ true = rw e at y in symbol_mark (b ∷ c ∷ x ∷ take m bs) z)

pair_longest : (b c : ℕ) (bs : List ℕ) → kind_begun b ≡ Some kind.Symbol → is_some (two_bytes b c) ≡ true → Longest kind.Symbol (b ∷ c ∷ bs) 2
unfolding is_piece
pair_longest b c bs h q = record { within = omega arith; is = q; last = λ d m n w. no_three b c bs d m h n w }

mark_longest : (b c : ℕ) (bs : List ℕ) → kind_begun b ≡ Some kind.Symbol → is_some (two_bytes b c) ≡ false → is_some (one_byte b) ≡ true → Longest kind.Symbol (b ∷ c ∷ bs) 1
unfolding is_piece
mark_longest b c bs h q o = record { within = omega arith; is = o; last = last }
  where
    last : (d : PieceKind) (m : ℕ) → 1 < m → m ≤ length (b ∷ c ∷ bs) → is_piece d (take m (b ∷ c ∷ bs)) ≡ false
    last d zero n w = absurd (omega arith)
    last d (suc zero) n w = absurd (omega arith)
    last d (suc (suc zero)) n w =
        false_from_ne_true _ (λ y. let e = same_kind b h (begins d b (c ∷ []) y) in let z : is_some (two_bytes b c) ≡ true = rw e at y in cc)
    last d (suc (suc (suc m))) n w = no_three b c bs d (suc (suc (suc m))) h (omega arith) w

last_mark : (b : ℕ) → is_some (one_byte b) ≡ true → Longest kind.Symbol (b ∷ []) 1
unfolding is_piece
last_mark b o = record { within = omega arith; is = o; last = λ d m n w. absurd (omega (arith, n, w)) }

nothing : (d : PieceKind) → is_piece d [] ≡ false
unfolding is_piece symbol_of
nothing kind.Blank = refl
nothing _ = refl

-- no piece, where none begins with the first byte
none_begins : (b : ℕ) (bs : List ℕ) → ((d : PieceKind) (t : List ℕ) → is_piece d (b ∷ t) ≡ true → ⊥) → NoPiece (b ∷ bs)
none_begins b bs h d zero w = nothing d
none_begins b bs h d (suc m) w = false_from_ne_true _ (λ y. h d (take m bs) y)

-- a byte that begins two-byte symbols alone, without the second byte
half_pair : (b c : ℕ) (bs : List ℕ) → kind_begun b ≡ Some kind.Symbol → is_some (two_bytes b c) ≡ false → is_some (one_byte b) ≡ false → NoPiece (b ∷ c ∷ bs)
unfolding is_piece
half_pair b c bs h q o d zero w = nothing d
half_pair b c bs h q o d (suc zero) w = false_from_ne_true _ (λ y. let e = same_kind b h (begins d b [] y) in let z : is_some (one_byte b) ≡ true = rw e at y in cc)
half_pair b c bs h q o d (suc (suc zero)) w = false_from_ne_true _ (λ y. let e = same_kind b h (begins d b (c ∷ []) y) in let z : is_some (two_bytes b c) ≡ true = rw e at y in cc)
half_pair b c bs h q o d (suc (suc (suc m))) w = no_three b c bs d (suc (suc (suc m))) h (omega arith) w

half_last : (b : ℕ) → kind_begun b ≡ Some kind.Symbol → is_some (one_byte b) ≡ false → NoPiece (b ∷ [])
unfolding is_piece
half_last b h o d zero w = nothing d
half_last b h o d (suc zero) w = false_from_ne_true _ (λ y. let e = same_kind b h (begins d b [] y) in let z : is_some (one_byte b) ≡ true = rw e at y in cc)
half_last b h o d (suc (suc m)) w = absurd (omega arith)

abbrev pub Cut : Option Front → List ℕ → Type 0
Cut None text = NoPiece text
Cut (Some p) text = Longest p.kind text p.len

symbol_exact : (b : ℕ) (bs : List ℕ) → kind_begun b ≡ Some kind.Symbol → Cut (symbol_front b bs) (b ∷ bs)
symbol_exact b [] h = go (is_some (one_byte b)) refl
  where
    go : (x : Bool) → is_some (one_byte b) ≡ x → Cut (symbol_front b []) (b ∷ [])
    go true e = rw e (last_mark b e)
    go false e = rw e (half_last b h e)
symbol_exact b (c ∷ bs) h = go (is_some (two_bytes b c)) refl
  where
    go : (x : Bool) → is_some (two_bytes b c) ≡ x → Cut (symbol_front b (c ∷ bs)) (b ∷ c ∷ bs)
    go true e = rw e (pair_longest b c bs h e)
    go false e = one (is_some (one_byte b)) refl
      where
        one : (x : Bool) → is_some (one_byte b) ≡ x → Cut (symbol_front b (c ∷ bs)) (b ∷ c ∷ bs)
        one true o = rw (e, o) (mark_longest b c bs h e o)
        one false o = rw (e, o) (half_pair b c bs h e o)

-- from the kind to the test of the first byte
abbrev chain : Bool → Bool → Bool → Bool → Bool → Option PieceKind
chain t₁ t₂ t₃ t₄ t₅ = cond t₁ (Some kind.Blank) (cond t₂ (Some kind.Comment) (cond t₃ (Some kind.Number) (cond t₄ (Some kind.Name) (cond t₅ (Some kind.Symbol) None))))

blank_test : (t₁ t₂ t₃ t₄ t₅ : Bool) → chain t₁ t₂ t₃ t₄ t₅ ≡ Some kind.Blank → t₁ ≡ true
blank_test true t₂ t₃ t₄ t₅ h = refl
blank_test false true t₃ t₄ t₅ h = cc
blank_test false false true t₄ t₅ h = cc
blank_test false false false true t₅ h = cc
blank_test false false false false true h = cc
blank_test false false false false false h = cc

comment_test : (t₁ t₂ t₃ t₄ t₅ : Bool) → chain t₁ t₂ t₃ t₄ t₅ ≡ Some kind.Comment → t₂ ≡ true
comment_test true t₂ t₃ t₄ t₅ h = cc
comment_test false true t₃ t₄ t₅ h = refl
comment_test false false true t₄ t₅ h = cc
comment_test false false false true t₅ h = cc
comment_test false false false false true h = cc
comment_test false false false false false h = cc

number_test : (t₁ t₂ t₃ t₄ t₅ : Bool) → chain t₁ t₂ t₃ t₄ t₅ ≡ Some kind.Number → t₃ ≡ true
number_test true t₂ t₃ t₄ t₅ h = cc
number_test false true t₃ t₄ t₅ h = cc
number_test false false true t₄ t₅ h = refl
number_test false false false true t₅ h = cc
number_test false false false false true h = cc
number_test false false false false false h = cc

name_test : (t₁ t₂ t₃ t₄ t₅ : Bool) → chain t₁ t₂ t₃ t₄ t₅ ≡ Some kind.Name → t₄ ≡ true
name_test true t₂ t₃ t₄ t₅ h = cc
name_test false true t₃ t₄ t₅ h = cc
name_test false false true t₄ t₅ h = cc
name_test false false false true t₅ h = refl
name_test false false false false true h = cc
name_test false false false false false h = cc

record First (b : ℕ) : Type 0 where
  blank : kind_begun b ≡ Some kind.Blank → is_blank b ≡ true
  comment : kind_begun b ≡ Some kind.Comment → (b == 35) ≡ true
  number : kind_begun b ≡ Some kind.Number → is_digit b ≡ true
  name : kind_begun b ≡ Some kind.Name → is_letter b ≡ true

firsts : (b : ℕ) → First b
unfolding kind_begun
firsts b =
    let s = begins_symbol b in
    record {
      blank = blank_test (is_blank b) (b == 35) (is_digit b) (is_letter b) s;
      comment = comment_test (is_blank b) (b == 35) (is_digit b) (is_letter b) s;
      number = number_test (is_blank b) (b == 35) (is_digit b) (is_letter b) s;
      name = name_test (is_blank b) (b == 35) (is_digit b) (is_letter b) s;
    }

as_kind : (q : Option PieceKind) (b : ℕ) (bs : List ℕ) → kind_begun b ≡ q → Cut (front_as q b bs) (b ∷ bs)
unfolding is_piece
as_kind None b bs h = none_begins b bs (λ d t y. let e = begins d b t y in cc)
as_kind (Some kind.Blank) b bs h = blank_one b bs ((firsts b).blank h) h
as_kind (Some kind.Comment) b bs h = longest_run kind.Comment in_comment b bs h (λ t. rw ((firsts b).comment h))
as_kind (Some kind.Number) b bs h = longest_run kind.Number is_digit b bs h (λ t. rw ((firsts b).number h))
as_kind (Some kind.Name) b bs h = longest_run kind.Name goes_on_name b bs h (λ t. rw ((firsts b).name h))
as_kind (Some kind.Symbol) b bs h = symbol_exact b bs h

no_text : NoPiece []
no_text d zero w = nothing d
no_text d (suc m) w = absurd (omega arith)

pub cut_exact : (text : List ℕ) → Cut (front_of text) text
unfolding front_of
cut_exact [] = no_text
cut_exact (b ∷ bs) = as_kind (kind_begun b) b bs refl

pub front_is : (text : List ℕ) (f : Front) → front_of text ≡ Some f → Longest f.kind text f.len
front_is text f h = rw h at (cut_exact text)

pub no_front : (text : List ℕ) → front_of text ≡ None → NoPiece text
no_front text h = rw h at (cut_exact text)

-- no piece is empty
pub some_len : (c : PieceKind) (text : List ℕ) (n : ℕ) → Longest c text n → 0 < n
some_len c text zero l = let e : is_piece c [] ≡ true = l.is in let z = nothing c in cc
some_len c text (suc n) l = omega arith
