-- A piece is the longest at its place, where the next byte does not go on with it.
use Rattle.std.proofs.Common.{◌≡◌, ℕ, suc, refl, ap, one-add, Bool, true, false, ◌==◌, List, [], ◌∷◌, ◌++◌, length, is_some}
use Rattle.std.specs.List.{prefix_len, list_all}
use Rattle.std.proofs.lemmas.Bool.{false_from_ne_true}
use Rattle.std.proofs.lemmas.List.{append-nil}
use Rattle.gcl_core.specs.declared.tokens.PieceKind.{PieceKind}
use Rattle.gcl_core.specs.declared.tokens.PieceKind.TheVariants as kind
use Rattle.gcl_core.specs.text.Pieces.{is_digit, is_letter, goes_on_name, in_comment, is_piece, Longest}
use Rattle.gcl_lex.specs.PieceEnds.{EndsBefore}
use Rattle.gcl_lex.specs.inner.Cutting.{two_bytes, front_of, long}
use Rattle.gcl_core.proofs.Booleans.{both}
use Rattle.gcl_lex.proofs.Cuts.{symbol_mark, begins, cut_exact}

-- where all bytes of a run pass and the next does not, the run ends there
run_ends : (p : ℕ → Bool) (bs : List ℕ) → list_all p bs ≡ true → prefix_len p bs ≡ length bs
run_ends p [] h = refl
run_ends p (b ∷ bs) h = let q = both (p b) (list_all p bs) h in rw (q.0, one-add) (ap suc (run_ends p bs q.1))

run_stops : (p : ℕ → Bool) (bs : List ℕ) (x : ℕ) (rest : List ℕ) → list_all p bs ≡ true → p x ≡ false → prefix_len p (bs ++ (x ∷ rest)) ≡ length bs
run_stops p [] x rest h s = rw s
run_stops p (b ∷ bs) x rest h s = let q = both (p b) (list_all p bs) h in rw (q.0, one-add) (ap suc (run_stops p bs x rest q.1 s))

no_pair : (b x : ℕ) → (x == 61) ≡ false → is_some (two_bytes b x) ≡ false
no_pair b x h = false_from_ne_true _ (λ y. let e : x ≡ 61 = (symbol_mark (b ∷ x ∷ []) y).1 in let z : (x == 61) ≡ true = rw e in cc)

front_here : (k : PieceKind) (bs rest : List ℕ) → is_piece k bs ≡ true → EndsBefore k rest → front_of (bs ++ rest) ≡ long k (length bs)
unfolding is_piece front_of
front_here kind.Blank [] rest h s = cc
front_here kind.Blank (b ∷ []) rest h s = rw (begins kind.Blank b [] h)
front_here kind.Blank (b ∷ c ∷ bs) rest h s = cc
front_here kind.Comment [] rest h s = cc
front_here kind.Comment (b ∷ bs) [] h s = let q = both (b == 35) (list_all in_comment bs) h in rw (begins kind.Comment b bs h, append-nil bs, run_ends in_comment bs q.1)
front_here kind.Comment (b ∷ bs) (x ∷ rest) h s = let q = both (b == 35) (list_all in_comment bs) h in rw (begins kind.Comment b bs h, run_stops in_comment bs x rest q.1 s)
front_here kind.Number [] rest h s = cc
front_here kind.Number (b ∷ bs) [] h s = let q = both (is_digit b) (list_all is_digit bs) h in rw (begins kind.Number b bs h, append-nil bs, run_ends is_digit bs q.1)
front_here kind.Number (b ∷ bs) (x ∷ rest) h s = let q = both (is_digit b) (list_all is_digit bs) h in rw (begins kind.Number b bs h, run_stops is_digit bs x rest q.1 s)
front_here kind.Name [] rest h s = cc
front_here kind.Name (b ∷ bs) [] h s = let q = both (is_letter b) (list_all goes_on_name bs) h in rw (begins kind.Name b bs h, append-nil bs, run_ends goes_on_name bs q.1)
front_here kind.Name (b ∷ bs) (x ∷ rest) h s = let q = both (is_letter b) (list_all goes_on_name bs) h in rw (begins kind.Name b bs h, run_stops goes_on_name bs x rest q.1 s)
front_here kind.Symbol [] rest h s = absurd (symbol_mark [] h)
front_here kind.Symbol (b ∷ []) [] h s = rw (begins kind.Symbol b [] h, h)
front_here kind.Symbol (b ∷ []) (x ∷ rest) h s = rw (begins kind.Symbol b [] h, no_pair b x s, h)
front_here kind.Symbol (b ∷ c ∷ []) rest h s = rw (begins kind.Symbol b (c ∷ []) h, h)
front_here kind.Symbol (b ∷ c ∷ d ∷ bs) rest h s = absurd (symbol_mark (b ∷ c ∷ d ∷ bs) h)

pub longest_here : (k : PieceKind) (bs rest : List ℕ) → is_piece k bs ≡ true → EndsBefore k rest → Longest k (bs ++ rest) (length bs)
longest_here k bs rest h s = rw (front_here k bs rest h s) at (cut_exact (bs ++ rest))
