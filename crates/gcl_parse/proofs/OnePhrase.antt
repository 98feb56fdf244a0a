-- Words are read as at most one expression.
use Rattle.std.proofs.Common.{◌≡◌, ◌∙◌, refl, ap, sym, arith, lit<, lit≤, List, [], ◌∷◌, Some}
use Rattle.gcl_core.specs.declared.words.Word.{Word}
use Rattle.gcl_core.specs.declared.words.Word.TheVariants as w
use Rattle.gcl_core.specs.declared.tokens.Sym.TheVariants as y
use Rattle.gcl_core.specs.declared.syntax.BinOp.{BinOp}
use Rattle.gcl_core.specs.declared.levels.Level.{Level}
use Rattle.gcl_core.specs.declared.levels.Level.TheVariants as l
use Rattle.gcl_core.specs.meaning.Syntax.{Expression, Neg, Not}
use Rattle.gcl_core.specs.text.Grammar.{operator, leaf, IsRow, or_row, and_row, sum_row, product_row, ReadsPhrase, ReadsMore, a_leaf, in_brackets, with_sign, without_sign, a_comparison, no_comparison, with_not, without_not, a_row, no_more, one_more}
use Rattle.gcl_core.specs.text.Levels.{level_of, above}
use Rattle.gcl_parse.specs.inner.Fronts.{first}
use Rattle.gcl_parse.specs.inner.Pushdown.{take_word, run}
use Rattle.gcl_parse.proofs.PhrasesPass.{Ends, reads_runs, more_ends, ends_tighter, atom_first, no_not, operator_binds, word_binds}

-- what is left tells the outcome where nothing is expected
pub left_is : (a b : List Word) → run a [] ≡ run b [] → a ≡ b
unfolding run take_word
left_is [] [] h = refl
left_is [] (v ∷ b) h = cc
left_is (v ∷ a) [] h = cc
left_is (v ∷ a) (u ∷ b) h = cc

pub rest_is : {l : Level} {ts x z : List Word} {e f : Expression} → ReadsPhrase l ts e x → Ends l x → ReadsPhrase l ts f z → Ends l z → x ≡ z
rest_is {x = x} {z = z} r n q o =
    let a = reads_runs r n [] in
    let b = reads_runs q o [] in
    left_is x z (sym a ∙ b)

record Row (l : Level) (ts : List Word) (e : Expression) (rest : List Word) : Type 0 where
  left : Expression
  mid : List Word
  operand : ReadsPhrase (above l) ts left mid
  others : ReadsMore l left mid e rest

row_of : {l : Level} {ts rest : List Word} {e : Expression} → IsRow l → ReadsPhrase l ts e rest → Row l ts e rest
row_of or_row (a_row i r q) = record { left = _; mid = _; operand = r; others = q }
row_of and_row (a_row i r q) = record { left = _; mid = _; operand = r; others = q }
row_of sum_row (a_row i r q) = record { left = _; mid = _; operand = r; others = q }
row_of product_row (a_row i r q) = record { left = _; mid = _; operand = r; others = q }

head_is : {v u : Word} {a b : List Word} → v ∷ a ≡ u ∷ b → v ≡ u
head_is h = cc

pub tail_is : {v u : Word} {a b : List Word} → v ∷ a ≡ u ∷ b → a ≡ b
tail_is h = cc

same_operator : {v u : Word} {o p : BinOp} → v ≡ u → operator v ≡ Some o → operator u ≡ Some p → o ≡ p
same_operator {v} {u} {o} {p} h a b = let e = ap operator h in let s : Some o ≡ Some p = sym a ∙ e ∙ b in cc

leaf_no_bracket : {e : Expression} → leaf (w.Sym y.LeftParen) ≡ Some e → ⊥
leaf_no_bracket h = cc

-- an operand of a comparison ends before its operator
sum_ends : {v : Word} {o : BinOp} {mid : List Word} → operator v ≡ Some o → level_of o ≡ l.Compare → Ends l.Sum (v ∷ mid)
sum_ends {v} {o} {mid} h k = let b = operator_binds v mid h k in record { less = omega (arith, b) }

no_compare : {v : Word} {o : BinOp} {mid : List Word} (rest : List Word) → operator v ≡ Some o → level_of o ≡ l.Compare → v ∷ mid ≡ rest → Ends l.Compare rest → ⊥
no_compare {v} {o} {mid} rest h k e n =
    let b = operator_binds v mid h k in
    let f = ap (λ x. word_binds (first x)) e in
    omega (arith, b, f, n.less)

no_row : {l : Level} {v : Word} {o : BinOp} {ts : List Word} → operator v ≡ Some o → level_of o ≡ l → Ends l (v ∷ ts) → ⊥
no_row {l} {v} {o} {ts} h k n = let b = operator_binds v ts h k in omega (arith, b, n.less)

mutual
  pub unique : {l : Level} {ts x : List Word} {e : Expression} → ReadsPhrase l ts e x → Ends l x → {z : List Word} {f : Expression} → ReadsPhrase l ts f z → Ends l z → e ≡ f
  unique (a_leaf h) n (a_leaf k) o = (let s = sym h ∙ k in cc)
  unique (a_leaf h) n (in_brackets q) o = absurd (leaf_no_bracket h)
  unique (a_leaf h) n (a_row i q t) o = elim i [ ]
  unique (in_brackets r) n (a_leaf k) o = absurd (leaf_no_bracket k)
  unique (in_brackets r) n (in_brackets q) o = unique r (record { less = lit< tt }) q (record { less = lit< tt })
  unique (in_brackets r) n (a_row i q t) o = elim i [ ]
  unique (with_sign r) n (with_sign q) o = ap Neg (unique r n q o)
  unique (with_sign r) n (without_sign q) o = absurd (atom_first q refl)
  unique (with_sign r) n (a_row i q t) o = elim i [ ]
  unique (without_sign r) n (with_sign q) o = absurd (atom_first r refl)
  unique (without_sign r) n (without_sign q) o = unique r (ends_tighter l.Atom (lit≤ tt) n) q (ends_tighter l.Atom (lit≤ tt) o)
  unique (without_sign r) n (a_row i q t) o = elim i [ ]
  unique (with_not r) n (with_not q) o = ap Not (unique r n q o)
  unique (with_not r) n (without_not q) o = absurd (no_not q (lit< tt) refl)
  unique (with_not r) n (a_row i q t) o = elim i [ ]
  unique (without_not r) n (with_not q) o = absurd (no_not r (lit< tt) refl)
  unique (without_not r) n (without_not q) o = unique r (ends_tighter l.Compare (lit≤ tt) n) q (ends_tighter l.Compare (lit≤ tt) o)
  unique (without_not r) n (a_row i q t) o = elim i [ ]
  unique (a_comparison {b = b} r h k s) n (a_comparison {b = d} q j i t) o =
      let fronts = rest_is r (sum_ends h k) q (sum_ends j i) in
      let left = unique r (sum_ends h k) q (sum_ends j i) in
      let mids = tail_is fronts in
      let ops = same_operator (head_is fronts) h j in
      let right : b ≡ d = unique s (ends_tighter l.Sum (lit≤ tt) n) (rw (← mids) at t) (ends_tighter l.Sum (lit≤ tt) o) in
      cc
  unique (a_comparison r h k s) n (no_comparison {rest = rest} q) o = absurd (no_compare rest h k (rest_is r (sum_ends h k) q (ends_tighter l.Sum (lit≤ tt) o)) o)
  unique (a_comparison r h k s) n (a_row i q t) o = elim i [ ]
  unique (no_comparison {rest = rest} r) n (a_comparison q j i t) o = absurd (no_compare rest j i (rest_is q (sum_ends j i) r (ends_tighter l.Sum (lit≤ tt) n)) n)
  unique (no_comparison r) n (no_comparison q) o = unique r (ends_tighter l.Sum (lit≤ tt) n) q (ends_tighter l.Sum (lit≤ tt) o)
  unique (no_comparison r) n (a_row i q t) o = elim i [ ]
  unique (a_row i r s) n q o =
      let p = row_of i q in
      let mids = rest_is r (more_ends i s n) p.operand (more_ends i p.others o) in
      let left = unique r (more_ends i s n) p.operand (more_ends i p.others o) in
      more_unique i s n (rw (left, mids) p.others) o

  pub more_unique : {l : Level} {a e : Expression} {ts x : List Word} → IsRow l → ReadsMore l a ts e x → Ends l x → {z : List Word} {f : Expression} → ReadsMore l a ts f z → Ends l z → e ≡ f
  more_unique i no_more n no_more o = refl
  more_unique i no_more n (one_more h k q t) o = absurd (no_row h k n)
  more_unique i (one_more h k r s) n no_more o = absurd (no_row h k o)
  more_unique i (one_more h k r s) n (one_more j g q t) o =
      let ops = same_operator refl h j in
      let mids = rest_is r (more_ends i s n) q (more_ends i t o) in
      let right = unique r (more_ends i s n) q (more_ends i t o) in
      more_unique i s n (rw (← ops, ← right, ← mids) at t) o
