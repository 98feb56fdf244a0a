-- What the grammar reads as an expression, the pushdown passes over.
use Rattle.std.proofs.Common.{◌≡◌, ◌≢◌, ℕ, ◌<◌, ◌≤◌, ◌∙◌, refl, ap, arith, lit<, lit≤, Bool, true, false, ◌==◌, List, [], ◌∷◌, Option, Some, None}
use Rattle.gcl_core.specs.declared.words.Word.{Word}
use Rattle.gcl_core.specs.declared.words.Word.TheVariants as w
use Rattle.gcl_core.specs.declared.tokens.Key.TheVariants as k
use Rattle.gcl_core.specs.declared.tokens.Sym.TheVariants as y
use Rattle.gcl_core.specs.declared.syntax.BinOp.{BinOp}
use Rattle.gcl_core.specs.declared.levels.Level.{Level}
use Rattle.gcl_core.specs.declared.levels.Level.TheVariants as l
use Rattle.gcl_core.specs.meaning.Syntax.{Expression}
use Rattle.gcl_core.specs.text.Grammar.{operator, leaf, IsRow, or_row, and_row, sum_row, product_row, ReadsPhrase, ReadsMore, a_leaf, in_brackets, with_sign, without_sign, a_comparison, no_comparison, with_not, without_not, a_row, no_more, one_more}
use Rattle.gcl_core.specs.text.Levels.{level_of, above}
use Rattle.gcl_parse.specs.inner.Fronts.{first}
use Rattle.gcl_parse.specs.inner.Pushdown as m
use Rattle.gcl_core.specs.text.Levels.{rank}
use Rattle.gcl_parse.specs.inner.Pushdown.{Symbol, phrase, more, take_word, run, stops, goes_on, after_operand}
use Rattle.gcl_parse.specs.inner.Parses.{operator_at}
use Rattle.gcl_core.proofs.Ranks.{same_rank}
use Rattle.gcl_parse.proofs.Steps as step

-- how tightly the operator binds that comes next, or 0
abbrev pub binding : Option BinOp → ℕ
binding None = 0
binding (Some o) = rank (level_of o)

abbrev pub word_binds : Option Word → ℕ
word_binds None = 0
word_binds (Some v) = binding (operator v)

-- no operator of this level or a tighter one comes next
pub record Ends (l : Level) (ts : List Word) : Type 0 where
  pub less : word_binds (first ts) < rank l

rank_above : {l : Level} → IsRow l → rank l < rank (above l)
rank_above or_row = lit< tt
rank_above and_row = lit< tt
rank_above sum_row = lit< tt
rank_above product_row = lit< tt

no_operator : (l : Level) (ts : List Word) → word_binds (first ts) < rank l → operator_at l (first ts) ≡ None
no_operator l [] h = refl
no_operator l (v ∷ ts) h = go (operator v) refl
  where
    go : (q : Option BinOp) → operator v ≡ q → operator_at l (Some v) ≡ None
    go None e = rw e
    go (Some o) e = test (rank (level_of o) == rank l) refl
      where
        test : (b : Bool) → (rank (level_of o) == rank l) ≡ b → operator_at l (Some v) ≡ None
        test false t = rw (e, t)
        test true t =
            let b : rank (level_of o) < rank l = rw (← ap binding e) h in
            let q = ap rank (same_rank (level_of o) l t) in
            absurd (omega (arith, b, q))

pub operator_binds : (v : Word) {o : BinOp} {l : Level} (ts : List Word) → operator v ≡ Some o → level_of o ≡ l → word_binds (first (v ∷ ts)) ≡ rank l
operator_binds v ts h k = ap binding h ∙ ap rank k

pub more_ends : {l : Level} {a e : Expression} {mid rest : List Word} → IsRow l → ReadsMore l a mid e rest → Ends l rest → Ends (above l) mid
more_ends {l} r no_more h = let a = rank_above r in record { less = omega (arith, h.less, a) }
more_ends {l} r (one_more {ts = ts} {v = v} o k q n) h = let a = rank_above r in let b = operator_binds v ts o k in record { less = omega (arith, a, b) }

pub leaf_is_not : (v u : Word) (e : Expression) → leaf v ≡ Some e → leaf u ≡ None → v ≢ u
leaf_is_not v u e h n k = let x = ap leaf k in cc

some_word : {v u : Word} → Some v ≡ Some u → v ≡ u
some_word h = cc

pub atom_first : {ts rest : List Word} {e : Expression} → ReadsPhrase l.Atom ts e rest → first ts ≢ Some (w.Sym y.Minus)
atom_first (a_leaf {v = v} {e = e} h) = λ k. leaf_is_not v (w.Sym y.Minus) e h refl (some_word k)
atom_first (in_brackets r) = λ k. cc
atom_first (a_row r q n) = elim r [ ]

-- a phrase of this level or a tighter one does not begin with `not`
pub no_not : {l : Level} {ts rest : List Word} {e : Expression} → ReadsPhrase l ts e rest → 3 < rank l → first ts ≢ Some (w.Key k.Not)
no_not (a_leaf {v = v} {e = e} h) b = λ q. leaf_is_not v (w.Key k.Not) e h refl (some_word q)
no_not (in_brackets r) b = λ k. cc
no_not (with_sign r) b = λ k. cc
no_not (without_sign r) b = no_not r (lit< tt)
no_not (a_comparison r o k q) b = no_not r (lit< tt)
no_not (no_comparison r) b = no_not r (lit< tt)
no_not (with_not r) b = absurd (omega arith)
no_not (without_not r) b = absurd (omega arith)
no_not (a_row {l = l} i r n) b = let a = rank_above i in no_not r (omega (arith, a, b))

pub ends_tighter : {l : Level} {ts : List Word} (k : Level) → rank l ≤ rank k → Ends l ts → Ends k ts
ends_tighter k h e = record { less = omega (arith, h, e.less) }

pub ends_row : {l : Level} {ts : List Word} → Ends l ts → (s : List Symbol) → run ts (more l ∷ s) ≡ run ts s
ends_row {l} {ts} e s = step.ends l ts (no_operator l ts e.less) s

mutual
  pub reads_runs : {l : Level} {ts rest : List Word} {e : Expression} → ReadsPhrase l ts e rest → Ends l rest → (s : List Symbol) → run ts (phrase l ∷ s) ≡ run rest s
  reads_runs (a_leaf {rest = rest} {v = v} {e = e} h) n s = (step.leaf_on (v ∷ rest) e h).1.runs s
  reads_runs (in_brackets r) n s = step.bracket_on refl s ∙ reads_runs r (record { less = lit< tt }) (m.sym y.RightParen ∷ s) ∙ step.sym_on refl s
  reads_runs (with_sign {ts = ts} r) n s = step.signed_on (w.Sym y.Minus ∷ ts) refl s ∙ reads_runs r n s
  reads_runs (without_sign {ts = ts} r) n s = step.signed_off ts (atom_first r) s ∙ reads_runs r (ends_tighter l.Atom (lit≤ tt) n) s
  reads_runs (a_comparison {ts = ts} {mid = mid} {v = v} r o k q) n s =
      let b = operator_binds v mid o k in
      step.begins_compare ts s ∙ reads_runs r (record { less = omega (arith, b) }) (more l.Compare ∷ s) ∙ step.goes (step.operator_is v mid o k) s ∙ reads_runs q (ends_tighter l.Sum (lit≤ tt) n) s
  reads_runs (no_comparison {ts = ts} r) n s = step.begins_compare ts s ∙ reads_runs r (ends_tighter l.Sum (lit≤ tt) n) (more l.Compare ∷ s) ∙ ends_row n s
  reads_runs (with_not {ts = ts} r) n s = step.negated_on (w.Key k.Not ∷ ts) refl s ∙ reads_runs r n s
  reads_runs (without_not {ts = ts} r) n s = step.negated_off ts (no_not r (lit< tt)) s ∙ reads_runs r (ends_tighter l.Compare (lit≤ tt) n) s
  reads_runs (a_row {l = l} {ts = ts} i r q) n s = step.row_begins i ts s ∙ reads_runs r (more_ends i q n) (more l ∷ s) ∙ more_runs i q n s

  pub more_runs : {l : Level} {a e : Expression} {ts rest : List Word} → IsRow l → ReadsMore l a ts e rest → Ends l rest → (s : List Symbol) → run ts (more l ∷ s) ≡ run rest s
  more_runs i no_more n s = ends_row n s
  more_runs {l} i (one_more {ts = ts} {v = v} o k r q) n s = step.row_goes i (step.operator_is v ts o k) s ∙ reads_runs r (more_ends i q n) (more l ∷ s) ∙ more_runs i q n s
