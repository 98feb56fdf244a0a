-- Single steps of the pushdown, as the parser makes them.
use Rattle.std.proofs.Common.{◌≡◌, ◌≢◌, ℕ, zero, suc, ◌<◌, ◌∙◌, refl, ap, sym, subst, arith, Bool, true, false, IsTrue, ◌==◌, List, [], ◌∷◌, ◌++◌, length, Option, Some, None, Result, Ok, Err}
use denote.Enum.Bare.{true_same, false_same}
use Rattle.gcl_core.specs.contracts.tokens.Key as reserved
use Rattle.gcl_core.specs.contracts.tokens.Sym as symbol
use Rattle.gcl_core.specs.declared.words.Word.{Word}
use Rattle.gcl_core.specs.declared.words.Word.TheVariants as w
use Rattle.gcl_core.specs.declared.tokens.Key.{Key}
use Rattle.gcl_core.specs.declared.tokens.Key.TheVariants as k
use Rattle.gcl_core.specs.declared.tokens.Sym.{Sym}
use Rattle.gcl_core.specs.declared.tokens.Sym.TheVariants as y
use Rattle.gcl_core.specs.declared.syntax.BinOp.{BinOp}
use Rattle.gcl_core.specs.declared.levels.Level.{Level}
use Rattle.gcl_core.specs.declared.levels.Level.TheVariants as l
use Rattle.gcl_parse.specs.declared.parser.Halt.{Halt}
use Rattle.gcl_core.specs.declared.syntax.Expr.{Expr}
use Rattle.gcl_core.specs.declared.syntax.Block.{Block}
use Rattle.gcl_core.specs.declared.syntax.Stmt.{Stmt}
use Rattle.gcl_parse.specs.declared.starts.Start.{Start}
use Rattle.gcl_parse.specs.declared.starts.Start.TheVariants as b'
use Rattle.gcl_core.specs.meaning.Syntax.{Expression}
use Rattle.gcl_core.specs.text.Grammar.{operator, IsRow, or_row, and_row, sum_row, product_row, ReadsPhrase, a_leaf, without_not, without_sign, an_else}
use Rattle.gcl_core.specs.text.Levels.{level_of, above}
use Rattle.gcl_core.proofs.Ranks.{same_rank}
use Rattle.gcl_parse.specs.inner.Starts.{begins_with, begun}
use Rattle.gcl_parse.specs.inner.Fronts.{first, behind, is_sym, is_key, number_at}
use Rattle.gcl_parse.specs.inner.Pushdown as m
use Rattle.gcl_core.specs.text.Levels.{rank}
use Rattle.gcl_parse.specs.inner.Pushdown.{Symbol, phrase, more, take_word, run, stops, goes_on, after_operand, arm_and_more, after_start}
use Rattle.gcl_parse.specs.inner.Parses.{operator_at, if_of, is_row, leaf_at, Passes, Fails, Parses, ParsesBlock, ParsesElse, ParsesAs, draw, start_at}

pub not_sym : (a : Sym) (v : Word) → Some v ≢ Some (w.Sym a) → is_sym a v ≡ false
not_sym a (w.Number n) h = refl
not_sym a (w.Name n) h = refl
not_sym a (w.Key b) h = refl
not_sym a (w.Sym b) h = false_same symbol.the_type tt b a (λ e. h (ap (λ x. Some (w.Sym x)) e))

pub not_key : (a : Key) (v : Word) → Some v ≢ Some (w.Key a) → is_key a v ≡ false
not_key a (w.Number n) h = refl
not_key a (w.Name n) h = refl
not_key a (w.Sym b) h = refl
not_key a (w.Key b) h = false_same reserved.the_type tt b a (λ e. h (ap (λ x. Some (w.Key x)) e))

pub row_of : (l : Level) → IsTrue (is_row l) → IsRow l
row_of l.Or h = or_row
row_of l.And h = and_row
row_of l.Not h = cc
row_of l.Compare h = cc
row_of l.Sum h = sum_row
row_of l.Product h = product_row
row_of l.Sign h = cc
row_of l.Atom h = cc

pub at_front : {v : Word} (ts : List Word) → first ts ≡ Some v → ts ≡ v ∷ behind ts
at_front [] h = cc
at_front (w ∷ ts) h = cc

-- a row begins with an operand
pub row_begins : {l : Level} → IsRow l → (ts : List Word) (s : List Symbol) → run ts (phrase l ∷ s) ≡ run ts (phrase (above l) ∷ more l ∷ s)
unfolding run take_word
row_begins or_row [] s = refl
row_begins or_row (v ∷ ts) s = refl
row_begins and_row [] s = refl
row_begins and_row (v ∷ ts) s = refl
row_begins sum_row [] s = refl
row_begins sum_row (v ∷ ts) s = refl
row_begins product_row [] s = refl
row_begins product_row (v ∷ ts) s = refl

found_of : (l : Level) (o p : BinOp) → if_of l o ≡ Some p → (o ≡ p) × ((rank (level_of o) == rank l) ≡ true)
found_of l o p h = go (rank (level_of o) == rank l) refl
  where
    go : (b : Bool) → (rank (level_of o) == rank l) ≡ b → (o ≡ p) × ((rank (level_of o) == rank l) ≡ true)
    go true e = let q : if_of l o ≡ Some o = rw e in (cc, e)
    go false e = let q : if_of l o ≡ None = rw e in cc

pub record Operator (l : Level) (ts : List Word) (o : BinOp) : Type 0 where
  pub word : Word
  pub front : ts ≡ word ∷ behind ts
  pub is : operator word ≡ Some o
  pub level : level_of o ≡ l
  pub goes : goes_on l (operator word) ≡ true

-- the operator that comes next
pub operator_here : (l : Level) (ts : List Word) (o : BinOp) → operator_at l (first ts) ≡ Some o → Operator l ts o
operator_here l [] o h = cc
operator_here l (v ∷ ts) o h = go (operator v) refl
  where
    go : (q : Option BinOp) → operator v ≡ q → Operator l (v ∷ ts) o
    go None e = let n : operator_at l (Some v) ≡ None = rw e in cc
    go (Some p) e =
        let f = found_of l p o (sym (rw e) ∙ h) in
        record { word = v; front = refl; is = e ∙ ap Some f.0; level = same_rank (level_of o) l (ap (λ x. rank (level_of x) == rank l) (sym f.0) ∙ f.1); goes = rw e f.1 }

step_at : (l : Level) (v : Word) (ts : List Word) → goes_on l (operator v) ≡ true → (s : List Symbol)
    → run (v ∷ ts) (more l ∷ s) ≡ run ts (phrase (above l) ∷ after_operand l s)
unfolding run take_word
step_at l v ts h s = rw h

after_row : {l : Level} → IsRow l → (s : List Symbol) → after_operand l s ≡ more l ∷ s
after_row or_row s = refl
after_row and_row s = refl
after_row sum_row s = refl
after_row product_row s = refl

-- a row or a comparison goes on with an operator and an operand
pub goes : {l : Level} {ts : List Word} {o : BinOp} → Operator l ts o → (s : List Symbol) → run ts (more l ∷ s) ≡ run (behind ts) (phrase (above l) ∷ after_operand l s)
goes {l} {ts} {o} q s = ap (λ x. run x (more l ∷ s)) q.front ∙ step_at l q.word (behind ts) q.goes s

pub row_goes : {l : Level} {ts : List Word} {o : BinOp} → IsRow l → Operator l ts o → (s : List Symbol) → run ts (more l ∷ s) ≡ run (behind ts) (phrase (above l) ∷ more l ∷ s)
row_goes {l} {ts} {o} r q s = goes q s ∙ ap (λ x. run (behind ts) (phrase (above l) ∷ x)) (after_row r s)

not_on : (l : Level) (v : Word) → operator_at l (Some v) ≡ None → goes_on l (operator v) ≡ false
not_on l v h = go (operator v) refl
  where
    go : (q : Option BinOp) → operator v ≡ q → goes_on l (operator v) ≡ false
    go None e = rw e
    go (Some p) e = test (rank (level_of p) == rank l) refl
      where
        test : (b : Bool) → (rank (level_of p) == rank l) ≡ b → goes_on l (operator v) ≡ false
        test false k = rw e k
        test true k = let n : operator_at l (Some v) ≡ Some p = rw (e, k) in cc

-- and ends where no operator of its level comes next
pub ends : (l : Level) (ts : List Word) → operator_at l (first ts) ≡ None → (s : List Symbol) → run ts (more l ∷ s) ≡ run ts s
unfolding run take_word
ends l [] h s = refl
ends l (v ∷ ts) h s = rw (not_on l v h)

pub begins_compare : (ts : List Word) (s : List Symbol) → run ts (phrase l.Compare ∷ s) ≡ run ts (phrase l.Sum ∷ more l.Compare ∷ s)
unfolding run take_word
begins_compare [] s = refl
begins_compare (v ∷ ts) s = refl

pub negated_on : (ts : List Word) → first ts ≡ Some (w.Key k.Not) → (s : List Symbol) → run ts (phrase l.Not ∷ s) ≡ run (behind ts) (phrase l.Not ∷ s)
unfolding run take_word
negated_on ts h s = ap (λ x. run x (phrase l.Not ∷ s)) (at_front ts h)

pub negated_off : (ts : List Word) → first ts ≢ Some (w.Key k.Not) → (s : List Symbol) → run ts (phrase l.Not ∷ s) ≡ run ts (phrase l.Compare ∷ s)
unfolding run take_word
negated_off [] h s = refl
negated_off (v ∷ ts) h s = rw (not_key k.Not v h)

pub signed_on : (ts : List Word) → first ts ≡ Some (w.Sym y.Minus) → (s : List Symbol) → run ts (phrase l.Sign ∷ s) ≡ run (behind ts) (phrase l.Sign ∷ s)
unfolding run take_word
signed_on ts h s = ap (λ x. run x (phrase l.Sign ∷ s)) (at_front ts h)

pub signed_off : (ts : List Word) → first ts ≢ Some (w.Sym y.Minus) → (s : List Symbol) → run ts (phrase l.Sign ∷ s) ≡ run ts (phrase l.Atom ∷ s)
unfolding run take_word
signed_off [] h s = refl
signed_off (v ∷ ts) h s = rw (not_sym y.Minus v h)

open_bracket : (ts : List Word) (s : List Symbol) → run (w.Sym y.LeftParen ∷ ts) (phrase l.Atom ∷ s) ≡ run ts (phrase l.Or ∷ m.sym y.RightParen ∷ s)
unfolding run take_word
open_bracket ts s = refl

pub bracket_on : {old new : List Word} → old ≡ w.Sym y.LeftParen ∷ new → (s : List Symbol) → run old (phrase l.Atom ∷ s) ≡ run new (phrase l.Or ∷ m.sym y.RightParen ∷ s)
bracket_on {old} {new} h s = ap (λ x. run x (phrase l.Atom ∷ s)) h ∙ open_bracket new s

sym_at : (a : Sym) (ts : List Word) (s : List Symbol) → run (w.Sym a ∷ ts) (m.sym a ∷ s) ≡ run ts s
unfolding run take_word
sym_at a ts s = rw (true_same symbol.the_type a a refl)

pub sym_on : {a : Sym} {old new : List Word} → old ≡ w.Sym a ∷ new → (s : List Symbol) → run old (m.sym a ∷ s) ≡ run new s
sym_on {a} {old} {new} h s = ap (λ x. run x (m.sym a ∷ s)) h ∙ sym_at a new s

pub sym_stops : (a : Sym) (ts : List Word) → first ts ≢ Some (w.Sym a) → (s : List Symbol) → run ts (m.sym a ∷ s) ≡ stops ts
unfolding run take_word
sym_stops a [] h s = refl
sym_stops a (v ∷ ts) h s = rw (not_sym a v h)

pub leaf_on : (ts : List Word) (e : Expression) → leaf_at (first ts) ≡ Some e → ReadsPhrase l.Atom ts e (behind ts) × Passes (phrase l.Atom ∷ []) ts (behind ts)
unfolding run take_word
leaf_on [] e h = cc
leaf_on (v ∷ ts) e h = (a_leaf h, record { runs = λ s. rw h })

pub atom_stops : (ts : List Word) → leaf_at (first ts) ≡ None → first ts ≢ Some (w.Sym y.LeftParen) → (s : List Symbol) → run ts (phrase l.Atom ∷ s) ≡ stops ts
unfolding run take_word
atom_stops [] n h s = refl
atom_stops (v ∷ ts) n h s = rw (n, not_sym y.LeftParen v h)

-- A refusal behind is a refusal here, where what is expected here leads to what is expected there.
pub fails_through : (xs ys : List Symbol) (old mid new : List Word) (e : Halt) → ((s : List Symbol) → (t : List Symbol) × (run old (xs ++ s) ≡ run mid (ys ++ t))) → Fails ys mid e new
    → Fails xs old e new
fails_through xs ys old mid new e leads f = record { halts = λ h s. (leads s).1 ∙ f.halts h (leads s).0 }

pub fails_at : {xs : List Symbol} {old new : List Word} {e : Halt} → ((s : List Symbol) → run old (xs ++ s) ≡ stops new) → Fails xs old e new
fails_at f = record { halts = λ h s. f s }

-- symbol by symbol
pub after : {x : Symbol} {ys : List Symbol} {old mid new : List Word} → Passes (x ∷ []) old mid → Passes ys mid new → Passes (x ∷ ys) old new
after {x} {ys} p q = record { runs = λ s. p.runs (ys ++ s) ∙ q.runs s }

pub fails_after : {x : Symbol} {ys : List Symbol} {old mid new : List Word} {e : Halt} → Passes (x ∷ []) old mid → Fails ys mid e new → Fails (x ∷ ys) old e new
fails_after {x} {ys} p f = record { halts = λ h s. p.runs (ys ++ s) ∙ f.halts h s }

pub fails_here : {x : Symbol} {ys : List Symbol} {old new : List Word} {e : Halt} → Fails (x ∷ []) old e new → Fails (x ∷ ys) old e new
fails_here {x} {ys} f = record { halts = λ h s. f.halts h (ys ++ s) }

pub shorter : (v : Word) (ts : List Word) → first ts ≡ Some v → length (behind ts) < length ts
shorter v [] h = cc
shorter v (u ∷ ts) h = grind arith

pub leaf_shorter : (ts : List Word) (e : Expression) → leaf_at (first ts) ≡ Some e → length (behind ts) < length ts
leaf_shorter [] e h = cc
leaf_shorter (u ∷ ts) e h = grind arith

pub shorter_brackets : {old a b new : List Word} {u v : Word} → old ≡ u ∷ a → length b < length a → b ≡ v ∷ new → length new < length old
shorter_brackets {old} {a} {b} {new} {u} {v} h l e = let x = ap length h in let y = ap length e in omega (arith, x, y)

pub shorter_pair : (old new : List Word) {mid a : List Word} {v : Word} → length mid < length old → mid ≡ v ∷ a → length new < length a → length new < length old
shorter_pair old new {mid} {a} {v} l h k = let x = ap length h in omega (arith, x)

pub shorter_than : (ts : List Word) (v : Word) → first ts ≡ Some v → (new : List Word) → length new < length (behind ts) → length new < length ts
shorter_than ts v h new l = let k = shorter v ts h in omega (arith, k)

pub unnegated_parses : (old : List Word) (r : Result Expr Halt) (new : List Word) → first old ≢ Some (w.Key k.Not) → Parses l.Compare old r new → Parses l.Not old r new
unnegated_parses old (Ok e) new n p = (without_not p.0, record { runs = λ s. negated_off old n s ∙ p.1.runs s }, p.2)
unnegated_parses old (Err e) new n p = fails_through (phrase l.Not ∷ []) (phrase l.Compare ∷ []) old old new e (λ s. (s, negated_off old n s)) p

pub unsigned_parses : (old : List Word) (r : Result Expr Halt) (new : List Word) → first old ≢ Some (w.Sym y.Minus) → Parses l.Atom old r new → Parses l.Sign old r new
unsigned_parses old (Ok e) new n p = (without_sign p.0, record { runs = λ s. signed_off old n s ∙ p.1.runs s }, p.2)
unsigned_parses old (Err e) new n p = fails_through (phrase l.Sign ∷ []) (phrase l.Atom ∷ []) old old new e (λ s. (s, signed_off old n s)) p

key_at : (a : Key) (ts : List Word) (s : List Symbol) → run (w.Key a ∷ ts) (m.key a ∷ s) ≡ run ts s
unfolding run take_word
key_at a ts s = rw (true_same reserved.the_type a a refl)

pub key_on : {a : Key} {old new : List Word} → old ≡ w.Key a ∷ new → (s : List Symbol) → run old (m.key a ∷ s) ≡ run new s
key_on {a} {old} {new} h s = ap (λ x. run x (m.key a ∷ s)) h ∙ key_at a new s

pub key_stops : (a : Key) (ts : List Word) → first ts ≢ Some (w.Key a) → (s : List Symbol) → run ts (m.key a ∷ s) ≡ stops ts
unfolding run take_word
key_stops a [] h s = refl
key_stops a (v ∷ ts) h s = rw (not_key a v h)

pub front_is : {v : Word} {new : List Word} (ts : List Word) → first ts ≡ Some v → new ≡ behind ts → ts ≡ v ∷ new
front_is [] h k = cc
front_is (u ∷ ts) h k = cc

pub number_on : {n : ℕ} {new : List Word} (ts : List Word) → number_at (first ts) ≡ Some n → new ≡ behind ts → (ts ≡ w.Number n ∷ new) × Passes (m.number ∷ []) ts new × (length new < length ts)
unfolding run take_word
number_on [] h k = cc
number_on (w.Number i ∷ ts) h k = (cc, record { runs = λ s. ap (λ x. run x s) (sym k) }, (let e = ap length k in omega (arith, e)))
number_on (w.Name i ∷ ts) h k = cc
number_on (w.Key i ∷ ts) h k = cc
number_on (w.Sym i ∷ ts) h k = cc

pub number_stops : (ts : List Word) → number_at (first ts) ≡ None → (s : List Symbol) → run ts (m.number ∷ s) ≡ stops ts
unfolding run take_word
number_stops [] h s = refl
number_stops (w.Number i ∷ ts) h s = cc
number_stops (w.Name i ∷ ts) h s = refl
number_stops (w.Key i ∷ ts) h s = refl
number_stops (w.Sym i ∷ ts) h s = refl

pub number_shorter : {n : ℕ} (ts : List Word) → number_at (first ts) ≡ Some n → 0 < length ts
number_shorter [] h = cc
number_shorter (v ∷ ts) h = grind arith

pub first_shorter : {v : Word} (ts : List Word) → first ts ≡ Some v → 0 < length ts
first_shorter [] h = cc
first_shorter (v ∷ ts) h = grind arith

-- in brackets
pub bracket_passes : {old mid new : List Word} → old ≡ w.Sym y.LeftParen ∷ mid → Passes (phrase l.Or ∷ m.sym y.RightParen ∷ []) mid new → Passes (phrase l.Atom ∷ []) old new
bracket_passes o p = record { runs = λ s. bracket_on o s ∙ p.runs s }

pub bracket_fails : {old mid new : List Word} {e : Halt} → old ≡ w.Sym y.LeftParen ∷ mid → Fails (phrase l.Or ∷ m.sym y.RightParen ∷ []) mid e new → Fails (phrase l.Atom ∷ []) old e new
bracket_fails o f = record { halts = λ h s. bracket_on o s ∙ f.halts h s }

-- neither a token that is an expression nor a bracket
no_leaf : (ts : List Word) → leaf_at (first ts) ≡ None → (s : List Symbol) → run ts (phrase l.Atom ∷ s) ≡ run ts (m.sym y.LeftParen ∷ phrase l.Or ∷ m.sym y.RightParen ∷ s)
unfolding run take_word
no_leaf [] h s = refl
no_leaf (v ∷ ts) h s = go (is_sym y.LeftParen v) refl
  where
    go : (b : Bool) → is_sym y.LeftParen v ≡ b → run (v ∷ ts) (phrase l.Atom ∷ s) ≡ run (v ∷ ts) (m.sym y.LeftParen ∷ phrase l.Or ∷ m.sym y.RightParen ∷ s)
    go true e = rw (h, e)
    go false e = rw (h, e)

pub no_atom : {e : Halt} {new : List Word} (ts : List Word) → leaf_at (first ts) ≡ None → Fails (m.sym y.LeftParen ∷ []) ts e new → Fails (phrase l.Atom ∷ []) ts e new
no_atom ts n f = record { halts = λ h s. no_leaf ts n s ∙ f.halts h (phrase l.Or ∷ m.sym y.RightParen ∷ s) }

pub one_less : {v : Word} {old new : List Word} → old ≡ v ∷ new → length new < length old
one_less {v} {old} {new} e = let y = ap length e in omega (arith, y)

-- the front of what follows a statement's name
pub assign_on : {old new : List Word} → old ≡ w.Sym y.Assign ∷ new → (s : List Symbol) → run old (m.target ∷ s) ≡ run new (phrase l.Or ∷ m.sym y.Semicolon ∷ s)
unfolding run take_word
assign_on {old} {new} h s = ap (λ x. run x (m.target ∷ s)) h

pub target_off : (ts : List Word) → first ts ≢ Some (w.Sym y.Assign) → (s : List Symbol)
    → run ts (m.target ∷ s) ≡ run ts (m.sym y.Tilde ∷ m.key k.Uniform ∷ m.sym y.LeftParen ∷ phrase l.Or ∷ m.sym y.RightParen ∷ m.sym y.Semicolon ∷ s)
unfolding run take_word
target_off [] h s = refl
target_off (v ∷ ts) h s = go (is_sym y.Tilde v) refl
  where
    go : (b : Bool) → is_sym y.Tilde v ≡ b
        → run (v ∷ ts) (m.target ∷ s) ≡ run (v ∷ ts) (m.sym y.Tilde ∷ m.key k.Uniform ∷ m.sym y.LeftParen ∷ phrase l.Or ∷ m.sym y.RightParen ∷ m.sym y.Semicolon ∷ s)
    go true e = rw (not_sym y.Assign v h, e)
    go false e = rw (not_sym y.Assign v h, e)

pub assign_parses : (i : ℕ) {old mid : List Word} → old ≡ w.Sym y.Assign ∷ mid → (r : Result Stmt Halt) (new : List Word)
    → ParsesAs (phrase l.Or ∷ m.sym y.Semicolon ∷ []) (w.Name i ∷ w.Sym y.Assign ∷ []) mid r new → ParsesAs (m.target ∷ []) (w.Name i ∷ []) old r new
assign_parses i {old} {mid} o (Ok x) new p = (rw o p.0, record { runs = λ s. assign_on o s ∙ p.1.runs s }, (let y = ap length o in omega (arith, y, p.2)))
assign_parses i {old} {mid} o (Err e) new p = record { halts = λ h s. assign_on o s ∙ p.halts h s }

pub draw_parses : (i : ℕ) (old : List Word) → first old ≢ Some (w.Sym y.Assign) → (r : Result Stmt Halt) (new : List Word) → ParsesAs draw (w.Name i ∷ []) old r new
    → ParsesAs (m.target ∷ []) (w.Name i ∷ []) old r new
draw_parses i old o (Ok x) new p = (p.0, record { runs = λ s. target_off old o s ∙ p.1.runs s }, p.2)
draw_parses i old o (Err e) new p = record { halts = λ h s. target_off old o s ∙ p.halts h s }

pub block_opens : (ts : List Word) (s : List Symbol) → run ts (m.block ∷ s) ≡ run ts (m.sym y.LeftBrace ∷ m.stmts ∷ m.sym y.RightBrace ∷ s)
unfolding run take_word
block_opens [] s = refl
block_opens (v ∷ ts) s = refl

abbrev pub braces : List Symbol
braces = m.sym y.LeftBrace ∷ m.stmts ∷ m.sym y.RightBrace ∷ []

pub block_passes : {old new : List Word} → Passes braces old new → Passes (m.block ∷ []) old new
block_passes {old} p = record { runs = λ s. block_opens old s ∙ p.runs s }

pub block_fails : {old new : List Word} {e : Halt} → Fails braces old e new → Fails (m.block ∷ []) old e new
block_fails {old} p = record { halts = λ h s. block_opens old s ∙ p.halts h s }

-- an `else` that is not there
no_else_runs : (ts : List Word) → first ts ≢ Some (w.Key k.Else) → (s : List Symbol) → run ts (m.otherwise ∷ s) ≡ run ts s
unfolding run take_word
no_else_runs [] h s = refl
no_else_runs (v ∷ ts) h s = rw (not_key k.Else v h)

pub no_else_passes : (ts : List Word) → first ts ≢ Some (w.Key k.Else) → Passes (m.otherwise ∷ []) ts ts
no_else_passes ts h = record { runs = no_else_runs ts h }

pub else_on : {old new : List Word} → old ≡ w.Key k.Else ∷ new → (s : List Symbol) → run old (m.otherwise ∷ s) ≡ run new (m.block ∷ s)
unfolding run take_word
else_on {old} {new} h s = ap (λ x. run x (m.otherwise ∷ s)) h

pub else_parses : {old mid : List Word} → old ≡ w.Key k.Else ∷ mid → (r : Result Block Halt) (new : List Word) → ParsesBlock mid r new → ParsesElse old r new
else_parses {old} {mid} o (Ok b) new p = (rw o (an_else p.0), record { runs = λ s. else_on o s ∙ p.1.runs s }, (let y = ap length o in omega (arith, y, p.2)))
else_parses {old} {mid} o (Err e) new p = record { halts = λ h s. else_on o s ∙ p.halts h s }

-- another arm, or the brace behind the last
pub arms_on : (n : ℕ) {old new : List Word} → old ≡ w.Sym y.Bar ∷ new → (s : List Symbol) → run old (m.arms (suc n) ∷ s) ≡ run new (arm_and_more n ++ s)
unfolding run take_word
arms_on n {old} {new} h s = ap (λ x. run x (m.arms (suc n) ∷ s)) h

pub arms_off : (n : ℕ) (ts : List Word) → ((0 < n) × (first ts ≡ Some (w.Sym y.Bar)) → ⊥) → (s : List Symbol) → run ts (m.arms n ∷ s) ≡ run ts (m.sym y.RightBrace ∷ s)
unfolding run take_word
arms_off zero [] h s = refl
arms_off zero (v ∷ ts) h s = refl
arms_off (suc n) [] h s = refl
arms_off (suc n) (v ∷ ts) h s = rw (not_sym y.Bar v (λ e. h (omega arith, e)))

-- a statement begins, or none does
stmt_at : (v : Word) (b : Start) (ts : List Word) (s : List Symbol) → begins_with v ≡ Some b → run (v ∷ ts) (m.stmts ∷ s) ≡ run ts (after_start b ++ (m.stmts ∷ s))
unfolding run take_word
stmt_at v b ts s h = rw h

pub begins_stmt : (ts new : List Word) (b : Start) → start_at (first ts) ≡ Some b → new ≡ behind ts → (s : List Symbol) → run ts (m.stmts ∷ s) ≡ run new (after_start b ++ (m.stmts ∷ s))
begins_stmt [] new b h k s = cc
begins_stmt (v ∷ ts) new b h k s = stmt_at v b ts s h ∙ ap (λ x. run x (after_start b ++ (m.stmts ∷ s))) (sym k)

pub no_more_stmts : (ts : List Word) → start_at (first ts) ≡ None → (s : List Symbol) → run ts (m.stmts ∷ s) ≡ run ts s
unfolding run take_word
no_more_stmts [] h s = refl
no_more_stmts (v ∷ ts) h s = rw h

some_is : {a b : Start} → Some a ≡ Some b → a ≡ b
some_is h = cc

pub is_begun : (v : Word) (b : Start) → begins_with v ≡ Some b → v ≡ begun b
is_begun (w.Number n) b h = cc
is_begun (w.Name i) b h = let e : Some (b'.Name i) ≡ Some b = h in subst (λ x. w.Name i ≡ begun x) (some_is e) refl
is_begun (w.Key k.Skip) b h = subst (λ x. w.Key k.Skip ≡ begun x) (some_is h) refl
is_begun (w.Key k.Observe) b h = subst (λ x. w.Key k.Observe ≡ begun x) (some_is h) refl
is_begun (w.Key k.If) b h = subst (λ x. w.Key k.If ≡ begun x) (some_is h) refl
is_begun (w.Key k.While) b h = subst (λ x. w.Key k.While ≡ begun x) (some_is h) refl
is_begun (w.Key k.Choice) b h = subst (λ x. w.Key k.Choice ≡ begun x) (some_is h) refl
is_begun (w.Key k.Choose) b h = subst (λ x. w.Key k.Choose ≡ begun x) (some_is h) refl
is_begun (w.Key _) b h = cc
is_begun (w.Sym _) b h = cc

pub front_begun : (ts new : List Word) (b : Start) → start_at (first ts) ≡ Some b → new ≡ behind ts → ts ≡ begun b ∷ new
front_begun [] new b h k = cc
front_begun (v ∷ ts) new b h k = let e = is_begun v b h in cc

pub stmt_fails : (old here : List Word) {xs : List Symbol} {mid new : List Word} {e : Halt} → ((s : List Symbol) → run old (m.stmts ∷ s) ≡ run here (m.stmts ∷ s))
    → ((s : List Symbol) → run here (m.stmts ∷ s) ≡ run mid (xs ++ (m.stmts ∷ s))) → Fails xs mid e new → Fails (m.stmts ∷ []) old e new
stmt_fails old here p q f = record { halts = λ h s. p s ∙ q s ∙ f.halts h (m.stmts ∷ s) }

rank_self : (l : Level) → (rank l == rank l) ≡ true
rank_self l.Or = refl
rank_self _ = refl

pub operator_is : (v : Word) {l : Level} {o : BinOp} (ts : List Word) → operator v ≡ Some o → level_of o ≡ l → Operator l (v ∷ ts) o
operator_is v {l} {o} ts h k = record { word = v; front = refl; is = h; level = k; goes = rw h (ap (λ x. rank x == rank l) k ∙ rank_self l) }

pub number_passes : (n : ℕ) (ts : List Word) (s : List Symbol) → run (w.Number n ∷ ts) (m.number ∷ s) ≡ run ts s
unfolding run take_word
number_passes n ts s = refl
