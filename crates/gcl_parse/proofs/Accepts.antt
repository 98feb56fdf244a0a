-- What the pushdown accepts, the grammar reads.
use Rattle.std.proofs.Common.{◌≡◌, ◌≢◌, ℕ, zero, suc, refl, ap, Bool, true, false, cond, List, [], ◌∷◌, ◌++◌, Option, Some, None, ◌⊎◌, inl, inr}
use denote.Enum.Bare.{same_true}
use Rattle.gcl_core.specs.contracts.tokens.Key as reserved
use Rattle.gcl_core.specs.contracts.tokens.Sym as symbol
use Rattle.gcl_core.specs.declared.words.Word.{Word}
use Rattle.gcl_core.specs.declared.words.Word.TheVariants as w
use Rattle.gcl_core.specs.declared.tokens.Key.{Key}
use Rattle.gcl_core.specs.declared.tokens.Key.TheVariants as k
use Rattle.gcl_core.specs.declared.tokens.Sym.{Sym}
use Rattle.gcl_core.specs.declared.tokens.Sym.TheVariants as y
use Rattle.gcl_parse.specs.declared.starts.Start.{Start}
use Rattle.gcl_parse.specs.declared.starts.Start.TheVariants as b
use Rattle.gcl_core.specs.declared.syntax.BinOp.{BinOp}
use Rattle.gcl_core.specs.declared.syntax.BinOp.TheVariants as o
use Rattle.gcl_core.specs.declared.levels.Level.{Level}
use Rattle.gcl_core.specs.declared.levels.Level.TheVariants as l
use Rattle.gcl_core.specs.meaning.Syntax.{Expression, Bin, Neg, Not, Statement, Statements, Skip, Set, Uniform, Observe, If, While, Choice, Choose, done, ◌▸◌, ArmList, no_arm, arm}
use Rattle.gcl_core.specs.text.Grammar as g
use Rattle.gcl_core.specs.text.Grammar.{operator, leaf, IsRow, or_row, and_row, sum_row, product_row, ReadsPhrase, ReadsMore, ReadsStatement, ReadsStatements, ReadsBlock, ReadsElse, ReadsArms, ReadsProgram, written_weight}
use Rattle.gcl_core.specs.text.Levels.{level_of, above}
use Rattle.gcl_parse.specs.inner.Starts.{begins_with, begun}
use Rattle.gcl_parse.specs.inner.Fronts.{is_sym, is_key}
use Rattle.gcl_parse.specs.inner.Pushdown as m
use Rattle.gcl_parse.specs.inner.Pushdown.{Symbol, phrase, more, take_word, run, stops, accepts, goes_on, at_atom, at_sign, at_not, at_phrase, after_start, after_operand, arm_and_more, may_end, a_program}
use Rattle.gcl_core.proofs.Ranks.{same_rank}
use Rattle.gcl_parse.proofs.Steps as step

-- The tokens read for one symbol: for each expression that stands before, where it goes on with one.
data Compared (a : Expression) : List Word → Expression → List Word → Type 0 where
  alone : {ts : List Word} → Compared a ts a ts
  against : {ts rest : List Word} {v : Word} {o : BinOp} {z : Expression} → operator v ≡ Some o → level_of o ≡ l.Compare → ReadsPhrase l.Sum ts z rest → Compared a (v ∷ ts) (Bin o a z) rest

-- the words behind the block of an arm, up to the brace behind the last
data Others : ℕ → List Word → ArmList → List Word → Type 0 where
  no_other : {n : ℕ} {rest : List Word} → Others n (w.Sym y.RightBrace ∷ rest) no_arm rest
  another : {n i : ℕ} {ts mid rest : List Word} {b : Statements} {arms : ArmList} → ReadsBlock ts b mid → Others n mid arms rest
      → Others (suc n) (w.Sym y.Bar ∷ w.Number i ∷ w.Sym y.Colon ∷ ts) (arm i b arms) rest

abbrev One : Symbol → List Word → List Word → Type 0
One (phrase l) ts rest = (e : Expression) × ReadsPhrase l ts e rest
One (more l.Compare) ts rest = (a : Expression) → (e : Expression) × Compared a ts e rest
One (more l) ts rest = (a : Expression) → (e : Expression) × ReadsMore l a ts e rest
One (m.sym a) ts rest = ts ≡ w.Sym a ∷ rest
One (m.key a) ts rest = ts ≡ w.Key a ∷ rest
One m.number ts rest = (n : ℕ) × (ts ≡ w.Number n ∷ rest)
One m.stmts ts rest = (xs : Statements) × ReadsStatements ts xs rest
One m.target ts rest = (i : ℕ) → (x : Statement) × ReadsStatement (w.Name i ∷ ts) x rest
One m.block ts rest = (xs : Statements) × ReadsBlock ts xs rest
One m.otherwise ts rest = (xs : Statements) × ReadsElse ts xs rest
One (m.arms n) ts rest = (arms : ArmList) × Others n ts arms rest

data All : List Symbol → List Word → Type 0 where
  nil : All [] []
  cons : {x : Symbol} {s : List Symbol} {ts mid : List Word} → One x ts mid → All s mid → All (x ∷ s) ts

-- a row is an operand and the rest
row_all : {l : Level} {s : List Symbol} {ts : List Word} → IsRow l → All (phrase (above l) ∷ more l ∷ s) ts → All (phrase l ∷ s) ts
row_all or_row (cons (a, r) (cons f p)) = cons ((f a).0, g.a_row or_row r (f a).1) p
row_all and_row (cons (a, r) (cons f p)) = cons ((f a).0, g.a_row and_row r (f a).1) p
row_all sum_row (cons (a, r) (cons f p)) = cons ((f a).0, g.a_row sum_row r (f a).1) p
row_all product_row (cons (a, r) (cons f p)) = cons ((f a).0, g.a_row product_row r (f a).1) p

compared_reads : {a e : Expression} {ts mid rest : List Word} → ReadsPhrase l.Sum ts a mid → Compared a mid e rest → ReadsPhrase l.Compare ts e rest
compared_reads r alone = g.no_comparison r
compared_reads r (against o k q) = g.a_comparison r o k q

compare_all : {s : List Symbol} {ts : List Word} → All (phrase l.Sum ∷ more l.Compare ∷ s) ts → All (phrase l.Compare ∷ s) ts
compare_all (cons (a, r) (cons f p)) = cons ((f a).0, compared_reads r (f a).1) p

unsigned_all : {s : List Symbol} {ts : List Word} → All (phrase l.Atom ∷ s) ts → All (phrase l.Sign ∷ s) ts
unsigned_all (cons (a, r) p) = cons (a, g.without_sign r) p

unnegated_all : {s : List Symbol} {ts : List Word} → All (phrase l.Compare ∷ s) ts → All (phrase l.Not ∷ s) ts
unnegated_all (cons (a, r) p) = cons (a, g.without_not r) p

signed_all : {s : List Symbol} {ts : List Word} → All (phrase l.Sign ∷ s) ts → All (phrase l.Sign ∷ s) (w.Sym y.Minus ∷ ts)
signed_all (cons (a, r) p) = cons (Neg a, g.with_sign r) p

negated_all : {s : List Symbol} {ts : List Word} → All (phrase l.Not ∷ s) ts → All (phrase l.Not ∷ s) (w.Key k.Not ∷ ts)
negated_all (cons (a, r) p) = cons (Not a, g.with_not r) p

brackets_all : {s : List Symbol} {ts : List Word} → All (phrase l.Or ∷ m.sym y.RightParen ∷ s) ts → All (phrase l.Atom ∷ s) (w.Sym y.LeftParen ∷ ts)
brackets_all (cons (a, r) (cons h p)) = cons (a, g.in_brackets (rw h at r)) p

-- two codes that are equal are of one token
is_this_sym : (a : Sym) (v : Word) → is_sym a v ≡ true → v ≡ w.Sym a
is_this_sym a (w.Number n) h = cc
is_this_sym a (w.Name n) h = cc
is_this_sym a (w.Key n) h = cc
is_this_sym a (w.Sym c) h = ap w.Sym (same_true symbol.the_type tt c a h)

is_this_key : (a : Key) (v : Word) → is_key a v ≡ true → v ≡ w.Key a
is_this_key a (w.Number n) h = cc
is_this_key a (w.Name n) h = cc
is_this_key a (w.Sym n) h = cc
is_this_key a (w.Key c) h = ap w.Key (same_true reserved.the_type tt c a h)

abbrev Took : Option (List Symbol) → List Word → Type 0
Took None ts = ⊥
Took (Some t) ts = All t ts

-- what an `if` took
if_took : (c : Bool) (x z : Option (List Symbol)) (ts : List Word) → Took (cond c x z) ts → ((c ≡ true) × Took x ts) ⊎ ((c ≡ false) × Took z ts)
if_took true x z ts h = inl (refl, h)
if_took false x z ts h = inr (refl, h)

atom_took : (v : Word) (s : List Symbol) (ts : List Word) → Took (at_atom v s) ts → All (phrase l.Atom ∷ s) (v ∷ ts)
atom_took v s ts h = go (leaf v) refl
  where
    go : (q : Option Expression) → leaf v ≡ q → All (phrase l.Atom ∷ s) (v ∷ ts)
    go (Some e) q = cons (e, g.a_leaf q) (rw q at h)
    go None q =
        let c = if_took (is_sym y.LeftParen v) _ _ ts (rw q at h) in
        elim c [ inl t ↦ (rw (is_this_sym y.LeftParen v t.0) (brackets_all t.1)) | inr f ↦ absurd f.1 ]

sign_took : (v : Word) (s : List Symbol) (ts : List Word) → Took (at_sign v s) ts → All (phrase l.Sign ∷ s) (v ∷ ts)
sign_took v s ts h =
    elim (if_took (is_sym y.Minus v) _ _ ts h) [ inl t ↦ (rw (is_this_sym y.Minus v t.0) (signed_all t.1)) | inr f ↦ unsigned_all (atom_took v s ts f.1) ]

compare_took : (v : Word) (s : List Symbol) (ts : List Word) → Took (at_phrase l.Compare v s) ts → All (phrase l.Compare ∷ s) (v ∷ ts)
compare_took v s ts h = compare_all (row_all sum_row (row_all product_row (sign_took v _ ts h)))

not_took : (v : Word) (s : List Symbol) (ts : List Word) → Took (at_not v s) ts → All (phrase l.Not ∷ s) (v ∷ ts)
not_took v s ts h =
    elim (if_took (is_key k.Not v) _ _ ts h) [ inl t ↦ (rw (is_this_key k.Not v t.0) (negated_all t.1)) | inr f ↦ unnegated_all (compare_took v s ts f.1) ]

phrase_took : (l : Level) (v : Word) (s : List Symbol) (ts : List Word) → Took (at_phrase l v s) ts → All (phrase l ∷ s) (v ∷ ts)
phrase_took l.Or v s ts h = row_all or_row (row_all and_row (not_took v _ ts h))
phrase_took l.And v s ts h = row_all and_row (not_took v _ ts h)
phrase_took l.Not v s ts h = not_took v s ts h
phrase_took l.Compare v s ts h = compare_took v s ts h
phrase_took l.Sum v s ts h = row_all sum_row (row_all product_row (sign_took v _ ts h))
phrase_took l.Product v s ts h = row_all product_row (sign_took v _ ts h)
phrase_took l.Sign v s ts h = sign_took v s ts h
phrase_took l.Atom v s ts h = atom_took v s ts h

-- the rest of a row or of a comparison
goes_to : (l : Level) (v : Word) → goes_on l (operator v) ≡ true → (o : BinOp) × (operator v ≡ Some o) × (level_of o ≡ l)
goes_to l v h = go (operator v) refl
  where
    go : (q : Option BinOp) → operator v ≡ q → (o : BinOp) × (operator v ≡ Some o) × (level_of o ≡ l)
    go None e = let n : goes_on l (operator v) ≡ false = rw e in cc
    go (Some o) e = (o, e, same_rank (level_of o) l (rw e at h))

row_goes_all : {l : Level} {v : Word} {o : BinOp} {s : List Symbol} {ts : List Word} → IsRow l → operator v ≡ Some o → level_of o ≡ l → All (phrase (above l) ∷ more l ∷ s) ts
    → All (more l ∷ s) (v ∷ ts)
row_goes_all {o = o} or_row h k (cons (z, r) (cons f p)) = cons (λ a. ((f (Bin o a z)).0, g.one_more h k r (f (Bin o a z)).1)) p
row_goes_all {o = o} and_row h k (cons (z, r) (cons f p)) = cons (λ a. ((f (Bin o a z)).0, g.one_more h k r (f (Bin o a z)).1)) p
row_goes_all {o = o} sum_row h k (cons (z, r) (cons f p)) = cons (λ a. ((f (Bin o a z)).0, g.one_more h k r (f (Bin o a z)).1)) p
row_goes_all {o = o} product_row h k (cons (z, r) (cons f p)) = cons (λ a. ((f (Bin o a z)).0, g.one_more h k r (f (Bin o a z)).1)) p

against_all : {v : Word} {o : BinOp} {s : List Symbol} {ts : List Word} → operator v ≡ Some o → level_of o ≡ l.Compare → All (phrase l.Sum ∷ s) ts → All (more l.Compare ∷ s) (v ∷ ts)
against_all {o = o} h k (cons (z, r) p) = cons (λ a. (Bin o a z, against h k r)) p

no_operator_not : (o : BinOp) → level_of o ≢ l.Not
no_operator_not o.Or = λ q. cc
no_operator_not _ = λ q. cc

no_operator_sign : (o : BinOp) → level_of o ≢ l.Sign
no_operator_sign o.Or = λ q. cc
no_operator_sign _ = λ q. cc

no_operator_atom : (o : BinOp) → level_of o ≢ l.Atom
no_operator_atom o.Or = λ q. cc
no_operator_atom _ = λ q. cc

goes_all : (l : Level) (v : Word) (o : BinOp) (s : List Symbol) (ts : List Word) → operator v ≡ Some o → level_of o ≡ l → All (phrase (above l) ∷ after_operand l s) ts → All (more l ∷ s) (v ∷ ts)
goes_all l.Or v o s ts h k p = row_goes_all or_row h k p
goes_all l.And v o s ts h k p = row_goes_all and_row h k p
goes_all l.Sum v o s ts h k p = row_goes_all sum_row h k p
goes_all l.Product v o s ts h k p = row_goes_all product_row h k p
goes_all l.Compare v o s ts h k p = against_all h k p
goes_all l.Not v o s ts h k p = absurd (no_operator_not o k)
goes_all l.Sign v o s ts h k p = absurd (no_operator_sign o k)
goes_all l.Atom v o s ts h k p = absurd (no_operator_atom o k)

ends_all : (l : Level) {s : List Symbol} {ts : List Word} → All s ts → All (more l ∷ s) ts
ends_all l.Compare p = cons (λ a. (a, alone)) p
ends_all l.Or p = cons (λ a. (a, g.no_more)) p
ends_all _ p = cons (λ a. (a, g.no_more)) p

more_took : (l : Level) (v : Word) (s : List Symbol) (ts : List Word) → (Took (take_word v s) ts → All s (v ∷ ts)) → Took (take_word v (more l ∷ s)) ts → All (more l ∷ s) (v ∷ ts)
unfolding take_word
more_took l v s ts ih h =
    elim (if_took (goes_on l (operator v)) _ _ ts h) [ inl t ↦ (let q = goes_to l v t.0 in goes_all l v q.0 s ts q.1 q.2 t.1) | inr f ↦ ends_all l (ih f.1) ]

arms_read : {n i : ℕ} {ts mid rest : List Word} {b : Statements} {arms : ArmList} → ReadsBlock ts b mid → Others n mid arms rest
    → ReadsArms (suc n) (w.Number i ∷ w.Sym y.Colon ∷ ts) (arm i b arms) (w.Sym y.RightBrace ∷ rest)
arms_read r no_other = g.last_arm r
arms_read r (another q others) = g.one_more_arm r (arms_read q others)

arms_behind : {n i : ℕ} {old then ts mid rest : List Word} {b : Statements} {arms : ArmList} → old ≡ w.Number i ∷ then → then ≡ w.Sym y.Colon ∷ ts → ReadsBlock ts b mid → Others n mid arms rest
    → ReadsArms (suc n) old (arm i b arms) (w.Sym y.RightBrace ∷ rest)
arms_behind h h2 r others = rw (h, h2) (arms_read r others)

begun_all : (b : Start) {s : List Symbol} {ts : List Word} → All (after_start b ++ (m.stmts ∷ s)) ts → All (m.stmts ∷ s) (begun b ∷ ts)
begun_all b.Skip (cons h (cons (xs, q) p)) = cons (Skip ▸ xs, g.a_statement (rw h g.a_skip) q) p
begun_all b.Observe (cons (e, r) (cons h (cons (xs, q) p))) = cons (Observe e ▸ xs, g.a_statement (g.an_observation (rw h at r)) q) p
begun_all b.If (cons (e, r) (cons (x, a) (cons (z, c) (cons (xs, q) p)))) = cons (If e x z ▸ xs, g.a_statement (g.an_if r a c) q) p
begun_all b.While (cons (e, r) (cons (x, a) (cons (xs, q) p))) = cons (While e x ▸ xs, g.a_statement (g.a_while r a) q) p
begun_all b.Choice (cons (n, h) (cons h2 (cons (d, h3) (cons (x, a) (cons h4 (cons (z, c) (cons (xs, q) p))))))) =
    cons (Choice (written_weight n d) x z ▸ xs, g.a_statement (rw (h, h2, h3) (g.a_choice (rw h4 at a) c)) q) p
begun_all b.Choose (cons h (cons (n, h2) (cons h3 (cons (x, a) (cons h4 (cons (i, h5) (cons h6 (cons (z, c) (cons (arms, others) (cons (xs, q) p)))))))))) =
    cons (Choose (arm n x (arm i z arms)) ▸ xs, g.a_statement (rw (h, h2, h3) (g.a_choose (rw h4 at a) (arms_behind h5 h6 c others))) q) p
begun_all (b.Name i) (cons f (cons (xs, q) p)) = cons ((f i).0 ▸ xs, g.a_statement (f i).1 q) p

stmts_took : (v : Word) (s : List Symbol) (ts : List Word) → (Took (take_word v s) ts → All s (v ∷ ts)) → Took (take_word v (m.stmts ∷ s)) ts → All (m.stmts ∷ s) (v ∷ ts)
unfolding take_word
stmts_took v s ts ih h = go (begins_with v) refl
  where
    go : (q : Option Start) → begins_with v ≡ q → All (m.stmts ∷ s) (v ∷ ts)
    go (Some b) e = rw (step.is_begun v b e) (begun_all b (rw e at h))
    go None e = cons (done, g.no_statement) (ih (rw e at h))

assign_all : {s : List Symbol} {ts : List Word} → All (phrase l.Or ∷ m.sym y.Semicolon ∷ s) ts → All (m.target ∷ s) (w.Sym y.Assign ∷ ts)
assign_all (cons (e, r) (cons h p)) = cons (λ i. (Set i e, g.an_assignment (rw h at r))) p

draw_all : {s : List Symbol} {ts : List Word} → All (m.key k.Uniform ∷ m.sym y.LeftParen ∷ phrase l.Or ∷ m.sym y.RightParen ∷ m.sym y.Semicolon ∷ s) ts
    → All (m.target ∷ s) (w.Sym y.Tilde ∷ ts)
draw_all (cons h (cons h2 (cons (e, r) (cons h3 (cons h4 p))))) = cons (λ i. (Uniform i e, rw (h, h2) (g.a_uniform (rw (h3, h4) at r)))) p

target_took : (v : Word) (s : List Symbol) (ts : List Word) → Took (m.at_target v s) ts → All (m.target ∷ s) (v ∷ ts)
target_took v s ts h =
    elim (if_took (is_sym y.Assign v) _ _ ts h) [
      | inl t ↦ (rw (is_this_sym y.Assign v t.0) (assign_all t.1))
      | inr f ↦ (elim (if_took (is_sym y.Tilde v) _ _ ts f.1) [ inl t ↦ (rw (is_this_sym y.Tilde v t.0) (draw_all t.1)) | inr n ↦ absurd n.1 ])
    ]

block_all : {s : List Symbol} {ts : List Word} → All (m.stmts ∷ m.sym y.RightBrace ∷ s) ts → All (m.block ∷ s) (w.Sym y.LeftBrace ∷ ts)
block_all (cons (xs, r) (cons h p)) = cons (xs, g.in_braces (rw h at r)) p

else_all : {s : List Symbol} {ts : List Word} → All (m.block ∷ s) ts → All (m.otherwise ∷ s) (w.Key k.Else ∷ ts)
else_all (cons (xs, r) p) = cons (xs, g.an_else r) p

number_took : (v : Word) (s : List Symbol) (ts : List Word) → Took (m.at_number v s) ts → All (m.number ∷ s) (v ∷ ts)
number_took (w.Number n) s ts h = cons (n, refl) h
number_took (w.Name n) s ts h = absurd h
number_took (w.Key n) s ts h = absurd h
number_took (w.Sym n) s ts h = absurd h

another_all : {n : ℕ} {s : List Symbol} {ts : List Word} → All (arm_and_more n ++ s) ts → All (m.arms (suc n) ∷ s) (w.Sym y.Bar ∷ ts)
another_all (cons (i, h) (cons h2 (cons (x, a) (cons (arms, others) p)))) = cons (arm i x arms, rw (h, h2) (another a others)) p

brace_all : {n : ℕ} {s : List Symbol} {ts : List Word} → All s ts → All (m.arms n ∷ s) (w.Sym y.RightBrace ∷ ts)
brace_all p = cons (no_arm, no_other) p

no_other_all : {n : ℕ} (v : Word) (s : List Symbol) (ts : List Word) → Took (cond (is_sym y.RightBrace v) (Some s) None) ts → All (m.arms n ∷ s) (v ∷ ts)
no_other_all v s ts h = elim (if_took (is_sym y.RightBrace v) _ _ ts h) [ inl t ↦ (rw (is_this_sym y.RightBrace v t.0) (brace_all t.1)) | inr f ↦ absurd f.1 ]

arms_took : (n : ℕ) (v : Word) (s : List Symbol) (ts : List Word) → Took (m.at_arms n v s) ts → All (m.arms n ∷ s) (v ∷ ts)
arms_took zero v s ts h = no_other_all v s ts h
arms_took (suc n) v s ts h = elim (if_took (is_sym y.Bar v) _ _ ts h) [ inl t ↦ (rw (is_this_sym y.Bar v t.0) (another_all t.1)) | inr f ↦ no_other_all v s ts f.1 ]

-- what one token leaves, behind that token
took : (s : List Symbol) (v : Word) (ts : List Word) → Took (take_word v s) ts → All s (v ∷ ts)
unfolding take_word
took [] v ts h = absurd h
took (phrase l ∷ s) v ts h = phrase_took l v s ts h
took (more l ∷ s) v ts h = more_took l v s ts (took s v ts) h
took (m.sym a ∷ s) v ts h = elim (if_took (is_sym a v) _ _ ts h) [ inl t ↦ cons (ap (λ x. x ∷ ts) (is_this_sym a v t.0)) t.1 | inr f ↦ absurd f.1 ]
took (m.key a ∷ s) v ts h = elim (if_took (is_key a v) _ _ ts h) [ inl t ↦ cons (ap (λ x. x ∷ ts) (is_this_key a v t.0)) t.1 | inr f ↦ absurd f.1 ]
took (m.number ∷ s) v ts h = number_took v s ts h
took (m.stmts ∷ s) v ts h = stmts_took v s ts (took s v ts) h
took (m.target ∷ s) v ts h = target_took v s ts h
took (m.block ∷ s) v ts h = elim (if_took (is_sym y.LeftBrace v) _ _ ts h) [ inl t ↦ (rw (is_this_sym y.LeftBrace v t.0) (block_all t.1)) | inr f ↦ absurd f.1 ]
took (m.otherwise ∷ s) v ts h =
    elim (if_took (is_key k.Else v) _ _ ts h) [ inl t ↦ (rw (is_this_key k.Else v t.0) (else_all t.1)) | inr f ↦ cons (done, g.no_else) (took s v ts f.1) ]
took (m.arms n ∷ s) v ts h = arms_took n v s ts h

nothing_more : (s : List Symbol) → may_end s ≡ true → All s []
nothing_more [] h = nil
nothing_more (phrase l ∷ s) h = cc
nothing_more (more l ∷ s) h = ends_all l (nothing_more s h)
nothing_more (m.sym a ∷ s) h = cc
nothing_more (m.key a ∷ s) h = cc
nothing_more (m.number ∷ s) h = cc
nothing_more (m.stmts ∷ s) h = cons (done, g.no_statement) (nothing_more s h)
nothing_more (m.target ∷ s) h = cc
nothing_more (m.block ∷ s) h = cc
nothing_more (m.otherwise ∷ s) h = cons (done, g.no_else) (nothing_more s h)
nothing_more (m.arms n ∷ s) h = cc

ended_well : (b : Bool) → m.ended b ≡ accepts → b ≡ true
ended_well true h = refl
ended_well false h = cc

accepted : (ts : List Word) (s : List Symbol) → run ts s ≡ accepts → All s ts
unfolding run
accepted [] s h = nothing_more s (ended_well (may_end s) h)
accepted (v ∷ ts) s h = go (take_word v s) refl (accepted ts)
  where
    go : (q : Option (List Symbol)) → take_word v s ≡ q → ((t : List Symbol) → run ts t ≡ accepts → All t ts) → All s (v ∷ ts)
    go None e ih = let n : run (v ∷ ts) s ≡ stops (v ∷ ts) = rw e in cc
    go (Some t) e ih = took s v ts (rw e (ih t (rw e at h)))

program_all : {ts : List Word} → All a_program ts → (body : Statements) × (e : Expression) × ReadsProgram ts body e []
program_all (cons (xs, q) (cons h (cons (e, r) (cons h2 nil)))) = (xs, e, record { middle = _; statements = rw h at q; last = rw h2 at r })

-- what the pushdown accepts is a program
pub accepted_program : (ts : List Word) → run ts a_program ≡ accepts → (body : Statements) × (e : Expression) × ReadsProgram ts body e []
accepted_program ts h = program_all (accepted ts a_program h)
