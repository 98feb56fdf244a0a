-- What the grammar reads as statements or a program, the pushdown passes over.
use Rattle.std.proofs.Common.{◌≡◌, ◌≢◌, ◌∙◌, ℕ, zero, suc, refl, ap, arith, lit<, List, [], ◌∷◌, ◌++◌, Some, None}
use Rattle.gcl_core.specs.declared.words.Word.{Word}
use Rattle.gcl_core.specs.declared.words.Word.TheVariants as w
use Rattle.gcl_core.specs.declared.tokens.Key.TheVariants as k
use Rattle.gcl_core.specs.declared.tokens.Sym.TheVariants as y
use Rattle.gcl_parse.specs.declared.starts.Start.TheVariants as b
use Rattle.gcl_core.specs.declared.levels.Level.TheVariants as l
use Rattle.gcl_core.specs.meaning.Syntax.{Expression, Statement, Statements, ArmList}
use Rattle.gcl_core.specs.text.Grammar.{ReadsStatement, ReadsStatements, ReadsBlock, ReadsElse, a_skip, an_assignment, a_uniform, an_observation, an_if, a_while, a_choice, a_choose, ReadsArms, last_arm, one_more_arm, no_statement, a_statement, in_braces, no_else, an_else, ReadsProgram}
use Rattle.gcl_parse.specs.inner.Fronts.{first}
use Rattle.gcl_parse.specs.inner.Pushdown as m
use Rattle.gcl_parse.specs.inner.Pushdown.{Symbol, phrase, arm_and_more, take_word, run, a_program}
use Rattle.gcl_parse.specs.inner.Parses.{start_at}
use Rattle.gcl_parse.proofs.Steps as step
use Rattle.gcl_parse.proofs.PhrasesPass.{Ends, reads_runs}

-- no statement begins here, and no `else`
pub record Closes (ts : List Word) : Type 0 where
  pub no_start : start_at (first ts) ≡ None
  pub no_else : first ts ≢ Some (w.Key k.Else)

begins_not_else : {ts rest : List Word} {x : Statement} → ReadsStatement ts x rest → first ts ≢ Some (w.Key k.Else)
begins_not_else a_skip = λ q. cc
begins_not_else (an_assignment r) = λ q. cc
begins_not_else (a_uniform r) = λ q. cc
begins_not_else (an_observation r) = λ q. cc
begins_not_else (an_if r s t) = λ q. cc
begins_not_else (a_while r s) = λ q. cc
begins_not_else (a_choice r s) = λ q. cc
begins_not_else (a_choose r s) = λ q. cc

pub all_not_else : {ts rest : List Word} {xs : Statements} → ReadsStatements ts xs rest → Closes rest → first ts ≢ Some (w.Key k.Else)
all_not_else no_statement c = c.no_else
all_not_else (a_statement r q) c = begins_not_else r

pub before_block : {ts rest : List Word} {xs : Statements} → ReadsBlock ts xs rest → Ends l.Or ts
before_block (in_braces r) = record { less = lit< tt }

pub brace_closes : (ts : List Word) → Closes (w.Sym y.RightBrace ∷ ts)
brace_closes ts = record { no_start = refl; no_else = λ q. cc }

-- where arms are read, one may come
pub no_arms : {ts rest : List Word} {arms : ArmList} → ReadsArms zero ts arms rest → ⊥
no_arms r = elim r [ ]

suc_is : {m n : ℕ} → suc m ≡ suc n → n ≡ m
suc_is h = omega (arith, h)

mutual
  pub stmt_runs : {ts rest : List Word} {x : Statement} → ReadsStatement ts x rest → first rest ≢ Some (w.Key k.Else) → (s : List Symbol) → run ts (m.stmts ∷ s) ≡ run rest (m.stmts ∷ s)
  stmt_runs (a_skip {rest = rest}) n s = step.begins_stmt _ (w.Sym y.Semicolon ∷ rest) b.Skip refl refl s ∙ step.sym_on refl (m.stmts ∷ s)
  stmt_runs (an_assignment {x = i} {ts = ts} r) n s =
      step.begins_stmt _ (w.Sym y.Assign ∷ ts) (b.Name i) refl refl s ∙ step.assign_on refl (m.stmts ∷ s)
      ∙ reads_runs r (record { less = lit< tt }) (m.sym y.Semicolon ∷ m.stmts ∷ s) ∙ step.sym_on refl (m.stmts ∷ s)
  stmt_runs (a_uniform {x = i} {ts = ts} r) n s =
      step.begins_stmt _ (w.Sym y.Tilde ∷ w.Key k.Uniform ∷ w.Sym y.LeftParen ∷ ts) (b.Name i) refl refl s ∙ step.target_off _ (λ q. cc) (m.stmts ∷ s)
      ∙ step.sym_on refl _ ∙ step.key_on refl _ ∙ step.sym_on refl _ ∙ reads_runs r (record { less = lit< tt }) (m.sym y.RightParen ∷ m.sym y.Semicolon ∷ m.stmts ∷ s)
      ∙ step.sym_on refl (m.sym y.Semicolon ∷ m.stmts ∷ s) ∙ step.sym_on refl (m.stmts ∷ s)
  stmt_runs (an_observation {ts = ts} r) n s =
      step.begins_stmt _ ts b.Observe refl refl s ∙ reads_runs r (record { less = lit< tt }) (m.sym y.Semicolon ∷ m.stmts ∷ s) ∙ step.sym_on refl (m.stmts ∷ s)
  stmt_runs (an_if {ts = ts} r p q) n s =
      step.begins_stmt _ ts b.If refl refl s ∙ reads_runs r (before_block p) (m.block ∷ m.otherwise ∷ m.stmts ∷ s) ∙ block_runs p (m.otherwise ∷ m.stmts ∷ s) ∙ else_runs q n (m.stmts ∷ s)
  stmt_runs (a_while {ts = ts} r p) n s = step.begins_stmt _ ts b.While refl refl s ∙ reads_runs r (before_block p) (m.block ∷ m.stmts ∷ s) ∙ block_runs p (m.stmts ∷ s)
  stmt_runs (a_choice {ts = ts} {n = i} {d = d} p q) n s =
      step.begins_stmt _ (w.Number i ∷ w.Sym y.Slash ∷ w.Number d ∷ ts) b.Choice refl refl s ∙ step.number_passes i _ _ ∙ step.sym_on refl _ ∙ step.number_passes d _ _
      ∙ block_runs p (m.key k.Or ∷ m.block ∷ m.stmts ∷ s) ∙ step.key_on refl (m.block ∷ m.stmts ∷ s) ∙ block_runs q (m.stmts ∷ s)
  stmt_runs (a_choose {ts = ts} {n = i} p q) n s =
      step.begins_stmt _ (w.Sym y.LeftBrace ∷ w.Number i ∷ w.Sym y.Colon ∷ ts) b.Choose refl refl s ∙ step.sym_on refl _ ∙ step.number_passes i _ _ ∙ step.sym_on refl _
      ∙ block_runs p (m.sym y.Bar ∷ (arm_and_more 14 ++ (m.stmts ∷ s))) ∙ step.sym_on refl _ ∙ arms_run q 14 refl (m.stmts ∷ s)

  -- up to the brace behind the arms, where so many may come behind the first
  pub arms_run : {k : ℕ} {ts rest : List Word} {arms : ArmList} → ReadsArms k ts arms (w.Sym y.RightBrace ∷ rest) → (n : ℕ) → k ≡ suc n → (s : List Symbol) → run ts (arm_and_more n ++ s) ≡ run rest s
  arms_run (last_arm {n = i} p) n e s =
      step.number_passes i _ _ ∙ step.sym_on refl _ ∙ block_runs p (m.arms n ∷ s) ∙ step.arms_off n _ (λ q. let bar = q.1 in cc) s ∙ step.sym_on refl s
  arms_run (one_more_arm {k = zero} p q) n e s = absurd (no_arms q)
  arms_run (one_more_arm {k = suc k} {n = i} {mid = mid} p q) n e s =
      step.number_passes i _ _ ∙ step.sym_on refl _ ∙ block_runs p (m.arms n ∷ s) ∙ ap (λ x. run (w.Sym y.Bar ∷ mid) (m.arms x ∷ s)) (suc_is e) ∙ step.arms_on k refl s ∙ arms_run q k refl s

  pub all_runs : {ts rest : List Word} {xs : Statements} → ReadsStatements ts xs rest → Closes rest → (s : List Symbol) → run ts (m.stmts ∷ s) ≡ run rest s
  all_runs (no_statement {ts = ts}) c s = step.no_more_stmts ts c.no_start s
  all_runs (a_statement r q) c s = stmt_runs r (all_not_else q c) s ∙ all_runs q c s

  pub block_runs : {ts rest : List Word} {xs : Statements} → ReadsBlock ts xs rest → (s : List Symbol) → run ts (m.block ∷ s) ≡ run rest s
  block_runs (in_braces {rest = rest} r) s = step.block_opens _ s ∙ step.sym_on refl _ ∙ all_runs r (brace_closes rest) (m.sym y.RightBrace ∷ s) ∙ step.sym_on refl s

  pub else_runs : {ts rest : List Word} {xs : Statements} → ReadsElse ts xs rest → first rest ≢ Some (w.Key k.Else) → (s : List Symbol) → run ts (m.otherwise ∷ s) ≡ run rest s
  else_runs (no_else {ts = ts}) n s = (step.no_else_passes ts n).runs s
  else_runs (an_else r) n s = step.else_on refl s ∙ block_runs r s

-- a program is accepted
pub program_runs : {ts : List Word} {body : Statements} {e : Expression} → ReadsProgram ts body e [] → run ts a_program ≡ m.accepts
unfolding run
program_runs d =
    all_runs d.statements (record { no_start = refl; no_else = λ q. cc }) (m.key k.Return ∷ phrase l.Or ∷ m.sym y.Semicolon ∷ []) ∙ step.key_on refl (phrase l.Or ∷ m.sym y.Semicolon ∷ [])
    ∙ reads_runs d.last (record { less = lit< tt }) (m.sym y.Semicolon ∷ []) ∙ step.sym_on refl []
