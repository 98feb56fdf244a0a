-- Words are read as at most one program.
use Rattle.std.proofs.Common.{◌≡◌, ◌≢◌, ◌∙◌, ℕ, refl, ap, ap₂, sym, lit<, List, [], ◌∷◌, Some, None}
use Rattle.gcl_core.specs.declared.words.Word.{Word}
use Rattle.gcl_core.specs.declared.words.Word.TheVariants as w
use Rattle.gcl_core.specs.declared.tokens.Key.TheVariants as k
use Rattle.gcl_core.specs.declared.tokens.Sym.TheVariants as y
use Rattle.gcl_core.specs.declared.levels.Level.TheVariants as l
use Rattle.gcl_core.specs.meaning.Syntax.{Expression, Statement, Statements, ArmList, no_arm, arm, Choose, Set, Uniform, Observe, ◌▸◌}
use Rattle.gcl_core.specs.text.Grammar.{ReadsStatement, ReadsStatements, ReadsBlock, ReadsElse, a_skip, an_assignment, a_uniform, an_observation, an_if, a_while, a_choice, a_choose, ReadsArms, last_arm, one_more_arm, no_statement, a_statement, in_braces, no_else, an_else, ReadsProgram}
use Rattle.gcl_parse.specs.inner.Fronts.{first}
use Rattle.gcl_parse.specs.inner.Parses.{start_at}
use Rattle.gcl_parse.proofs.PhrasesPass.{Ends}
use Rattle.gcl_parse.proofs.StatementsPass.{Closes, all_runs, block_runs, else_runs, arms_run, before_block, all_not_else, brace_closes}
use Rattle.gcl_parse.proofs.OnePhrase.{unique, rest_is, left_is, tail_is}

semicolon : {rest : List Word} → Ends l.Or (w.Sym y.Semicolon ∷ rest)
semicolon = record { less = lit< tt }

paren : {rest : List Word} → Ends l.Or (w.Sym y.RightParen ∷ rest)
paren = record { less = lit< tt }

block_rest : {ts a b : List Word} {xs zs : Statements} → ReadsBlock ts xs a → ReadsBlock ts zs b → a ≡ b
block_rest {a = a} {b = b} r q = left_is a b (sym (block_runs r []) ∙ block_runs q [])

else_rest : {ts a b : List Word} {xs zs : Statements} → ReadsElse ts xs a → first a ≢ Some (w.Key k.Else) → ReadsElse ts zs b → first b ≢ Some (w.Key k.Else) → a ≡ b
else_rest {a = a} {b = b} r n q o = left_is a b (sym (else_runs r n []) ∙ else_runs q o [])

arms_rest : {ts a b : List Word} {xs zs : ArmList} → ReadsArms 15 ts xs (w.Sym y.RightBrace ∷ a) → ReadsArms 15 ts zs (w.Sym y.RightBrace ∷ b) → a ≡ b
arms_rest {a = a} {b = b} r q = left_is a b (sym (arms_run r 14 refl []) ∙ arms_run q 14 refl [])

-- behind an arm comes its bar or the brace
not_last : {ts a b : List Word} {xs zs : Statements} → ReadsBlock ts xs (w.Sym y.RightBrace ∷ a) → ReadsBlock ts zs (w.Sym y.Bar ∷ b) → ⊥
not_last r q = let e = block_rest r q in cc

not_begun : {ts rest : List Word} {x : Statement} → ReadsStatement ts x rest → start_at (first ts) ≢ None
not_begun a_skip = λ q. cc
not_begun (an_assignment r) = λ q. cc
not_begun (a_uniform r) = λ q. cc
not_begun (an_observation r) = λ q. cc
not_begun (an_if r s t) = λ q. cc
not_begun (a_while r s) = λ q. cc
not_begun (a_choice r s) = λ q. cc
not_begun (a_choose r s) = λ q. cc

mutual
  stmt_unique : {ts a b : List Word} {x z : Statement} → ReadsStatement ts x a → first a ≢ Some (w.Key k.Else) → ReadsStatement ts z b → first b ≢ Some (w.Key k.Else) → (x ≡ z) × (a ≡ b)
  stmt_unique a_skip n a_skip o = (refl, refl)
  stmt_unique (an_assignment {x = i} r) n (an_assignment q) o = (ap (Set i) (unique r semicolon q semicolon), tail_is (rest_is r semicolon q semicolon))
  stmt_unique (a_uniform {x = i} r) n (a_uniform q) o = (ap (Uniform i) (unique r paren q paren), tail_is (tail_is (rest_is r paren q paren)))
  stmt_unique (an_observation r) n (an_observation q) o = (ap Observe (unique r semicolon q semicolon), tail_is (rest_is r semicolon q semicolon))
  stmt_unique (an_if r s t) n (an_if q u v) o =
      let e = unique r (before_block s) q (before_block u) in
      let u' = rw (← rest_is r (before_block s) q (before_block u)) at u in
      let x = block_unique s u' in
      let v' = rw (← block_rest s u') at v in
      let z = else_unique t n v' o in
      (cc, else_rest t n v' o)
  stmt_unique (a_while r s) n (a_while q u) o =
      let e = unique r (before_block s) q (before_block u) in
      let u' = rw (← rest_is r (before_block s) q (before_block u)) at u in
      let x = block_unique s u' in
      (cc, block_rest s u')
  stmt_unique (a_choice r s) n (a_choice q u) o =
      let x = block_unique r q in
      let u' = rw (← tail_is (block_rest r q)) at u in
      let z = block_unique s u' in
      (cc, block_rest s u')
  stmt_unique (a_choose {n = i} r s) n (a_choose q u) o =
      let x = block_unique r q in
      let u' = rw (← tail_is (block_rest r q)) at u in
      let z = arms_unique s u' in
      (ap₂ (λ b arms. Choose (arm i b arms)) x z, arms_rest s u')

  arms_unique : {k : ℕ} {ts a b : List Word} {xs zs : ArmList} → ReadsArms k ts xs (w.Sym y.RightBrace ∷ a) → ReadsArms k ts zs (w.Sym y.RightBrace ∷ b) → xs ≡ zs
  arms_unique (last_arm {n = i} r) (last_arm q) = ap (λ b. arm i b no_arm) (block_unique r q)
  arms_unique (last_arm r) (one_more_arm q u) = absurd (not_last r q)
  arms_unique (one_more_arm r s) (last_arm q) = absurd (not_last q r)
  arms_unique (one_more_arm {n = i} r s) (one_more_arm q u) = ap₂ (arm i) (block_unique r q) (arms_unique s (rw (← tail_is (block_rest r q)) at u))

  all_unique : {ts a b : List Word} {xs zs : Statements} → ReadsStatements ts xs a → Closes a → ReadsStatements ts zs b → Closes b → xs ≡ zs
  all_unique no_statement c no_statement d = refl
  all_unique no_statement c (a_statement r q) d = absurd (not_begun r c.no_start)
  all_unique (a_statement r q) c no_statement d = absurd (not_begun r d.no_start)
  all_unique (a_statement r q) c (a_statement s t) d =
      let p = stmt_unique r (all_not_else q c) s (all_not_else t d) in
      ap₂ (λ s b. s ▸ b) p.0 (all_unique q c (rw (← p.1) at t) d)

  block_unique : {ts a b : List Word} {xs zs : Statements} → ReadsBlock ts xs a → ReadsBlock ts zs b → xs ≡ zs
  block_unique (in_braces {rest = a} r) (in_braces {rest = b} q) = all_unique r (brace_closes a) q (brace_closes b)

  else_unique : {ts a b : List Word} {xs zs : Statements} → ReadsElse ts xs a → first a ≢ Some (w.Key k.Else) → ReadsElse ts zs b → first b ≢ Some (w.Key k.Else) → xs ≡ zs
  else_unique no_else n no_else o = refl
  else_unique no_else n (an_else q) o = absurd (n refl)
  else_unique (an_else r) n no_else o = absurd (o refl)
  else_unique (an_else r) n (an_else q) o = block_unique r q

return_closes : {mid : List Word} → Closes (w.Key k.Return ∷ mid)
return_closes = record { no_start = refl; no_else = λ q. cc }

pub one_program : {ts : List Word} {b c : Statements} {e f : Expression} → ReadsProgram ts b e [] → ReadsProgram ts c f [] → (b ≡ c) × (e ≡ f)
one_program d q =
    let mids = tail_is (left_is _ _ (sym (all_runs d.statements return_closes []) ∙ all_runs q.statements return_closes [])) in
    (all_unique d.statements return_closes q.statements return_closes, unique d.last semicolon (rw (← mids) at q.last) semicolon)
