-- What a program keeps that words are read as.
use Rattle.std.proofs.Common.{◌≡◌, ℕ, ◌<◌, ◌≤◌, ◌+◌, refl, arith, Some, List, [], ◌∷◌, length}
use Rattle.gcl_core.specs.declared.tokens.Key.TheVariants as k
use Rattle.gcl_core.specs.declared.words.Word.{Word}
use Rattle.gcl_core.specs.declared.words.Word.TheVariants as w
use Rattle.gcl_core.specs.declared.levels.Level.{Level}
use Rattle.gcl_core.specs.meaning.Arms.{parts_of}
use Rattle.gcl_core.specs.meaning.Syntax.{Expression, Statement, Statements, ArmList}
use Rattle.gcl_core.specs.meaning.Bounds.{StatementBelow, BlockBelow, ArmsBelow, StatementWeights, ArmsWeights, BlockCounted, ExpressionBelow, HaveArmCount}
use Rattle.gcl_core.specs.text.StatementCounts.{count_one, count_all, count_arms}
use Rattle.gcl_core.specs.text.NoNegative.{ExpressionHasNoNegative, StatementHasNoNegative, BlockHasNoNegative, ArmsHaveNoNegative}
use Rattle.gcl_core.specs.text.Grammar.{leaf, ReadsPhrase, ReadsMore, a_leaf, in_brackets, with_sign, without_sign, a_comparison, no_comparison, with_not, without_not, a_row, no_more, one_more, ReadsStatement, ReadsStatements, ReadsBlock, ReadsElse, a_skip, an_assignment, a_uniform, an_observation, an_if, a_while, a_choice, a_choose, ReadsArms, last_arm, one_more_arm, no_statement, a_statement, in_braces, no_else, an_else, ReadsProgram}

some_is : {a b : Expression} → Some a ≡ Some b → a ≡ b
some_is h = cc

-- ---- variables

abbrev pub WordBelow : ℕ → Word → Type 0
WordBelow count (w.Name x) = x < count
WordBelow count _ = Unit {0}

-- the numbers of names are below a count
abbrev pub WordsBelow : ℕ → List Word → Type 0
WordsBelow count [] = Unit {0}
WordsBelow count (v ∷ ts) = WordBelow count v × WordsBelow count ts

leaf_below : (count : ℕ) (v : Word) {e : Expression} → leaf v ≡ Some e → WordBelow count v → ExpressionBelow e count
leaf_below count (w.Number n) h b = rw (← some_is h) tt
leaf_below count (w.Name x) h b = rw (← some_is h) b
leaf_below count (w.Key k.True) h b = rw (← some_is h) tt
leaf_below count (w.Key k.False) h b = rw (← some_is h) tt
leaf_below count (w.Key _) h b = cc
leaf_below count (w.Sym s) h b = cc

mutual
  phrase_below : {l : Level} {ts rest : List Word} {e : Expression} (count : ℕ) → ReadsPhrase l ts e rest → WordsBelow count ts → ExpressionBelow e count × WordsBelow count rest
  phrase_below count (a_leaf {v = v} h) b = (leaf_below count v h b.0, b.1)
  phrase_below count (in_brackets r) b = let i = phrase_below count r b.1 in (i.0, i.1.1)
  phrase_below count (with_sign r) b = phrase_below count r b.1
  phrase_below count (without_sign r) b = phrase_below count r b
  phrase_below count (a_comparison r h k q) b = let i = phrase_below count r b in let j = phrase_below count q i.1.1 in ((i.0, j.0), j.1)
  phrase_below count (no_comparison r) b = phrase_below count r b
  phrase_below count (with_not r) b = phrase_below count r b.1
  phrase_below count (without_not r) b = phrase_below count r b
  phrase_below count (a_row i r q) b = let j = phrase_below count r b in more_below count q j.0 j.1

  more_below : {l : Level} {a e : Expression} {ts rest : List Word} (count : ℕ) → ReadsMore l a ts e rest → ExpressionBelow a count → WordsBelow count ts → ExpressionBelow e count × WordsBelow count rest
  more_below count no_more a b = (a, b)
  more_below count (one_more h k r q) a b = let i = phrase_below count r b.1 in more_below count q (a, i.0) i.1

mutual
  statement_below : {ts rest : List Word} {s : Statement} (count : ℕ) → ReadsStatement ts s rest → WordsBelow count ts → StatementBelow count s × WordsBelow count rest
  statement_below count a_skip b = (tt, b.1.1)
  statement_below count (an_assignment r) b = let i = phrase_below count r b.1.1 in ((b.0, i.0), i.1.1)
  statement_below count (a_uniform r) b = let i = phrase_below count r b.1.1.1.1 in ((b.0, i.0), i.1.1.1)
  statement_below count (an_observation r) b = let i = phrase_below count r b.1 in (i.0, i.1.1)
  statement_below count (an_if r a c) b =
      let i = phrase_below count r b.1 in
      let j = block_below count a i.1 in
      let n = else_below count c j.1 in
      ((i.0, j.0, n.0), n.1)
  statement_below count (a_while r a) b =
      let i = phrase_below count r b.1 in
      let j = block_below count a i.1 in
      ((i.0, j.0), j.1)
  statement_below count (a_choice a c) b =
      let j = block_below count a b.1.1.1.1 in
      let n = block_below count c j.1.1 in
      ((j.0, n.0), n.1)
  statement_below count (a_choose a arms) b =
      let j = block_below count a b.1.1.1.1 in
      let n = arms_below count arms j.1.1 in
      ((j.0, n.0), n.1.1)

  arms_below : {k : ℕ} {ts rest : List Word} {arms : ArmList} (count : ℕ) → ReadsArms k ts arms rest → WordsBelow count ts → ArmsBelow count arms × WordsBelow count rest
  arms_below count (last_arm a) b = let j = block_below count a b.1.1 in ((j.0, tt), j.1)
  arms_below count (one_more_arm a arms) b =
      let j = block_below count a b.1.1 in
      let n = arms_below count arms j.1.1 in
      ((j.0, n.0), n.1)

  statements_below : {ts rest : List Word} {s : Statements} (count : ℕ) → ReadsStatements ts s rest → WordsBelow count ts → BlockBelow count s × WordsBelow count rest
  statements_below count no_statement b = (tt, b)
  statements_below count (a_statement s q) b =
      let i = statement_below count s b in
      let j = statements_below count q i.1 in
      ((i.0, j.0), j.1)

  block_below : {ts rest : List Word} {s : Statements} (count : ℕ) → ReadsBlock ts s rest → WordsBelow count ts → BlockBelow count s × WordsBelow count rest
  block_below count (in_braces r) b = let i = statements_below count r b.1 in (i.0, i.1.1)

  else_below : {ts rest : List Word} {s : Statements} (count : ℕ) → ReadsElse ts s rest → WordsBelow count ts → BlockBelow count s × WordsBelow count rest
  else_below count no_else b = (tt, b)
  else_below count (an_else r) b = block_below count r b.1

pub program_below : {ts : List Word} {body : Statements} {e : Expression} (count : ℕ) → ReadsProgram ts body e [] → WordsBelow count ts → BlockBelow count body × ExpressionBelow e count
program_below count d b =
    let i = statements_below count d.statements b in
    let j = phrase_below count d.last i.1.1 in
    (i.0, j.0)

-- ---- numbers

leaf_written : (v : Word) {e : Expression} → leaf v ≡ Some e → ExpressionHasNoNegative e
leaf_written (w.Number n) h = rw (← some_is h) (record { digits = n; is = refl })
leaf_written (w.Name x) h = rw (← some_is h) tt
leaf_written (w.Key k.True) h = rw (← some_is h) tt
leaf_written (w.Key k.False) h = rw (← some_is h) tt
leaf_written (w.Key _) h = cc
leaf_written (w.Sym s) h = cc

mutual
  phrase_written : {l : Level} {ts rest : List Word} {e : Expression} → ReadsPhrase l ts e rest → ExpressionHasNoNegative e
  phrase_written (a_leaf {v = v} h) = leaf_written v h
  phrase_written (in_brackets r) = phrase_written r
  phrase_written (with_sign r) = phrase_written r
  phrase_written (without_sign r) = phrase_written r
  phrase_written (a_comparison r h k q) = (phrase_written r, phrase_written q)
  phrase_written (no_comparison r) = phrase_written r
  phrase_written (with_not r) = phrase_written r
  phrase_written (without_not r) = phrase_written r
  phrase_written (a_row i r q) = more_written q (phrase_written r)

  more_written : {l : Level} {a e : Expression} {ts rest : List Word} → ReadsMore l a ts e rest → ExpressionHasNoNegative a → ExpressionHasNoNegative e
  more_written no_more a = a
  more_written (one_more h k r q) a = more_written q (a, phrase_written r)

mutual
  statement_written : {ts rest : List Word} {s : Statement} → ReadsStatement ts s rest → StatementHasNoNegative s
  statement_written a_skip = tt
  statement_written (an_assignment r) = phrase_written r
  statement_written (a_uniform r) = phrase_written r
  statement_written (an_observation r) = phrase_written r
  statement_written (an_if r a c) = (phrase_written r, block_written a, else_written c)
  statement_written (a_while r a) = (phrase_written r, block_written a)
  statement_written (a_choice a c) = (block_written a, block_written c)
  statement_written (a_choose a arms) = (block_written a, arms_written arms)

  arms_written : {k : ℕ} {ts rest : List Word} {arms : ArmList} → ReadsArms k ts arms rest → ArmsHaveNoNegative arms
  arms_written (last_arm a) = (block_written a, tt)
  arms_written (one_more_arm a arms) = (block_written a, arms_written arms)

  statements_written : {ts rest : List Word} {s : Statements} → ReadsStatements ts s rest → BlockHasNoNegative s
  statements_written no_statement = tt
  statements_written (a_statement s q) = (statement_written s, statements_written q)

  block_written : {ts rest : List Word} {s : Statements} → ReadsBlock ts s rest → BlockHasNoNegative s
  block_written (in_braces r) = statements_written r

  else_written : {ts rest : List Word} {s : Statements} → ReadsElse ts s rest → BlockHasNoNegative s
  else_written no_else = tt
  else_written (an_else r) = block_written r

pub program_written : {ts : List Word} {body : Statements} {e : Expression} → ReadsProgram ts body e [] → BlockHasNoNegative body × ExpressionHasNoNegative e
program_written d = (statements_written d.statements, phrase_written d.last)

-- ---- how many arms each choice among several has

arms_between : {k : ℕ} {ts rest : List Word} {arms : ArmList} → ReadsArms k ts arms rest → (1 ≤ length (parts_of arms)) × (length (parts_of arms) ≤ k)
arms_between (last_arm a) = (omega arith, omega arith)
arms_between (one_more_arm a arms) = let i = arms_between arms in (omega arith, omega (arith, i.1))

abbrev StatementCounted : Statement → Type 0
StatementCounted = StatementWeights (λ w. Unit {0}) HaveArmCount

abbrev ArmsCounted : ArmList → Type 0
ArmsCounted = ArmsWeights (λ w. Unit {0}) HaveArmCount

mutual
  statement_bounded : {ts rest : List Word} {s : Statement} → ReadsStatement ts s rest → StatementCounted s
  statement_bounded a_skip = tt
  statement_bounded (an_assignment r) = tt
  statement_bounded (a_uniform r) = tt
  statement_bounded (an_observation r) = tt
  statement_bounded (an_if r a c) = (block_bounded a, else_bounded c)
  statement_bounded (a_while r a) = block_bounded a
  statement_bounded (a_choice a c) = (tt, block_bounded a, block_bounded c)
  statement_bounded (a_choose a arms) = let i = arms_between arms in (record { enough = omega (arith, i.0); few = omega (arith, i.1) }, (block_bounded a, arms_bounded arms))

  arms_bounded : {k : ℕ} {ts rest : List Word} {arms : ArmList} → ReadsArms k ts arms rest → ArmsCounted arms
  arms_bounded (last_arm a) = (block_bounded a, tt)
  arms_bounded (one_more_arm a arms) = (block_bounded a, arms_bounded arms)

  statements_bounded : {ts rest : List Word} {s : Statements} → ReadsStatements ts s rest → BlockCounted s
  statements_bounded no_statement = tt
  statements_bounded (a_statement s q) = (statement_bounded s, statements_bounded q)

  block_bounded : {ts rest : List Word} {s : Statements} → ReadsBlock ts s rest → BlockCounted s
  block_bounded (in_braces r) = statements_bounded r

  else_bounded : {ts rest : List Word} {s : Statements} → ReadsElse ts s rest → BlockCounted s
  else_bounded no_else = tt
  else_bounded (an_else r) = block_bounded r

pub program_bounded : {ts : List Word} {body : Statements} {e : Expression} → ReadsProgram ts body e [] → BlockCounted body
program_bounded d = statements_bounded d.statements

-- ---- how many statements

mutual
  phrase_shrinks : {l : Level} {ts rest : List Word} {e : Expression} → ReadsPhrase l ts e rest → length rest ≤ length ts
  phrase_shrinks (a_leaf h) = omega arith
  phrase_shrinks (in_brackets r) = let i = phrase_shrinks r in omega (arith, i)
  phrase_shrinks (with_sign r) = let i = phrase_shrinks r in omega (arith, i)
  phrase_shrinks (without_sign r) = phrase_shrinks r
  phrase_shrinks (a_comparison r h k q) = let i = phrase_shrinks r in let j = phrase_shrinks q in omega (arith, i, j)
  phrase_shrinks (no_comparison r) = phrase_shrinks r
  phrase_shrinks (with_not r) = let i = phrase_shrinks r in omega (arith, i)
  phrase_shrinks (without_not r) = phrase_shrinks r
  phrase_shrinks (a_row n r q) = let i = phrase_shrinks r in let j = more_shrinks q in omega (arith, i, j)

  more_shrinks : {l : Level} {a e : Expression} {ts rest : List Word} → ReadsMore l a ts e rest → length rest ≤ length ts
  more_shrinks no_more = omega arith
  more_shrinks (one_more h k r q) = let i = phrase_shrinks r in let j = more_shrinks q in omega (arith, i, j)

mutual
  statement_counted : {ts rest : List Word} {s : Statement} → ReadsStatement ts s rest → count_one s + length rest ≤ length ts
  statement_counted a_skip = omega arith
  statement_counted (an_assignment r) = let i = phrase_shrinks r in omega (arith, i)
  statement_counted (a_uniform r) = let i = phrase_shrinks r in omega (arith, i)
  statement_counted (an_observation r) = let i = phrase_shrinks r in omega (arith, i)
  statement_counted (an_if r a c) = let i = phrase_shrinks r in let j = block_counted a in let n = else_counted c in omega (arith, i, j, n)
  statement_counted (a_while r a) = let i = phrase_shrinks r in let j = block_counted a in omega (arith, i, j)
  statement_counted (a_choice a c) = let j = block_counted a in let n = block_counted c in omega (arith, j, n)
  statement_counted (a_choose a arms) = let j = block_counted a in let n = arms_counted arms in omega (arith, j, n)

  arms_counted : {k : ℕ} {ts rest : List Word} {arms : ArmList} → ReadsArms k ts arms rest → count_arms arms + length rest ≤ length ts
  arms_counted (last_arm a) = let j = block_counted a in omega (arith, j)
  arms_counted (one_more_arm a arms) = let j = block_counted a in let n = arms_counted arms in omega (arith, j, n)

  statements_counted : {ts rest : List Word} {s : Statements} → ReadsStatements ts s rest → count_all s + length rest ≤ length ts
  statements_counted no_statement = omega arith
  statements_counted (a_statement s q) = let i = statement_counted s in let j = statements_counted q in omega (arith, i, j)

  block_counted : {ts rest : List Word} {s : Statements} → ReadsBlock ts s rest → count_all s + length rest ≤ length ts
  block_counted (in_braces r) = let i = statements_counted r in omega (arith, i)

  else_counted : {ts rest : List Word} {s : Statements} → ReadsElse ts s rest → count_all s + length rest ≤ length ts
  else_counted no_else = omega arith
  else_counted (an_else r) = let i = block_counted r in omega (arith, i)

pub program_counted : {ts : List Word} {body : Statements} {e : Expression} → ReadsProgram ts body e [] → count_all body < length ts
program_counted d = let i = statements_counted d.statements in omega (arith, i)
