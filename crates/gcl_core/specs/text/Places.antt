-- Where the statements of a program stand: at the first word of each, in reading order, which is the order of the text; a
-- statement comes before those of its blocks, and `return` last. A place is here how many words are left from it on.
-- This project's own rule.
use Rattle.std.specs.Prelude.{ℕ, suc, List, [], ◌∷◌, ◌++◌, length}
use Rattle.gcl_core.specs.declared.words.Word.{Word}
use Rattle.gcl_core.specs.meaning.Syntax.{Expression, Statement, Statements, ArmList}
use Rattle.gcl_core.specs.text.Grammar.{ReadsStatement, an_if, a_while, a_choice, a_choose, ReadsArms, last_arm, one_more_arm, ReadsStatements, no_statement, a_statement, ReadsBlock, in_braces, ReadsElse, no_else, an_else, ReadsProgram}

abbrev mutual
  -- those of the blocks of a statement
  pub places_inside : {ts rest : List Word} {s : Statement} → ReadsStatement ts s rest → List ℕ
  places_inside (an_if e a c) = places_in_block a ++ places_in_else c
  places_inside (a_while e a) = places_in_block a
  places_inside (a_choice a c) = places_in_block a ++ places_in_block c
  places_inside (a_choose b arms) = places_in_block b ++ places_in_arms arms
  places_inside _ = []

  pub places_in_arms : {k : ℕ} {ts rest : List Word} {arms : ArmList} → ReadsArms k ts arms rest → List ℕ
  places_in_arms (last_arm b) = places_in_block b
  places_in_arms (one_more_arm b arms) = places_in_block b ++ places_in_arms arms

  pub places_in : {ts rest : List Word} {b : Statements} → ReadsStatements ts b rest → List ℕ
  places_in no_statement = []
  places_in {ts = ts} (a_statement s b) = length ts ∷ places_inside s ++ places_in b

  pub places_in_block : {ts rest : List Word} {b : Statements} → ReadsBlock ts b rest → List ℕ
  places_in_block (in_braces b) = places_in b

  pub places_in_else : {ts rest : List Word} {b : Statements} → ReadsElse ts b rest → List ℕ
  places_in_else no_else = []
  places_in_else (an_else b) = places_in_block b

abbrev pub places_in_program : {ts rest : List Word} {body : Statements} {result : Expression} → ReadsProgram ts body result rest
    → List ℕ
places_in_program p = places_in p.statements ++ suc (length p.middle) ∷ []
