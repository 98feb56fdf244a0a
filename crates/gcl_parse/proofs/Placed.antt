-- Where statements begin by the kinds of the tokens, they stand by the grammar.
use Rattle.std.proofs.Common.{◌≡◌, ◌∙◌, ℕ, suc, refl, ap, sym, false, List, [], ◌∷◌, ◌++◌, length, map, append_assoc, Some}
use Rattle.std.specs.Prelude.{if◌then◌else◌}
use Rattle.gcl_core.specs.declared.tokens.Key.TheVariants as k
use Rattle.gcl_core.specs.declared.tokens.Sym.TheVariants as y
use Rattle.gcl_core.specs.declared.tokens.TokenKind.{TokenKind}
use Rattle.gcl_core.specs.declared.words.Word.{Word}
use Rattle.gcl_core.specs.declared.words.Word.TheVariants as w
use Rattle.gcl_core.specs.declared.syntax.BinOp.{BinOp}
use Rattle.gcl_core.specs.declared.levels.Level.{Level}
use Rattle.gcl_core.specs.meaning.Syntax.{Expression, Statement, Statements, ArmList}
use Rattle.gcl_core.specs.text.Words.{kind_of_word}
use Rattle.gcl_core.specs.text.Grammar.{operator, leaf, ReadsPhrase, ReadsMore, a_leaf, in_brackets, with_sign, without_sign, a_comparison, no_comparison, with_not, without_not, a_row, no_more, one_more, ReadsStatement, ReadsStatements, ReadsBlock, ReadsElse, a_skip, an_assignment, a_uniform, an_observation, an_if, a_while, a_choice, a_choose, ReadsArms, last_arm, one_more_arm, no_statement, a_statement, in_braces, no_else, an_else, ReadsProgram}
use Rattle.gcl_core.specs.text.Places.{places_inside, places_in, places_in_block, places_in_else, places_in_arms, places_in_program}
use Rattle.gcl_parse.specs.inner.Beginnings.{sets_before, begins}

abbrev kinds : List Word → List TokenKind
kinds ts = map kind_of_word ts

-- from how many words left on statements begin, by their kinds
abbrev pub lefts : List Word → List ℕ
lefts [] = []
lefts (v ∷ ts) = if begins (kind_of_word v) (kinds ts) then suc (length ts) ∷ lefts ts else lefts ts

-- no word that follows a name which a statement sets
abbrev NoTarget : List Word → Type 0
NoTarget ts = sets_before (kinds ts) ≡ false

name_skipped : (x : ℕ) (rest : List Word) → NoTarget rest → lefts (w.Name x ∷ rest) ≡ lefts rest
name_skipped x rest n = rw n refl

leaf_skipped : (v : Word) (e : Expression) (rest : List Word) → leaf v ≡ Some e → NoTarget rest → lefts (v ∷ rest) ≡ lefts rest
leaf_skipped (w.Number i) e rest h n = refl
leaf_skipped (w.Name x) e rest h n = name_skipped x rest n
leaf_skipped (w.Key k.True) e rest h n = refl
leaf_skipped (w.Key k.False) e rest h n = refl
leaf_skipped (w.Key _) e rest h n = cc
leaf_skipped (w.Sym s) e rest h n = refl

operator_skipped : (v : Word) (o : BinOp) (rest : List Word) → operator v ≡ Some o → lefts (v ∷ rest) ≡ lefts rest
operator_skipped (w.Number i) o rest h = refl
operator_skipped (w.Name x) o rest h = cc
operator_skipped (w.Key k.Or) o rest h = refl
operator_skipped (w.Key k.And) o rest h = refl
operator_skipped (w.Key _) o rest h = cc
operator_skipped (w.Sym s) o rest h = refl

operator_no_target : (v : Word) (o : BinOp) (rest : List Word) → operator v ≡ Some o → NoTarget (v ∷ rest)
operator_no_target (w.Number i) o rest h = refl
operator_no_target (w.Name x) o rest h = refl
operator_no_target (w.Key _) o rest h = refl
operator_no_target (w.Sym y.Assign) o rest h = cc
operator_no_target (w.Sym y.Tilde) o rest h = cc
operator_no_target (w.Sym _) o rest h = refl

more_no_target : {l : Level} {a e : Expression} {ts rest : List Word} → ReadsMore l a ts e rest → NoTarget rest → NoTarget ts
more_no_target no_more n = n
more_no_target (one_more {ts = ts} {v = v} {o = o} h k r q) n = operator_no_target v o ts h

-- no statement begins in an expression
mutual
  pub phrase_skipped : {l : Level} {ts rest : List Word} {e : Expression} → ReadsPhrase l ts e rest → NoTarget rest → lefts ts ≡ lefts rest
  phrase_skipped (a_leaf {rest = rest} {v = v} {e = e} h) n = leaf_skipped v e rest h n
  phrase_skipped (in_brackets r) n = phrase_skipped r refl
  phrase_skipped (with_sign r) n = phrase_skipped r n
  phrase_skipped (without_sign r) n = phrase_skipped r n
  phrase_skipped (a_comparison {mid = mid} {v = v} {o = o} r h k q) n = phrase_skipped r (operator_no_target v o mid h) ∙ operator_skipped v o mid h ∙ phrase_skipped q n
  phrase_skipped (no_comparison r) n = phrase_skipped r n
  phrase_skipped (with_not r) n = phrase_skipped r n
  phrase_skipped (without_not r) n = phrase_skipped r n
  phrase_skipped (a_row i r q) n = phrase_skipped r (more_no_target q n) ∙ more_skipped q n

  more_skipped : {l : Level} {a e : Expression} {ts rest : List Word} → ReadsMore l a ts e rest → NoTarget rest → lefts ts ≡ lefts rest
  more_skipped no_more n = refl
  more_skipped (one_more {ts = ts} {v = v} {o = o} h k r q) n = operator_skipped v o ts h ∙ phrase_skipped r (more_no_target q n) ∙ more_skipped q n

before_block : {ts rest : List Word} {b : Statements} → ReadsBlock ts b rest → NoTarget ts
before_block (in_braces r) = refl

joined : (a b rest : List ℕ) {x y : List ℕ} → x ≡ a ++ y → y ≡ b ++ rest → x ≡ (a ++ b) ++ rest
joined a b rest h k = h ∙ ap (λ z. a ++ z) k ∙ sym (append_assoc a b rest)

mutual
  inside_placed : {ts rest : List Word} {s : Statement} (d : ReadsStatement ts s rest) → lefts ts ≡ length ts ∷ places_inside d ++ lefts rest
  inside_placed (a_skip {rest = rest}) = refl
  inside_placed (an_assignment {ts = ts} r) = ap (λ x. suc (suc (length ts)) ∷ x) (phrase_skipped r refl)
  inside_placed (a_uniform {ts = ts} r) = ap (λ x. suc (suc (suc (suc (length ts)))) ∷ x) (phrase_skipped r refl)
  inside_placed (an_observation {ts = ts} r) = ap (λ x. suc (length ts) ∷ x) (phrase_skipped r refl)
  inside_placed (an_if {ts = ts} {rest = rest} r a c) = ap (λ x. suc (length ts) ∷ x) (phrase_skipped r (before_block a) ∙ joined (places_in_block a) (places_in_else c) (lefts rest) (block_placed a) (else_placed c))
  inside_placed (a_while {ts = ts} r a) = ap (λ x. suc (length ts) ∷ x) (phrase_skipped r (before_block a) ∙ block_placed a)
  inside_placed (a_choice {ts = ts} {rest = rest} a c) = ap (λ x. suc (suc (suc (suc (length ts)))) ∷ x) (joined (places_in_block a) (places_in_block c) (lefts rest) (block_placed a) (block_placed c))
  inside_placed (a_choose {ts = ts} {rest = rest} b arms) = ap (λ x. suc (suc (suc (suc (length ts)))) ∷ x) (joined (places_in_block b) (places_in_arms arms) (lefts rest) (block_placed b) (arms_placed arms))

  arms_placed : {k : ℕ} {ts rest : List Word} {arms : ArmList} (d : ReadsArms k ts arms rest) → lefts ts ≡ places_in_arms d ++ lefts rest
  arms_placed (last_arm b) = block_placed b
  arms_placed (one_more_arm {rest = rest} b arms) = joined (places_in_block b) (places_in_arms arms) (lefts rest) (block_placed b) (arms_placed arms)

  pub placed : {ts rest : List Word} {b : Statements} (d : ReadsStatements ts b rest) → lefts ts ≡ places_in d ++ lefts rest
  placed no_statement = refl
  placed (a_statement {ts = ts} {rest = rest} s b) = joined (length ts ∷ places_inside s) (places_in b) (lefts rest) (inside_placed s) (placed b)

  block_placed : {ts rest : List Word} {b : Statements} (d : ReadsBlock ts b rest) → lefts ts ≡ places_in_block d ++ lefts rest
  block_placed (in_braces b) = placed b

  else_placed : {ts rest : List Word} {b : Statements} (d : ReadsElse ts b rest) → lefts ts ≡ places_in_else d ++ lefts rest
  else_placed no_else = refl
  else_placed (an_else b) = block_placed b

pub program_placed : {ts : List Word} {body : Statements} {e : Expression} (d : ReadsProgram ts body e []) → lefts ts ≡ places_in_program d
program_placed d = placed d.statements ∙ ap (λ x. places_in d.statements ++ (suc (length d.middle) ∷ x)) (phrase_skipped d.last refl)
