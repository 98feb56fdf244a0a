-- The canonical text of a program: each statement on lines of its own, indented by two spaces for each block around it, and
-- brackets only where the levels of operators ask for them. This project's own rule.
use Rattle.std.specs.Prelude.{ℕ, zero, suc, Bool, true, false, List, [], ◌++◌, option_map, unwrap_or, map, codes, decimal, slice_index_or}
use Rattle.std.specs.Fmt.{signed_decimal}
use denote.Enum.Bare.{sameb}
use Rattle.gcl_core.specs.contracts.syntax.BinOp as operation
use Rattle.gcl_core.specs.declared.syntax.BinOp.{BinOp}
use Rattle.gcl_core.specs.declared.levels.Level.TheVariants as level
use Rattle.gcl_core.specs.declared.words.Word.{Word}
use Rattle.gcl_core.specs.declared.words.Word.TheVariants as word
use Rattle.gcl_core.specs.text.Names.{Name, name_where}
use Rattle.gcl_core.specs.text.Pieces.{symbols}
use Rattle.gcl_core.specs.text.Tokens.{reserved_names}
use Rattle.gcl_core.specs.text.Grammar.{operator}
use Rattle.gcl_core.specs.text.Levels.{left_level, is_within, level_of, above}
use Rattle.gcl_core.specs.meaning.Syntax.{Expression, Num, Truth, Var, Neg, Not, Bin, Statement, Skip, Set, If, While, Choice, Choose, Uniform, Observe, Statements, done, ◌▸◌, ArmList, no_arm, arm, SourceProgram}

-- ---- operators and brackets

-- symbols and reserved names, each with its bytes
abbrev pub fixed_words : List (Name × Word)
fixed_words = map (λ s. (s.0, word.Sym s.1)) symbols ++ map (λ k. (k.0, word.Key k.1)) reserved_names

-- the bytes of the word that the grammar reads as this operator
abbrev pub operator_text : BinOp → List ℕ
operator_text o = name_where (λ w. unwrap_or (option_map (sameb operation.the_type o) (operator w)) false) fixed_words

abbrev pub in_brackets_unless : Bool → List ℕ → List ℕ
in_brackets_unless true text = text
in_brackets_unless false text = codes "(" ++ text ++ codes ")"

-- ---- lines, with n blocks around them

-- two spaces for each block
abbrev pub indent : ℕ → List ℕ
indent zero = []
indent (suc n) = codes "  " ++ indent n

abbrev pub line : ℕ → List ℕ → List ℕ
line n text = indent n ++ text ++ codes "\n"

-- before the right block of an `if`: nothing where it is empty
abbrev pub else_line : ℕ → Statements → List ℕ
else_line n done = []
else_line n (s ▸ b) = line n (codes "} else {")

-- ---- expressions and statements, whose variables have these names

module _ (names : List Name) where
  abbrev pub name_text : ℕ → List ℕ
  name_text x = slice_index_or names x []

  abbrev pub expression_text : Expression → List ℕ
  expression_text (Num z) = signed_decimal z
  expression_text (Truth true) = codes "true"
  expression_text (Truth false) = codes "false"
  expression_text (Var x) = name_text x
  expression_text (Neg a) = codes "-" ++ in_brackets_unless (is_within level.Sign a) (expression_text a)
  expression_text (Not a) = codes "not " ++ in_brackets_unless (is_within level.Not a) (expression_text a)
  expression_text (Bin o a b) =
      in_brackets_unless (is_within (left_level (level_of o)) a) (expression_text a) ++ codes " " ++ operator_text o ++ codes " "
      ++ in_brackets_unless (is_within (above (level_of o)) b) (expression_text b)

  abbrev mutual
    pub statement_lines : ℕ → Statement → List ℕ
    statement_lines n Skip = line n (codes "skip;")
    statement_lines n (Set x e) = line n (name_text x ++ codes " := " ++ expression_text e ++ codes ";")
    statement_lines n (Uniform x e) = line n (name_text x ++ codes " ~ uniform(" ++ expression_text e ++ codes ");")
    statement_lines n (Observe e) = line n (codes "observe " ++ expression_text e ++ codes ";")
    statement_lines n (If e a c) =
        line n (codes "if " ++ expression_text e ++ codes " {") ++ block_lines (suc n) a ++ else_line n c ++ block_lines (suc n) c
        ++ line n (codes "}")
    statement_lines n (While e a) =
        line n (codes "while " ++ expression_text e ++ codes " {") ++ block_lines (suc n) a ++ line n (codes "}")
    statement_lines n (Choice w a c) =
        line n (codes "choice " ++ decimal w.num ++ codes "/" ++ decimal w.den ++ codes " {") ++ block_lines (suc n) a
        ++ line n (codes "} or {") ++ block_lines (suc n) c ++ line n (codes "}")
    statement_lines n (Choose arms) = line n (codes "choose {") ++ arm_lines (suc n) [] arms ++ line n (codes "}")

    pub block_lines : ℕ → Statements → List ℕ
    block_lines n done = []
    block_lines n (s ▸ b) = statement_lines n s ++ block_lines n b

    -- the arms, the first of them behind this front
    pub arm_lines : ℕ → List ℕ → ArmList → List ℕ
    arm_lines n front no_arm = line n (codes "}")
    arm_lines n front (arm p b arms) =
        line n (front ++ decimal p ++ codes ": {") ++ block_lines (suc n) b ++ arm_lines n (codes "} | ") arms

-- ---- programs

-- the statements of the body, and the result on the last line
abbrev pub canonical_text : SourceProgram → List ℕ
canonical_text p = block_lines p.names 0 p.body ++ line 0 (codes "return " ++ expression_text p.names p.result ++ codes ";")
