-- The marks of which a canonical text consists. Proofs that it is read back need them, for its words. This project's own rule.
use Rattle.std.specs.Prelude.{ℕ, zero, suc, ℤ, pos, negsuc, Bool, true, false, List, [], ◌∷◌, ◌++◌}
use Rattle.gcl_core.specs.declared.tokens.Key.{Key}
use Rattle.gcl_core.specs.declared.tokens.Key.TheVariants as key
use Rattle.gcl_core.specs.declared.tokens.Sym.{Sym}
use Rattle.gcl_core.specs.declared.tokens.Sym.TheVariants as sym
use Rattle.gcl_core.specs.declared.words.Word.{Word}
use Rattle.gcl_core.specs.declared.words.Word.TheVariants as word
use Rattle.gcl_core.specs.declared.syntax.BinOp.{BinOp}
use Rattle.gcl_core.specs.declared.syntax.BinOp.TheVariants as op
use Rattle.gcl_core.specs.declared.syntax.Weight.{Weight}
use Rattle.gcl_core.specs.declared.levels.Level.TheVariants as level
use Rattle.gcl_core.specs.text.Names.{Name}
use Rattle.gcl_core.specs.text.Levels.{left_level, is_within, level_of, above}
use Rattle.gcl_core.specs.meaning.Syntax.{Expression, Num, Truth, Var, Neg, Not, Bin, Statement, Skip, Set, If, While, Choice, Choose, Uniform, Observe, Statements, done, ◌▸◌, ArmList, no_arm, arm, SourceProgram}
use Rattle.gcl_print.specs.Marks.{Mark, a_word, a_space, a_line_feed, marks_text}

-- ---- marks of one word

abbrev pub digits_mark : ℕ → Mark
digits_mark n = a_word (word.Number n)

abbrev pub name_mark : ℕ → Mark
name_mark x = a_word (word.Name x)

abbrev pub key_mark : Key → Mark
key_mark k = a_word (word.Key k)

abbrev pub symbol_mark : Sym → Mark
symbol_mark s = a_word (word.Sym s)

-- ---- expressions

abbrev pub operator_word : BinOp → Word
operator_word op.Add = word.Sym sym.Plus
operator_word op.Sub = word.Sym sym.Minus
operator_word op.Mul = word.Sym sym.Star
operator_word op.Div = word.Sym sym.Slash
operator_word op.Rem = word.Sym sym.Percent
operator_word op.Eq = word.Sym sym.Equal
operator_word op.Ne = word.Sym sym.NotEqual
operator_word op.Lt = word.Sym sym.Less
operator_word op.Le = word.Sym sym.LessEqual
operator_word op.Gt = word.Sym sym.Greater
operator_word op.Ge = word.Sym sym.GreaterEqual
operator_word op.And = word.Key key.And
operator_word op.Or = word.Key key.Or

abbrev pub truth_key : Bool → Key
truth_key true = key.True
truth_key false = key.False

-- a number below 0, which no text gives, has a minus sign before its digits
abbrev pub number_marks : ℤ → List Mark
number_marks (pos n) = digits_mark n ∷ []
number_marks (negsuc n) = symbol_mark sym.Minus ∷ digits_mark (suc n) ∷ []

abbrev pub bracketed_unless : Bool → List Mark → List Mark
bracketed_unless true ms = ms
bracketed_unless false ms = symbol_mark sym.LeftParen ∷ (ms ++ symbol_mark sym.RightParen ∷ [])

abbrev pub expression_marks : Expression → List Mark
expression_marks (Num z) = number_marks z
expression_marks (Truth b) = key_mark (truth_key b) ∷ []
expression_marks (Var x) = name_mark x ∷ []
expression_marks (Neg a) = symbol_mark sym.Minus ∷ bracketed_unless (is_within level.Sign a) (expression_marks a)
expression_marks (Not a) = key_mark key.Not ∷ a_space ∷ bracketed_unless (is_within level.Not a) (expression_marks a)
expression_marks (Bin o a b) =
    bracketed_unless (is_within (left_level (level_of o)) a) (expression_marks a)
    ++ a_space ∷ a_word (operator_word o) ∷ a_space ∷ bracketed_unless (is_within (above (level_of o)) b) (expression_marks b)

-- ---- lines

-- two spaces for each block around
abbrev pub indent : ℕ → List Mark
indent zero = []
indent (suc n) = a_space ∷ a_space ∷ indent n

abbrev pub line : ℕ → List Mark → List Mark
line n ms = indent n ++ (ms ++ a_line_feed ∷ [])

-- before an expression, the expression, and behind it
abbrev pub around : List Mark → Expression → List Mark → List Mark
around before e behind = before ++ (expression_marks e ++ behind)

-- `EXPR {` behind a reserved name
abbrev pub opening : Key → Expression → List Mark
opening k e = around (key_mark k ∷ a_space ∷ []) e (a_space ∷ symbol_mark sym.LeftBrace ∷ [])

-- `choice NUM/NUM {`
abbrev pub choice_opening : Weight → List Mark
choice_opening w =
    key_mark key.Choice ∷ a_space ∷ digits_mark w.num ∷ symbol_mark sym.Slash ∷ digits_mark w.den ∷ a_space
    ∷ symbol_mark sym.LeftBrace ∷ []

-- `choose {`
abbrev pub choose_opening : List Mark
choose_opening = key_mark key.Choose ∷ a_space ∷ symbol_mark sym.LeftBrace ∷ []

-- `NUM: {`
abbrev pub arm_opening : ℕ → List Mark
arm_opening p = digits_mark p ∷ symbol_mark sym.Colon ∷ a_space ∷ symbol_mark sym.LeftBrace ∷ []

-- `} | `, before each arm but the first
abbrev pub behind_arm : List Mark
behind_arm = symbol_mark sym.RightBrace ∷ a_space ∷ symbol_mark sym.Bar ∷ a_space ∷ []

-- `} or {` or `} else {`, by the reserved name
abbrev pub between : Key → List Mark
between k = symbol_mark sym.RightBrace ∷ a_space ∷ key_mark k ∷ a_space ∷ symbol_mark sym.LeftBrace ∷ []

-- `}`
abbrev pub closing : List Mark
closing = symbol_mark sym.RightBrace ∷ []

-- the right block of an `if`, whose lines are given: nothing where it is empty
abbrev pub else_lines : ℕ → Statements → List Mark → List Mark
else_lines n done lines = []
else_lines n (s ▸ b) lines = line n (between key.Else) ++ lines

-- ---- statements, with n blocks around them

abbrev mutual
  pub statement_lines : ℕ → Statement → List Mark
  statement_lines n Skip = line n (key_mark key.Skip ∷ symbol_mark sym.Semicolon ∷ [])
  statement_lines n (Set x e) =
      line n (around (name_mark x ∷ a_space ∷ symbol_mark sym.Assign ∷ a_space ∷ []) e (symbol_mark sym.Semicolon ∷ []))
  statement_lines n (Uniform x e) =
      line n
      (around
      (name_mark x ∷ a_space ∷ symbol_mark sym.Tilde ∷ a_space ∷ key_mark key.Uniform ∷ symbol_mark sym.LeftParen ∷ [])
      e
      (symbol_mark sym.RightParen ∷ symbol_mark sym.Semicolon ∷ []))
  statement_lines n (Observe e) = line n (around (key_mark key.Observe ∷ a_space ∷ []) e (symbol_mark sym.Semicolon ∷ []))
  statement_lines n (If e a c) =
      line n (opening key.If e) ++ (block_lines (suc n) a ++ (else_lines n c (block_lines (suc n) c) ++ line n closing))
  statement_lines n (While e a) = line n (opening key.While e) ++ (block_lines (suc n) a ++ line n closing)
  statement_lines n (Choice w a c) =
      line n (choice_opening w)
      ++ (block_lines (suc n) a ++ (line n (between key.Or) ++ (block_lines (suc n) c ++ line n closing)))
  statement_lines n (Choose arms) = line n choose_opening ++ (arm_lines (suc n) [] arms ++ line n closing)

  pub block_lines : ℕ → Statements → List Mark
  block_lines n done = []
  block_lines n (s ▸ b) = statement_lines n s ++ block_lines n b

  -- the arms, the first of them behind this front
  pub arm_lines : ℕ → List Mark → ArmList → List Mark
  arm_lines n front no_arm = line n closing
  arm_lines n front (arm p b arms) = line n (front ++ arm_opening p) ++ (block_lines (suc n) b ++ arm_lines n behind_arm arms)

-- ---- programs

-- the statements of the body, and the result on the last line
abbrev pub canonical_marks : SourceProgram → List Mark
canonical_marks p =
    block_lines 0 p.body ++ line 0 (around (key_mark key.Return ∷ a_space ∷ []) p.result (symbol_mark sym.Semicolon ∷ []))

abbrev pub marked_text : SourceProgram → List ℕ
marked_text p = marks_text p.names (canonical_marks p)

-- an expression, with variables of these names
abbrev pub marked_expression : List Name → Expression → List ℕ
marked_expression names e = marks_text names (expression_marks e)
