-- The grammar, by its rules over words: what stands at the front of a list of words, and what is left behind it. The statements
-- are those of cpGCL (Bagnall, Stewart and Banerjee, PLDI 2023); their form is this project's own.
use Rattle.std.specs.Prelude.{◌≡◌, ℕ, suc, ◌-◌, pos, true, false, List, ◌∷◌, Option, Some, None}
use Rattle.gcl_core.specs.declared.rules.TheConstants.{MOST_ARMS}
use Rattle.gcl_core.specs.declared.tokens.Key.TheVariants as key
use Rattle.gcl_core.specs.declared.tokens.Sym.{Sym}
use Rattle.gcl_core.specs.declared.tokens.Sym.TheVariants as sym
use Rattle.gcl_core.specs.declared.words.Word.{Word}
use Rattle.gcl_core.specs.declared.words.Word.TheVariants as word
use Rattle.gcl_core.specs.declared.syntax.BinOp.{BinOp}
use Rattle.gcl_core.specs.declared.syntax.BinOp.TheVariants as op
use Rattle.gcl_core.specs.declared.syntax.Weight.{Weight}
use Rattle.gcl_core.specs.declared.levels.Level.{Level}
use Rattle.gcl_core.specs.declared.levels.Level.TheVariants as level
use Rattle.gcl_core.specs.text.Levels.{level_of, above}
use Rattle.gcl_core.specs.meaning.Syntax.{Expression, Num, Truth, Var, Neg, Not, Bin, Statement, Skip, Set, If, While, Choice, Choose, Uniform, Observe, Statements, done, ◌▸◌, ArmList, no_arm, arm}

-- ---- expressions

abbrev pub symbol_operator : Sym → Option BinOp
symbol_operator sym.Plus = Some op.Add
symbol_operator sym.Minus = Some op.Sub
symbol_operator sym.Star = Some op.Mul
symbol_operator sym.Slash = Some op.Div
symbol_operator sym.Percent = Some op.Rem
symbol_operator sym.Equal = Some op.Eq
symbol_operator sym.NotEqual = Some op.Ne
symbol_operator sym.Less = Some op.Lt
symbol_operator sym.LessEqual = Some op.Le
symbol_operator sym.Greater = Some op.Gt
symbol_operator sym.GreaterEqual = Some op.Ge
symbol_operator _ = None

-- the operator between two operands that a word is
abbrev pub operator : Word → Option BinOp
operator (word.Key key.Or) = Some op.Or
operator (word.Key key.And) = Some op.And
operator (word.Sym s) = symbol_operator s
operator _ = None

-- operators of these levels stand in rows, which group to the left; comparisons do not
pub data IsRow : Level → Type 0 where
  or_row : IsRow level.Or
  and_row : IsRow level.And
  sum_row : IsRow level.Sum
  product_row : IsRow level.Product

-- the expression that a word is by itself: a number, a name, `true` or `false`
abbrev pub leaf : Word → Option Expression
leaf (word.Number n) = Some (Num (pos n))
leaf (word.Name x) = Some (Var x)
leaf (word.Key key.True) = Some (Truth true)
leaf (word.Key key.False) = Some (Truth false)
leaf _ = None

-- `ReadsPhrase l ts e rest`: a phrase of the level l, which is the expression e, stands at the front of ts, and rest behind it
mutual
  pub data ReadsPhrase : Level → List Word → Expression → List Word → Type 0 where
    -- NUMBER, NAME, `true` or `false`
    a_leaf : {rest : List Word} {v : Word} {e : Expression} → leaf v ≡ Some e → ReadsPhrase level.Atom (v ∷ rest) e rest
    -- `( expr )`
    in_brackets : {ts rest : List Word} {e : Expression} → ReadsPhrase level.Or ts e (word.Sym sym.RightParen ∷ rest)
        → ReadsPhrase level.Atom (word.Sym sym.LeftParen ∷ ts) e rest
    -- `-` sign, or an atom
    with_sign : {ts rest : List Word} {e : Expression} → ReadsPhrase level.Sign ts e rest
        → ReadsPhrase level.Sign (word.Sym sym.Minus ∷ ts) (Neg e) rest
    without_sign : {ts rest : List Word} {e : Expression} → ReadsPhrase level.Atom ts e rest → ReadsPhrase level.Sign ts e rest
    -- sum [ (`=` | `!=` | `<` | `<=` | `>` | `>=`) sum ]
    a_comparison : {ts mid rest : List Word} {v : Word} {o : BinOp} {a b : Expression} → ReadsPhrase level.Sum ts a (v ∷ mid)
        → operator v ≡ Some o
        → level_of o ≡ level.Compare → ReadsPhrase level.Sum mid b rest → ReadsPhrase level.Compare ts (Bin o a b) rest
    no_comparison : {ts rest : List Word} {e : Expression} → ReadsPhrase level.Sum ts e rest → ReadsPhrase level.Compare ts e rest
    -- `not` not, or a comparison
    with_not : {ts rest : List Word} {e : Expression} → ReadsPhrase level.Not ts e rest
        → ReadsPhrase level.Not (word.Key key.Not ∷ ts) (Not e) rest
    without_not : {ts rest : List Word} {e : Expression} → ReadsPhrase level.Compare ts e rest → ReadsPhrase level.Not ts e rest
    -- or = and { `or` and }, and = not { `and` not }, sum = product { (`+` | `-`) product }, product = sign { (`*` | `/` | `%`)
    -- sign }
    a_row : {l : Level} {ts mid rest : List Word} {a e : Expression} → IsRow l → ReadsPhrase (above l) ts a mid
        → ReadsMore l a mid e rest → ReadsPhrase l ts e rest

  -- where a was read so far, the rest of a row of this level makes e of it
  pub data ReadsMore : Level → Expression → List Word → Expression → List Word → Type 0 where
    no_more : {l : Level} {a : Expression} {ts : List Word} → ReadsMore l a ts a ts
    one_more : {l : Level} {ts mid rest : List Word} {v : Word} {o : BinOp} {a b e : Expression} → operator v ≡ Some o
        → level_of o ≡ l
        → ReadsPhrase (above l) ts b mid → ReadsMore l (Bin o a b) mid e rest → ReadsMore l a (v ∷ ts) e rest

-- an expression is a phrase of the loosest level
abbrev pub ReadsExpression : List Word → Expression → List Word → Type 0
ReadsExpression = ReadsPhrase level.Or

-- ---- statements

-- the weight n/d, as written
abbrev pub written_weight : ℕ → ℕ → Weight
written_weight n d = record { num = n; den = d }

mutual
  pub data ReadsStatement : List Word → Statement → List Word → Type 0 where
    -- `skip ;`
    a_skip : {rest : List Word} → ReadsStatement (word.Key key.Skip ∷ word.Sym sym.Semicolon ∷ rest) Skip rest
    -- `NAME := expr ;`
    an_assignment : {x : ℕ} {ts rest : List Word} {e : Expression} → ReadsExpression ts e (word.Sym sym.Semicolon ∷ rest)
        → ReadsStatement (word.Name x ∷ word.Sym sym.Assign ∷ ts) (Set x e) rest
    -- `NAME ~ uniform ( expr ) ;`
    a_uniform : {x : ℕ} {ts rest : List Word} {e : Expression}
        → ReadsExpression ts e (word.Sym sym.RightParen ∷ word.Sym sym.Semicolon ∷ rest)
        → ReadsStatement (word.Name x ∷ word.Sym sym.Tilde ∷ word.Key key.Uniform ∷ word.Sym sym.LeftParen ∷ ts)
        (Uniform x e) rest
    -- `observe expr ;`
    an_observation : {ts rest : List Word} {e : Expression} → ReadsExpression ts e (word.Sym sym.Semicolon ∷ rest)
        → ReadsStatement (word.Key key.Observe ∷ ts) (Observe e) rest
    -- `if expr block [ else block ]`
    an_if : {ts mid after rest : List Word} {e : Expression} {a c : Statements} → ReadsExpression ts e mid
        → ReadsBlock mid a after → ReadsElse after c rest
        → ReadsStatement (word.Key key.If ∷ ts) (If e a c) rest
    -- `while expr block`
    a_while : {ts mid rest : List Word} {e : Expression} {a : Statements} → ReadsExpression ts e mid → ReadsBlock mid a rest
        → ReadsStatement (word.Key key.While ∷ ts) (While e a) rest
    -- `choice NUMBER / NUMBER block or block`
    a_choice : {ts mid rest : List Word} {n d : ℕ} {a c : Statements} → ReadsBlock ts a (word.Key key.Or ∷ mid)
        → ReadsBlock mid c rest
        → ReadsStatement (word.Key key.Choice ∷ word.Number n ∷ word.Sym sym.Slash ∷ word.Number d ∷ ts)
        (Choice (written_weight n d) a c) rest
    -- `choose { NUMBER : block | NUMBER : block .. }`, with at most MOST_ARMS arms
    a_choose : {ts mid rest : List Word} {n : ℕ} {b : Statements} {arms : ArmList} → ReadsBlock ts b (word.Sym sym.Bar ∷ mid)
        → ReadsArms (MOST_ARMS - 1) mid arms (word.Sym sym.RightBrace ∷ rest)
        → ReadsStatement (word.Key key.Choose ∷ word.Sym sym.LeftBrace ∷ word.Number n ∷ word.Sym sym.Colon ∷ ts)
        (Choose (arm n b arms)) rest

  -- one arm or more, at most as many as the number says
  pub data ReadsArms : ℕ → List Word → ArmList → List Word → Type 0 where
    last_arm : {k n : ℕ} {ts rest : List Word} {b : Statements} → ReadsBlock ts b rest
        → ReadsArms (suc k) (word.Number n ∷ word.Sym sym.Colon ∷ ts) (arm n b no_arm) rest
    one_more_arm : {k n : ℕ} {ts mid rest : List Word} {b : Statements} {arms : ArmList}
        → ReadsBlock ts b (word.Sym sym.Bar ∷ mid) → ReadsArms k mid arms rest
        → ReadsArms (suc k) (word.Number n ∷ word.Sym sym.Colon ∷ ts) (arm n b arms) rest

  pub data ReadsStatements : List Word → Statements → List Word → Type 0 where
    no_statement : {ts : List Word} → ReadsStatements ts done ts
    a_statement : {ts mid rest : List Word} {s : Statement} {b : Statements} → ReadsStatement ts s mid
        → ReadsStatements mid b rest → ReadsStatements ts (s ▸ b) rest

  -- `{` statements `}`
  pub data ReadsBlock : List Word → Statements → List Word → Type 0 where
    in_braces : {ts rest : List Word} {b : Statements} → ReadsStatements ts b (word.Sym sym.RightBrace ∷ rest)
        → ReadsBlock (word.Sym sym.LeftBrace ∷ ts) b rest

  -- where there is no `else`, the block is empty
  pub data ReadsElse : List Word → Statements → List Word → Type 0 where
    no_else : {ts : List Word} → ReadsElse ts done ts
    an_else : {ts rest : List Word} {b : Statements} → ReadsBlock ts b rest → ReadsElse (word.Key key.Else ∷ ts) b rest

-- ---- programs

-- statements and `return expr ;`
pub record ReadsProgram (ts : List Word) (body : Statements) (result : Expression) (rest : List Word) : Type 0 where
  pub middle : List Word
  pub statements : ReadsStatements ts body (word.Key key.Return ∷ middle)
  pub last : ReadsExpression middle result (word.Sym sym.Semicolon ∷ rest)
