-- The canonical text is that of its marks.
use Rattle.std.proofs.Common.{◌≡◌, ◌∙◌, refl, sym, ap, ℕ, zero, suc, pos, negsuc, Bool, true, false, List, [], ◌∷◌, ◌++◌, codes, decimal}
use Rattle.std.proofs.lemmas.Grind.{flat_map-append}
use Rattle.std.proofs.lemmas.List.{append_assoc, append-nil}
use Rattle.gcl_core.specs.declared.levels.Level.TheVariants as level
use Rattle.gcl_core.specs.declared.syntax.BinOp.{BinOp}
use Rattle.gcl_core.specs.declared.syntax.BinOp.TheVariants as op
use Rattle.gcl_core.specs.declared.tokens.Key.{Key}
use Rattle.gcl_core.specs.declared.tokens.Key.TheVariants as key
use Rattle.gcl_core.specs.declared.tokens.Sym.TheVariants as symbol
use Rattle.gcl_core.specs.text.Names.{Name}
use Rattle.gcl_core.specs.text.Levels.{left_level, is_within, level_of, above}
use Rattle.gcl_core.specs.meaning.Syntax.{Expression, Num, Truth, Var, Neg, Not, Bin, Statement, Skip, Set, If, While, Choice, Choose, Uniform, Observe, Statements, done, ◌▸◌, ArmList, no_arm, arm, SourceProgram}
use Rattle.gcl_print.specs.Canonical.{operator_text, indent, line, else_line, in_brackets_unless, name_text, expression_text, statement_lines, block_lines, arm_lines, canonical_text}
use Rattle.gcl_print.specs.Marks.{Mark, a_word, a_space, a_line_feed, word_text, mark_text, marks_text}
use Rattle.gcl_print.specs.MarkedText.{name_mark, key_mark, symbol_mark, operator_word, bracketed_unless, expression_marks, around, opening, choice_opening, choose_opening, arm_opening, behind_arm, between, closing, else_lines, marked_text, marked_expression}
use Rattle.gcl_print.specs.MarkedText as marked

operator_marked : (names : List Name) (o : BinOp) → word_text names (operator_word o) ≡ operator_text o
operator_marked names op.Add = refl
operator_marked names _ = refl

module _ (names : List Name) where
  abbrev text_of : List Mark → List ℕ
  text_of ms = marks_text names ms

  joined : (ms ns : List Mark) {a b : List ℕ} → text_of ms ≡ a → text_of ns ≡ b → text_of (ms ++ ns) ≡ a ++ b
  joined ms ns {a} {b} p q = flat_map-append (mark_text names) ms ns ∙ ap (λ t. t ++ text_of ns) p ∙ ap (λ t. a ++ t) q

  -- ---- expressions

  bracketed : (b : Bool) (ms : List Mark) {t : List ℕ} → text_of ms ≡ t → text_of (bracketed_unless b ms) ≡ in_brackets_unless b t
  bracketed true ms p = p
  bracketed false ms p = ap (λ t. codes "(" ++ t) (joined ms (symbol_mark symbol.RightParen ∷ []) p refl)

  between_operands : (o : BinOp) (ms : List Mark) {t : List ℕ} → text_of ms ≡ t
      → text_of (a_space ∷ a_word (operator_word o) ∷ a_space ∷ ms) ≡ codes " " ++ (operator_text o ++ (codes " " ++ t))
  between_operands o ms p =
      ap (λ t. codes " " ++ (t ++ (codes " " ++ text_of ms))) (operator_marked names o) ∙ ap (λ t. codes " " ++ (operator_text o ++ (codes " " ++ t))) p

  of_expression : (e : Expression) → text_of (expression_marks e) ≡ expression_text names e
  of_expression (Num (pos n)) = append-nil (decimal n)
  of_expression (Num (negsuc n)) = ap (λ t. codes "-" ++ t) (append-nil (decimal (suc n)))
  of_expression (Truth true) = refl
  of_expression (Truth false) = refl
  of_expression (Var x) = append-nil (name_text names x)
  of_expression (Neg a) = ap (λ t. codes "-" ++ t) (bracketed (is_within level.Sign a) (expression_marks a) (of_expression a))
  of_expression (Not a) = ap (λ t. codes "not " ++ t) (bracketed (is_within level.Not a) (expression_marks a) (of_expression a))
  of_expression (Bin o a b) =
      let left = is_within (left_level (level_of o)) a in
      let right = is_within (above (level_of o)) b in
      joined (bracketed_unless left (expression_marks a)) (a_space ∷ a_word (operator_word o) ∷ a_space ∷ bracketed_unless right (expression_marks b))
      (bracketed left (expression_marks a) (of_expression a))
      (between_operands o (bracketed_unless right (expression_marks b)) (bracketed right (expression_marks b) (of_expression b)))
      ∙ simp append_assoc

  -- ---- lines

  of_indent : (n : ℕ) → text_of (marked.indent n) ≡ indent n
  of_indent zero = refl
  of_indent (suc n) = ap (λ t. codes "  " ++ t) (of_indent n)

  of_line : (n : ℕ) (ms : List Mark) (t : List ℕ) → text_of ms ≡ t → text_of (marked.line n ms) ≡ line n t
  of_line n ms t p = joined (marked.indent n) (ms ++ a_line_feed ∷ []) (of_indent n) (joined ms (a_line_feed ∷ []) p refl) ∙ sym (append_assoc (indent n) t (codes "\n"))

  of_around : (before : List Mark) (e : Expression) (behind : List Mark)
      → text_of (around before e behind) ≡ text_of before ++ (expression_text names e ++ text_of behind)
  of_around before e behind = joined before (expression_marks e ++ behind) refl (joined (expression_marks e) behind (of_expression e) refl)

  -- the line of a variable, an expression, and what stands around it
  of_named_line : (n x : ℕ) (before : List Mark) (e : Expression) (behind : List Mark)
      → text_of (marked.line n (around (name_mark x ∷ before) e behind)) ≡ line n (name_text names x ++ text_of before ++ expression_text names e ++ text_of behind)
  of_named_line n x before e behind = of_line n (around (name_mark x ∷ before) e behind) _ (ap (λ t. name_text names x ++ t) (of_around before e behind) ∙ simp append_assoc)

  of_opening : (n : ℕ) (k : Key) (e : Expression)
      → text_of (marked.line n (opening k e)) ≡ line n (text_of (key_mark k ∷ a_space ∷ []) ++ (expression_text names e ++ codes " {"))
  of_opening n k e = of_line n (opening k e) _ (of_around (key_mark k ∷ a_space ∷ []) e (a_space ∷ symbol_mark symbol.LeftBrace ∷ []))

  of_closing : (n : ℕ) → text_of (marked.line n closing) ≡ line n (codes "}")
  of_closing n = of_line n closing (codes "}") refl

  -- ---- statements

  of_else : (n : ℕ) (c : Statements) → text_of (marked.block_lines (suc n) c) ≡ block_lines names (suc n) c
      → text_of (else_lines n c (marked.block_lines (suc n) c)) ≡ else_line n c ++ block_lines names (suc n) c
  of_else n done p = refl
  of_else n (s ▸ b) p = joined (marked.line n (between key.Else)) (marked.block_lines (suc n) (s ▸ b)) (of_line n (between key.Else) (codes "} else {") refl) p

  mutual
    of_statement : (n : ℕ) (s : Statement) → text_of (marked.statement_lines n s) ≡ statement_lines names n s
    of_statement n Skip = of_line n (key_mark key.Skip ∷ symbol_mark symbol.Semicolon ∷ []) (codes "skip;") refl
    of_statement n (Set x e) = of_named_line n x (a_space ∷ symbol_mark symbol.Assign ∷ a_space ∷ []) e (symbol_mark symbol.Semicolon ∷ [])
    of_statement n (Uniform x e) =
        of_named_line n x (a_space ∷ symbol_mark symbol.Tilde ∷ a_space ∷ key_mark key.Uniform ∷ symbol_mark symbol.LeftParen ∷ []) e (symbol_mark symbol.RightParen ∷ symbol_mark symbol.Semicolon ∷ [])
    of_statement n (Observe e) =
        of_line n (around (key_mark key.Observe ∷ a_space ∷ []) e (symbol_mark symbol.Semicolon ∷ [])) _ (of_around (key_mark key.Observe ∷ a_space ∷ []) e (symbol_mark symbol.Semicolon ∷ []))
    of_statement n (If e a c) =
        let right = else_lines n c (marked.block_lines (suc n) c) in
        joined (marked.line n (opening key.If e)) (marked.block_lines (suc n) a ++ (right ++ marked.line n closing)) (of_opening n key.If e)
        (joined (marked.block_lines (suc n) a) (right ++ marked.line n closing) (of_block (suc n) a)
        (joined right (marked.line n closing) (of_else n c (of_block (suc n) c)) (of_closing n)))
        ∙ simp append_assoc
    of_statement n (While e a) =
        joined (marked.line n (opening key.While e)) (marked.block_lines (suc n) a ++ marked.line n closing) (of_opening n key.While e)
        (joined (marked.block_lines (suc n) a) (marked.line n closing) (of_block (suc n) a) (of_closing n))
        ∙ simp append_assoc
    of_statement n (Choice w a c) =
        let right = marked.block_lines (suc n) c ++ marked.line n closing in
        joined (marked.line n (choice_opening w)) (marked.block_lines (suc n) a ++ (marked.line n (between key.Or) ++ right)) (of_line n (choice_opening w) _ refl)
        (joined (marked.block_lines (suc n) a) (marked.line n (between key.Or) ++ right) (of_block (suc n) a)
        (joined (marked.line n (between key.Or)) right (of_line n (between key.Or) (codes "} or {") refl)
        (joined (marked.block_lines (suc n) c) (marked.line n closing) (of_block (suc n) c) (of_closing n))))
        ∙ simp append_assoc
    of_statement n (Choose arms) =
        joined (marked.line n choose_opening) (marked.arm_lines (suc n) [] arms ++ marked.line n closing) (of_line n choose_opening (codes "choose {") refl)
        (joined (marked.arm_lines (suc n) [] arms) (marked.line n closing) (of_arms (suc n) [] arms) (of_closing n))
        ∙ simp append_assoc

    of_arms : (n : ℕ) (front : List Mark) (arms : ArmList) → text_of (marked.arm_lines n front arms) ≡ arm_lines names n (text_of front) arms
    of_arms n front no_arm = of_closing n
    of_arms n front (arm p b arms) =
        joined (marked.line n (front ++ arm_opening p)) (marked.block_lines (suc n) b ++ marked.arm_lines n behind_arm arms) (of_line n (front ++ arm_opening p) _ (joined front (arm_opening p) refl refl))
        (joined (marked.block_lines (suc n) b) (marked.arm_lines n behind_arm arms) (of_block (suc n) b) (of_arms n behind_arm arms))
        ∙ simp append_assoc

    of_block : (n : ℕ) (b : Statements) → text_of (marked.block_lines n b) ≡ block_lines names n b
    of_block n done = refl
    of_block n (s ▸ b) = joined (marked.statement_lines n s) (marked.block_lines n b) (of_statement n s) (of_block n b)

pub expression_marked : (names : List Name) (e : Expression) → expression_text names e ≡ marked_expression names e
expression_marked names e = sym (of_expression names e)

pub text_marked : (p : SourceProgram) → canonical_text p ≡ marked_text p
text_marked p =
    let last = around (key_mark key.Return ∷ a_space ∷ []) p.result (symbol_mark symbol.Semicolon ∷ []) in
    sym
    (joined p.names (marked.block_lines 0 p.body) (marked.line 0 last) (of_block p.names 0 p.body)
    (of_line p.names 0 last _ (of_around p.names (key_mark key.Return ∷ a_space ∷ []) p.result (symbol_mark symbol.Semicolon ∷ []))))
