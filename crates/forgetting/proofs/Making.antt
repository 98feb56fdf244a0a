-- What is made from the end, in reverse.
use Rattle.std.proofs.Common.{◌≡◌, ◌∙◌, ℕ, zero, suc, pos, ◌<◌, ◌≤◌, Bool, true, false, ◌&&◌, ◌||◌, List, [], ◌∷◌, ◌++◌, reverse, length, drop, get_or, refl, sym, ap, subst, arith}
use Rattle.std.specs.Prelude.{not, if◌then◌else◌}
use Rattle.std.proofs.lemmas.List.{reverse-append}
use Rattle.std.proofs.Math.Path.{fun_ext}
use Rattle.gcl_core.specs.declared.rules.TheConstants.{MOST_NAMES}
use Rattle.gcl_core.specs.declared.syntax.Block.{Block}
use Rattle.gcl_core.specs.declared.syntax.Stmt.{Stmt}
use Rattle.gcl_core.specs.declared.syntax.Stmt.TheVariants as stmt
use Rattle.gcl_core.specs.declared.syntax.Expr.TheVariants as expr
use Rattle.gcl_core.proofs.ViewLemmas.{set_view}
use Rattle.gcl_core.specs.meaning.Bounds.{ExpressionBelow, StatementBelow, BlockBelow, ArmsBelow}
use Rattle.gcl_core.specs.meaning.Checked.{IsChecked}
use Rattle.gcl_core.specs.meaning.Syntax.{Expression, Num, Truth, Var, Neg, Not, Bin, Statement, Skip, Set, If, While, Choice, Choose, Uniform, Observe, Statements, done, ◌▸◌, ArmList, no_arm, arm, SourceProgram}
use Rattle.gcl_core.specs.text.Acceptance.{ProgramRefusal, too_many_names, first_refusal, flaws_of}
use Rattle.gcl_core.specs.meaning.Views.{statement_of, list_of, statements_of, arm_list_of}
use Rattle.std.specs.Prelude.{nat_lt, Option, Some, None}
use Rattle.std.proofs.lemmas.Bool.Decides.{nat_tests}
use Rattle.gcl_core.specs.text.Names.{Name}
use Rattle.forgetting.specs.Liveness.{Names, no_names, both, reads, before_statement, before}
use Rattle.forgetting.specs.Filling.{behind_statement}
use Rattle.forgetting.specs.inner.Fronts.{filled_at}
use Rattle.forgetting.specs.Forgetful.{forget, ends_with, forgetful_statement, forgetful, forgetful_arms, forgetful_of}
use Rattle.forgetting.specs.Marks.{marked}
use Rattle.forgetting.proofs.FilledPlaces.{filled_next}
use Rattle.forgetting.proofs.Marking.{next_of, next_arm_of, or_false}

-- one more at the end is one more at the front in reverse
pub put : (ss : List Stmt) (s : Stmt) → list_of (reverse (ss ++ s ∷ [])) ≡ statement_of s ▸ list_of (reverse ss)
put ss s = ap list_of (reverse-append ss (s ∷ []))

pub put_zero : (ss more : List Stmt) (x : ℕ) → more ≡ ss ++ stmt.Set x (expr.Num (pos 0)) ∷ [] → list_of (reverse more) ≡ Set x (Num (pos 0)) ▸ list_of (reverse ss)
put_zero ss more x e = ap (λ ms. list_of (reverse ms)) e ∙ put ss (stmt.Set x (expr.Num (pos 0))) ∙ ap (λ s. s ▸ list_of (reverse ss)) (set_view x (expr.Num (pos 0)))

pub put_arm : (arms : List (ℕ × Block)) (a : ℕ × Block) → arm_list_of (reverse (arms ++ a ∷ [])) ≡ arm a.0 (statements_of a.1) (arm_list_of (reverse arms))
put_arm arms a = ap arm_list_of (reverse-append arms (a ∷ []))

-- nothing is forgotten of nothing
pub forget_none : (count : ℕ) (old kept : Names) (b : Statements) → ((x : ℕ) → old x ≡ false) → forget count old kept b ≡ b
forget_none zero old kept b none = refl
forget_none (suc x) old kept b none =
    ap (λ t. if (t && not (kept x)) then (Set x (Num (pos 0)) ▸ forget x old kept b) else forget x old kept b) (none x) ∙ forget_none x old kept b none

-- the next statement, from the end
after_next : (P : ℕ → Type 0) (i k : ℕ) → suc i ≡ k → P k → P (suc i)
after_next P i k e h = subst P (sym e) h

next_is : (ss : List Stmt) (i : ℕ) (st : Stmt) → i < length ss → st ≡ get_or ss i st → list_of (drop i ss) ≡ statement_of st ▸ list_of (drop (suc i) ss)
next_is ss i st lt is = next_of ss i st lt ∙ ap (λ s. statement_of s ▸ list_of (drop (suc i) ss)) (sym is)

pub next_before : (ss : List Stmt) (i k : ℕ) (st : Stmt) (L set new : Names) → i < length ss → suc i ≡ k → st ≡ get_or ss i st → set ≡ before (list_of (drop k ss)) L →
    new ≡ before_statement (statement_of st) set → new ≡ before (list_of (drop i ss)) L
next_before ss i k st L set new lt up at e is =
    is ∙ ap (before_statement (statement_of st)) (after_next (λ k. set ≡ before (list_of (drop k ss)) L) i k up e) ∙ ap (λ b. before b L) (sym (next_is ss i st lt at))

pub next_made : (count : ℕ) (ss : List Stmt) (i k : ℕ) (st : Stmt) (F L set ended front : Names) (made forgotten : Statements) (s : Statement) → i < length ss → suc i ≡ k → st ≡ get_or ss i st →
    set ≡ before (list_of (drop k ss)) L → made ≡ forgetful count (list_of (drop k ss)) (filled_at k ss F) L → ended ≡ both (ends_with (statement_of st) set) (filled_at k ss F) →
    forgotten ≡ forget count ended set made → front ≡ filled_at i ss F → s ≡ forgetful_statement count (statement_of st) front set →
    (s ▸ forgotten) ≡ forgetful count (list_of (drop i ss)) (filled_at i ss F) L
next_made count ss i k st F L set ended front made forgotten s lt up at e m w f fr is =
    let e' = after_next (λ k. set ≡ before (list_of (drop k ss)) L) i k up e in
    let m' = after_next (λ k. made ≡ forgetful count (list_of (drop k ss)) (filled_at k ss F) L) i k up m in
    let w' = after_next (λ k. ended ≡ both (ends_with (statement_of st) set) (filled_at k ss F)) i k up w in
    let next = filled_next ss F i (suc i) st lt (omega arith) at in
    let A = filled_at i ss F in
    let rest = list_of (drop (suc i) ss) in
    ap (λ s. s ▸ forgotten) (is ∙ ap (λ A. forgetful_statement count (statement_of st) A set) fr)
    ∙ ap (λ b. forgetful_statement count (statement_of st) A set ▸ b) (f ∙ ap (λ o. forget count o set made) w' ∙ ap (forget count (both (ends_with (statement_of st) set) (filled_at (suc i) ss F)) set) m')
    ∙ ap (λ G. forgetful_statement count (statement_of st) A set ▸ forget count (both (ends_with (statement_of st) set) G) set (forgetful count rest G L)) next
    ∙ ap (λ K. forgetful_statement count (statement_of st) A K ▸ forget count (both (ends_with (statement_of st) K) (behind_statement (statement_of st) A)) K (forgetful count rest (behind_statement (statement_of st) A) L)) e'
    ∙ ap (λ b. forgetful count b A L) (sym (next_is ss i st lt at))

pub next_arm_made : (count : ℕ) (arms : List (ℕ × Block)) (i : ℕ) (d : ℕ × Block) (old F L : Names) (made : ArmList) (p : ℕ) (b : Statements) → i < length arms →
    made ≡ forgetful_arms count (arm_list_of (drop (suc i) arms)) old F L → p ≡ (get_or arms i d).0 →
    b ≡ forget count old (before (statements_of (get_or arms i d).1) L) (forgetful count (statements_of (get_or arms i d).1) F L) →
    arm p b made ≡ forgetful_arms count (arm_list_of (drop i arms)) old F L
next_arm_made count arms i d old F L made p b lt m e is =
    ap (λ p. arm p b made) e ∙ ap (λ b. arm (get_or arms i d).0 b made) is
    ∙ ap (arm (get_or arms i d).0 (forget count old (before (statements_of (get_or arms i d).1) L) (forgetful count (statements_of (get_or arms i d).1) F L))) m
    ∙ ap (λ a. forgetful_arms count a old F L) (sym (next_arm_of arms i d lt))

-- ---- variables below a count are below a greater one
module _ (m n : ℕ) (le : m ≤ n) where
  expression_below : (e : Expression) → ExpressionBelow e m → ExpressionBelow e n
  expression_below (Num z) h = tt
  expression_below (Truth b) h = tt
  expression_below (Var x) h = omega (arith, h, le)
  expression_below (Neg a) h = expression_below a h
  expression_below (Not a) h = expression_below a h
  expression_below (Bin op a b) h = (expression_below a h.0, expression_below b h.1)

  mutual
    statement_below : (s : Statement) → StatementBelow m s → StatementBelow n s
    statement_below Skip h = tt
    statement_below (Set x e) h = (omega (arith, h.0, le), expression_below e h.1)
    statement_below (Uniform x e) h = (omega (arith, h.0, le), expression_below e h.1)
    statement_below (Observe e) h = expression_below e h
    statement_below (If e a c) h = (expression_below e h.0, block_below a h.1, block_below c h.2)
    statement_below (While e a) h = (expression_below e h.0, block_below a h.1)
    statement_below (Choice w a c) h = (block_below a h.0, block_below c h.1)
    statement_below (Choose arms) h = arms_below arms h

    block_below : (b : Statements) → BlockBelow m b → BlockBelow n b
    block_below done h = tt
    block_below (s ▸ b) h = (statement_below s h.0, block_below b h.1)

    arms_below : (arms : ArmList) → ArmsBelow m arms → ArmsBelow n arms
    arms_below no_arm h = tt
    arms_below (arm p b arms) h = (block_below b h.0, arms_below arms h.1)

few : (t : Bool) (x : Option ProgramRefusal) → (if t then Some too_many_names else x) ≡ None → t ≡ false
few true x e = absurd (cc)
few false x e = refl

module _ (p : SourceProgram) (checked : IsChecked p) where
  pub names_are_few : length p.names ≤ MOST_NAMES
  names_are_few = let t = few (nat_lt MOST_NAMES (length p.names)) (first_refusal 0 (flaws_of p)) checked.accepted in grind (arith, nat_tests)

  pub body_below : BlockBelow MOST_NAMES p.body
  body_below = block_below (length p.names) MOST_NAMES names_are_few p.body checked.variables.body

  pub result_below : ExpressionBelow p.result MOST_NAMES
  result_below = expression_below (length p.names) MOST_NAMES names_are_few p.result checked.variables.result

-- ---- the program that is put together
abbrev pub program : List Name → Statements → Expression → SourceProgram
program n b r = record { names = n; body = b; result = r }

pub program_is : (p : SourceProgram) (names : List Name) (body : Statements) (result : Expression) (count : ℕ) (old filled none after : List Bool) →
    names ≡ p.names → count ≡ length p.names → ((y : ℕ) → marked old y ≡ false) → ((y : ℕ) → marked filled y ≡ false) → ((y : ℕ) → marked none y ≡ false) →
    ((y : ℕ) → marked after y ≡ (reads y p.result || marked none y)) →
    body ≡ forget count (marked old) (before p.body (marked after)) (forgetful count p.body (marked filled) (marked after)) → result ≡ p.result →
    program names body result ≡ forgetful_of p
program_is p names body result count old filled none after n c o f z a b r =
    let after_is : marked after ≡ (λ x. reads x p.result) = fun_ext (λ y. a y ∙ ap (λ t. reads y p.result || t) (z y) ∙ or_false (reads y p.result)) in
    let filled_is : marked filled ≡ no_names = fun_ext f in
    let body_is : body ≡ forgetful (length p.names) p.body no_names (λ x. reads x p.result) =
    b ∙ forget_none count (marked old) (before p.body (marked after)) (forgetful count p.body (marked filled) (marked after)) o
    ∙ ap (λ c. forgetful c p.body (marked filled) (marked after)) c ∙ ap (λ F. forgetful (length p.names) p.body F (marked after)) filled_is
    ∙ ap (forgetful (length p.names) p.body no_names) after_is in
    ap (λ (n : List Name). program n body result) n ∙ ap (λ (b : Statements). program p.names b result) body_is
    ∙ ap (λ (r : Expression). program p.names (forgetful (length p.names) p.body no_names (λ x. reads x p.result)) r) r
