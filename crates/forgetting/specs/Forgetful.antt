-- The forgetful program: it does what the program does, and sets each variable to 0 where its value no longer matters, unless it
-- is 0 there in any case. So states that differ in such variables alone become one. This project's own rule.
use Rattle.std.specs.Prelude.{ℕ, zero, suc, pos, false, not, ◌&&◌, ◌||◌, ◌==◌, if◌then◌else◌, length}
use Rattle.gcl_core.specs.meaning.Syntax.{Num, Statement, Set, If, While, Choice, Choose, Uniform, Observe, Statements, done, ◌▸◌, ArmList, no_arm, arm, SourceProgram}
use Rattle.forgetting.specs.Liveness.{Names, no_names, both, reads, before_statement, before}
use Rattle.forgetting.specs.Filling.{behind_statement}

-- the variables below a count that are in the one set and not in the other are set to 0, before a block
abbrev pub forget : ℕ → Names → Names → Statements → Statements
forget zero old kept b = b
forget (suc x) old kept b =
    if old x && not (kept x) then (Set x (Num (pos 0)) ▸ forget x old kept b) else forget x old kept b

-- the variables that may stop to matter at the end of a statement, if they do not matter after it; a choice forgets in its blocks
abbrev pub ends_with : Statement → Names → Names
ends_with (Set y e) after x = x == y || reads x e
ends_with (Uniform y e) after x = x == y || reads x e
ends_with (Observe e) after x = reads x e
ends_with (While e a) after x = before_statement (While e a) after x
ends_with _ after x = false

module _ (count : ℕ) where
  abbrev mutual
    -- From the variables that may differ from 0 before it, and those that matter after it. What mattered at a fork and does not
    -- matter to a branch is forgotten where the branch begins.
    pub forgetful_statement : Statement → Names → Names → Statement
    forgetful_statement (If e a c) filled after =
        let old = both (before_statement (If e a c) after) filled in
        If e (forget count old (before a after) (forgetful a filled after)) (forget count old (before c after) (forgetful c filled after))
    forgetful_statement (While e a) filled after =
        let head = before_statement (While e a) after in
        let old = behind_statement (While e a) filled in
        While e (forget count (both head old) (before a head) (forgetful a old head))
    forgetful_statement (Choice w a c) filled after =
        let old = both (before_statement (Choice w a c) after) filled in
        Choice w (forget count old (before a after) (forgetful a filled after)) (forget count old (before c after) (forgetful c filled after))
    forgetful_statement (Choose arms) filled after =
        Choose (forgetful_arms arms (both (before_statement (Choose arms) after) filled) filled after)
    forgetful_statement s filled after = s

    pub forgetful : Statements → Names → Names → Statements
    forgetful done filled after = done
    forgetful (s ▸ b) filled after =
        let kept = before b after in
        let now = behind_statement s filled in
        forgetful_statement s filled kept ▸ forget count (both (ends_with s kept) now) kept (forgetful b now after)

    pub forgetful_arms : ArmList → Names → Names → Names → ArmList
    forgetful_arms no_arm old filled after = no_arm
    forgetful_arms (arm p b arms) old filled after =
        arm p (forget count old (before b after) (forgetful b filled after)) (forgetful_arms arms old filled after)

-- all variables begin as 0, and behind the body the result matters
abbrev pub forgetful_of : SourceProgram → SourceProgram
forgetful_of p = record { names = p.names; body = forgetful (length p.names) p.body no_names (λ x. reads x p.result); result = p.result }
