-- What the masses of the forgetful program tend to, the masses of the program do.
use Rattle.std.proofs.Common.{◌≡◌, ◌∙◌, ℕ, zero, suc, pos, Bool, true, false, ◌&&◌, ◌||◌, None, List, ◌++◌, refl, sym, ap, subst}
use Rattle.std.proofs.lemmas.List.Folds.{list_any-append}
use Rattle.std.specs.List.{list_any}
use Rattle.std.specs.Prelude.{not, length, if◌then◌else◌}
use Rattle.std.proofs.Math.Path.{fun_ext}
use Rattle.gcl_core.specs.declared.answers.Limit.TheVariants.{Turns}
use Rattle.gcl_core.specs.declared.answers.Outcome.TheVariants as outcome
use Rattle.gcl_core.specs.meaning.Outcomes.{same_outcome}
use Rattle.gcl_core.specs.meaning.Syntax.{Num, Statement, Skip, Set, If, While, Choice, Choose, Uniform, Observe, Statements, done, ◌▸◌, ArmList, no_arm, arm, SourceProgram}
use Rattle.gcl_core.specs.text.ReadingOrder.{statement_listed, listed, arms_listed}
use Rattle.gcl_core.specs.weighing.Fractions.{Fraction, one, plus, AtMost}
use Rattle.mass_fold.specs.Rows.{Rows}
use Rattle.forgetting.specs.Liveness.{Names, no_names, both, reads, before_statement, before}
use Rattle.forgetting.specs.Filling.{behind_statement}
use Rattle.forgetting.specs.Forgetful.{forget, ends_with, forgetful_statement, forgetful, forgetful_arms, forgetful_of}
use Rattle.forgetting.specs.SameMeaning.{SameMeaning}
use Rattle.exact_fold.specs.InTheLimit.{TendsTo, RisesTo, IsExactInTheLimit, FailsInTheLimit}
use Rattle.exact_fold.specs.Loops.{is_loop, any_loops}
use Rattle.exact_fold.specs.Refused.{WhyRefused}
use Rattle.exact_fold.specs.inner.AsWritten.{RefusedAsWritten}
use Rattle.exact_fold.specs.declared.error.ExactError.{ExactError}
use Rattle.exact_fold.specs.declared.error.ExactError.TheVariants.{TooWide, TooManyStates, AllFailed, OutOfMemory}

-- ---- forgetting adds no loop
forget_loops : (count : ℕ) (old kept : Names) (b : Statements) → any_loops (forget count old kept b) ≡ any_loops b
forget_loops zero old kept b = refl
forget_loops (suc x) old kept b = by_test (old x && not (kept x)) ∙ forget_loops x old kept b
  where
    by_test : (c : Bool) → any_loops (if c then (Set x (Num (pos 0)) ▸ forget x old kept b) else forget x old kept b) ≡ any_loops (forget x old kept b)
    by_test true = refl
    by_test false = refl

abbrev has_loop : List Statement → Bool
has_loop = list_any is_loop

either_list : (ss ts us vs : List Statement) → has_loop ss ≡ has_loop us → has_loop ts ≡ has_loop vs → has_loop (ss ++ ts) ≡ has_loop (us ++ vs)
either_list ss ts us vs p q =
    list_any-append is_loop ss ts ∙ ap (λ t. t || has_loop ts) p ∙ ap (λ t. has_loop us || t) q ∙ sym (list_any-append is_loop us vs)

module _ (count : ℕ) where
  -- a branch that begins by forgetting
  abbrev branch : (old F L : Names) → Statements → Statements
  branch old F L b = forget count old (before b L) (forgetful count b F L)

  branch_loops : (old F L : Names) (b : Statements) → any_loops (forgetful count b F L) ≡ any_loops b → any_loops (branch old F L b) ≡ any_loops b
  branch_loops old F L b h = forget_loops count old (before b L) (forgetful count b F L) ∙ h

  branches_loop : (old F L : Names) (a c : Statements) → any_loops (forgetful count a F L) ≡ any_loops a → any_loops (forgetful count c F L) ≡ any_loops c →
      has_loop (listed (branch old F L a) ++ listed (branch old F L c)) ≡ has_loop (listed a ++ listed c)
  branches_loop old F L a c h k =
      either_list (listed (branch old F L a)) (listed (branch old F L c)) (listed a) (listed c) (branch_loops old F L a h) (branch_loops old F L c k)

  mutual
    statement_loops : (s : Statement) (F L : Names) → has_loop (statement_listed (forgetful_statement count s F L)) ≡ has_loop (statement_listed s)
    statement_loops Skip F L = refl
    statement_loops (Set x e) F L = refl
    statement_loops (Uniform x e) F L = refl
    statement_loops (Observe e) F L = refl
    statement_loops (While e a) F L = refl
    statement_loops (If e a c) F L =
        branches_loop (both (before_statement (If e a c) L) F) F L a c (block_loops a F L) (block_loops c F L)
    statement_loops (Choice w a c) F L =
        branches_loop (both (before_statement (Choice w a c) L) F) F L a c (block_loops a F L) (block_loops c F L)
    statement_loops (Choose arms) F L = arms_loop arms (both (before_statement (Choose arms) L) F) F L

    block_loops : (b : Statements) (F L : Names) → any_loops (forgetful count b F L) ≡ any_loops b
    block_loops done F L = refl
    block_loops (s ▸ b) F L =
        let kept = before b L in
        let now = behind_statement s F in
        let old = both (ends_with s kept) now in
        let rest = forgetful count b now L in
        either_list (statement_listed (forgetful_statement count s F kept)) (listed (forget count old kept rest)) (statement_listed s) (listed b)
        (statement_loops s F kept) (forget_loops count old kept rest ∙ block_loops b now L)

    arms_loop : (arms : ArmList) (old F L : Names) → has_loop (arms_listed (forgetful_arms count arms old F L)) ≡ has_loop (arms_listed arms)
    arms_loop no_arm old F L = refl
    arms_loop (arm p b arms) old F L =
        either_list (listed (branch old F L b)) (arms_listed (forgetful_arms count arms old F L)) (listed b) (arms_listed arms) (branch_loops old F L b (block_loops b F L)) (arms_loop arms old F L)

pub same_loops : (p : SourceProgram) → any_loops (forgetful_of p).body ≡ any_loops p.body
same_loops p = block_loops (length p.names) p.body no_names (λ x. reads x p.result)

-- ---- limits
module _ (p : SourceProgram) (same : SameMeaning p (forgetful_of p)) where
  pub fails_hold : FailsInTheLimit (forgetful_of p) → FailsInTheLimit p
  fails_hold h = subst (TendsTo one) (fun_ext (λ n. same.failed n None)) h

  pub limits_hold : (rows : Rows) (endless : Fraction) → IsExactInTheLimit (forgetful_of p) rows endless → IsExactInTheLimit p rows endless
  limits_hold rows endless e = record {
    ascending = e.ascending;
    row = λ x q c. let r = e.row x q c in (r.0, r.1, r.2, subst (RisesTo q) (fun_ext (λ n. same.masses n None None (same_outcome x))) r.3);
    others = λ x settled none n some. subst (λ (m : Fraction). m.0 ≡ 0) (same.masses n None None (same_outcome x)) (e.others x settled none n some);
    never = (e.never.0, subst (TendsTo endless) (fun_ext (λ n. same.masses n None None (same_outcome (outcome.Limit Turns)))) e.never.1);
    passes = (e.passes.0, e.passes.1, λ n some. subst (λ m. AtMost (plus m (1, e.passes.0)) one) (same.failed n None) (e.passes.2 n some));
  }

  pub refused_holds : (e : ExactError) → RefusedAsWritten (forgetful_of p) e → WhyRefused p e
  refused_holds AllFailed h = fails_hold h
  refused_holds TooWide h = (λ none. h.0 (same_loops p ∙ none), λ loops. h.1 (same_loops p ∙ loops))
  refused_holds TooManyStates h = (λ none. h.0 (same_loops p ∙ none), λ loops. h.1 (same_loops p ∙ loops))
  refused_holds OutOfMemory h = tt
