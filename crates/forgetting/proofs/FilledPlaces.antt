-- What may differ from 0 along a block.
use Rattle.std.proofs.Common.{◌≡◌, ◌∙◌, ⊎_elim, ℕ, zero, suc, ◌+◌, ◌<◌, ◌≤◌, List, [], ◌∷◌, ◌++◌, length, get_or, sym, ap, arith}
use Rattle.std.proofs.Math.ListN.{get_or-append}
use Rattle.std.proofs.Math.Seq.{get_or-append_seam}
use Rattle.std.proofs.lemmas.Bool.{cases_lt}
use Rattle.gcl_core.specs.declared.syntax.Stmt.{Stmt}
use Rattle.gcl_core.specs.meaning.Views.{statement_of}
use Rattle.forgetting.specs.declared.name_set.NameSet.{NameSet}
use Rattle.forgetting.specs.Liveness.{Names}
use Rattle.forgetting.specs.Filling.{behind_statement}
use Rattle.forgetting.specs.Marks.{marked}
use Rattle.forgetting.specs.inner.Fronts.{filled_at}

-- behind the next statement
pub filled_next : (ss : List Stmt) (F : Names) (i next : ℕ) (st : Stmt) → i < length ss → next ≡ i + 1 → st ≡ get_or ss i st →
    filled_at next ss F ≡ behind_statement (statement_of st) (filled_at i ss F)
filled_next ss F i zero st lt up e = absurd (omega arith)
filled_next [] F i (suc n) st lt up e = absurd (omega arith)
filled_next (s ∷ ss) F zero (suc n) st lt up e =
    let none : n ≡ 0 = omega (arith, up) in
    ap (λ k. filled_at k ss (behind_statement (statement_of s) F)) none ∙ ap (λ s. behind_statement (statement_of s) F) (sym e)
filled_next (s ∷ ss) F (suc i) (suc n) st lt up e = filled_next ss (behind_statement (statement_of s) F) i n st (omega arith) (omega (arith, up)) e

-- one more set, behind those that are there
pub more_sets : (ss : List Stmt) (F : Names) (sets new : List NameSet) (set : NameSet) (i next : ℕ) → length sets ≡ i + 1 → next ≡ i + 1 → new ≡ sets ++ set ∷ [] →
    ((k : ℕ) (d : NameSet) → k ≤ i → marked (get_or sets k d).marks ≡ filled_at k ss F) → marked set.marks ≡ filled_at next ss F →
    (k : ℕ) (d : NameSet) → k ≤ next → marked (get_or new k d).marks ≡ filled_at k ss F
more_sets ss F sets new set i next l up e h last k d le =
    ⊎_elim
    (λ (lt : k < i + 1). ap (λ sets. marked (get_or sets k d).marks) e ∙ ap (λ (s : NameSet). marked s.marks) (get_or-append sets (set ∷ []) d k (omega (arith, lt, l))) ∙ h k d (omega (arith, lt)))
    (λ (ge : i + 1 ≤ k).
    let at : k ≡ length sets = omega (arith, ge, le, l, up) in
    let same : k ≡ next = omega (arith, ge, le, up) in
    ap (λ sets. marked (get_or sets k d).marks) e ∙ ap (λ k. marked (get_or (sets ++ set ∷ []) k d).marks) at
    ∙ ap (λ (s : NameSet). marked s.marks) (get_or-append_seam sets set [] d) ∙ last ∙ ap (λ k. filled_at k ss F) (sym same))
    (cases_lt k (i + 1))
