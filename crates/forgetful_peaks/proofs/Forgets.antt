-- Variables that are forgotten before a block: each table on the way has no more states than the one before.
use Rattle.std.proofs.Common.{◌≡◌, ℕ, zero, suc, pos, ◌<◌, ◌≤◌, Bool, true, false, ◌&&◌, ⊎_elim, Option, Ok, [], ◌∷◌, refl, sym, ap, subst, ◌∙◌, arith, true≢false}
use Rattle.std.specs.Prelude.{not, ◌==◌, if◌then◌else◌}
use Rattle.std.proofs.Math.Nat.{le-max_left}
use Rattle.std.proofs.lemmas.Bool.{eqb-true, eqb-false, cases_lt}
use Rattle.gcl_core.specs.meaning.Syntax.{Num, Set, Statements, done, ◌▸◌}
use Rattle.gcl_core.specs.meaning.Value.{State}
use Rattle.table_flow.specs.Tables.{Table, Flow, states, most_states, block_flow}
use Rattle.table_flow.proofs.FlowWords.{set_to}
use Rattle.forgetting.specs.Liveness.{Names}
use Rattle.forgetting.specs.Forgetful.{forget}
use Rattle.forgetting.proofs.Agreeing.{right_and}
use Rattle.forgetful_peaks.proofs.Cleared.{Cleared, cleared_once, cleared_more, cleared_all}
use Rattle.forgetful_peaks.proofs.Along.{Along, along_to, along_forgotten}
use Rattle.forgetful_peaks.proofs.Fewer.{fewer_states, most_at_most}
use Rattle.forgetful_peaks.proofs.Tests.{and_not}
use Rattle.forgetful_peaks.proofs.Flows.{Follows}

below : (x c : ℕ) → x < suc c → (x ≡ c → ⊥) → x < c
below x c l e = ⊎_elim (λ (p : x < c). p) (λ (p : c ≤ x). absurd (e (omega (arith, l, p)))) (cases_lt x c)

pub first_states : (n : ℕ) (r : Option ℕ) (b : Statements) (I : Table) → states I ≤ most_states (block_flow n r b I).tables
first_states n r done I = le-max_left (states I) 0
first_states n r (st ▸ b) I = le-max_left (states I) _

-- under a limit of n turns, and of r attempts or none, with this number of variables
module _ (n : ℕ) (r : Option ℕ) (count : ℕ) where
  pub forget_follows : (c : ℕ) (old kept F : Names) (Q : State → State → Type 0) (b : Statements) (g : Flow) (N : Names) (I J : Table) → states I ≤ most_states g.tables →
      ((J : Table) → Along (Cleared count kept F) I J → Follows Q g (block_flow n r b J)) → ((x : ℕ) → kept x ≡ true → N x ≡ true) →
      ((x : ℕ) → x < count → N x ≡ true → F x ≡ true → kept x ≡ false → (x < c) × (old x ≡ true)) → Along (Cleared count N F) I J →
      Follows Q g (block_flow n r (forget c old kept b) J)
  forget_follows zero old kept F Q b g N I J first h fewer left a =
      h J (along_to (Cleared count N F) (Cleared count kept F) I J (λ s t. cleared_all count N F kept s t fewer (λ x l m f. by_test (kept x) (left x l m f))) a)
    where
      by_test : {x : ℕ} (b : Bool) → (b ≡ false → (x < 0) × (old x ≡ true)) → b ≡ true
      by_test true k = refl
      by_test false k = absurd (let l = (k refl).0 in omega (arith, l))
  forget_follows (suc c) old kept F Q b g N I J first h fewer left a =
      by_test (old c && not (kept c)) refl
      (λ e. forget_follows c old kept F Q b g (λ x. not (x == c) && N x) I (set_to c (λ s. Ok (pos 0)) J) first h (still_kept e) fewer_left
      (along_forgotten (Cleared count N F) (Cleared count (λ x. not (x == c) && N x) F) c I J (λ s t. cleared_more count N F c s t) a))
      (λ e. forget_follows c old kept F Q b g N I J first h fewer (same_left e) a)
    where
      by_test : (t : Bool) → (old c && not (kept c)) ≡ t → (t ≡ true → Follows Q g (block_flow n r (forget c old kept b) (set_to c (λ s. Ok (pos 0)) J))) →
          (t ≡ false → Follows Q g (block_flow n r (forget c old kept b) J)) →
          Follows Q g (block_flow n r (if t then (Set c (Num (pos 0)) ▸ forget c old kept b) else forget c old kept b) J)
      by_test true e h k =
          let f = h refl in
          let l = fewer_states (Cleared count N F) (cleared_once count N F) I J a in
          record { next = f.next; few = most_at_most (J ∷ []) _ (most_states g.tables) (omega (arith, l, first)) f.few }
      by_test false e h k = k refl

      still_kept : (old c && not (kept c)) ≡ true → (x : ℕ) → kept x ≡ true → (not (x == c) && N x) ≡ true
      still_kept e x k = at (x == c) refl
        where
          at : (b : Bool) → (x == c) ≡ b → (not b && N x) ≡ true
          at true q = absurd (true≢false (sym (subst (λ x. kept x ≡ true) (eqb-true x c q) k) ∙ and_not (old c) (kept c) e))
          at false q = fewer x k

      fewer_left : (x : ℕ) → x < count → (not (x == c) && N x) ≡ true → F x ≡ true → kept x ≡ false → (x < c) × (old x ≡ true)
      fewer_left x l m f k = at (x == c) refl m
        where
          at : (b : Bool) → (x == c) ≡ b → (not b && N x) ≡ true → (x < c) × (old x ≡ true)
          at true q m = absurd (true≢false (sym m))
          at false q m = (below x c (left x l m f k).0 (eqb-false x c q), (left x l m f k).1)

      same_left : (old c && not (kept c)) ≡ false → (x : ℕ) → x < count → N x ≡ true → F x ≡ true → kept x ≡ false → (x < c) × (old x ≡ true)
      same_left e x l m f k = (below x c (left x l m f k).0 (λ q. true≢false (sym (right_and (old c) (not (kept c)) (subst (λ x. old x ≡ true) q (left x l m f k).1) (ap not (subst (λ x. kept x ≡ false) q k))) ∙ e)), (left x l m f k).1)
