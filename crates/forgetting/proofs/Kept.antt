-- The forgetful program keeps what a checked program keeps.
use Rattle.std.proofs.Common.{◌≡◌, ◌∙◌, ℕ, zero, suc, pos, ◌<◌, ◌≤◌, ◌+◌, ◌/◌, Bool, true, false, ◌&&◌, ◌||◌, nat_lt, List, [], ◌∷◌, ◌++◌, map, length, Option, Some, None, refl, sym, ap, subst, arith, true≢false}
use Rattle.std.specs.Prelude.{not, ◌==◌, if◌then◌else◌}
use Rattle.std.specs.List.{list_any}
use Rattle.std.proofs.lemmas.List.Folds.{list_any-append}
use Rattle.std.proofs.Math.Path.{fun_ext}
use Rattle.gcl_core.specs.declared.rules.TheConstants.{MOST_NAMES}
use Rattle.gcl_core.specs.declared.kinds.Kind.{Kind}
use Rattle.gcl_core.specs.declared.kinds.Kind.TheVariants.{Number, Truth}
use Rattle.gcl_core.specs.declared.syntax.Weight.{Weight}
use Rattle.gcl_core.specs.text.Kinds.{has_kind}
use Rattle.gcl_core.specs.text.Acceptance.{Flaw, kind_mismatch, unknown_name, ProgramRefusal, too_many_names, reads_known, expression_flaw, statement_flaw, parts_flaw, first_refusal, flaws_of, IsAccepted}
use Rattle.gcl_core.specs.text.ReadingOrder.{statement_listed, listed, arms_listed}
use Rattle.gcl_core.specs.text.Targets.{is_set_by, sets}
use Rattle.gcl_core.specs.meaning.Arms.{parts_of}
use Rattle.gcl_core.specs.meaning.Bounds.{HaveArmCount, StatementBelow, BlockBelow, ArmsBelow, StatementFits, BlockFits, ArmsFit, StatementWeights, BlockWeights, ArmsWeights}
use Rattle.gcl_core.specs.meaning.Checked.{IsChecked}
use Rattle.gcl_core.specs.meaning.Lowest.{lowest_terms, lowest_arms, divided, statement_in_lowest, block_in_lowest, arms_in_lowest, in_lowest}
use Rattle.gcl_core.specs.meaning.Divisor.{common_divisor}
use Rattle.gcl_core.specs.meaning.Syntax.{Expression, Num, Truth, Var, Neg, Not, Bin, Statement, Skip, Set, If, While, Choice, Choose, Uniform, Observe, Statements, done, ◌▸◌, ArmList, no_arm, arm, SourceProgram}
use Rattle.forgetting.specs.Liveness.{Names, no_names, both, reads, matters_to_statement, matters_to, matters_to_arms, before_statement, before}
use Rattle.forgetting.specs.Filling.{filled_by_statement, filled_by, filled_by_arms, behind_statement}
use Rattle.forgetting.specs.Forgetful.{forget, ends_with, forgetful_statement, forgetful, forgetful_arms, forgetful_of}
use Rattle.forgetting.proofs.Forgetting.{same_parts}

-- ---- a fact of blocks that holds where variables below a count are set to 0 before one
module _ (Fact : Statements → Type 0) (count : ℕ) (set : (x : ℕ) (b : Statements) → x < count → Fact b → Fact (Set x (Num (pos 0)) ▸ b)) where
  fact_forget : (k : ℕ) (old kept : Names) (b : Statements) → k ≤ count → Fact b → Fact (forget k old kept b)
  fact_forget zero old kept b le h = h
  fact_forget (suc x) old kept b le h = by_test (old x && not (kept x)) x (forget x old kept b) (omega arith) (fact_forget x old kept b (omega arith) h)
    where
      by_test : (c : Bool) (x : ℕ) (b : Statements) → x < count → Fact b → Fact (if c then (Set x (Num (pos 0)) ▸ b) else b)
      by_test true x b lt h = set x b lt h
      by_test false x b lt h = h

-- ---- variables, numbers, arms
module _ (count : ℕ) where
  below_forget : (old kept : Names) (b : Statements) → BlockBelow count b → BlockBelow count (forget count old kept b)
  below_forget old kept b h = fact_forget (BlockBelow count) count (λ x b lt h. ((lt, tt), h)) count old kept b (omega arith) h

  mutual
    statement_below : (s : Statement) (F L : Names) → StatementBelow count s → StatementBelow count (forgetful_statement count s F L)
    statement_below Skip F L h = h
    statement_below (Set x e) F L h = h
    statement_below (Uniform x e) F L h = h
    statement_below (Observe e) F L h = h
    statement_below (If e a c) F L h = (h.0, below_forget _ _ _ (block_below a F L h.1), below_forget _ _ _ (block_below c F L h.2))
    statement_below (While e a) F L h = (h.0, below_forget _ _ _ (block_below a (behind_statement (While e a) F) (before_statement (While e a) L) h.1))
    statement_below (Choice w a c) F L h = (below_forget _ _ _ (block_below a F L h.0), below_forget _ _ _ (block_below c F L h.1))
    statement_below (Choose arms) F L h = arms_below arms (both (before_statement (Choose arms) L) F) F L h

    block_below : (b : Statements) (F L : Names) → BlockBelow count b → BlockBelow count (forgetful count b F L)
    block_below done F L h = h
    block_below (s ▸ b) F L h = (statement_below s F (before b L) h.0, below_forget _ _ _ (block_below b (behind_statement s F) L h.1))

    arms_below : (arms : ArmList) (old F L : Names) → ArmsBelow count arms → ArmsBelow count (forgetful_arms count arms old F L)
    arms_below no_arm old F L h = h
    arms_below (arm p b arms) old F L h = (below_forget _ _ _ (block_below b F L h.0), arms_below arms old F L h.1)

  fit_forget : (old kept : Names) (b : Statements) → BlockFits b → BlockFits (forget count old kept b)
  fit_forget old kept b h = fact_forget BlockFits count (λ x b lt h. (refl, h)) count old kept b (omega arith) h

  mutual
    statement_fits : (s : Statement) (F L : Names) → StatementFits s → StatementFits (forgetful_statement count s F L)
    statement_fits Skip F L h = h
    statement_fits (Set x e) F L h = h
    statement_fits (Uniform x e) F L h = h
    statement_fits (Observe e) F L h = h
    statement_fits (If e a c) F L h = (h.0, fit_forget _ _ _ (block_fits a F L h.1), fit_forget _ _ _ (block_fits c F L h.2))
    statement_fits (While e a) F L h = (h.0, fit_forget _ _ _ (block_fits a (behind_statement (While e a) F) (before_statement (While e a) L) h.1))
    statement_fits (Choice w a c) F L h = (fit_forget _ _ _ (block_fits a F L h.0), fit_forget _ _ _ (block_fits c F L h.1))
    statement_fits (Choose arms) F L h = arms_fit arms (both (before_statement (Choose arms) L) F) F L h

    block_fits : (b : Statements) (F L : Names) → BlockFits b → BlockFits (forgetful count b F L)
    block_fits done F L h = h
    block_fits (s ▸ b) F L h = (statement_fits s F (before b L) h.0, fit_forget _ _ _ (block_fits b (behind_statement s F) L h.1))

    arms_fit : (arms : ArmList) (old F L : Names) → ArmsFit arms → ArmsFit (forgetful_arms count arms old F L)
    arms_fit no_arm old F L h = h
    arms_fit (arm p b arms) old F L h = (fit_forget _ _ _ (block_fits b F L h.0), arms_fit arms old F L h.1)

  module _ (Fact : Weight → Type 0) (PartsFact : List ℕ → Type 0) where
    weights_forget : (old kept : Names) (b : Statements) → BlockWeights Fact PartsFact b → BlockWeights Fact PartsFact (forget count old kept b)
    weights_forget old kept b h = fact_forget (BlockWeights Fact PartsFact) count (λ x b lt h. (tt, h)) count old kept b (omega arith) h

    mutual
      statement_weighs : (s : Statement) (F L : Names) → StatementWeights Fact PartsFact s → StatementWeights Fact PartsFact (forgetful_statement count s F L)
      statement_weighs Skip F L h = h
      statement_weighs (Set x e) F L h = h
      statement_weighs (Uniform x e) F L h = h
      statement_weighs (Observe e) F L h = h
      statement_weighs (If e a c) F L h = (weights_forget _ _ _ (block_weighs a F L h.0), weights_forget _ _ _ (block_weighs c F L h.1))
      statement_weighs (While e a) F L h = weights_forget _ _ _ (block_weighs a (behind_statement (While e a) F) (before_statement (While e a) L) h)
      statement_weighs (Choice w a c) F L h = (h.0, weights_forget _ _ _ (block_weighs a F L h.1), weights_forget _ _ _ (block_weighs c F L h.2))
      statement_weighs (Choose arms) F L h =
          (subst PartsFact (same_parts 0 count arms (both (before_statement (Choose arms) L) F) F L) h.0, arms_weigh arms (both (before_statement (Choose arms) L) F) F L h.1)

      block_weighs : (b : Statements) (F L : Names) → BlockWeights Fact PartsFact b → BlockWeights Fact PartsFact (forgetful count b F L)
      block_weighs done F L h = h
      block_weighs (s ▸ b) F L h = (statement_weighs s F (before b L) h.0, weights_forget _ _ _ (block_weighs b (behind_statement s F) L h.1))

      arms_weigh : (arms : ArmList) (old F L : Names) → ArmsWeights Fact PartsFact arms → ArmsWeights Fact PartsFact (forgetful_arms count arms old F L)
      arms_weigh no_arm old F L h = h
      arms_weigh (arm p b arms) old F L h = (weights_forget _ _ _ (block_weighs b F L h.0), arms_weigh arms old F L h.1)

-- ---- what matters is the same in lowest terms
left_true : (a b : Bool) → a ≡ true → (a || b) ≡ true
left_true true b e = refl
left_true false b e = absurd (true≢false (sym e))

right_true : (a b : Bool) → b ≡ true → (a || b) ≡ true
right_true true b e = refl
right_true false b e = e

module _ (x : ℕ) where
  matters_divided : (d : ℕ) (arms : ArmList) (after : Bool) → matters_to_arms x (divided d arms) after ≡ matters_to_arms x arms after
  matters_divided d no_arm after = refl
  matters_divided d (arm p b arms) after = ap (λ t. matters_to x b after || t) (matters_divided d arms after)

  mutual
    same_statement : (s : Statement) (after : Bool) → matters_to_statement x (statement_in_lowest s) after ≡ matters_to_statement x s after
    same_statement Skip after = refl
    same_statement (Set y e) after = refl
    same_statement (Uniform y e) after = refl
    same_statement (Observe e) after = refl
    same_statement (If e a c) after =
        ap (λ t. reads x e || (t || matters_to x (block_in_lowest c) after)) (same_block a after) ∙ ap (λ t. reads x e || (matters_to x a after || t)) (same_block c after)
    same_statement (While e a) after = ap (λ t. reads x e || (after || t)) (same_block a false)
    same_statement (Choice w a c) after =
        ap (λ t. t || matters_to x (block_in_lowest c) after) (same_block a after) ∙ ap (λ t. matters_to x a after || t) (same_block c after)
    same_statement (Choose arms) after = matters_divided (common_divisor (parts_of (arms_in_lowest arms))) (arms_in_lowest arms) after ∙ same_arms arms after

    same_block : (b : Statements) (after : Bool) → matters_to x (block_in_lowest b) after ≡ matters_to x b after
    same_block done after = refl
    same_block (s ▸ b) after = ap (matters_to_statement x (statement_in_lowest s)) (same_block b after) ∙ same_statement s (matters_to x b after)

    same_arms : (arms : ArmList) (after : Bool) → matters_to_arms x (arms_in_lowest arms) after ≡ matters_to_arms x arms after
    same_arms no_arm after = refl
    same_arms (arm p b arms) after = ap (λ t. t || matters_to_arms x (arms_in_lowest arms) after) (same_block b after) ∙ ap (λ t. matters_to x b after || t) (same_arms arms after)

-- ---- so is what may differ from 0
module _ (x : ℕ) where
  filled_divided : (d : ℕ) (arms : ArmList) (f : Bool) → filled_by_arms x (divided d arms) f ≡ filled_by_arms x arms f
  filled_divided d no_arm f = refl
  filled_divided d (arm p b arms) f = ap (λ t. filled_by x b f || t) (filled_divided d arms f)

  mutual
    statement_fills : (s : Statement) (f : Bool) → filled_by_statement x (statement_in_lowest s) f ≡ filled_by_statement x s f
    statement_fills Skip f = refl
    statement_fills (Set y e) f = refl
    statement_fills (Uniform y e) f = refl
    statement_fills (Observe e) f = refl
    statement_fills (If e a c) f = ap (λ t. t || filled_by x (block_in_lowest c) f) (block_fills a f) ∙ ap (λ t. filled_by x a f || t) (block_fills c f)
    statement_fills (While e a) f = ap (λ t. f || t) (block_fills a false)
    statement_fills (Choice w a c) f = ap (λ t. t || filled_by x (block_in_lowest c) f) (block_fills a f) ∙ ap (λ t. filled_by x a f || t) (block_fills c f)
    statement_fills (Choose arms) f = filled_divided (common_divisor (parts_of (arms_in_lowest arms))) (arms_in_lowest arms) f ∙ arms_fill arms f

    block_fills : (b : Statements) (f : Bool) → filled_by x (block_in_lowest b) f ≡ filled_by x b f
    block_fills done f = refl
    block_fills (s ▸ b) f = block_fills b (filled_by_statement x (statement_in_lowest s) f) ∙ ap (filled_by x b) (statement_fills s f)

    arms_fill : (arms : ArmList) (f : Bool) → filled_by_arms x (arms_in_lowest arms) f ≡ filled_by_arms x arms f
    arms_fill no_arm f = refl
    arms_fill (arm p b arms) f = ap (λ t. t || filled_by_arms x (arms_in_lowest arms) f) (block_fills b f) ∙ ap (λ t. filled_by x b f || t) (arms_fill arms f)

behind_same : (s : Statement) (F : Names) → behind_statement s F ≡ behind_statement (statement_in_lowest s) F
behind_same s F = fun_ext (λ x. sym (statement_fills x s (F x)))

before_same : (b : Statements) (L : Names) → before b L ≡ before (block_in_lowest b) L
before_same b L = fun_ext (λ x. sym (same_block x b (L x)))

statement_before_same : (s : Statement) (L : Names) → before_statement s L ≡ before_statement (statement_in_lowest s) L
statement_before_same s L = fun_ext (λ x. sym (same_statement x s (L x)))

ends_same : (s : Statement) (L : Names) → ends_with s L ≡ ends_with (statement_in_lowest s) L
ends_same Skip L = refl
ends_same (Set x e) L = refl
ends_same (Uniform x e) L = refl
ends_same (Observe e) L = refl
ends_same (If e a c) L = refl
ends_same (While e a) L = statement_before_same (While e a) L
ends_same (Choice w a c) L = refl
ends_same (Choose arms) L = refl

-- ---- forgetting and lowest terms change places
two : {A B C : Type 0} (f : A → B → C) {a a' : A} {b b' : B} → a ≡ a' → b ≡ b' → f a b ≡ f a' b'
two f {a' = a'} {b = b} e h = ap (λ a. f a b) e ∙ ap (f a') h

low_forget : (k : ℕ) (old kept : Names) (b : Statements) → block_in_lowest (forget k old kept b) ≡ forget k old kept (block_in_lowest b)
low_forget zero old kept b = refl
low_forget (suc x) old kept b = by_test (old x && not (kept x)) x (forget x old kept b) (forget x old kept (block_in_lowest b)) (low_forget x old kept b)
  where
    by_test : (c : Bool) (x : ℕ) (b b' : Statements) → block_in_lowest b ≡ b' → block_in_lowest (if c then (Set x (Num (pos 0)) ▸ b) else b) ≡ (if c then (Set x (Num (pos 0)) ▸ b') else b')
    by_test true x b b' e = ap (λ b. Set x (Num (pos 0)) ▸ b) e
    by_test false x b b' e = e

module _ (count : ℕ) where
  branch_low : (b : Statements) (old old' F L : Names) → old ≡ old' → block_in_lowest (forgetful count b F L) ≡ forgetful count (block_in_lowest b) F L →
      block_in_lowest (forget count old (before b L) (forgetful count b F L)) ≡ forget count old' (before (block_in_lowest b) L) (forgetful count (block_in_lowest b) F L)
  branch_low b old old' F L e h =
      low_forget count old (before b L) (forgetful count b F L)
      ∙ ap (forget count old (before b L)) h
      ∙ ap (λ o. forget count o (before b L) (forgetful count (block_in_lowest b) F L)) e
      ∙ ap (λ k. forget count old' k (forgetful count (block_in_lowest b) F L)) (before_same b L)

  divided_forgets : (d : ℕ) (arms : ArmList) (old F L : Names) → divided d (forgetful_arms count arms old F L) ≡ forgetful_arms count (divided d arms) old F L
  divided_forgets d no_arm old F L = refl
  divided_forgets d (arm p b arms) old F L = ap (arm (p / d) (forget count old (before b L) (forgetful count b F L))) (divided_forgets d arms old F L)

  lowest_forgets : (arms : ArmList) (old F L : Names) → lowest_arms (forgetful_arms count arms old F L) ≡ forgetful_arms count (lowest_arms arms) old F L
  lowest_forgets arms old F L =
      ap (λ ps. divided (common_divisor ps) (forgetful_arms count arms old F L)) (sym (same_parts 0 count arms old F L))
      ∙ divided_forgets (common_divisor (parts_of arms)) arms old F L

  mutual
    statement_low : (s : Statement) (F L : Names) → statement_in_lowest (forgetful_statement count s F L) ≡ forgetful_statement count (statement_in_lowest s) F L
    statement_low Skip F L = refl
    statement_low (Set x e) F L = refl
    statement_low (Uniform x e) F L = refl
    statement_low (Observe e) F L = refl
    statement_low (If e a c) F L =
        let same = ap (λ M. both M F) (statement_before_same (If e a c) L) in
        two (If e) (branch_low a _ _ F L same (block_low a F L)) (branch_low c _ _ F L same (block_low c F L))
    statement_low (While e a) F L =
        let M = before_statement (While e a) L in
        let N = before_statement (While e (block_in_lowest a)) L in
        let G = behind_statement (While e a) F in
        let H = behind_statement (While e (block_in_lowest a)) F in
        let same : M ≡ N = statement_before_same (While e a) L in
        let filled : G ≡ H = behind_same (While e a) F in
        ap (While e) (branch_low a (both M G) (both M G) G M refl (block_low a G M))
        ∙ ap (λ K. While e (forget count (both K G) (before (block_in_lowest a) K) (forgetful count (block_in_lowest a) G K))) same
        ∙ ap (λ G. While e (forget count (both N G) (before (block_in_lowest a) N) (forgetful count (block_in_lowest a) G N))) filled
    statement_low (Choice w a c) F L =
        let same = ap (λ M. both M F) (statement_before_same (Choice w a c) L) in
        two (Choice (lowest_terms w)) (branch_low a _ _ F L same (block_low a F L)) (branch_low c _ _ F L same (block_low c F L))
    statement_low (Choose arms) F L =
        let old = both (before_statement (Choose arms) L) F in
        let low = both (before_statement (statement_in_lowest (Choose arms)) L) F in
        ap (λ a. Choose (lowest_arms a)) (arms_low arms old low F L (ap (λ M. both M F) (statement_before_same (Choose arms) L)))
        ∙ ap Choose (lowest_forgets (arms_in_lowest arms) low F L)

    block_low : (b : Statements) (F L : Names) → block_in_lowest (forgetful count b F L) ≡ forgetful count (block_in_lowest b) F L
    block_low done F L = refl
    block_low (s ▸ b) F L =
        let K = before b L in
        let G = behind_statement s F in
        let H = behind_statement (statement_in_lowest s) F in
        ap (λ t. t ▸ block_in_lowest (forget count (both (ends_with s K) G) K (forgetful count b G L))) (statement_low s F K)
        ∙ ap (λ t. forgetful_statement count (statement_in_lowest s) F K ▸ t)
        (low_forget count (both (ends_with s K) G) K (forgetful count b G L) ∙ ap (forget count (both (ends_with s K) G) K) (block_low b G L)
        ∙ ap (λ o. forget count (both o G) K (forgetful count (block_in_lowest b) G L)) (ends_same s K))
        ∙ ap (λ G. forgetful_statement count (statement_in_lowest s) F K ▸ forget count (both (ends_with (statement_in_lowest s) K) G) K (forgetful count (block_in_lowest b) G L)) (behind_same s F)
        ∙ ap (λ K. forgetful_statement count (statement_in_lowest s) F K ▸ forget count (both (ends_with (statement_in_lowest s) K) H) K (forgetful count (block_in_lowest b) H L)) (before_same b L)

    arms_low : (arms : ArmList) (old old' F L : Names) → old ≡ old' → arms_in_lowest (forgetful_arms count arms old F L) ≡ forgetful_arms count (arms_in_lowest arms) old' F L
    arms_low no_arm old old' F L e = refl
    arms_low (arm p b arms) old old' F L e =
        two (arm p) (branch_low b old old' F L e (block_low b F L)) (arms_low arms old old' F L e)

-- ---- what is set stays set
set_forget : (x k : ℕ) (old kept : Names) (b : Statements) → sets b x ≡ true → sets (forget k old kept b) x ≡ true
set_forget x zero old kept b h = h
set_forget x (suc k) old kept b h = by_test (old k && not (kept k)) k (forget k old kept b) (set_forget x k old kept b h)
  where
    by_test : (c : Bool) (k : ℕ) (b : Statements) → sets b x ≡ true → sets (if c then (Set k (Num (pos 0)) ▸ b) else b) x ≡ true
    by_test true k b h = right_true (k == x) (sets b x) h
    by_test false k b h = h

either : (a b c d : Bool) → (a ≡ true → c ≡ true) → (b ≡ true → d ≡ true) → (a || b) ≡ true → (c || d) ≡ true
either true b c d f g e = left_true c d (f refl)
either false b c d f g e = right_true c d (g e)

module _ (x : ℕ) where
  abbrev set_in : List Statement → Bool
  set_in = list_any (is_set_by x)

  either_in : (ss ts us vs : List Statement) → (set_in ss ≡ true → set_in us ≡ true) → (set_in ts ≡ true → set_in vs ≡ true) → set_in (ss ++ ts) ≡ true → set_in (us ++ vs) ≡ true
  either_in ss ts us vs f g h =
      list_any-append (is_set_by x) us vs ∙ either (set_in ss) (set_in ts) (set_in us) (set_in vs) f g (sym (list_any-append (is_set_by x) ss ts) ∙ h)

module _ (x count : ℕ) where
  -- a branch that begins by forgetting
  abbrev branch : (old F L : Names) → Statements → Statements
  branch old F L b = forget count old (before b L) (forgetful count b F L)

  branches_stay : (old F L : Names) (a c : Statements) → (sets a x ≡ true → sets (forgetful count a F L) x ≡ true) → (sets c x ≡ true → sets (forgetful count c F L) x ≡ true) →
      set_in x (listed a ++ listed c) ≡ true → set_in x (listed (branch old F L a) ++ listed (branch old F L c)) ≡ true
  branches_stay old F L a c f g =
      either_in x (listed a) (listed c) (listed (branch old F L a)) (listed (branch old F L c))
      (λ k. set_forget x count old (before a L) (forgetful count a F L) (f k)) (λ k. set_forget x count old (before c L) (forgetful count c F L) (g k))

  mutual
    statement_stays : (s : Statement) (F L : Names) → set_in x (statement_listed s) ≡ true → set_in x (statement_listed (forgetful_statement count s F L)) ≡ true
    statement_stays Skip F L h = h
    statement_stays (Set y e) F L h = h
    statement_stays (Uniform y e) F L h = h
    statement_stays (Observe e) F L h = h
    statement_stays (If e a c) F L h = branches_stay (both (before_statement (If e a c) L) F) F L a c (block_stays a F L) (block_stays c F L) h
    statement_stays (While e a) F L h =
        let M = before_statement (While e a) L in
        set_forget x count (both M (behind_statement (While e a) F)) (before a M) (forgetful count a (behind_statement (While e a) F) M) (block_stays a (behind_statement (While e a) F) M h)
    statement_stays (Choice w a c) F L h = branches_stay (both (before_statement (Choice w a c) L) F) F L a c (block_stays a F L) (block_stays c F L) h
    statement_stays (Choose arms) F L h = arms_stay arms (both (before_statement (Choose arms) L) F) F L h

    block_stays : (b : Statements) (F L : Names) → sets b x ≡ true → sets (forgetful count b F L) x ≡ true
    block_stays done F L h = h
    block_stays (s ▸ b) F L h =
        let K = before b L in
        let G = behind_statement s F in
        either_in x (statement_listed s) (listed b) (statement_listed (forgetful_statement count s F K)) (listed (forget count (both (ends_with s K) G) K (forgetful count b G L)))
        (statement_stays s F K) (λ k. set_forget x count (both (ends_with s K) G) K (forgetful count b G L) (block_stays b G L k)) h

    arms_stay : (arms : ArmList) (old F L : Names) → set_in x (arms_listed arms) ≡ true → set_in x (arms_listed (forgetful_arms count arms old F L)) ≡ true
    arms_stay no_arm old F L h = h
    arms_stay (arm p b arms) old F L h =
        either_in x (listed b) (arms_listed arms) (listed (branch old F L b)) (arms_listed (forgetful_arms count arms old F L))
        (λ k. set_forget x count old (before b L) (forgetful count b F L) (block_stays b F L k)) (arms_stay arms old F L) h

-- ---- no flaw
abbrev AllNone : List (Option Flaw) → Type 0
AllNone [] = Unit {0}
AllNone (f ∷ fs) = (f ≡ None) × AllNone fs

unrefused : (n : ℕ) (fs : List (Option Flaw)) → first_refusal n fs ≡ None → AllNone fs
unrefused n [] e = tt
unrefused n (None ∷ fs) e = (refl, unrefused (n + 1) fs e)
unrefused n (Some f ∷ fs) e = absurd (cc)

never_refused : (n : ℕ) (fs : List (Option Flaw)) → AllNone fs → first_refusal n fs ≡ None
never_refused n [] all = refl
never_refused n (None ∷ fs) all = never_refused (n + 1) fs all.1
never_refused n (Some f ∷ fs) all = absurd (let e = all.0 in cc)

split : (fs gs : List (Option Flaw)) → AllNone (fs ++ gs) → AllNone fs × AllNone gs
split [] gs all = (tt, all)
split (f ∷ fs) gs all = let rest = split fs gs all.1 in ((all.0, rest.0), rest.1)

join : (fs gs : List (Option Flaw)) → AllNone fs → AllNone gs → AllNone (fs ++ gs)
join [] gs p q = q
join (f ∷ fs) gs p q = (p.0, join fs gs p.1 q)

module _ (flaw_of : Statement → Option Flaw) where
  split_map : (xs ys : List Statement) → AllNone (map flaw_of (xs ++ ys)) → AllNone (map flaw_of xs) × AllNone (map flaw_of ys)
  split_map [] ys all = (tt, all)
  split_map (x ∷ xs) ys all = let rest = split_map xs ys all.1 in ((all.0, rest.0), rest.1)

  join_map : (xs ys : List Statement) → AllNone (map flaw_of xs) → AllNone (map flaw_of ys) → AllNone (map flaw_of (xs ++ ys))
  join_map [] ys p q = q
  join_map (x ∷ xs) ys p q = (p.0, join_map xs ys p.1 q)

both_known : (a b : Bool) → (a && b) ≡ true → (a ≡ true) × (b ≡ true)
both_known true b e = (refl, e)
both_known false b e = absurd (true≢false (sym e))

join_known : (a b : Bool) → a ≡ true → b ≡ true → (a && b) ≡ true
join_known true b p q = q
join_known false b p q = absurd (true≢false (sym p))

module _ (known known' : ℕ → Bool) (more : (x : ℕ) → known x ≡ true → known' x ≡ true) where
  still_known : (e : Expression) → reads_known known e ≡ true → reads_known known' e ≡ true
  still_known (Num z) h = refl
  still_known (Truth b) h = refl
  still_known (Var x) h = more x h
  still_known (Neg a) h = still_known a h
  still_known (Not a) h = still_known a h
  still_known (Bin op a b) h =
      let both = both_known (reads_known known a) (reads_known known b) h in join_known (reads_known known' a) (reads_known known' b) (still_known a both.0) (still_known b both.1)

  by_kind : (t k k' : Bool) → (k ≡ true → k' ≡ true) → ◌≡◌ {A = Option Flaw} (if t then (if k then None else Some unknown_name) else Some kind_mismatch) None →
      ◌≡◌ {A = Option Flaw} (if t then (if k' then None else Some unknown_name) else Some kind_mismatch) None
  by_kind false k k' f e = absurd (cc)
  by_kind true false k' f e = absurd (cc)
  by_kind true true false f e = absurd (true≢false (sym (f refl)))
  by_kind true true true f e = refl

  still_flawless : (k : Kind) (e : Expression) → expression_flaw known k e ≡ None → expression_flaw known' k e ≡ None
  still_flawless k e h = by_kind (has_kind k e) (reads_known known e) (reads_known known' e) (still_known e) h

  module _ (count : ℕ) where
    flawless_forget : (old kept : Names) (b : Statements) → AllNone (map (statement_flaw known') (listed b)) → AllNone (map (statement_flaw known') (listed (forget count old kept b)))
    flawless_forget old kept b h = fact_forget (λ b. AllNone (map (statement_flaw known') (listed b))) count (λ x b lt h. (refl, h)) count old kept b (omega arith) h

    mutual
      statement_flawless : (s : Statement) (F L : Names) → AllNone (map (statement_flaw known) (statement_listed s)) → AllNone (map (statement_flaw known') (statement_listed (forgetful_statement count s F L)))
      statement_flawless Skip F L all = all
      statement_flawless (Set x e) F L all = (still_flawless Number e all.0, tt)
      statement_flawless (Uniform x e) F L all = (still_flawless Number e all.0, tt)
      statement_flawless (Observe e) F L all = (still_flawless Truth e all.0, tt)
      statement_flawless (If e a c) F L all =
          let parts = split_map (statement_flaw known) (listed a) (listed c) all.1 in
          let M = before_statement (If e a c) L in (
            still_flawless Truth e all.0,
            join_map (statement_flaw known') (listed (forget count (both M F) (before a L) (forgetful count a F L))) (listed (forget count (both M F) (before c L) (forgetful count c F L)))
                (flawless_forget (both M F) (before a L) (forgetful count a F L) (block_flawless a F L parts.0)) (flawless_forget (both M F) (before c L) (forgetful count c F L) (block_flawless c F L parts.1)),
          )
      statement_flawless (While e a) F L all = (still_flawless Truth e all.0, let M = before_statement (While e a) L in flawless_forget (both M (behind_statement (While e a) F)) (before a M) (forgetful count a (behind_statement (While e a) F) M) (block_flawless a (behind_statement (While e a) F) M all.1))
      statement_flawless (Choice w a c) F L all =
          let parts = split_map (statement_flaw known) (listed a) (listed c) all.1 in
          let M = before_statement (Choice w a c) L in (
            all.0,
            join_map (statement_flaw known') (listed (forget count (both M F) (before a L) (forgetful count a F L))) (listed (forget count (both M F) (before c L) (forgetful count c F L)))
                (flawless_forget (both M F) (before a L) (forgetful count a F L) (block_flawless a F L parts.0)) (flawless_forget (both M F) (before c L) (forgetful count c F L) (block_flawless c F L parts.1)),
          )
      statement_flawless (Choose arms) F L all =
          (ap parts_flaw (sym (same_parts 0 count arms (both (before_statement (Choose arms) L) F) F L)) ∙ all.0, arms_flawless arms (both (before_statement (Choose arms) L) F) F L all.1)

      block_flawless : (b : Statements) (F L : Names) → AllNone (map (statement_flaw known) (listed b)) → AllNone (map (statement_flaw known') (listed (forgetful count b F L)))
      block_flawless done F L all = tt
      block_flawless (s ▸ b) F L all =
          let parts = split_map (statement_flaw known) (statement_listed s) (listed b) all in
          let K = before b L in
          join_map (statement_flaw known') (statement_listed (forgetful_statement count s F K)) (listed (forget count (both (ends_with s K) (behind_statement s F)) K (forgetful count b (behind_statement s F) L)))
          (statement_flawless s F K parts.0) (flawless_forget (both (ends_with s K) (behind_statement s F)) K (forgetful count b (behind_statement s F) L) (block_flawless b (behind_statement s F) L parts.1))

      arms_flawless : (arms : ArmList) (old F L : Names) → AllNone (map (statement_flaw known) (arms_listed arms)) → AllNone (map (statement_flaw known') (arms_listed (forgetful_arms count arms old F L)))
      arms_flawless no_arm old F L all = tt
      arms_flawless (arm p b arms) old F L all =
          let parts = split_map (statement_flaw known) (listed b) (arms_listed arms) all in
          join_map (statement_flaw known') (listed (forget count old (before b L) (forgetful count b F L))) (arms_listed (forgetful_arms count arms old F L)) (flawless_forget old (before b L) (forgetful count b F L) (block_flawless b F L parts.0)) (arms_flawless arms old F L parts.1)

-- ---- a program
few_names : (t : Bool) (x y : Option ProgramRefusal) → (x ≡ None → y ≡ None) → (if t then Some too_many_names else x) ≡ None → (if t then Some too_many_names else y) ≡ None
few_names true x y f e = absurd (cc)
few_names false x y f e = f e

module _ (p : SourceProgram) where
  more_sets : (x : ℕ) → sets p.body x ≡ true → sets (forgetful_of p).body x ≡ true
  more_sets x h = block_stays x (length p.names) p.body no_names (λ x. reads x p.result) h

  stays_accepted : IsAccepted p → IsAccepted (forgetful_of p)
  stays_accepted h = few_names (nat_lt MOST_NAMES (length p.names)) (first_refusal 0 (flaws_of p)) (first_refusal 0 (flaws_of (forgetful_of p)))
      (λ e. let all = split (map (statement_flaw (sets p.body)) (listed p.body)) (expression_flaw (sets p.body) Number p.result ∷ []) (unrefused 0 (flaws_of p) e) in
      never_refused 0 (flaws_of (forgetful_of p)) (join (map (statement_flaw (sets (forgetful_of p).body)) (listed (forgetful_of p).body)) (expression_flaw (sets (forgetful_of p).body) Number p.result ∷ [])
      (block_flawless (sets p.body) (sets (forgetful_of p).body) more_sets (length p.names) p.body no_names (λ x. reads x p.result) all.0)
      (still_flawless (sets p.body) (sets (forgetful_of p).body) more_sets Number p.result all.1.0, tt))) h

  abbrev with_body : Statements → SourceProgram
  with_body b = record { names = p.names; body = b; result = p.result }

  stays_low : in_lowest p ≡ p → in_lowest (forgetful_of p) ≡ forgetful_of p
  stays_low h =
      ap (λ b. with_body b) (block_low (length p.names) p.body no_names (λ x. reads x p.result) ∙ ap (λ q. forgetful (length p.names) q.body no_names (λ x. reads x p.result)) h)

  pub stays_checked : IsChecked p → IsChecked (forgetful_of p)
  stays_checked h = record {
    accepted = stays_accepted h.accepted;
    lowest = stays_low h.lowest;
    variables = record { body = block_below (length p.names) p.body no_names (λ x. reads x p.result) h.variables.body; result = h.variables.result };
    numbers = record { body = block_fits (length p.names) p.body no_names (λ x. reads x p.result) h.numbers.body; result = h.numbers.result };
    arms = block_weighs (length p.names) (λ w. Unit {0}) HaveArmCount p.body no_names (λ x. reads x p.result) h.arms;
  }
