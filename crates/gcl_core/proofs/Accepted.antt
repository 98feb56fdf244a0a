-- What is accepted stays accepted with its weights in lowest terms, and keeps all that a checked program keeps.
use Rattle.std.proofs.Common.{◌≡◌, ◌∙◌, ℕ, ◌+◌, ◌≤◌, Bool, true, false, ◌||◌, ◌==◌, nat_lt, if◌then◌else◌, List, [], ◌∷◌, ◌++◌, map, length, Option, Some, None, refl, sym, ap, subst, arith}
use Rattle.std.proofs.lemmas.Bool.Decides.{nat_tests}
use Rattle.std.proofs.Math.Path.{fun_ext}
use Rattle.gcl_core.specs.declared.rules.TheConstants.{GREATEST_DENOMINATOR}
use Rattle.gcl_core.specs.declared.syntax.Weight.{Weight}
use Rattle.gcl_core.specs.declared.kinds.Kind.TheVariants.{Number}
use Rattle.gcl_core.specs.text.Acceptance.{Flaw, zero_denominator, weight_above_one, too_fine, ProgramRefusal, too_many_names, expression_flaw, weight_flaw, parts_flaw, statement_flaw, first_refusal, flaws_of, IsAccepted}
use Rattle.gcl_core.specs.meaning.Bounds.{BlockBelow, StatementBelow, ArmsBelow, VariablesBelow, BlockFits, StatementFits, ArmsFit, NumbersFit, IsWeight, BlockWeights, StatementWeights, ArmsWeights, BlockIsWeighed, BlockCounted, HaveArmCount, AreParts}
use Rattle.gcl_core.specs.meaning.Arms.{parts_of}
use Rattle.std.specs.List.{sum, list_any}
use Rattle.std.proofs.lemmas.List.Folds.{list_any-append}
use Rattle.gcl_core.specs.meaning.Checked.{IsChecked}
use Rattle.gcl_core.specs.text.ReadingOrder.{statement_listed, listed, arms_listed}
use Rattle.gcl_core.specs.meaning.Divisor.{common_divisor}
use Rattle.gcl_core.specs.meaning.Lowest.{lowest_terms, lowest_parts, divided, lowest_arms, statement_in_lowest, block_in_lowest, arms_in_lowest, in_lowest}
use Rattle.gcl_core.specs.meaning.Syntax.{Statement, Skip, Set, If, While, Choice, Choose, Uniform, Observe, Statements, done, ◌▸◌, ArmList, no_arm, arm, SourceProgram}
use Rattle.gcl_core.specs.text.Targets.{is_set_by, sets}
use Rattle.gcl_core.proofs.LowestTerms.{lowest_positive, lowest_at_most_one, lowest_again}
use Rattle.gcl_core.proofs.LowestParts.{from_all, lowest_sum_positive, one_divides_left, divisor_left, parts_again, lowest_count}
use Rattle.gcl_core.proofs.ArmsInLowest.{parts_divided, parts_same, parts_lowest, divided_by_one, listed_divided, lowest_divided, below_divided, fit_divided, weights_divided}

-- ---- a weight
by_three : (a b c : Bool) (x y z : Flaw) → (if a then Some x else if b then Some y else if c then Some z else None) ≡ None → (a ≡ false) × (b ≡ false) × (c ≡ false)
by_three true b c x y z e = absurd (cc)
by_three false true c x y z e = absurd (cc)
by_three false false true x y z e = absurd (cc)
by_three false false false x y z e = (refl, refl, refl)

flawless_weight : (w : Weight) → 1 ≤ w.den → w.num ≤ w.den → (lowest_terms w).den ≤ GREATEST_DENOMINATOR → weight_flaw w ≡ None
flawless_weight w positive at_most_one coarse =
    let a : (w.den == 0) ≡ false = grind (arith, nat_tests) in
    let b : nat_lt w.den w.num ≡ false = grind (arith, nat_tests) in
    let c : nat_lt GREATEST_DENOMINATOR (lowest_terms w).den ≡ false = grind (arith, nat_tests) in
    rw (a, b, c) refl

module _ (w : Weight) (flawless : weight_flaw w ≡ None) where
  tests : ((w.den == 0) ≡ false) × (nat_lt w.den w.num ≡ false) × (nat_lt GREATEST_DENOMINATOR (lowest_terms w).den ≡ false)
  tests = by_three (w.den == 0) (nat_lt w.den w.num) (nat_lt GREATEST_DENOMINATOR (lowest_terms w).den) zero_denominator weight_above_one too_fine flawless

  pub positive : 1 ≤ w.den
  positive = let t = tests.0 in grind (arith, nat_tests)

  at_most_one : w.num ≤ w.den
  at_most_one = let t = tests.1 in grind (arith, nat_tests)

  coarse : (lowest_terms w).den ≤ GREATEST_DENOMINATOR
  coarse = let t = tests.2 in grind (arith, nat_tests)

  lowest_is_weight : IsWeight (lowest_terms w)
  lowest_is_weight = record { at_most_one = lowest_at_most_one w positive at_most_one; positive = lowest_positive w positive; coarse = coarse }

  lowest_flawless : weight_flaw (lowest_terms w) ≡ None
  lowest_flawless =
      flawless_weight (lowest_terms w) (lowest_positive w positive) (lowest_at_most_one w positive at_most_one) (subst (λ v. v.den ≤ GREATEST_DENOMINATOR) (sym (lowest_again w positive)) coarse)

-- ---- the parts of a choice among several
by_two : (a b : Bool) (x y : Flaw) → (if a then Some x else if b then Some y else None) ≡ None → (a ≡ false) × (b ≡ false)
by_two true b x y e = absurd (cc)
by_two false true x y e = absurd (cc)
by_two false false x y e = (refl, refl)

flawless_parts : (ps : List ℕ) → 1 ≤ sum ps → sum (lowest_parts ps) ≤ GREATEST_DENOMINATOR → parts_flaw ps ≡ None
flawless_parts ps some coarse =
    let a : (sum ps == 0) ≡ false = grind (arith, nat_tests) in
    let b : nat_lt GREATEST_DENOMINATOR (sum (lowest_parts ps)) ≡ false = grind (arith, nat_tests) in
    rw (a, b) refl

module _ (ps : List ℕ) (flawless : parts_flaw ps ≡ None) where
  parts_tests : ((sum ps == 0) ≡ false) × (nat_lt GREATEST_DENOMINATOR (sum (lowest_parts ps)) ≡ false)
  parts_tests = by_two (sum ps == 0) (nat_lt GREATEST_DENOMINATOR (sum (lowest_parts ps))) zero_denominator too_fine flawless

  pub parts_positive : 1 ≤ sum ps
  parts_positive = let t = parts_tests.0 in grind (arith, nat_tests)

  parts_coarse : sum (lowest_parts ps) ≤ GREATEST_DENOMINATOR
  parts_coarse = let t = parts_tests.1 in grind (arith, nat_tests)

  lowest_are_parts : HaveArmCount ps → AreParts (lowest_parts ps)
  lowest_are_parts count =
      let left = lowest_count ps count in
      record {
        enough = left.enough;
        few = left.few;
        lowest = λ d all. one_divides_left ps parts_positive d (from_all d (lowest_parts ps) all);
        positive = lowest_sum_positive ps parts_positive;
        coarse = parts_coarse;
      }

  lowest_parts_flawless : parts_flaw (lowest_parts ps) ≡ None
  lowest_parts_flawless =
      flawless_parts (lowest_parts ps) (lowest_sum_positive ps parts_positive) (subst (λ qs. sum qs ≤ GREATEST_DENOMINATOR) (sym (parts_again ps parts_positive)) parts_coarse)

-- ---- no flaw in a list
abbrev AllNone : List (Option Flaw) → Type 0
AllNone [] = Unit {0}
AllNone (f ∷ fs) = (f ≡ None) × AllNone fs

unrefused : (n : ℕ) (fs : List (Option Flaw)) → first_refusal n fs ≡ None → AllNone fs
unrefused n [] e = tt
unrefused n (None ∷ fs) e = (refl, unrefused (n + 1) fs e)
unrefused n (Some f ∷ fs) e = absurd (cc)

never_refused : (n : ℕ) (fs : List (Option Flaw)) → AllNone fs → first_refusal n fs ≡ None
never_refused n [] all = refl
never_refused n (None ∷ fs) all = never_refused (n + 1) fs all.1
never_refused n (Some f ∷ fs) all = absurd (let e = all.0 in cc)

split : (fs gs : List (Option Flaw)) → AllNone (fs ++ gs) → AllNone fs × AllNone gs
split [] gs all = (tt, all)
split (f ∷ fs) gs all = let rest = split fs gs all.1 in ((all.0, rest.0), rest.1)

join : (fs gs : List (Option Flaw)) → AllNone fs → AllNone gs → AllNone (fs ++ gs)
join [] gs p q = q
join (f ∷ fs) gs p q = (p.0, join fs gs p.1 q)

module _ (flaw_of : Statement → Option Flaw) where
  split_map : (xs ys : List Statement) → AllNone (map flaw_of (xs ++ ys)) → AllNone (map flaw_of xs) × AllNone (map flaw_of ys)
  split_map [] ys all = (tt, all)
  split_map (x ∷ xs) ys all = let rest = split_map xs ys all.1 in ((all.0, rest.0), rest.1)

  join_map : (xs ys : List Statement) → AllNone (map flaw_of xs) → AllNone (map flaw_of ys) → AllNone (map flaw_of (xs ++ ys))
  join_map [] ys p q = q
  join_map (x ∷ xs) ys p q = (p.0, join_map xs ys p.1 q)

-- ---- blocks with no flaw
module _ (known : ℕ → Bool) where
  mutual
    statement_lowest : (s : Statement) → AllNone (map (statement_flaw known) (statement_listed s)) → AllNone (map (statement_flaw known) (statement_listed (statement_in_lowest s)))
    statement_lowest (If e a c) all =
        let both = split_map (statement_flaw known) (listed a) (listed c) all.1 in
        (all.0, join_map (statement_flaw known) (listed (block_in_lowest a)) (listed (block_in_lowest c)) (block_lowest a both.0) (block_lowest c both.1))
    statement_lowest (While e a) all = (all.0, block_lowest a all.1)
    statement_lowest (Choice w a c) all =
        let both = split_map (statement_flaw known) (listed a) (listed c) all.1 in
        (lowest_flawless w all.0, join_map (statement_flaw known) (listed (block_in_lowest a)) (listed (block_in_lowest c)) (block_lowest a both.0) (block_lowest c both.1))
    statement_lowest (Choose arms) all = (
      ap parts_flaw (parts_lowest arms) ∙ lowest_parts_flawless (parts_of arms) all.0,
      subst (λ ss. AllNone (map (statement_flaw known) ss)) (sym (listed_divided (common_divisor (parts_of (arms_in_lowest arms))) (arms_in_lowest arms))) (arms_lowest arms all.1),
    )
    statement_lowest Skip all = all
    statement_lowest (Set x e) all = all
    statement_lowest (Uniform x e) all = all
    statement_lowest (Observe e) all = all

    block_lowest : (b : Statements) → AllNone (map (statement_flaw known) (listed b)) → AllNone (map (statement_flaw known) (listed (block_in_lowest b)))
    block_lowest done all = tt
    block_lowest (s ▸ b) all =
        let both = split_map (statement_flaw known) (statement_listed s) (listed b) all in
        join_map (statement_flaw known) (statement_listed (statement_in_lowest s)) (listed (block_in_lowest b)) (statement_lowest s both.0) (block_lowest b both.1)

    arms_lowest : (arms : ArmList) → AllNone (map (statement_flaw known) (arms_listed arms)) → AllNone (map (statement_flaw known) (arms_listed (arms_in_lowest arms)))
    arms_lowest no_arm all = tt
    arms_lowest (arm p b arms) all =
        let both = split_map (statement_flaw known) (listed b) (arms_listed arms) all in
        join_map (statement_flaw known) (listed (block_in_lowest b)) (arms_listed (arms_in_lowest arms)) (block_lowest b both.0) (arms_lowest arms both.1)

  -- the facts of weights and parts that have no flaw, and of as many parts as there may be
  module _
      (Fact : Weight → Type 0) (PartsFact : List ℕ → Type 0) (fact : (w : Weight) → weight_flaw w ≡ None → Fact w)
      (parts_fact : (ps : List ℕ) → parts_flaw ps ≡ None → HaveArmCount ps → PartsFact ps) where
    mutual
      statement_weights : (s : Statement) → StatementWeights (λ w. Unit {0}) HaveArmCount s → AllNone (map (statement_flaw known) (statement_listed s)) → StatementWeights Fact PartsFact s
      statement_weights (If e a c) n all =
          let both = split_map (statement_flaw known) (listed a) (listed c) all.1 in (block_weights a n.0 both.0, block_weights c n.1 both.1)
      statement_weights (While e a) n all = block_weights a n all.1
      statement_weights (Choice w a c) n all =
          let both = split_map (statement_flaw known) (listed a) (listed c) all.1 in (fact w all.0, block_weights a n.1 both.0, block_weights c n.2 both.1)
      statement_weights (Choose arms) n all = (parts_fact (parts_of arms) all.0 n.0, arms_weights arms n.1 all.1)
      statement_weights Skip n all = tt
      statement_weights (Set x e) n all = tt
      statement_weights (Uniform x e) n all = tt
      statement_weights (Observe e) n all = tt

      block_weights : (b : Statements) → BlockCounted b → AllNone (map (statement_flaw known) (listed b)) → BlockWeights Fact PartsFact b
      block_weights done n all = tt
      block_weights (s ▸ b) n all =
          let both = split_map (statement_flaw known) (statement_listed s) (listed b) all in (statement_weights s n.0 both.0, block_weights b n.1 both.1)

      arms_weights : (arms : ArmList) → ArmsWeights (λ w. Unit {0}) HaveArmCount arms → AllNone (map (statement_flaw known) (arms_listed arms)) → ArmsWeights Fact PartsFact arms
      arms_weights no_arm n all = tt
      arms_weights (arm p b arms) n all =
          let both = split_map (statement_flaw known) (listed b) (arms_listed arms) all in (block_weights b n.0 both.0, arms_weights arms n.1 both.1)

-- ---- what lowest terms leave
module _ (x : ℕ) where
  abbrev set_in : List Statement → Bool
  set_in = list_any (is_set_by x)

  joined_same : (ss ts us vs : List Statement) → set_in ss ≡ set_in us → set_in ts ≡ set_in vs → set_in (ss ++ ts) ≡ set_in (us ++ vs)
  joined_same ss ts us vs p q =
      list_any-append (is_set_by x) ss ts ∙ ap (λ t. t || set_in ts) p ∙ ap (λ t. set_in us || t) q ∙ sym (list_any-append (is_set_by x) us vs)

  mutual
    one_same : (s : Statement) → set_in (statement_listed (statement_in_lowest s)) ≡ set_in (statement_listed s)
    one_same (If e a c) = joined_same (listed (block_in_lowest a)) (listed (block_in_lowest c)) (listed a) (listed c) (all_same a) (all_same c)
    one_same (While e a) = all_same a
    one_same (Choice w a c) = joined_same (listed (block_in_lowest a)) (listed (block_in_lowest c)) (listed a) (listed c) (all_same a) (all_same c)
    one_same (Choose arms) = ap set_in (listed_divided (common_divisor (parts_of (arms_in_lowest arms))) (arms_in_lowest arms)) ∙ arms_same arms
    one_same Skip = refl
    one_same (Set y e) = refl
    one_same (Uniform y e) = refl
    one_same (Observe e) = refl

    all_same : (b : Statements) → set_in (listed (block_in_lowest b)) ≡ set_in (listed b)
    all_same done = refl
    all_same (s ▸ b) = joined_same (statement_listed (statement_in_lowest s)) (listed (block_in_lowest b)) (statement_listed s) (listed b) (one_same s) (all_same b)

    arms_same : (arms : ArmList) → set_in (arms_listed (arms_in_lowest arms)) ≡ set_in (arms_listed arms)
    arms_same no_arm = refl
    arms_same (arm p b arms) = joined_same (listed (block_in_lowest b)) (arms_listed (arms_in_lowest arms)) (listed b) (arms_listed arms) (all_same b) (arms_same arms)

sets_same : (b : Statements) (x : ℕ) → sets (block_in_lowest b) x ≡ sets b x
sets_same b x = all_same x b

module _ (count : ℕ) where
  mutual
    statement_below : (s : Statement) → StatementBelow count s → StatementBelow count (statement_in_lowest s)
    statement_below (If e a c) p = (p.0, block_below a p.1, block_below c p.2)
    statement_below (While e a) p = (p.0, block_below a p.1)
    statement_below (Choice w a c) p = (block_below a p.0, block_below c p.1)
    statement_below (Choose arms) p = below_divided (common_divisor (parts_of (arms_in_lowest arms))) count (arms_in_lowest arms) (arms_below arms p)
    statement_below Skip p = p
    statement_below (Set x e) p = p
    statement_below (Uniform x e) p = p
    statement_below (Observe e) p = p

    block_below : (b : Statements) → BlockBelow count b → BlockBelow count (block_in_lowest b)
    block_below done p = tt
    block_below (s ▸ b) p = (statement_below s p.0, block_below b p.1)

    arms_below : (arms : ArmList) → ArmsBelow count arms → ArmsBelow count (arms_in_lowest arms)
    arms_below no_arm p = tt
    arms_below (arm n b arms) p = (block_below b p.0, arms_below arms p.1)

mutual
  statement_fits : (s : Statement) → StatementFits s → StatementFits (statement_in_lowest s)
  statement_fits (If e a c) p = (p.0, block_fits a p.1, block_fits c p.2)
  statement_fits (While e a) p = (p.0, block_fits a p.1)
  statement_fits (Choice w a c) p = (block_fits a p.0, block_fits c p.1)
  statement_fits (Choose arms) p = fit_divided (common_divisor (parts_of (arms_in_lowest arms))) (arms_in_lowest arms) (arms_fit arms p)
  statement_fits Skip p = p
  statement_fits (Set x e) p = p
  statement_fits (Uniform x e) p = p
  statement_fits (Observe e) p = p

  block_fits : (b : Statements) → BlockFits b → BlockFits (block_in_lowest b)
  block_fits done p = tt
  block_fits (s ▸ b) p = (statement_fits s p.0, block_fits b p.1)

  arms_fit : (arms : ArmList) → ArmsFit arms → ArmsFit (arms_in_lowest arms)
  arms_fit no_arm p = tt
  arms_fit (arm n b arms) p = (block_fits b p.0, arms_fit arms p.1)

mutual
  statement_again : (s : Statement) → StatementWeights (λ w. 1 ≤ w.den) (λ ps. 1 ≤ sum ps) s → statement_in_lowest (statement_in_lowest s) ≡ statement_in_lowest s
  statement_again (If e a c) p = ap (λ x. If e x (block_in_lowest (block_in_lowest c))) (block_again a p.0) ∙ ap (If e (block_in_lowest a)) (block_again c p.1)
  statement_again (While e a) p = ap (While e) (block_again a p)
  statement_again (Choice w a c) p =
      ap (λ v. Choice v (block_in_lowest (block_in_lowest a)) (block_in_lowest (block_in_lowest c))) (lowest_again w p.0)
      ∙ ap (λ x. Choice (lowest_terms w) x (block_in_lowest (block_in_lowest c))) (block_again a p.1) ∙ ap (Choice (lowest_terms w) (block_in_lowest a)) (block_again c p.2)
  statement_again (Choose arms) p =
      let reduced = arms_in_lowest arms in
      let g = common_divisor (parts_of reduced) in
      let some : 1 ≤ sum (parts_of reduced) = subst (λ ps. 1 ≤ sum ps) (sym (parts_same arms)) p.0 in
      let one : common_divisor (parts_of (divided g reduced)) ≡ 1 = ap common_divisor (parts_divided g reduced) ∙ divisor_left (parts_of reduced) some in
      ap (λ x. Choose (lowest_arms x)) (lowest_divided g reduced ∙ ap (divided g) (arms_again arms p.1))
      ∙ ap (λ d. Choose (divided d (divided g reduced))) one ∙ ap Choose (divided_by_one (divided g reduced))
  statement_again Skip p = refl
  statement_again (Set x e) p = refl
  statement_again (Uniform x e) p = refl
  statement_again (Observe e) p = refl

  block_again : (b : Statements) → BlockWeights (λ w. 1 ≤ w.den) (λ ps. 1 ≤ sum ps) b → block_in_lowest (block_in_lowest b) ≡ block_in_lowest b
  block_again done p = refl
  block_again (s ▸ b) p = ap (λ x. x ▸ block_in_lowest (block_in_lowest b)) (statement_again s p.0) ∙ ap (λ x. statement_in_lowest s ▸ x) (block_again b p.1)

  arms_again : (arms : ArmList) → ArmsWeights (λ w. 1 ≤ w.den) (λ ps. 1 ≤ sum ps) arms → arms_in_lowest (arms_in_lowest arms) ≡ arms_in_lowest arms
  arms_again no_arm p = refl
  arms_again (arm n b arms) p = ap (λ x. arm n x (arms_in_lowest (arms_in_lowest arms))) (block_again b p.0) ∙ ap (arm n (block_in_lowest b)) (arms_again arms p.1)

-- the facts of weights and parts in lowest terms, by those before
module _
    (Before After : Weight → Type 0) (PartsBefore PartsAfter : List ℕ → Type 0) (weight_kept : (w : Weight) → Before w → After (lowest_terms w))
    (parts_kept : (ps : List ℕ) → PartsBefore ps → PartsAfter (lowest_parts ps)) where
  mutual
    statement_of_lowest : (s : Statement) → StatementWeights Before PartsBefore s → StatementWeights After PartsAfter (statement_in_lowest s)
    statement_of_lowest (If e a c) p = (block_of_lowest a p.0, block_of_lowest c p.1)
    statement_of_lowest (While e a) p = block_of_lowest a p
    statement_of_lowest (Choice w a c) p = (weight_kept w p.0, block_of_lowest a p.1, block_of_lowest c p.2)
    statement_of_lowest (Choose arms) p = (
      subst PartsAfter (sym (parts_lowest arms)) (parts_kept (parts_of arms) p.0),
      weights_divided (common_divisor (parts_of (arms_in_lowest arms))) After PartsAfter (arms_in_lowest arms) (arms_of_lowest arms p.1),
    )
    statement_of_lowest Skip p = tt
    statement_of_lowest (Set x e) p = tt
    statement_of_lowest (Uniform x e) p = tt
    statement_of_lowest (Observe e) p = tt

    block_of_lowest : (b : Statements) → BlockWeights Before PartsBefore b → BlockWeights After PartsAfter (block_in_lowest b)
    block_of_lowest done p = tt
    block_of_lowest (s ▸ b) p = (statement_of_lowest s p.0, block_of_lowest b p.1)

    arms_of_lowest : (arms : ArmList) → ArmsWeights Before PartsBefore arms → ArmsWeights After PartsAfter (arms_in_lowest arms)
    arms_of_lowest no_arm p = tt
    arms_of_lowest (arm n b arms) p = (block_of_lowest b p.0, arms_of_lowest arms p.1)

-- ---- a program
by_names : (b : Bool) (r : Option ProgramRefusal) → (if b then Some too_many_names else r) ≡ None → (b ≡ false) × (r ≡ None)
by_names true r e = absurd (cc)
by_names false r e = (refl, e)

module _ (p : SourceProgram) (accepted : IsAccepted p) where
  few : nat_lt 256 (length p.names) ≡ false
  few = (by_names (nat_lt 256 (length p.names)) (first_refusal 0 (flaws_of p)) accepted).0

  flawless : AllNone (map (statement_flaw (sets p.body)) (listed p.body)) × AllNone (expression_flaw (sets p.body) Number p.result ∷ [])
  flawless =
      split (map (statement_flaw (sets p.body)) (listed p.body)) (expression_flaw (sets p.body) Number p.result ∷ [])
      (unrefused 0 (flaws_of p) (by_names (nat_lt 256 (length p.names)) (first_refusal 0 (flaws_of p)) accepted).1)

  -- no denominator is 0, and no sum of parts
  pub accepted_positive : BlockCounted p.body → BlockWeights (λ w. 1 ≤ w.den) (λ ps. 1 ≤ sum ps) p.body
  accepted_positive counted = block_weights (sets p.body) (λ w. 1 ≤ w.den) (λ ps. 1 ≤ sum ps) positive (λ ps none count. parts_positive ps none) p.body counted flawless.0

  lowest_accepted : IsAccepted (in_lowest p)
  lowest_accepted =
      let known : sets (block_in_lowest p.body) ≡ sets p.body = fun_ext (sets_same p.body) in
      let all = join (map (statement_flaw (sets p.body)) (listed (block_in_lowest p.body))) (expression_flaw (sets p.body) Number p.result ∷ []) (block_lowest (sets p.body) p.body flawless.0) flawless.1 in
      let none = never_refused 0 _ all in
      ap (λ b. if b then Some too_many_names else first_refusal 0 (flaws_of (in_lowest p))) few
      ∙ ap (λ k. first_refusal 0 (map (statement_flaw k) (listed (block_in_lowest p.body)) ++ expression_flaw k Number p.result ∷ [])) known ∙ none

  -- with its weights in lowest terms it is a checked program
  pub lowest_checked : VariablesBelow p → NumbersFit p → BlockCounted p.body → IsChecked (in_lowest p)
  lowest_checked variables numbers counted = record {
    accepted = lowest_accepted;
    lowest = ap (λ b. record { names = p.names; body = b; result = p.result }) (block_again p.body (accepted_positive counted));
    variables = record { body = block_below (length p.names) p.body variables.body; result = variables.result };
    numbers = record { body = block_fits p.body numbers.body; result = numbers.result };
    arms = block_of_lowest (λ w. Unit {0}) (λ w. Unit {0}) HaveArmCount HaveArmCount (λ w u. tt) lowest_count p.body counted;
  }

-- the weights and the parts of a checked program
pub checked_weights : (p : SourceProgram) → IsChecked p → BlockIsWeighed p.body
checked_weights p c =
    subst (λ q. BlockIsWeighed q.body) c.lowest
    (block_of_lowest (λ w. IsWeight (lowest_terms w)) IsWeight (λ ps. AreParts (lowest_parts ps)) AreParts (λ w is. is) (λ ps are. are) p.body
    (block_weights (sets p.body) (λ w. IsWeight (lowest_terms w)) (λ ps. AreParts (lowest_parts ps)) lowest_is_weight lowest_are_parts p.body c.arms (flawless p c.accepted).0))
