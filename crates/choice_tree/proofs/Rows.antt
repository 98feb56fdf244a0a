-- Rows that grow at their end while statements, or arms, are read.
use Rattle.std.proofs.Common.{◌≡◌, ◌∙◌, ℕ, ◌+◌, ◌<◌, List, [], ◌∷◌, ◌++◌, length, get_or, drop, Option, sym, refl, ap}
use Rattle.std.proofs.lemmas.List.{at_drop_more}
use Rattle.gcl_core.specs.declared.syntax.Block.{Block}
use Rattle.gcl_core.specs.declared.syntax.Stmt.{Stmt}
use Rattle.gcl_core.specs.meaning.Views as statements
use Rattle.gcl_core.specs.meaning.Views.{statement_of, statements_of, arm_list_of}
use Rattle.choice_tree.specs.declared.tree.Cf.{Cf}
use Rattle.choice_tree.specs.Tree.{ChoiceTree, ChoiceTrees, no_tree, ◌▹◌}
use Rattle.choice_tree.specs.TreeOf.{in_front, member_of, members_of, arm_trees, tree_of}
use Rattle.choice_tree.specs.Views.{choice_tree_of, list_of}

-- one row behind the other
abbrev pub followed : ChoiceTrees → ChoiceTrees → ChoiceTrees
followed no_tree us = us
followed (t ▹ ts) us = t ▹ followed ts us

followed_none : (ts : ChoiceTrees) → followed ts no_tree ≡ ts
followed_none no_tree = refl
followed_none (t ▹ ts) = ap (λ us. t ▹ us) (followed_none ts)

followed_push : (xs : List Cf) (x : Cf) (us : ChoiceTrees) → followed (list_of (xs ++ x ∷ [])) us ≡ followed (list_of xs) (choice_tree_of x ▹ us)
followed_push [] x us = refl
followed_push (y ∷ xs) x us = ap (λ ts. choice_tree_of y ▹ ts) (followed_push xs x us)

-- what was built, and then what the rest gives, is what all give
pub record Built (ts : List Cf) (rest all : ChoiceTrees) : Type 0 where
  pub whole : followed (list_of ts) rest ≡ all

module _ (ts : List Cf) (rest all : ChoiceTrees) (b : Built ts rest all) where
  pub built_all : rest ≡ no_tree → list_of ts ≡ all
  built_all none = sym (followed_none (list_of ts)) ∙ ap (followed (list_of ts)) (sym none) ∙ b.whole

  pub built_one : (more : ChoiceTrees) (us : List Cf) (t : Cf) → us ≡ ts ++ t ∷ [] → rest ≡ choice_tree_of t ▹ more → Built us more all
  built_one more us t u e = record { whole = ap (λ l. followed (list_of l) more) u ∙ followed_push ts t more ∙ ap (followed (list_of ts)) (sym e) ∙ b.whole }

-- the trees of the statements from the i-th on
abbrev pub members_from : ℕ → List Stmt → ChoiceTrees
members_from i ss = members_of (statements.list_of (drop i ss))

pub next_member : (i : ℕ) (ss : List Stmt) (s : Stmt) → i < length ss → s ≡ get_or ss i s → (o : Option ChoiceTree) → o ≡ member_of (statement_of s) →
    members_from i ss ≡ in_front o (members_from (i + 1) ss)
next_member i ss s lt is o e =
    at_drop_more (λ l. members_of (statements.list_of l)) ss i s lt ∙ ap (λ x. in_front (member_of (statement_of x)) (members_from (i + 1) ss)) (sym is)
    ∙ ap (λ m. in_front m (members_from (i + 1) ss)) (sym e)

-- the trees of the arms from the i-th on
abbrev pub arms_from : ℕ → List (ℕ × Block) → ChoiceTrees
arms_from i arms = arm_trees (arm_list_of (drop i arms))

pub next_arm : (i : ℕ) (arms : List (ℕ × Block)) (a : ℕ × Block) → i < length arms → a ≡ get_or arms i a → (t : ChoiceTree) → t ≡ tree_of (statements_of a.1) →
    arms_from i arms ≡ t ▹ arms_from (i + 1) arms
next_arm i arms a lt is t e =
    at_drop_more (λ l. arm_trees (arm_list_of l)) arms i a lt ∙ ap (λ x. tree_of (statements_of x.1) ▹ arms_from (i + 1) arms) (sym is)
    ∙ ap (λ x. x ▹ arms_from (i + 1) arms) (sym e)
