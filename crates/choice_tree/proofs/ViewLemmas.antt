-- What each choice-fix tree stands for: one equation a variant. The members of a row are seen as a list.
use Rattle.std.proofs.Common.{◌≡◌, ℕ, List, refl, ap, ◌∙◌, Box, Global}
use mathlib.Core.Former.{Count}
use Rattle.gcl_core.specs.declared.syntax.Expr.{Expr}
use Rattle.gcl_core.specs.declared.syntax.Weight.{Weight}
use Rattle.gcl_core.specs.meaning.Views.{expression_of}
use Rattle.choice_tree.specs.declared.tree.CfRow.{CfRow}
use Rattle.choice_tree.specs.declared.tree.Cf.{Cf, Row_of-Cf, end_of-Cf, more_of-Cf, items-the_row-Cf, items_hidden-the_row-Cf-0}
use Rattle.choice_tree.specs.declared.tree.Cf.TheVariants as cf
use Rattle.choice_tree.specs.Tree.{Fail, Set, Test, Choice, Choose, Uniform, Row, Fix, ◌▹◌}
use Rattle.choice_tree.specs.Views.{choice_tree_of, row_of, list_of, choice_trees_of}

row_as_list : (n : _) (r : Row_of-Cf n) → row_of r ≡ list_of (items-the_row-Cf n r)
unfolding choice_tree_of
row_as_list n end_of-Cf = refl
row_as_list n (more_of-Cf t rest) = ap (λ ts. choice_tree_of t ▹ ts) (row_as_list _ rest)

abbrev members : Cf → (n : Count) × Row_of-Cf n
members (cf.Choose' _ _ r) = (_, r)
members (cf.Row' _ r) = (_, r)
members _ = (_, end_of-Cf)

members_view : (r : CfRow) → row_of (members (cf.Row r)).1 ≡ choice_trees_of r
members_view r = row_as_list _ (members (cf.Row r)).1 ∙ ap list_of (items_hidden-the_row-Cf-0 r.members)

pub fail_view : choice_tree_of cf.Fail ≡ Fail
unfolding choice_tree_of
fail_view = refl

pub set_view : (x : ℕ) (e : Expr) → choice_tree_of (cf.Set x e) ≡ Set x (expression_of e)
unfolding choice_tree_of
set_view x e = refl

pub test_view : (e : Expr) (a c : Box Cf Global) → choice_tree_of (cf.Test e a c) ≡ Test (expression_of e) (choice_tree_of a.value) (choice_tree_of c.value)
unfolding choice_tree_of
test_view e a c = refl

pub choice_view : (p : Weight) (a c : Box Cf Global) → choice_tree_of (cf.Choice p a c) ≡ Choice p (choice_tree_of a.value) (choice_tree_of c.value)
unfolding choice_tree_of
choice_view p a c = refl

pub choose_view : (ps : List ℕ) (r : CfRow) → choice_tree_of (cf.Choose ps r) ≡ Choose ps (choice_trees_of r)
unfolding choice_tree_of
choose_view ps r = ap (Choose ps) (members_view r)

pub uniform_view : (x : ℕ) (e : Expr) → choice_tree_of (cf.Uniform x e) ≡ Uniform x (expression_of e)
unfolding choice_tree_of
uniform_view x e = refl

pub row_view : (r : CfRow) → choice_tree_of (cf.Row r) ≡ Row (choice_trees_of r)
unfolding choice_tree_of
row_view r = ap Row (members_view r)

pub fix_view : (e : Expr) (a : Box Cf Global) → choice_tree_of (cf.Fix e a) ≡ Fix (expression_of e) (choice_tree_of a.value)
unfolding choice_tree_of
fix_view e a = refl

pub ruleset views = (fail_view, set_view, test_view, choice_view, choose_view, uniform_view, row_view, fix_view)
