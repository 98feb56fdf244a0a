-- Every program has a tree that reads as its run does, checked or not.
use Rattle.std.proofs.Common.{◌≡◌, ℕ, zero, suc, Bool, Some, None, List, length, refl, ap, ◌∙◌, subst}
use Rattle.gcl_core.specs.declared.answers.Limit.TheVariants.{Attempts, Rounds}
use Rattle.gcl_core.specs.declared.answers.Outcome.TheVariants as outcome
use Rattle.gcl_core.specs.meaning.Syntax.{SourceProgram}
use Rattle.gcl_core.specs.meaning.Value.{value_of}
use Rattle.gcl_core.specs.meaning.Reading.{Reading, gives, after}
use Rattle.gcl_core.specs.meaning.Draw.{draw_on}
use Rattle.gcl_core.specs.meaning.Blocks.{on, failed, fault, limit, by_class, block_on}
use Rattle.gcl_core.proofs.Plays.{Play, ended, drawing, block_play, on_bits, block_bits}
use Rattle.gcl_core.specs.meaning.Runs.{by_round, rounds_on}
use Rattle.gcl_core.specs.meaning.Outcomes.{zeros, outcome_of}
use Rattle.gcl_core.proofs.DrawTrees.{draw_tree, draw_runs}
use Rattle.gcl_core.proofs.Trees.{Tree, leaf, run, grow, run-grow, after-ext}

-- a tree reads as the reader does
pub record HasTree {A : Type 0} (reader : List Bool → Reading A) : Type 0 where
  pub tree : Tree A
  pub runs : (w : List Bool) → run tree w ≡ reader w

answer_tree : {A : Type 0} (a : A) → HasTree (λ w. gives a w)
answer_tree a = record { tree = leaf a; runs = λ w. refl }

then_tree : {A B : Type 0} (reader : List Bool → Reading A) (go : A → List Bool → Reading B) → HasTree reader → ((a : A) → HasTree (go a)) →
    HasTree (λ w. after (reader w) go)
then_tree {A = A} reader go h next = record {
  tree = grow h.tree (λ (a : A). (next a).tree);
  runs = λ w. run-grow h.tree (λ (a : A). (next a).tree) w
      ∙ ap (λ x. after x (λ a rest. run (next a).tree rest)) (h.runs w)
      ∙ after-ext (reader w) (λ a rest. run (next a).tree rest) go (λ a rest. (next a).runs rest);
}

play_tree : (r : ℕ) (p : Play) → HasTree (on_bits r p)
play_tree r (ended e) = answer_tree e
play_tree r (drawing cs k) =
    then_tree (draw_on cs r) (λ class rest. by_class class (gives (limit Attempts) rest) (λ i. on_bits r (k i) rest)) (record { tree = draw_tree cs r; runs = draw_runs cs r })
    (elim [ Some i ↦ play_tree r (k i) | None ↦ answer_tree (limit Attempts) ])

-- ---- all rounds
pub tree_of_rounds : (p : SourceProgram) (n r R : ℕ) → HasTree (rounds_on p n r R)
tree_of_rounds p n r zero = answer_tree (outcome.Limit Rounds)
tree_of_rounds p n r (suc R) =
    then_tree (block_on n r p.body (zeros (length p.names))) (λ e rest. by_round e p.result (λ x. gives x rest) (rounds_on p n r R rest))
    (subst HasTree (block_bits n r p.body (zeros (length p.names))) (play_tree r (block_play n p.body (zeros (length p.names)))))
    (elim [
      | on s ↦ answer_tree (outcome_of (value_of p.result s))
      | failed ↦ tree_of_rounds p n r R
      | fault f ↦ answer_tree (outcome.Fault f)
      | limit l ↦ answer_tree (outcome.Limit l)
    ])
