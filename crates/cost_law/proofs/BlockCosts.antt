-- What a block costs on bits is what its statements say.
use Rattle.std.proofs.Common.{◌≡◌, ℕ, ◌+◌, ◌*◌, Some, None, List, length, true, refl, ap, subst}
use Rattle.std.proofs.Math.Path.{fun_ext}
use Rattle.std.proofs.lemmas.Bool.{ltb-true}
use Rattle.gcl_core.specs.declared.answers.Limit.TheVariants.{Attempts}
use Rattle.gcl_core.specs.meaning.Bounds.{BlockIsWeighed, BlockFits}
use Rattle.gcl_core.specs.meaning.Syntax.{Statements}
use Rattle.gcl_core.specs.meaning.Value.{State}
use Rattle.gcl_core.specs.meaning.Reading.{gives}
use Rattle.gcl_core.specs.meaning.Draw.{bits_for, last_end, draw_on}
use Rattle.gcl_core.specs.meaning.Blocks.{End, on, failed, fault, limit, by_end, block_on}
use Rattle.gcl_core.specs.meaning.Fitting.{state_fits}
use Rattle.gcl_core.specs.weighing.Fractions.{Fraction, zero_share, plus}
use Rattle.gcl_core.specs.weighing.LongestReading.{longest}
use Rattle.gcl_core.specs.weighing.OneDraw.{Ascends}
use Rattle.gcl_core.specs.weighing.WeightedEnds.{weighted_classes}
use Rattle.gcl_core.proofs.CutPlays.{Cut, same_end, no_turns, same_draw, block_sound}
use Rattle.gcl_core.proofs.DrawTrees.{draw_tree, draw_runs, draw_within}
use Rattle.gcl_core.proofs.Plays.{Play, ended, drawing, with_end, on_bits, block_play, block_folds}
use Rattle.gcl_core.proofs.Plays as plays
use Rattle.weighing_law.proofs.DrawMatching.{class_below, draw_matches}
use Rattle.cost_law.specs.ExpectedBits.{draw_bits, on_average, Bits, end_bits, then_bits, class_bits, block_bits}
use Rattle.cost_law.proofs.CostedReaders.{Costs, costs_none, costs_up, costs_then}
use Rattle.cost_law.proofs.DrawBits.{draw_share, draw_bits_pos}

draw_costs : (ends : List ℕ) (r : ℕ) → Ascends 0 ends → Costs (bits_for (last_end ends) * r) (draw_on ends r) (draw_bits ends r)
draw_costs ends r up = record { tree = draw_tree ends r; runs = draw_runs ends r; within = draw_within ends r; share = draw_share ends r up; some = draw_bits_pos ends r }

module _ (r : ℕ) where
  abbrev pub play_bits : Play → Bits
  play_bits (ended e) = end_bits e
  play_bits (drawing cs k) = class_bits r cs (λ i. play_bits (k i))

  pub bits_then : (p : Play) (go : State → Play) (more : State → Fraction) → play_bits (with_end p go) more ≡ then_bits (play_bits p) (λ s. play_bits (go s)) more
  bits_then (ended (on s)) go more = refl
  bits_then (ended failed) go more = refl
  bits_then (ended (fault f)) go more = refl
  bits_then (ended (limit l)) go more = refl
  bits_then (drawing cs k) go more =
      ap (λ f. plus (draw_bits cs r) (on_average (weighted_classes cs (Some r)) f)) (fun_ext (elim [ None ↦ refl | Some i ↦ bits_then (k i) go more ]))

  pub play_block : (n : ℕ) (b : Statements) (s : State) → play_bits (block_play n b s) ≡ block_bits n r b s
  play_block n = block_folds end_bits then_bits (class_bits r) play_bits (λ e. refl) (λ cs k. refl) (λ p go. fun_ext (bits_then p go)) n

  end_costs : (d : ℕ) (e : End) → Costs d (gives e) (by_end e (λ e. zero_share) (λ s. zero_share))
  end_costs d (on s) = costs_none d (on s)
  end_costs d failed = costs_none d failed
  end_costs d (fault f) = costs_none d (fault f)
  end_costs d (limit l) = costs_none d (limit l)

  play_costs : (lost : Type 0) (d : ℕ) (p q : Play) → Cut r lost (Unit {0}) d p q → Costs d (on_bits r q) (play_bits q (λ s. zero_share))
  play_costs lost d p q (same_end e h) = end_costs d e
  play_costs lost d p q (no_turns {p = m} l h) = play_costs lost d m q h
  play_costs lost d p q (same_draw e cs k k' ok le h) =
      let up = (ok tt).ascends in
      costs_up (bits_for (last_end cs) * r + e) d _ _ le
      (costs_then (class_below (length cs)) failed (bits_for (last_end cs) * r) e (draw_on cs r) (draw_bits cs r) (weighted_classes cs (Some r)) _ _ (draw_costs cs r up) (draw_matches cs r up)
      (elim [ None ↦ λ t. costs_none e (limit Attempts) | Some i ↦ λ t. play_costs lost e (k i) (k' i) (h i (ltb-true i (length cs) t)) ]))

pub block_costs : (n r : ℕ) (b : Statements) → BlockIsWeighed b → BlockFits b → (s : State) → state_fits s ≡ true → Costs (longest n r b) (block_on n r b s) (block_bits n r b s (λ s. zero_share))
block_costs n r b ok f s p =
    subst (λ m. Costs (longest n r b) (block_on n r b s) (m (λ s. zero_share))) (play_block r n b s)
    (subst (λ x. Costs (longest n r b) x (play_bits r (block_play n b s) (λ s. zero_share))) (plays.block_bits n r b s) (play_costs r ⊥ _ _ _ (block_sound n r b ok f s p)))
