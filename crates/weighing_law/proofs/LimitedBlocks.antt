-- A limit of attempts raises the weight of no end of a block but its own.
use Rattle.std.proofs.Common.{◌≡◌, ℕ, ◌*◌, ◌^◌, true, Some, None, List, length, refl, subst, arith}
use Rattle.std.proofs.lemmas.Nat.{pow_pos}
use Rattle.gcl_core.specs.declared.answers.Limit.{Limit}
use Rattle.gcl_core.specs.declared.answers.Limit.TheVariants.{Turns, Attempts, Rounds}
use Rattle.gcl_core.specs.meaning.Bounds.{BlockIsWeighed, BlockFits}
use Rattle.gcl_core.specs.meaning.Blocks.{End}
use Rattle.gcl_core.specs.meaning.Draw.{bits_for, last_end}
use Rattle.gcl_core.specs.meaning.Syntax.{Statements}
use Rattle.gcl_core.specs.meaning.Value.{State}
use Rattle.gcl_core.specs.meaning.Fitting.{state_fits}
use Rattle.gcl_core.specs.weighing.WeightedEnds.{weighted_classes, weighted_ends}
use Rattle.gcl_core.proofs.Plays.{block_play}
use Rattle.gcl_core.proofs.CutPlays.{IsDraw, block_sound}
use Rattle.weighing_law.proofs.Comparing.{Compared, cmp_draw}
use Rattle.weighing_law.proofs.DrawMatching.{class_below}
use Rattle.weighing_law.proofs.PlayWeights.{AtSomeScale, BadEnd, BadClass, Pair, play_weighs}
use Rattle.weighing_law.proofs.WeighedPlays.{weighed, weighed_block}
use Rattle.weighing_law.proofs.Shares.{product_pos}

abbrev pub OfAttempts : Limit → Type 0
OfAttempts Turns = ⊥
OfAttempts Attempts = Unit {0}
OfAttempts Rounds = ⊥

abbrev pub CutOff : End → Type 0
CutOff = BadEnd OfAttempts

module _ (n r : ℕ) where
  limited_draws : (cs : List ℕ) → IsDraw cs → AtSomeScale (λ N. Compared (class_below (length cs)) N (BadClass OfAttempts) (weighted_classes cs (Some r)) (weighted_classes cs None))
  limited_draws cs ok =
      let b = last_end cs in
      let N = 2 ^ (bits_for b * r) in
      let positive = ok.positive in
      record {
        scale = N * b;
        positive = product_pos N b (pow_pos (bits_for b * r)) (omega (arith, positive));
        holds = cmp_draw (BadClass OfAttempts) tt cs r (N * b) b N ok.ascends positive refl (omega arith);
      }

  pub limited_block : (b : Statements) → BlockIsWeighed b → BlockFits b → (s : State) → state_fits s ≡ true →
      AtSomeScale (λ N. Pair OfAttempts N (weighted_ends n (Some r) b s) (weighted_ends n None b s))
  limited_block b ok f s p =
      subst (λ m. AtSomeScale (λ N. Pair OfAttempts N (weighted_ends n (Some r) b s) m)) (weighed_block None n b s)
      (subst (λ m. AtSomeScale (λ N. Pair OfAttempts N m (weighed None (block_play n b s)))) (weighed_block (Some r) n b s)
      (play_weighs OfAttempts (Some r) None r limited_draws _ _ _ (block_sound n r b ok f s p)))
