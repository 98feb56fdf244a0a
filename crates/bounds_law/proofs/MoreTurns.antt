-- From n turns to more, every end of a block gains in weight but the limit of turns.
use Rattle.std.proofs.Common.{◌≡◌, ℕ, ◌+◌, ◌*◌, ◌^◌, ◌≤◌, ◌-◌, true, Option, Some, None, List, [], ◌∷◌, length, refl, subst, arith}
use Rattle.std.proofs.lemmas.Nat.{pow_pos}
use Rattle.std.proofs.Math.Nat.{mul-le-mul_left}
use Rattle.gcl_core.specs.declared.answers.Limit.{Limit}
use Rattle.gcl_core.specs.declared.answers.Limit.TheVariants.{Turns, Attempts, Rounds}
use Rattle.gcl_core.specs.meaning.Bounds.{BlockIsWeighed, BlockFits}
use Rattle.gcl_core.specs.meaning.Blocks.{End}
use Rattle.gcl_core.specs.meaning.Draw.{bits_for, last_end, rejected_numbers, strings_to_a_number}
use Rattle.gcl_core.specs.meaning.Syntax.{Statements}
use Rattle.gcl_core.specs.meaning.Fitting.{state_fits}
use Rattle.gcl_core.specs.meaning.Value.{State}
use Rattle.gcl_core.specs.weighing.WeightedEnds.{Weighted, class_weight, no_class_weight, classes_from, weighted_classes, weighted_ends}
use Rattle.gcl_core.proofs.CutPlays.{IsDraw, block_cut}
use Rattle.gcl_core.proofs.DrawTrees.{class_sum}
use Rattle.gcl_core.proofs.Plays.{block_play}
use Rattle.weighing_law.proofs.WeighedPlays.{weighed, weighed_block}
use Rattle.weighing_law.proofs.PlayWeights.{AtSomeScale, BadEnd, BadClass, Pair, play_weighs}
use Rattle.weighing_law.proofs.Comparing.{Compared, cmp_same_draw}
use Rattle.weighing_law.proofs.DrawMatching.{class_below, draw_entries, counts_classes}
use Rattle.weighing_law.proofs.WeightedLists.{counts-append}

abbrev pub OfTurns : Limit → Type 0
OfTurns Turns = Unit {0}
OfTurns Attempts = ⊥
OfTurns Rounds = ⊥

abbrev pub RanOut : End → Type 0
RanOut = BadEnd OfTurns

abbrev pub Grows : ℕ → Weighted End → Weighted End → Type 0
Grows = Pair OfTurns

classes_rise : (G H : Option ℕ → ℕ) (i c : ℕ) (ends : List ℕ) → ((o : Option ℕ) → G o ≤ H o) → class_sum G i c ends ≤ class_sum H i c ends
classes_rise G H i c [] h = omega arith
classes_rise G H i c (d ∷ ends) h = let a = classes_rise G H (i + 1) d ends h in let b = mul-le-mul_left (d - c) (h (Some i)) in omega arith

same_draws : (r : Option ℕ) (cs : List ℕ) → IsDraw cs → AtSomeScale (λ N. Compared (class_below (length cs)) N (BadClass OfTurns) (weighted_classes cs r) (weighted_classes cs r))
same_draws None cs ok =
    let positive = ok.positive in
    record { scale = last_end cs; positive = omega (arith, positive); holds = cmp_same_draw (BadClass OfTurns) cs (last_end cs) 1 (omega arith) }
same_draws (Some r) cs ok =
    let b = last_end cs in
    let k = bits_for b in
    let A = strings_to_a_number k (rejected_numbers b) r in
    let counts = λ (G : Option ℕ → ℕ). counts-append (2 ^ (k * r)) G (classes_from (class_weight b (Some r)) 0 0 cs) ((no_class_weight b (Some r), None) ∷ []) (A * class_sum G 0 0 cs) (rejected_numbers b ^ r * G None)
    (counts_classes b r 0 0 cs G) (1, 0, omega arith, refl, omega arith) in
    record {
      scale = 2 ^ (k * r);
      positive = pow_pos (k * r);
      holds = record {
        low = λ G. A * class_sum G 0 0 cs + rejected_numbers b ^ r * G None;
        high = λ G. A * class_sum G 0 0 cs + rejected_numbers b ^ r * G None;
        low_entries = draw_entries cs (Some r);
        high_entries = draw_entries cs (Some r);
        low_counts = counts;
        high_counts = counts;
        below = λ G H z h.
            let x = mul-le-mul_left A (classes_rise G H 0 0 cs h) in
            let y = mul-le-mul_left (rejected_numbers b ^ r) (h None) in
            omega arith;
      };
    }

pub grows_block : (n n' : ℕ) → n ≤ n' → (r : Option ℕ) (b : Statements) → BlockIsWeighed b → BlockFits b → (s : State) → state_fits s ≡ true → AtSomeScale (λ N. Grows N (weighted_ends n r b s) (weighted_ends n' r b s))
grows_block n n' more r b ok f s p =
    subst (λ m. AtSomeScale (λ N. Grows N (weighted_ends n r b s) m)) (weighed_block r n' b s)
    (subst (λ m. AtSomeScale (λ N. Grows N m (weighed r (block_play n' b s)))) (weighed_block r n b s)
    (play_weighs OfTurns r r 0 (same_draws r) _ _ _ (block_cut 0 (Unit {0}) (Unit {0}) n n' more (λ lt. tt) b (λ x. ok) f s p)))
