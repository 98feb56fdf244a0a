-- What a run over a source of bits leaves there.
use Rattle.std.proofs.Common.{◌≡◌, ℕ, suc, ◌<◌, Bool, true, false, List, [], ◌∷◌, ◌++◌, length, take, refl, sym, ap, ◌∙◌, arith, append-nil}
use Rattle.gcl_core.specs.declared.answers.Answer.{Answer}
use Rattle.gcl_core.specs.declared.answers.Answer.TheVariants.{Ended, MoreBits}
use Rattle.gcl_core.specs.declared.answers.Limits.{Limits}
use Rattle.gcl_core.specs.declared.answers.Outcome.{Outcome}
use Rattle.gcl_core.specs.meaning.LimitRange.{InRange}
use Rattle.gcl_core.specs.meaning.Reading.{Reading, gives, more_bits}
use Rattle.gcl_core.specs.meaning.Runs.{reads, answer_of, run_on}
use Rattle.gcl_core.specs.meaning.Syntax.{SourceProgram}
use Rattle.gcl_core.proofs.Trees.{Tree, leaf, flip, run}
use Rattle.weighing_law.proofs.RunTrees.{tree_of_rounds}
use Rattle.sampler_code.specs.Assembled.{Assembled, CodeAnswers}
use Rattle.sampler_code.specs.Running.{Reached}
use Rattle.sampler_run.specs.Held.{run_begun}
use Rattle.sampler_run.specs.Leaving.{HasRead, LeavesTheRest}
use Rattle.sampler_run.specs.Sampled.{NoneIsLeft, TookTo}
use Rattle.sampler_run.specs.SamplerOf.{IsSamplerOf}
use Rattle.sampler_run.proofs.BitsUsed.{none_used, took_as}

-- a tree that needs each of some bits, and ends after them, ends there on whatever follows, and leaves it
tree_ends : (t : Tree Outcome) (taken left rest : List Bool) (x : Outcome) → ((k : ℕ) → k < length taken → run t (take k taken) ≡ more_bits) →
    run t taken ≡ gives x rest → run t (taken ++ left) ≡ gives x left
tree_ends (leaf y) [] left rest x needed e = let same : y ≡ x = cc in ap (λ y. gives y left) same
tree_ends (leaf y) (b ∷ u) left rest x needed e = let n = needed 0 (omega arith) in absurd (cc)
tree_ends (flip l r) [] left rest x needed e = absurd (cc)
tree_ends (flip l r) (false ∷ u) left rest x needed e = tree_ends l u left rest x (λ k lt. needed (suc k) (omega (arith, lt))) e
tree_ends (flip l r) (true ∷ u) left rest x needed e = tree_ends r u left rest x (λ k lt. needed (suc k) (omega (arith, lt))) e

more_is_needed : (w : List Bool) (r : Reading Outcome) (n : ℕ) → answer_of w r ≡ MoreBits n → r ≡ more_bits
more_is_needed w (gives x rest) n e = cc
more_is_needed w more_bits n e = refl

-- an answer that was reached, by what was read
ended_on : (w : List Bool) (r : Reading Outcome) (x : Outcome) (n : ℕ) → answer_of w r ≡ Ended x n → (rest : List Bool) × (r ≡ gives x rest)
ended_on w (gives y rest) x n e = let same : y ≡ x = cc in (rest, ap (λ y. gives y rest) same)
ended_on w more_bits x n e = absurd (cc)

module _ (p : SourceProgram) (l : Limits) (s : Assembled) (is : IsSamplerOf p (CodeAnswers s)) (within : InRange l) where
  has_read : (bits left : List Bool) (a : Reached) → TookTo (run_begun s l) 0 bits left a → HasRead a.answer left (reads p l bits)
  has_read bits left a k = by_answer a.answer (is.only l k.asked.taken a.answer within (a.place, k.reached)) k.none_left
    where
      by_answer : (b : Answer) → b ≡ run_on p l k.asked.taken → NoneIsLeft b left → HasRead b left (reads p l bits)
      by_answer (Ended x n) e none =
          let taken = k.asked.taken in
          let h = tree_of_rounds p l.turns l.attempts l.rounds in
          let o = ended_on taken (reads p l taken) x n (sym e) in
          ap (reads p l) k.asked.split ∙ sym (h.runs (taken ++ left))
          ∙ tree_ends h.tree taken left o.0 x
          (λ i lt.
          let n = k.asked.needed i lt in
          h.runs (take i taken) ∙ more_is_needed (take i taken) (reads p l (take i taken)) n.0 (sym (is.only l (take i taken) _ within n.1)))
          (h.runs taken ∙ o.1)
      by_answer (MoreBits n) e none =
          let taken = k.asked.taken in
          let all : bits ≡ taken = k.asked.split ∙ ap (λ w. taken ++ w) none ∙ append-nil taken in
          (ap (reads p l) all ∙ more_is_needed taken (reads p l taken) n (sym e), none)

  pub leaves_the_rest : LeavesTheRest p l s
  leaves_the_rest = record {
    begins = λ home h. none_used home (run_begun s l) refl h;
    reads = λ home bits left a h k. has_read bits left a (took_as home (run_begun s l) 0 bits left a h k);
  }
