-- What runs count: where they have ended, where a bit is missing, and where a bit leads to two of them.
use Rattle.std.proofs.Common.{◌≡◌, ℕ, suc, ◌+◌, ◌^◌, Bool, true, false, List, [], ◌∷◌, Option, sym, ap, ◌∙◌, arith}
use Rattle.std.specs.Prelude.{if◌then◌else◌}
use Rattle.gcl_core.specs.declared.answers.Answer.{Answer}
use Rattle.gcl_core.specs.declared.answers.Answer.TheVariants.{Ended, MoreBits}
use Rattle.gcl_core.specs.declared.answers.Outcome.{Outcome}
use Rattle.gcl_core.specs.meaning.Outcomes.{same_outcome}
use Rattle.gcl_core.specs.weighing.StringWeight.{string_weight_from, answer_in, outcome_weight}
use Rattle.weighing_law.specs.Prefixes.{needs_more}
use Rattle.weighing_law.proofs.EndedStrings.{strings_that-ext, all_alike}
use Rattle.weighing_law.proofs.StringWeights.{weight_ended, weight_short, weight_goes_on, weight_behind}
use Rattle.audit_walk.specs.Rows.{Rows}
use Rattle.audit_walk.specs.inner.Sums.{AddsUp}
use Rattle.audit_walk.specs.inner.Counts.{IsCountOf}

-- where the outcome is meant
abbrev reading : (List Bool → Answer) → Outcome → List Bool → Option Bool
reading run x = λ w. answer_in (same_outcome x) (run w)

-- an outcome weighs what it weighs behind a 0 and behind a 1
weight_of_sides : (run : List Bool → Answer) (x : Outcome) (h read : ℕ) → run [] ≡ MoreBits read →
    outcome_weight run x (suc h) ≡ outcome_weight (λ v. run (false ∷ v)) x h + outcome_weight (λ v. run (true ∷ v)) x h
weight_of_sides run x h read e =
    weight_goes_on (reading run x) h [] (ap (answer_in (same_outcome x)) e)
    ∙ ap (λ n. n + string_weight_from (reading run x) h (true ∷ [])) (weight_behind (reading run x) h false [])
    ∙ ap (λ n. string_weight_from (λ w. reading run x (false ∷ w)) h [] + n) (weight_behind (reading run x) h true [])

-- a run that has ended
pub counts_ended : (run : List Bool → Answer) (h : ℕ) (x : Outcome) → ((v : List Bool) → (read : ℕ) × (run v ≡ Ended x read)) →
    IsCountOf run h ((x, 2 ^ h) ∷ []) 0
counts_ended run h x e = record {
  weights = λ y. let f = weight_ended (reading run y) h [] (same_outcome y x) (ap (answer_in (same_outcome y)) (e []).1) in omega arith;
  undecided_is = sym (strings_that-ext (λ v. needs_more (run v)) (λ v. false) h (λ v. ap needs_more (e v).1) ∙ all_alike false h);
}

-- a run that needs a bit beyond those that it may read
pub counts_none : (run : List Bool → Answer) (read : ℕ) → run [] ≡ MoreBits read → IsCountOf run 0 [] 1
counts_none run read e = record {
  weights = λ y. sym (weight_short (reading run y) [] (ap (answer_in (same_outcome y)) e));
  undecided_is = ap (λ a. if needs_more a then 1 else 0) (sym e);
}

-- Adding audits adds weights: where a run needs a bit, what it counts behind a 0 and behind a 1 adds up to what it counts.
pub adding_adds_weights : (run : List Bool → Answer) (h read : ℕ) (a b c : Rows) (m n : ℕ) → run [] ≡ MoreBits read →
    IsCountOf (λ v. run (false ∷ v)) h a m → IsCountOf (λ v. run (true ∷ v)) h b n → AddsUp a b c → IsCountOf run (suc h) c (m + n)
adding_adds_weights run h read a b c m n e f g s = record {
  weights = λ x.
      let w = weight_of_sides run x h read e in
      let i = f.weights x in
      let j = g.weights x in
      let k = s.each x in
      omega arith;
  undecided_is = let i = f.undecided_is in let j = g.undecided_is in omega arith;
}
