-- A tally's counts are counts over the list of its streams.
use Rattle.std.proofs.Common.{◌≡◌, ℕ, zero, suc, ◌+◌, ◌-◌, ◌*◌, ◌^◌, ◌≤◌, Bool, true, false, cond, List, length, refl, sym, ap, ◌∙◌, subst, arith}
use Rattle.std.specs.Prelude.{All, map, count_by, if◌then◌else◌}
use Rattle.std.specs.List.{range_with_len}
use Rattle.std.proofs.lemmas.List.Elements.{All-nil, All-cons, All-weaker}
use Rattle.std.proofs.lemmas.List.Sums.{sum_by-cons}
use Rattle.gcl_core.specs.declared.answers.Answer.{Answer}
use Rattle.gcl_core.specs.declared.answers.Answer.TheVariants.{Ended, MoreBits}
use Rattle.gcl_core.specs.declared.answers.Limits.{Limits}
use Rattle.gcl_core.specs.declared.answers.Outcome.{Outcome}
use Rattle.gcl_core.specs.declared.answers.TallyKey.TheVariants as key
use Rattle.gcl_core.specs.meaning.Outcomes.{same_outcome}
use Rattle.gcl_core.specs.meaning.Syntax.{SourceProgram}
use Rattle.gcl_core.specs.weighing.StringWeight.{outcome_weight}
use Rattle.gcl_core.proofs.SameOutcomes.{same_outcomes, outcome_itself}
use Rattle.weighing_law.specs.Prefixes.{has_ended_in}
use Rattle.weighing_law.specs.Weighing.{limited_mass}
use Rattle.many_runs.specs.Fronts.{off_even, FollowsFronts}
use Rattle.many_runs.specs.Streams.{runs_to}
use Rattle.many_runs.specs.StringSums.{apart}
use Rattle.zar_io.specs.StreamBits.{word_bits, stream_bits}
use Rattle.stream_runs.specs.declared.range.SeedRange.{SeedRange}
use Rattle.stream_runs.specs.Keys.{key_of_answer}
use Rattle.tally_range.specs.Counts.{has_key, total_from}
use Rattle.tally_range.specs.Rows.{counted_at}
use Rattle.tally_range.specs.Fronts.{streams_of, TalliesFronts}
use Rattle.tally_range.proofs.Totals.{total_from_same}

-- ---- lists of streams
total_front : (g : ℕ → ℕ) (a n : ℕ) → total_from g a (suc n) ≡ g a + total_from g (a + 1) n
total_front g a zero = let e : a + 0 ≡ a = omega arith in let s : g (a + 0) ≡ g a = ap g e in omega arith
total_front g a (suc n) =
    let e : a + suc n ≡ a + 1 + n = omega arith in
    let s : g (a + suc n) ≡ g (a + 1 + n) = ap g e in
    let r : total_from g a (suc n) ≡ g a + total_from g (a + 1) n = total_front g a n in omega arith

module _ {X : Type 0} (f : ℕ → X) where
  abbrev listed : ℕ → ℕ → List X
  listed a n = map f (range_with_len a n)

  abbrev one_at : (X → Bool) → ℕ → ℕ
  one_at test i = cond (test (f i)) 1 0

  pub count_listed : (test : X → Bool) (a n : ℕ) → count_by test (listed a n) ≡ total_from (one_at test) a n
  count_listed test a zero = refl
  count_listed test a (suc n) =
      sum_by-cons (λ s. cond (test s) 1 0) (f a) (listed (a + 1) n) ∙ ap (λ n. one_at test a + n) (count_listed test (a + 1) n) ∙ sym (total_front (one_at test) a n)

  pub length_listed : (a n : ℕ) → length (listed a n) ≡ n
  length_listed a zero = refl
  length_listed a (suc n) = ap suc (length_listed (a + 1) n)

  pub all_listed : (P : X → Type 0) → ((i : ℕ) → P (f i)) → (a n : ℕ) → All P (listed a n)
  all_listed P h a zero = All-nil P
  all_listed P h a (suc n) = All-cons P (f a) (listed (a + 1) n) (h a) (all_listed P h (a + 1) n)

word_bits_length : (word : ℕ → ℕ) (n k : ℕ) → length (word_bits word n k) ≡ k
unfolding word_bits
word_bits_length word n zero = refl
word_bits_length word n (suc k) = ap suc (word_bits_length word (n + 1) k)

-- ---- the key of an outcome
by_tests : (a b : Bool) → (a ≡ true → b ≡ true) → (b ≡ true → a ≡ true) → a ≡ b
by_tests true true h k = refl
by_tests true false h k = sym (h refl)
by_tests false true h k = k refl
by_tests false false h k = refl

either_order : (x y : Outcome) → same_outcome x y ≡ same_outcome y x
either_order x y =
    by_tests (same_outcome x y) (same_outcome y x) (λ e. subst (λ z. same_outcome z x ≡ true) (same_outcomes x y e) (outcome_itself x))
    (λ e. subst (λ z. same_outcome z y ≡ true) (same_outcomes y x e) (outcome_itself y))

as_cond : (b : Bool) → ◌≡◌ {A = ℕ} (if b then 1 else 0) (cond b 1 0)
as_cond true = refl
as_cond false = refl

one_key : (x : Outcome) (a : Answer) → counted_at (key_of_answer a) 1 (key.Outcome x) ≡ cond (has_ended_in x a) 1 0
one_key x (Ended y n) = as_cond (same_outcome y x) ∙ ap (λ (b : Bool). let n : ℕ = cond b 1 0 in n) (either_order y x)
one_key x (MoreBits n) = refl

module _ (run : List Bool → Answer) (r : SeedRange) where
  abbrev stream : ℕ → List Bool
  stream i = stream_bits r.seed i r.budget

  counts_of : (x : Outcome) → total_from (has_key run r.seed r.budget (key.Outcome x)) r.from (r.to - r.from) ≡ runs_to run x (streams_of r)
  counts_of x =
      total_from_same (has_key run r.seed r.budget (key.Outcome x)) (λ i. cond (has_ended_in x (run (stream i))) 1 0) r.from (r.to - r.from) (λ i. one_key x (run (stream i)))
      ∙ sym (count_listed stream (λ s. has_ended_in x (run s)) r.from (r.to - r.from))

  of_range : All (λ s. length s ≡ r.budget) (streams_of r)
  of_range = all_listed stream (λ s. length s ≡ r.budget) (λ i. word_bits_length _ 0 r.budget) r.from (r.to - r.from)

  long : (L : ℕ) → L ≤ r.budget → All (λ s. L ≤ length s) (streams_of r)
  long L le = All-weaker (λ s. length s ≡ r.budget) (λ s. L ≤ length s) (λ s e. subst (λ k. L ≤ k) (sym e) le) (streams_of r) of_range

pub tallies_fronts : (p : SourceProgram) (l : Limits) (run : List Bool → Answer) → FollowsFronts run p l → TalliesFronts run p l
tallies_fronts p l run follows = record {
  counts = λ r x. counts_of run r x;
  all = λ r. length_listed (stream run r) r.from (r.to - r.from);
  of_budget = λ r. of_range run r;
  off_weight = λ r x.
      let L = r.budget in
      let ss = streams_of r in
      subst (λ c. apart (2 ^ L * c) (length ss * outcome_weight run x L) ≤ off_even run x L ss) (sym (counts_of run r x)) (follows.off_weight x L ss (of_range run r));
  off_by = λ r x L suffices le.
      let m = limited_mass p l x in
      let ss = streams_of r in
      subst (λ c. apart (m.1 * c) (m.0 * length ss) * 2 ^ L ≤ m.1 * off_even run x L ss) (sym (counts_of run r x)) (follows.off_by x L ss suffices (long run r L le));
}
