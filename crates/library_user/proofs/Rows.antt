-- A row of runs, drawn one after the other.
use Rattle.std.proofs.Common.{◌≡◌, ℕ, suc, ◌<◌, ◌≤◌, ◌+◌, ◌-◌, Bool, List, [], ◌∷◌, ◌++◌, sym, ap, ◌∙◌, refl, arith, append_assoc, append-nil}
use Rattle.gcl_core.specs.declared.answers.Answer.{Answer}
use Rattle.gcl_core.specs.declared.answers.Answer.TheVariants.{Ended, MoreBits}
use Rattle.gcl_core.specs.declared.answers.Outcome.{Outcome}
use Rattle.gcl_core.specs.meaning.Reading.{Reading, gives, more_bits, after}
use Rattle.gcl_core.specs.meaning.Runs.{left_by}
use Rattle.many_runs.specs.InARow.{in_a_row}
use Rattle.sampler_run.specs.Leaving.{HasRead}

-- what is left is what the reading leaves
pub left_read : (a : Answer) (left : List Bool) (r : Reading Outcome) → HasRead a left r → left ≡ left_by r
left_read (Ended x n) left r h = ap left_by (sym h)
left_read (MoreBits n) left r h = h.1 ∙ ap left_by (sym h.0)

pub read_to : (a : Answer) (left : List Bool) (r : Reading Outcome) (x : Outcome) (n : ℕ) → a ≡ Ended x n → HasRead a left r → r ≡ gives x left
read_to (Ended y m) left r x n e h = let same : y ≡ x = cc in h ∙ ap (λ y. gives y left) same
read_to (MoreBits m) left r x n e h = absurd (cc)

pub read_short : (a : Answer) (left : List Bool) (r : Reading Outcome) (n : ℕ) → a ≡ MoreBits n → HasRead a left r → r ≡ more_bits
read_short (Ended y m) left r n e h = absurd (cc)
read_short (MoreBits m) left r n e h = h.0

-- what some runs gave, put before what others give
abbrev pub behind : List Outcome → Reading (List Outcome) → Reading (List Outcome)
behind xs r = after r (λ ys left. gives (xs ++ ys) left)

-- the whole is what was drawn so far, and then what the rest gives
abbrev pub IsSoFar : (List Bool → Reading Outcome) → ℕ → ℕ → List Bool → List Outcome → List Bool → Type 0
IsSoFar run k i bits xs left = in_a_row run k bits ≡ behind xs (in_a_row run (k - i) left)

behind_none : (r : Reading (List Outcome)) → r ≡ behind [] r
behind_none (gives ys left) = refl
behind_none more_bits = refl

pub so_far_none : (run : List Bool → Reading Outcome) (k : ℕ) (bits : List Bool) → IsSoFar run k 0 bits [] bits
so_far_none run k bits = let e : k ≡ k - 0 = omega arith in behind_none (in_a_row run k bits) ∙ ap (λ n. behind [] (in_a_row run n bits)) e

behind_one : (xs : List Outcome) (x : Outcome) (r : Reading (List Outcome)) → behind xs (after r (λ ys left. gives (x ∷ ys) left)) ≡ behind (xs ++ x ∷ []) r
behind_one xs x (gives ys left) = ap (λ zs. gives zs left) (sym (append_assoc xs (x ∷ []) ys))
behind_one xs x more_bits = refl

module _ (run : List Bool → Reading Outcome) (k i : ℕ) (bits : List Bool) (xs : List Outcome) (left : List Bool) (so : IsSoFar run k i bits xs left) where
  one_left : i < k → in_a_row run (k - i) left ≡ after (run left) (λ x rest. after (in_a_row run (k - (i + 1)) rest) (λ ys left. gives (x ∷ ys) left))
  one_left lt = let e : k - i ≡ suc (k - (i + 1)) = omega (arith, lt) in ap (λ n. in_a_row run n left) e

  pub so_far_more : (x : Outcome) (rest : List Bool) → i < k → run left ≡ gives x rest → IsSoFar run k (i + 1) bits (xs ++ x ∷ []) rest
  so_far_more x rest lt e =
      so ∙ ap (behind xs) (one_left lt ∙ ap (λ r. after r (λ x rest. after (in_a_row run (k - (i + 1)) rest) (λ ys left. gives (x ∷ ys) left))) e)
      ∙ behind_one xs x (in_a_row run (k - (i + 1)) rest)

  pub so_far_short : i < k → run left ≡ more_bits → in_a_row run k bits ≡ more_bits
  so_far_short lt e = so ∙ ap (behind xs) (one_left lt ∙ ap (λ r. after r (λ x rest. after (in_a_row run (k - (i + 1)) rest) (λ ys left. gives (x ∷ ys) left))) e)

  pub so_far_all : k ≤ i → in_a_row run k bits ≡ gives xs left
  so_far_all le = let e : k - i ≡ 0 = omega (arith, le) in so ∙ ap (λ n. behind xs (in_a_row run n left)) e ∙ ap (λ xs. gives xs left) (append-nil xs)
