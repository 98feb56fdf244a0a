-- Partial sums: how many there are, which is the last, and that they grow at their end while the parts are read.
use Rattle.std.proofs.Common.{◌≡◌, ◌∙◌, ℕ, ◌+◌, ◌<◌, ◌≤◌, List, [], ◌∷◌, ◌++◌, length, get_or, drop, refl, sym, ap, arith}
use Rattle.std.proofs.lemmas.List.{at_drop_more}
use Rattle.std.specs.List.{fold, sum}
use Rattle.gcl_core.specs.weighing.OneDraw.{Ascends}
use Rattle.gcl_core.specs.meaning.Draw.{last_from, last_end}
use Rattle.gcl_core.specs.meaning.Parts.{sums_from, partial_sums}

-- ---- how many and the last

as_many_from : (c : ℕ) (ps : List ℕ) → length (sums_from c ps) ≡ length ps
as_many_from c [] = refl
as_many_from c (p ∷ ps) = let e = as_many_from (c + p) ps in omega (arith, e)

pub as_many : (ps : List ℕ) → length (partial_sums ps) ≡ length ps
as_many ps = as_many_from 0 ps

-- the parts added to c
abbrev pub added_to : ℕ → List ℕ → ℕ
added_to c ps = fold (λ a p. a + p) c ps

last_is_from : (c : ℕ) (ps : List ℕ) → last_from c (sums_from c ps) ≡ added_to c ps
last_is_from c [] = refl
last_is_from c (p ∷ ps) = last_is_from (c + p) ps

pub last_is : (ps : List ℕ) → last_end (partial_sums ps) ≡ sum ps
last_is ps = last_is_from 0 ps

pub sums_ascend : (c : ℕ) (ps : List ℕ) → Ascends c (sums_from c ps)
sums_ascend c [] = tt
sums_ascend c (p ∷ ps) = (omega arith, sums_ascend (c + p) ps)

-- ---- while the parts are read

none_less : (c : ℕ) (ps : List ℕ) → c ≤ added_to c ps
none_less c [] = omega arith
none_less c (p ∷ ps) = let le = none_less (c + p) ps in omega (arith, le)

-- the ends of the parts before the i-th, and what these add up to
pub record Summed (ends : List ℕ) (end i : ℕ) (ps : List ℕ) : Type 0 where
  pub whole : ends ++ sums_from end (drop i ps) ≡ partial_sums ps
  pub total : added_to end (drop i ps) ≡ sum ps

module _ (ends : List ℕ) (end i : ℕ) (ps : List ℕ) (p : ℕ) (lt : i < length ps) (is : p ≡ get_or ps i p) (b : Summed ends end i ps) where
  next : drop i ps ≡ p ∷ drop (i + 1) ps
  next = at_drop_more (λ l. l) ps i p lt ∙ ap (λ x. x ∷ drop (i + 1) ps) (sym is)

  -- the next end is no more than the sum of all
  pub end_within : end + p ≤ sum ps
  end_within =
      let le = none_less (end + p) (drop (i + 1) ps) in
      let total : added_to (end + p) (drop (i + 1) ps) ≡ sum ps = ap (added_to end) (sym next) ∙ b.total in
      omega (arith, le, total)
