-- The end of a hunt: blocks that were never claimed, and blocks that begin at a number looked at or behind it, hold no lesser stream
-- that is wanted.
use Rattle.std.proofs.Common.{◌≡◌, ℕ, ◌+◌, ◌-◌, ◌/◌, ◌<◌, ◌≤◌, ⊎_elim, Bool, true, Some, None, List, [], ◌∷◌, length, All, Any, refl, arith}
use Rattle.std.specs.List.{AllZip}
use Rattle.std.proofs.lemmas.Bool.{cases_lt}
use Rattle.std.proofs.lemmas.List.Elements.{All-head, All-tail}
use Rattle.passes.specs.Total.{total}
use Rattle.passes.specs.Numbers.{times}
use Rattle.passes.proofs.Times.{once_inside, once_there}
use Rattle.gcl_core.specs.declared.answers.Answer.{Answer}
use Rattle.gcl_core.specs.declared.answers.Limits.{Limits}
use Rattle.gcl_core.specs.declared.answers.TallyKey.{TallyKey}
use Rattle.sampler_code.specs.Assembled.{Assembled, IsRunOf}
use Rattle.stream_runs.specs.declared.range.SeedRange.{SeedRange}
use Rattle.stream_runs.specs.declared.range.TheConstants.{STREAMS_OF_A_BLOCK}
use Rattle.claim_board.specs.declared.pass.Pass.{Pass}
use Rattle.claim_board.specs.Board.{dealt_to, had_none, AreDealtTo}
use Rattle.least_board.specs.declared.pass.LeastPass.{LeastPass}
use Rattle.least_board.specs.Board.{offers_of, seen_by, IsLeast, offered_by}
use Rattle.hunt_range.specs.Sought.{Sought, sought_of, LeastWanted}
use Rattle.hunt_range.specs.inner.Blocks.{block_start}
use Rattle.stream_runs.specs.Blocks.{blocks_over}
use Rattle.hunt_range.specs.inner.Hunters.{HasHunted, HasHuntedRuns}

module _ (s : Sought) (n r : ℕ) where
  -- a stream of a block that was dealt
  covered : (j i : ℕ) (ps : List Pass) (qs : List LeastPass) → AllZip (HasHunted s) ps qs → All (λ (q : LeastPass). r ≤ seen_by q) qs → 0 < total (λ (p : Pass). times j (dealt_to p)) ps →
      block_start s j ≤ i → i < block_start s j + STREAMS_OF_A_BLOCK → i < s.to → s.wants i ≡ true → r ≤ i
  covered j i [] [] z seen some low high inside w = absurd (omega arith)
  covered j i [] (q ∷ qs) z seen some low high inside w = absurd z
  covered j i (p ∷ ps) [] z seen some low high inside w = absurd z
  covered j i (p ∷ ps) (q ∷ qs) z seen some low high inside w =
      let le : r ≤ seen_by q = All-head (λ (q : LeastPass). r ≤ seen_by q) q qs seen in
      ⊎_elim
      (λ (here : 0 < times j (dealt_to p)). let k = z.0.0.covers j i here low high inside w in omega arith)
      (λ (none : times j (dealt_to p) ≤ 0). covered j i ps qs z.1 (All-tail (λ (q : LeastPass). r ≤ seen_by q) q qs seen) (omega arith) low high inside w)
      (cases_lt 0 (times j (dealt_to p)))

  -- a block that was never dealt
  never : (j blocks : ℕ) (ps : List Pass) (qs : List LeastPass) → 0 < length ps → AllZip (HasHunted s) ps qs → All (λ (q : LeastPass). r ≤ seen_by q) qs → AreDealtTo n ps →
      (Any (λ (p : Pass). had_none p ≡ true) ps → n ≡ blocks) → n ≤ j → j < blocks → r ≤ block_start s j
  never j blocks [] qs some z seen dealt all le lt = absurd (omega arith)
  never j blocks (p ∷ ps) [] some z seen dealt all le lt = absurd z
  never j blocks (p ∷ ps) (q ∷ qs) some z seen dealt all le lt =
      let less : r ≤ seen_by q = All-head (λ (q : LeastPass). r ≤ seen_by q) q qs seen in
      ⊎_elim
      (λ (none : had_none p ≡ true). let e = all (0, p, omega arith, refl, none) in absurd (omega arith))
      (λ (at : (k : ℕ) × (0 < times k (dealt_to p)) × (seen_by q ≤ block_start s k)).
      let d = dealt at.0 in
      let k = once_inside at.0 n (omega arith) in
      omega arith)
      z.0.1

  -- an offer is wanted
  offered : (x : ℕ) (ps : List Pass) (qs : List LeastPass) → AllZip (HasHunted s) ps qs → 0 < offered_by x qs → (s.from ≤ x) × (x < s.to) × (s.wants x ≡ true)
  offered x [] [] z some = absurd (omega arith)
  offered x [] (q ∷ qs) z some = absurd z
  offered x (p ∷ ps) [] z some = absurd z
  offered x (p ∷ ps) (q ∷ qs) z some =
      ⊎_elim (λ (here : 0 < times x (offers_of q)). z.0.0.wanted x here)
      (λ (none : times x (offers_of q) ≤ 0). offered x ps qs z.1 (omega arith))
      (cases_lt 0 (times x (offers_of q)))

  module _ (ps : List Pass) (qs : List LeastPass) (some : 0 < length ps) (ordered : s.from ≤ s.to) (hunted : AllZip (HasHunted s) ps qs)
      (dealt : AreDealtTo n ps) (all : Any (λ (p : Pass). had_none p ≡ true) ps → n ≡ blocks_over s.from s.to)
      (least : IsLeast s.to qs r) (seen : All (λ (q : LeastPass). r ≤ seen_by q) qs) where
    -- no stream that is wanted is less than the least offer
    no_less : (i : ℕ) → s.from ≤ i → i < s.to → s.wants i ≡ true → r ≤ i
    no_less i low inside w =
        let j = (i - s.from) / STREAMS_OF_A_BLOCK in
        let begins : block_start s j ≤ i = omega arith in
        let ends : i < block_start s j + STREAMS_OF_A_BLOCK = omega arith in
        let within : j < blocks_over s.from s.to = omega arith in
        ⊎_elim
        (λ (lt : j < n). let d = dealt j in let one = once_there j n lt in covered j i ps qs hunted seen (omega arith) begins ends inside w)
        (λ (ge : n ≤ j). let le = never j (blocks_over s.from s.to) ps qs some hunted seen dealt all ge within in omega arith)
        (cases_lt j n)

    pub none_found : s.to ≤ r → LeastWanted s None
    none_found le i low inside w = let k = no_less i low inside w in omega arith

    pub one_found : r < s.to → LeastWanted s (Some r)
    one_found lt =
        ⊎_elim
        (λ (e : r ≡ s.to). absurd (omega arith))
        (λ (there : 0 < offered_by r qs). let h = offered r ps qs hunted there in (h.0, h.1, h.2, λ i low less w. let k = no_less i low (omega arith) w in omega arith))
        least.2

-- what has been said of any runs is so of some
pub hunted_runs : (c : Assembled) (l : Limits) (r : SeedRange) (want : TallyKey) (run : List Bool → Answer) → IsRunOf c l run → (ps : List Pass) (qs : List LeastPass)
    → AllZip (HasHuntedRuns c l r want) ps qs → AllZip (HasHunted (sought_of run r want)) ps qs
hunted_runs c l r want run is [] [] z = tt
hunted_runs c l r want run is [] (q ∷ qs) z = absurd z
hunted_runs c l r want run is (p ∷ ps) [] z = absurd z
hunted_runs c l r want run is (p ∷ ps) (q ∷ qs) z = (z.0 run is, hunted_runs c l r want run is ps qs z.1)
