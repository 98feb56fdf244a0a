-- One worker of a hunt: what its steps keep.
use Rattle.std.proofs.Common.{◌≡◌, ℕ, ◌+◌, ◌-◌, max, ◌<◌, ◌≤◌, ◌⊎◌, inl, inr, ⊎_elim, Bool, true, false, Some, None, Result, List, [], ◌∷◌, ◌++◌, sym, ap, ◌∙◌, subst, arith}
use Rattle.std.specs.declared.alloc.AllocError.{AllocError}
use Rattle.std.proofs.lemmas.Bool.{cases_lt, true≢false}
use Rattle.std.proofs.lemmas.Bool.Decides.{nat_tests}
use mathlib.Core.Logic.{dite}
use native.Mathlib.Decide.{ℕ_discrete}
use Rattle.passes.specs.Numbers.{times, top, is_above}
use Rattle.passes.proofs.Times.{times-append, times_here, top_above, top-snoc}
use Rattle.gcl_core.specs.declared.answers.Answer.{Answer}
use Rattle.gcl_core.specs.declared.answers.Limits.{Limits}
use Rattle.gcl_core.specs.declared.answers.TallyKey.{TallyKey}
use Rattle.sampler_code.specs.Assembled.{Assembled, IsRunOf}
use Rattle.stream_runs.specs.declared.range.SeedRange.{SeedRange}
use Rattle.stream_runs.specs.declared.range.TheConstants.{STREAMS_OF_A_BLOCK}
use Rattle.claim_board.specs.declared.pass.Board.{Board}
use Rattle.claim_board.specs.declared.pass.Pass.{Pass}
use Rattle.claim_board.specs.Board as claim
use Rattle.least_board.specs.declared.pass.LeastBoard.{LeastBoard}
use Rattle.least_board.specs.declared.pass.LeastPass.{LeastPass}
use Rattle.least_board.specs.Board as least
use Rattle.hunt_range.specs.declared.hunter.Hunter.{Hunter}
use Rattle.hunt_range.specs.Sought.{Sought, sought_of, NoneWanted}
use Rattle.hunt_range.specs.inner.Blocks.{block_start, FirstWanted}
use Rattle.zar_io.specs.declared.visits.Visits.{Visits}
use Rattle.zar_io.specs.Visits.{blocks_told}
use Rattle.stream_runs.proofs.Told.{one_told}
use Rattle.hunt_range.specs.inner.Hunters.{told_by, Covers, AreWanted, Searched, HasHunted, IsSameHunter}

-- what was searched of the runs of the code
abbrev pub HasSearched : Assembled → Limits → SeedRange → TallyKey → Pass → LeastPass → Type 0
HasSearched c l r want p q = (run : List Bool → Answer) → IsRunOf c l run → Searched (sought_of run r want) p q

-- a worker between two blocks
pub record Hunting (b : Board) (l : LeastBoard) (Has : Pass → LeastPass → Type 0) (start now : Hunter) : Type 0 where
  pub pass : claim.IsPassOf b now.pass
  pub bid : least.IsPassOf l now.bid
  pub same : IsSameHunter start now
  pub on : claim.had_none now.pass ≡ false
  pub low : top (claim.dealt_to now.pass) ≤ claim.blocks_of b
  pub told : told_by now ≡ told_by start ++ claim.dealt_to now.pass
  pub searched : Has now.pass now.bid

listed_more : (j x : ℕ) (xs : List ℕ) → 0 < times j (xs ++ x ∷ []) → (0 < times j xs) ⊎ (j ≡ x)
listed_more j x xs h = let t = times-append j xs (x ∷ []) in dite (ℕ_discrete j x)
    (λ e. inr e)
    (λ ne. let z : times j (x ∷ []) ≡ 0 = grind (arith, nat_tests) in inl (omega arith))

module _ (s : Sought) where
  pub covers_less : (dealt : List ℕ) (seen less : ℕ) → Covers s dealt seen → less ≤ seen → Covers s dealt less
  covers_less dealt seen less c le j i h low high inside w = let k = c j i h low high inside w in omega arith

  -- one block more
  covers_more : (dealt : List ℕ) (block seen : ℕ) → Covers s dealt seen →
      ((i : ℕ) → block_start s block ≤ i → i < block_start s block + STREAMS_OF_A_BLOCK → i < s.to → s.wants i ≡ true → seen ≤ i) → Covers s (dealt ++ block ∷ []) seen
  covers_more dealt block seen c here j i h low high inside w =
      ⊎_elim (λ (old : 0 < times j dealt). c j i old low high inside w)
      (λ (e : j ≡ block). let f = ap (block_start s) e in here i (omega arith) (omega arith) inside w)
      (listed_more j block dealt h)

  -- one that begins at what was seen, or behind it
  pub covers_behind : (dealt : List ℕ) (block seen : ℕ) → Covers s dealt seen → seen ≤ block_start s block → Covers s (dealt ++ block ∷ []) seen
  covers_behind dealt block seen c le = covers_more dealt block seen c (λ i low high inside w. omega arith)

  -- one without a stream that is wanted
  pub covers_empty : (dealt : List ℕ) (block seen : ℕ) → Covers s dealt seen → FirstWanted s (block_start s block) s.to None → Covers s (dealt ++ block ∷ []) seen
  covers_empty dealt block seen c none = covers_more dealt block seen c (λ i low high inside w. absurd (none i low high inside w))

  -- one whose first stream that is wanted is at least what was seen
  pub covers_found : (dealt : List ℕ) (block seen x : ℕ) → Covers s dealt seen → FirstWanted s (block_start s block) s.to (Some x) → seen ≤ x → Covers s (dealt ++ block ∷ []) seen
  covers_found dealt block seen x c found le = covers_more dealt block seen c (λ i low high inside w.
      ⊎_elim (λ (lt : i < x). absurd (found.4 i low lt w)) (λ (ge : x ≤ i). omega arith) (cases_lt i x))

  pub wanted_more : (offers : List ℕ) (x : ℕ) → AreWanted s offers → s.from ≤ x → x < s.to → s.wants x ≡ true → AreWanted s (offers ++ x ∷ [])
  wanted_more offers x all low high w y h =
      ⊎_elim (λ (old : 0 < times y offers). all y old)
      (λ (e : y ≡ x). (omega arith, omega arith, ap s.wants e ∙ w))
      (listed_more y x offers h)

  -- one stream more that is not wanted
  pub none_more : (a at : ℕ) → NoneWanted s a at → s.wants at ≡ false → NoneWanted s a (at + 1)
  none_more a at none here i low high w =
      ⊎_elim (λ (lt : i < at). none i low lt w)
      (λ (ge : at ≤ i). let e : i ≡ at = omega arith in absurd (true≢false (sym w ∙ ap s.wants e ∙ here)))
      (cases_lt i at)

-- ---- a block that was claimed, and a look
module _ (s : Sought) (p p' : Pass) (q q' : LeastPass) (block : ℕ) (was : Searched s p q) (dealt : claim.dealt_to p' ≡ claim.dealt_to p ++ block ∷ []) (less : least.seen_by q' ≤ least.seen_by q) where
  covered_still : Covers s (claim.dealt_to p) (least.seen_by q')
  covered_still = covers_less s (claim.dealt_to p) (least.seen_by q) (least.seen_by q') was.covers less

  wanted_still : least.offers_of q' ≡ least.offers_of q → AreWanted s (least.offers_of q')
  wanted_still same = subst (AreWanted s) (sym same) was.wanted

  pub stops : least.offers_of q' ≡ least.offers_of q → least.seen_by q' ≤ block_start s block → HasHunted s p' q'
  stops same behind = (
    record { covers = subst (λ xs. Covers s xs (least.seen_by q')) (sym dealt) (covers_behind s (claim.dealt_to p) block (least.seen_by q') covered_still behind); wanted = wanted_still same },
    inr (block, subst (λ xs. 0 < times block xs) (sym dealt) (let t = times-append block (claim.dealt_to p) (block ∷ []) in let h = times_here block [] in omega arith), behind),
  )

  pub goes_on : least.offers_of q' ≡ least.offers_of q → FirstWanted s (block_start s block) s.to None → Searched s p' q'
  goes_on same none = record {
    covers = subst (λ xs. Covers s xs (least.seen_by q')) (sym dealt) (covers_empty s (claim.dealt_to p) block (least.seen_by q') covered_still none);
    wanted = wanted_still same;
  }

  pub offers : (x : ℕ) → least.offers_of q' ≡ least.offers_of q ++ x ∷ [] → least.seen_by q' ≤ x → FirstWanted s (block_start s block) s.to (Some x) → Searched s p' q'
  offers x more seen found = record {
    covers = subst (λ xs. Covers s xs (least.seen_by q')) (sym dealt) (covers_found s (claim.dealt_to p) block (least.seen_by q') x covered_still found seen);
    wanted = subst (AreWanted s) (sym more) (wanted_more s (least.offers_of q) x was.wanted (omega (arith, found.0)) found.2 found.3);
  }

-- no block was left
pub ends : (s : Sought) (p p' : Pass) (q : LeastPass) → Searched s p q → claim.dealt_to p' ≡ claim.dealt_to p → claim.had_none p' ≡ true → HasHunted s p' q
ends s p p' q was same none = (record { covers = subst (λ xs. Covers s xs (least.seen_by q)) (sym same) was.covers; wanted = was.wanted }, inl none)

-- how many blocks are left
pub fewer_left : (blocks block : ℕ) (xs ys : List ℕ) → is_above block xs ≡ true → block < blocks → ys ≡ xs ++ block ∷ [] → blocks - top ys < blocks - top xs
fewer_left blocks block xs ys above lt is = let le = top_above block xs above in let t : top ys ≡ max (top xs) (block + 1) = ap top is ∙ top-snoc block xs in omega arith

pub still_low : (blocks block : ℕ) (xs ys : List ℕ) → is_above block xs ≡ true → block < blocks → ys ≡ xs ++ block ∷ [] → top ys ≤ blocks
still_low blocks block xs ys above lt is = let le = top_above block xs above in let t : top ys ≡ max (top xs) (block + 1) = ap top is ∙ top-snoc block xs in omega arith

-- the worker is between two blocks again
pub hunts_on : (b : Board) (l : LeastBoard) (Has : Pass → LeastPass → Type 0) (start h : Hunter) (p' : Pass) (q' : LeastPass) (v' : Visits) (block : ℕ) (done : Result (Unit {0}) AllocError) → Hunting b l Has start h →
    claim.IsSamePass h.pass p' → least.IsSamePass h.bid q' → block < claim.blocks_of b → is_above block (claim.dealt_to h.pass) ≡ true → claim.dealt_to p' ≡ claim.dealt_to h.pass ++ block ∷ [] →
    claim.had_none p' ≡ false → blocks_told v' ≡ told_by h ++ block ∷ [] → Has p' q' → Hunting b l Has start (record { pass = p'; bid = q'; visits = v'; done = done })
hunts_on b l Has start h p' q' v' block done i same bid lt above is on told searched = record {
  pass = (same.0 ∙ i.pass.0, same.1 ∙ i.pass.1);
  bid = bid.0 ∙ i.bid;
  same = ((same.0 ∙ i.same.0.0, same.1 ∙ i.same.0.1, same.2 ∙ i.same.0.2), (bid.0 ∙ i.same.1.0, bid.1 ∙ i.same.1.1));
  on = on;
  low = still_low (claim.blocks_of b) block (claim.dealt_to h.pass) (claim.dealt_to p') above lt is;
  told = one_told (told_by start) (told_by h) (blocks_told v') (claim.dealt_to h.pass) (claim.dealt_to p') block i.told told is;
  searched = searched;
}
