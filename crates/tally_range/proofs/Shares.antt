-- Lists of shares, before the workers run and after.
use Rattle.std.proofs.Common.{◌≡◌, ℕ, Bool, true, Ok, List, [], ◌∷◌, All, length, map, reverse, take, drop, ◌++◌, refl, sym, ap, ◌∙◌, arith}
use Rattle.std.specs.List.{AllZip}
use Rattle.std.proofs.Math.Seq.{take-append_seam}
use Rattle.std.proofs.lemmas.List.Elements.{All-nil, All-cons, All-head, All-tail, length_all_zip}
use Rattle.gcl_core.specs.declared.answers.Answer.{Answer}
use Rattle.gcl_core.specs.declared.answers.Limits.{Limits}
use Rattle.gcl_core.specs.declared.answers.TallyKey.{TallyKey}
use Rattle.sampler_code.specs.Assembled.{Assembled, IsRunOf}
use Rattle.passes.specs.Total.{total}
use Rattle.passes.specs.Numbers.{times, once_below}
use Rattle.claim_board.specs.declared.pass.Board.{Board}
use Rattle.claim_board.specs.declared.pass.Pass.{Pass}
use Rattle.claim_board.specs.Board.{blocks_of, workers_of, numbers_of, dealt_to, had_none, IsPassOf, IsNew, AreAllPasses}
use Rattle.stream_runs.specs.declared.range.SeedRange.{SeedRange}
use Rattle.tally_range.specs.declared.share.Entry.{Entry}
use Rattle.stream_runs.specs.Blocks.{blocks_over}
use Rattle.tally_range.specs.Blocks.{count_block}
use Rattle.tally_range.specs.Rows.{Rows}
use Rattle.tally_range.specs.Sums.{count_in}
use Rattle.tally_range.specs.Shares.{IsReady, IsCounted}
use Rattle.tally_range.specs.inner.Worked.{entry_pass, entry_table, IsWorked}
use Rattle.tally_range.proofs.Backwards.{total_backwards, all_forth, all_back}

abbrev pub numbers_in : ℕ → List Entry → ℕ
numbers_in x es = total (λ (e : Entry). times x (numbers_of (entry_pass e))) es

-- ---- before

all_ready : (b : Board) (r : SeedRange) (es : List Entry) → blocks_of b ≡ blocks_over r.from r.to → All (λ (e : Entry). IsPassOf b (entry_pass e)) es → All (λ (e : Entry). IsNew (entry_pass e)) es →
    All (λ (e : Entry). entry_table e ≡ []) es → All (λ (e : Entry). IsReady b r e.share) es
all_ready b r es blocks passes new empty = λ k d lt. record { blocks = blocks; pass = passes k d lt; new = new k d lt; empty = empty k d lt }

pub shares_ready : (b : Board) (r : SeedRange) (es : List Entry) (ps : List Pass) → blocks_of b ≡ blocks_over r.from r.to → map entry_pass es ≡ reverse ps → AreAllPasses b ps → All IsNew ps →
    All (λ (e : Entry). entry_table e ≡ []) es → All (λ (e : Entry). IsReady b r e.share) es
shares_ready b r es ps blocks e all new empty =
    all_ready b r es blocks (all_forth entry_pass (IsPassOf b) ps es (sym e) all.0) (all_forth entry_pass IsNew ps es (sym e) new) empty

pub shares_numbers : (b : Board) (es : List Entry) (ps : List Pass) → map entry_pass es ≡ reverse ps → AreAllPasses b ps → (x : ℕ) → numbers_in x es ≡ once_below x (workers_of b)
shares_numbers b es ps e all x = sym (total_backwards entry_pass (λ (p : Pass). times x (numbers_of p)) ps es (sym e)) ∙ all.1 x

-- ---- after

pub record Done (b : Board) (c : Assembled) (l : Limits) (r : SeedRange) (es fs : List Entry) : Type 0 where
  pub passes : All (λ (f : Entry). IsPassOf b (entry_pass f)) fs
  pub ended : All (λ (f : Entry). had_none (entry_pass f) ≡ true) fs
  pub numbers : (x : ℕ) → numbers_in x fs ≡ numbers_in x es
  pub counts : (run : List Bool → Answer) → IsRunOf c l run → (key : TallyKey) →
      total (λ (f : Entry). count_in (entry_table f) key) fs ≡ total (λ (f : Entry). total (count_block run r key) (dealt_to (entry_pass f))) fs

pub shares_done : (b : Board) (c : Assembled) (l : Limits) (r : SeedRange) (es fs : List Entry) → All (λ (e : Entry). IsReady b r e.share) es → AllZip (IsWorked c l r) es fs →
    All (λ (f : Entry). f.done ≡ Ok tt) fs → Done b c l r es fs
shares_done b c l r [] [] ready z ok = record { passes = All-nil (λ (f : Entry). IsPassOf b (entry_pass f)); ended = All-nil (λ (f : Entry). had_none (entry_pass f) ≡ true); numbers = λ x. refl; counts = λ run is key. refl }
shares_done b c l r [] (f ∷ fs) ready z ok = absurd z
shares_done b c l r (e ∷ es) [] ready z ok = absurd z
shares_done b c l r (e ∷ es) (f ∷ fs) ready z ok =
    let first : IsReady b r e.share = All-head (λ (e : Entry). IsReady b r e.share) e es ready in
    let worked : IsWorked c l r e f = z.0 in
    let counted : IsCounted c l r f.share = worked.counted (All-head (λ (f : Entry). f.done ≡ Ok tt) f fs ok) in
    let rest = shares_done b c l r es fs (All-tail (λ (e : Entry). IsReady b r e.share) e es ready) z.1 (All-tail (λ (f : Entry). f.done ≡ Ok tt) f fs ok) in record {
      passes = All-cons (λ (f : Entry). IsPassOf b (entry_pass f)) f fs (worked.pass.0 ∙ first.pass.0, worked.pass.1 ∙ first.pass.1) rest.passes;
      ended = All-cons (λ (f : Entry). had_none (entry_pass f) ≡ true) f fs counted.ended rest.ended;
      numbers = λ x. let same = ap (times x) worked.pass.2 in let t = rest.numbers x in omega arith;
      counts = λ run is key. let here = counted.counts run is key in let t = rest.counts run is key in omega arith;
    }

-- the entries that are left in the vector are those that the threads left
pub left_in : (c : Assembled) (l : Limits) (r : SeedRange) (n : ℕ) (old new : List Entry) → AllZip (IsWorked c l r) old new → n ≡ length old → take n (new ++ drop (length new) old) ≡ new
left_in c l r n old new z e = ap (λ (k : ℕ). take k (new ++ drop (length new) old)) (e ∙ length_all_zip (IsWorked c l r) old new z) ∙ take-append_seam new (drop (length new) old)

-- ---- what was gathered

module _ (b : Board) (c : Assembled) (l : Limits) (r : SeedRange) (es fs : List Entry) (done : Done b c l r es fs) (ps : List Pass) (ts : List Rows) (e : reverse ps ≡ map entry_pass fs) (f : reverse ts ≡ map entry_table fs) where
  pub gathered_passes : ((x : ℕ) → numbers_in x es ≡ once_below x (workers_of b)) → AreAllPasses b ps
  gathered_passes numbers = (
    all_back entry_pass (IsPassOf b) ps fs e done.passes,
    λ x. total_backwards entry_pass (λ (p : Pass). times x (numbers_of p)) ps fs e ∙ done.numbers x ∙ numbers x,
  )

  pub gathered_ended : All (λ (p : Pass). had_none p ≡ true) ps
  gathered_ended = all_back entry_pass (λ (p : Pass). had_none p ≡ true) ps fs e done.ended

  pub gathered_counts : (run : List Bool → Answer) → IsRunOf c l run → (key : TallyKey) →
      total (λ (t : Rows). count_in t key) ts ≡ total (λ (p : Pass). total (count_block run r key) (dealt_to p)) ps
  gathered_counts run is key = total_backwards entry_table (λ (t : Rows). count_in t key) ts fs f ∙ done.counts run is key
      ∙ sym (total_backwards entry_pass (λ (p : Pass). total (count_block run r key) (dealt_to p)) ps fs e)
