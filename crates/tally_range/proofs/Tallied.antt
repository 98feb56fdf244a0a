-- From the tables of all workers to the counts over the range.
use Rattle.std.proofs.Common.{◌≡◌, ℕ, ◌<◌, ◌≤◌, ◌-◌, Bool, true, List, [], ◌∷◌, All, Any, length, refl, ap, ◌∙◌, arith}
use Rattle.std.specs.Prelude.{Result, Ok, Err, IfOk}
use Rattle.gcl_core.specs.declared.answers.Answer.{Answer}
use Rattle.gcl_core.specs.declared.answers.Limits.{Limits}
use Rattle.gcl_core.specs.declared.answers.TallyKey.{TallyKey}
use Rattle.sampler_code.specs.Assembled.{Assembled, CodeReaches, IsRunOf}
use Rattle.sampler_code.specs.Running.{Reached}
use Rattle.passes.specs.Total.{total, total_below}
use Rattle.passes.proofs.Spread.{all_spread}
use Rattle.passes.proofs.Times.{once_there}
use Rattle.claim_board.specs.declared.pass.Board.{Board}
use Rattle.claim_board.specs.declared.pass.Pass.{Pass}
use Rattle.claim_board.specs.Board.{blocks_of, workers_of, dealt_to, had_none, AreAllPasses, AreDealtTo}
use Rattle.stream_runs.specs.declared.range.SeedRange.{SeedRange}
use Rattle.stream_runs.specs.Blocks.{blocks_over}
use Rattle.tally_range.specs.Blocks.{count_block}
use Rattle.tally_range.specs.Counts.{has_key, count_range}
use Rattle.tally_range.specs.Rows.{Rows, IsTallyOf}
use Rattle.tally_range.specs.Tallies.{IsTally}
use Rattle.tally_range.specs.Sums.{count_in}
use Rattle.stream_runs.specs.Ranges.{IsRange}
use Rattle.tally_range.proofs.Totals.{blocks_cover}
use Rattle.tally_range.proofs.Counting.{count_le}
use Rattle.tally_range.proofs.Exact.{exact_rows}

some_pass : (ps : List Pass) → 0 < length ps → All (λ (p : Pass). had_none p ≡ true) ps → Any (λ (p : Pass). had_none p ≡ true) ps
some_pass [] h all = absurd (omega arith)
some_pass (p ∷ ps) h all = (0, p, h, refl, all 0 p h)

any_pass : (b : Board) (ps : List Pass) → AreAllPasses b ps → 0 < workers_of b → 0 < length ps
any_pass b [] all some = let none = all.1 0 in let one = once_there 0 (workers_of b) some in absurd (omega arith)
any_pass b (p ∷ ps) all some = omega arith

-- where each pass had None, some had
some_ended : (b : Board) (ps : List Pass) → AreAllPasses b ps → 0 < workers_of b → All (λ (p : Pass). had_none p ≡ true) ps → Any (λ (p : Pass). had_none p ≡ true) ps
some_ended b ps all some ended = some_pass ps (any_pass b ps all some) ended

-- where each block was dealt once, the tables of the workers count the streams of the range
all_counted : (run : List Bool → Answer) (r : SeedRange) (n : ℕ) (ps : List Pass) (ts : List Rows) (key : TallyKey) → IsRange r → AreDealtTo n ps → n ≡ blocks_over r.from r.to →
    total (λ (t : Rows). count_in t key) ts ≡ total (λ (p : Pass). total (count_block run r key) (dealt_to p)) ps →
    total (λ (t : Rows). count_in t key) ts ≡ count_range run r key
all_counted run r n ps ts key range dealt is counts =
    counts ∙ all_spread dealt_to (count_block run r key) n ps dealt ∙ ap (total_below (count_block run r key)) is
    ∙ blocks_cover (has_key run r.seed r.budget key) r.from r.to range.ordered

-- the tables count the range, for any runs of the code
abbrev pub CountRange : Assembled → Limits → SeedRange → List Rows → Type 0
CountRange c l r ts = (run : List Bool → Answer) → IsRunOf c l run → (key : TallyKey) → total (λ (t : Rows). count_in t key) ts ≡ count_range run r key

-- the same, of a board that is closed and the passes that its workers had
pub range_counted : (b : Board) (c : Assembled) (l : Limits) (r : SeedRange) (n : ℕ) (ps : List Pass) (ts seen : List Rows) → IsRange r → blocks_of b ≡ blocks_over r.from r.to → 0 < workers_of b →
    AreAllPasses b ps → All (λ (p : Pass). had_none p ≡ true) ps → AreDealtTo n ps → (Any (λ (p : Pass). had_none p ≡ true) ps → n ≡ blocks_of b) →
    ((run : List Bool → Answer) → IsRunOf c l run → (key : TallyKey) → total (λ (t : Rows). count_in t key) ts ≡ total (λ (p : Pass). total (count_block run r key) (dealt_to p)) ps) →
    seen ≡ ts → CountRange c l r seen
range_counted b c l r n ps ts seen range blocks some passes ended dealt all counts is = λ run of key.
    ap (total (λ (t : Rows). count_in t key)) is ∙ all_counted run r n ps ts key range dealt (all (some_ended b ps passes some ended) ∙ blocks) (counts run of key)

-- code that always reaches an answer has a run, so the tables count no more streams than there are
pub counts_fit : (c : Assembled) (l : Limits) (r : SeedRange) (ts : List Rows) → ((w : List Bool) → (a : Reached) × CodeReaches c l w a) → CountRange c l r ts →
    (key : TallyKey) → total (λ (t : Rows). count_in t key) ts ≤ r.to - r.from
counts_fit c l r ts reaches counts key =
    let run : List Bool → Answer = λ w. (reaches w).0.answer in
    let is : IsRunOf c l run = λ w. ((reaches w).0.place, (reaches w).1) in
    let all = counts run is key in let le = count_le run r.seed r.budget r.from r.to key in omega arith

-- ---- what all tables count together is the count of the range

pub sums_count : {E : Type 0} (x : Result Rows E) (c : Assembled) (l : Limits) (r : SeedRange) (ts : List Rows) → CountRange c l r ts →
    IfOk x (λ (t : Rows). (key : TallyKey) → count_in t key ≡ total (λ (s : Rows). count_in s key) ts) →
    IfOk x (λ (t : Rows). (run : List Bool → Answer) → IsRunOf c l run → (key : TallyKey) → count_in t key ≡ count_range run r key)
sums_count (Ok t) c l r ts all h = λ run is key. h key ∙ all run is key
sums_count (Err e) c l r ts all h = tt

pub rows_exact : {E : Type 0} (x : Result Rows E) (c : Assembled) (l : Limits) (r : SeedRange) → IfOk x IsTally →
    IfOk x (λ (t : Rows). (run : List Bool → Answer) → IsRunOf c l run → (key : TallyKey) → count_in t key ≡ count_range run r key) →
    IfOk x (λ (t : Rows). (run : List Bool → Answer) → IsRunOf c l run → IsTallyOf (count_range run r) t)
rows_exact (Ok t) c l r is counts = λ run of. exact_rows (count_range run r) t is (counts run of)
rows_exact (Err e) c l r is counts = tt
