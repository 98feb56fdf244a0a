-- A board with one pass.
use Rattle.std.proofs.Common.{◌≡◌, ◌∙◌, ℕ, zero, suc, ◌<◌, ◌+◌, Bool, true, List, [], ◌∷◌, ◌++◌, All, length, get_or, refl, sym, ap, subst, arith}
use Rattle.std.proofs.lemmas.List.{length-append}
use Rattle.gcl_core.specs.declared.answers.Answer.{Answer}
use Rattle.gcl_core.specs.declared.answers.Limits.{Limits}
use Rattle.gcl_core.specs.declared.answers.TallyKey.{TallyKey}
use Rattle.sampler_code.specs.Assembled.{Assembled, IsRunOf}
use Rattle.passes.specs.Numbers.{times}
use Rattle.passes.specs.Total.{total}
use Rattle.claim_board.specs.declared.pass.Board.{Board}
use Rattle.claim_board.specs.declared.pass.Pass.{Pass}
use Rattle.claim_board.specs.Board.{dealt_to, had_none, numbers_of, AreAllPasses, IsNew, IsPassOf, IsSamePass}
use Rattle.stream_runs.specs.declared.range.SeedRange.{SeedRange}
use Rattle.tally_range.specs.Blocks.{count_block}
use Rattle.tally_range.specs.Counts.{count_range}
use Rattle.tally_range.specs.Rows.{Rows, IsTallyOf}
use Rattle.tally_range.specs.Sums.{count_in}
use Rattle.tally_range.specs.Tallies.{IsTally}
use Rattle.tally_range.proofs.Exact.{exact_rows}

-- what was taken from the end of a list of one is all of it
pub all_of_one : {A : Type 0} (whole rest : List A) (x : A) → length whole ≡ 1 → whole ≡ rest ++ x ∷ [] → (whole ≡ x ∷ []) × (rest ≡ [])
all_of_one whole [] x one is = (is, refl)
all_of_one whole (y ∷ rest) x one is = let long : length whole ≡ length (y ∷ rest) + length (x ∷ []) = ap length is ∙ length-append (y ∷ rest) (x ∷ []) in absurd (omega (arith, long, one))

all_one : {A : Type 0} (P : A → Type 0) (x : A) → P x → All P (x ∷ [])
all_one P x is zero d lt = is
all_one P x is (suc i) d lt = absurd (omega (arith, lt))

pub of_one : {A : Type 0} (P : A → Type 0) (xs : List A) (x : A) → xs ≡ x ∷ [] → All P xs → P x
of_one P xs x is all = subst (All P) is all 0 x (omega arith)

pub to_one : {A : Type 0} (P : A → Type 0) (xs : List A) (x : A) → xs ≡ x ∷ [] → P x → All P xs
to_one P xs x is one = subst (All P) (sym is) (all_one P x one)

-- the same pass later is still the only one
pub still_all : (b : Board) (before after : List Pass) (p q : Pass) → before ≡ p ∷ [] → after ≡ q ∷ [] → IsSamePass p q → IsPassOf b q
    → AreAllPasses b before → AreAllPasses b after
still_all b before after p q was is same of all =
    let once = (subst (AreAllPasses b) was all).1 in
    subst (AreAllPasses b) (sym is) (all_one (IsPassOf b) q of, λ x. ap (λ ns. times x ns + 0) same.2 ∙ once x)

-- the one table counts the range
pub one_counts : (c : Assembled) (l : Limits) (r : SeedRange) (ps : List Pass) (q : Pass) (t : Rows) → ps ≡ q ∷ []
    → ((run : List Bool → Answer) → IsRunOf c l run → (key : TallyKey) → count_in t key ≡ total (count_block run r key) (dealt_to q))
    → (run : List Bool → Answer) → IsRunOf c l run → (key : TallyKey) →
    total (λ (t : Rows). count_in t key) (t ∷ []) ≡ total (λ (p : Pass). total (count_block run r key) (dealt_to p)) ps
one_counts c l r ps q t is counts run of key =
    ap (λ n. n + 0) (counts run of key) ∙ ap (total (λ (p : Pass). total (count_block run r key) (dealt_to p))) (sym is)

pub one_tally : (r : SeedRange) (run : List Bool → Answer) (t : Rows) → IsTally t
    → ((key : TallyKey) → total (λ (t : Rows). count_in t key) (t ∷ []) ≡ count_range run r key) → IsTallyOf (count_range run r) t
one_tally r run t is counts = exact_rows (count_range run r) t is (λ key. let all = counts key in omega arith)
