use Rattle.std.proofs.Common.{rules, ◌≡◌, ℕ, ◌+◌, ◌-◌, ◌<◌, List, map, get_or, All, refl, subst, arith}
use Rattle.claim_board.specs.declared.hand.Hand.{Hand}
use Rattle.claim_board.specs.declared.hand.Terms.{Terms}
use Rattle.claim_board.specs.declared.pass.Pass.{Pass}
use Rattle.passes.specs.Numbers.{EachOnce}
use Rattle.passes.specs.Views.{views_made, EachMade}
use Rattle.passes.proofs.Made.{each_made, count_made, all_made, each_once_made}
use Rattle.claim_board.specs.Views.{passes_of, first_hand, makes, made_by, joined, spent_hand, are_numbered}
use Rattle.claim_board.specs.Board.{view_of, numbers_of, IsFresh}
use Rattle.claim_board.proofs.Keeps.{kept_first, splits}
use Rattle.claim_board.proofs.Passes.{had_no_none}
use Rattle.claim_board.proofs.pass.Board.new.Goals as goal

pub open_board-requires-clause-holds : goal.open_board-requires-clause-holds
open_board-requires-clause-holds c = (refl, kept_first (record { blocks = c.args.blocks; workers = c.from.result }) (omega arith))

pub open_board-requires-clause-splits : goal.open_board-requires-clause-splits
open_board-requires-clause-splits c =
    let same = c.from.ensures in
    λ id v one room. let here : v.passes.made < c.args.workers = room in splits (record { blocks = c.args.blocks; workers = c.from.result }) id v one (omega arith)

-- what the view of a pass is that was just made
abbrev IsNewOf : ℕ → Hand → Type 0
IsNewOf blocks v = (v.blocks ≡ blocks) × IsFresh v

each_new : (t : Terms) (n : ℕ) → EachMade makes made_by (IsNewOf t.blocks) n (first_hand t)
each_new t n = each_made makes made_by (IsNewOf t.blocks) (λ v new. (new, (new.0, (refl, refl, refl)))) n (first_hand t) (refl, (refl, refl, refl))

pub open_board-requires-clause-fresh : goal.open_board-requires-clause-fresh
open_board-requires-clause-fresh c = each_made makes made_by IsFresh (λ v new. (new, (refl, refl, refl))) _ _ (refl, refl, refl)

pub returns-clause-count : goal.returns-clause-count
returns-clause-count c = let n = count_made makes made_by view_of c.in_ok-table.passes.items _ _ c.in_ok-table.ensures.views in search rules

all_new : (t : Terms) (n : ℕ) (ps : List Pass) → map view_of ps ≡ views_made makes made_by n (first_hand t) → All (λ (p : Pass). IsNewOf t.blocks (view_of p)) ps
all_new t n ps same = all_made makes made_by view_of (IsNewOf t.blocks) ps n (first_hand t) same (each_new t n)

pub returns-clause-passes : goal.returns-clause-passes
returns-clause-passes c =
    let e = c.in_ok-table.ensures in
    let ps = c.in_ok-table.passes.items in
    let t : Terms = record { blocks = c.args.blocks; workers = c.from.result } in
    let new = all_new t _ ps e.views in
    let once = each_once_made passes_of makes made_by joined spent_hand are_numbered view_of ps _ _ e.views refl in
    let workers : (c.args.workers - 1) + 1 ≡ c.args.workers = omega arith in
    ((λ k d inside. (e.table k d inside, (new k d inside).0)), subst (λ (n : ℕ). EachOnce numbers_of ps n) workers once)

pub returns-clause-new : goal.returns-clause-new
returns-clause-new c = let new = all_new (record { blocks = c.args.blocks; workers = c.from.result }) _ c.in_ok-table.passes.items c.in_ok-table.ensures.views in
    λ k d inside. let is = new k d inside in (is.1.1, had_no_none (get_or c.in_ok-table.passes.items k d) is.1.2)
