use Rattle.std.proofs.Common.{◌≡◌, ℕ, true, get_or, Any, min, sym, ◌∙◌, subst}
use Rattle.claim_board.specs.declared.hand.Terms.{Terms}
use Rattle.claim_board.specs.declared.pass.Pass.{Pass}
use Rattle.passes.specs.Numbers.{EachOnce}
use Rattle.claim_board.specs.Board.{numbers_of, had_none, AreDealtTo}
use Rattle.claim_board.proofs.Keeps.{joins}
use Rattle.claim_board.proofs.Passes.{some_pass, gathered}
use Rattle.claim_board.proofs.pass.Board.close.Goals as goal

pub close_board-requires-clause-some : goal.close_board-requires-clause-some
close_board-requires-clause-some c = some_pass c.args.self c.args.passes.items c.requires

pub close_board-requires-clause-table : goal.close_board-requires-clause-table
close_board-requires-clause-table c = λ k d inside. (c.requires.0 k d inside).0

pub close_board-requires-clause-joins : goal.close_board-requires-clause-joins
close_board-requires-clause-joins c = λ id other v w some_v some_w. joins c.args.self.table.shared.key id other v w

-- what the last view knows
abbrev Ended : goal.After-min → Type 0
Ended c = AreDealtTo c.min.result c.args.passes.items × (Any (λ (p : Pass). had_none p ≡ true) c.args.passes.items → c.min.result ≡ c.args.self.blocks)

ended : (c : goal.After-min) → Ended c
ended c =
    let f = c.close_board.ensures in
    let b = c.args.self in
    let t : Terms = b.table.shared.key in
    let word : ℕ = get_or f.0.words 0 0 in
    let once : EachOnce numbers_of c.args.passes.items t.workers = subst (λ (n : ℕ). EachOnce numbers_of c.args.passes.items n) (sym b.told.1) c.requires.1 in
    let g = gathered t word f.0.views f.1 c.args.passes.items (some_pass b c.args.passes.items c.requires) f.2.0.1 f.2.1 once in
    let result : min word t.blocks ≡ c.min.result = (λ k. min (f.3 k) (b.told.0 k)) ∙ sym c.min.ensures in (
      subst (λ (n : ℕ). AreDealtTo n c.args.passes.items) result g.0,
      (λ any. sym result ∙ g.1 any ∙ b.told.0),
    )

pub returns-clause-dealt : goal.returns-clause-dealt
returns-clause-dealt c = (ended c).0

pub returns-clause-all : goal.returns-clause-all
returns-clause-all c = (ended c).1
