use Rattle.std.proofs.Common.{◌≡◌, ℕ, ◌+◌, max, List, ap, ◌∙◌, arith}
use Rattle.passes.specs.Numbers.{top}
use Rattle.passes.proofs.Times.{top_above, top-snoc}
use Rattle.claim_board.specs.Board.{dealt_to}
use Rattle.run_tests.proofs.claiming.claim_all.Goals as goal

pub loop-block-smaller : goal.loop-block-smaller
loop-block-smaller c = let s = c.in-Some.ensures.some in let i = c.loop-block.invariant in let old : List ℕ = dealt_to c.loop-block.pass in let le = top_above c.in-Some.block old s.1 in
    let t : top (dealt_to c.claim.new.pass) ≡ max (top old) (c.in-Some.block + 1) = ap top s.2 ∙ top-snoc c.in-Some.block old in omega arith

pub loop-block-preserved : goal.loop-block-preserved
loop-block-preserved c = let s = c.in-Some.ensures.some in let i = c.loop-block.invariant in let p = c.claim.ensures.pass in
    let old : List ℕ = dealt_to c.loop-block.pass in let le = top_above c.in-Some.block old s.1 in
    let t : top (dealt_to c.claim.new.pass) ≡ max (top old) (c.in-Some.block + 1) = ap top s.2 ∙ top-snoc c.in-Some.block old in (
      (p.0 ∙ i.0.0, p.1 ∙ i.0.1),
      (p.0 ∙ i.1.0, p.1 ∙ i.1.1, p.2 ∙ i.1.2),
      s.3,
      omega arith,
    )
