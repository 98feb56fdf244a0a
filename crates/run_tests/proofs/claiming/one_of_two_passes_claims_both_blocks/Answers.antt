use Rattle.std.proofs.Common.{rules, ◌<◌, length, ap, ◌∙◌}
use Rattle.claim_board.specs.declared.pass.Pass.{Pass}
use Rattle.claim_board.specs.Board.{numbers_of}
use Rattle.claim_board.proofs.Passes.{all_passes_set}
use Rattle.run_tests.proofs.claiming.one_of_two_passes_claims_both_blocks.Goals as goal

pub close-dealt-requires : goal.close-dealt-requires
close-dealt-requires g c = let a = c.claim-first.ensures.pass in let b = c.claim-second.ensures.pass in let d = c.claim-third.ensures.pass in let f = c.claim-fourth.ensures.pass in
    let p : Pass = c.index_mut-pass.result.now in let is = c.index_mut-pass.ensures.value in
    let inside : 0 < length c.in_ok-board.passes.items = let n = c.in_ok-board.ensures.count in search rules in
    let was = c.in_ok-board.ensures.passes.0 0 p inside in
    all_passes_set c.in_ok-board.board c.in_ok-board.passes.items 0 p c.claim-fourth.new.pass inside c.in_ok-board.ensures.passes
    (f.0 ∙ d.0 ∙ b.0 ∙ a.0 ∙ ap (λ (q : Pass). q.seat.table_id) is ∙ was.0, f.1 ∙ d.1 ∙ b.1 ∙ a.1 ∙ ap (λ (q : Pass). q.seat.me.0.blocks) is ∙ was.1)
    (f.2 ∙ d.2 ∙ b.2 ∙ a.2 ∙ ap numbers_of is)
