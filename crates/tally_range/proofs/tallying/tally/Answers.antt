use Rattle.std.proofs.Common.{◌≡◌, ◌∙◌, arith}
use Rattle.claim_board.specs.Board.{blocks_of}
use Rattle.stream_runs.specs.Blocks.{blocks_over}
use Rattle.tally_range.proofs.Tallied.{range_counted, counts_fit, sums_count, rows_exact}
use Rattle.tally_range.proofs.tallying.tally.Goals as goal

-- each block was dealt, so the tables count the streams of the range
pub add_up-requires : goal.add_up-requires
add_up-requires g c = let blocks : blocks_of c.in_ok-board.board ≡ blocks_over c.args.range.now.from c.args.range.now.to = c.in_ok-board.ensures.board.0 ∙ c.blocks-2.ensures in
    let all = range_counted c.in_ok-board.board c.args.s.now c.args.l.now c.args.range.now c.close.result.dealt c.in_ok-passes.passes.items c.in_ok-passes.tables.items c.deref.result.now
    c.requires.range blocks c.in_ok-board.board.few.1 c.in_ok-passes.ensures.passes c.in_ok-passes.ensures.ended c.close.ensures.dealt c.close.ensures.all c.in_ok-passes.ensures.counts c.deref.ensures.value in
    record {
      fits = λ key. let le = counts_fit c.args.s.now c.args.l.now c.args.range.now c.deref.result.now (λ w. c.runs_answer.ensures c.args.l.now w c.requires.limits) all key in
          let small = c.requires.range.few in omega arith;
    }

pub returns : goal.returns
returns g c = let blocks : blocks_of c.in_ok-board.board ≡ blocks_over c.args.range.now.from c.args.range.now.to = c.in_ok-board.ensures.board.0 ∙ c.blocks-2.ensures in
    let all = range_counted c.in_ok-board.board c.args.s.now c.args.l.now c.args.range.now c.close.result.dealt c.in_ok-passes.passes.items c.in_ok-passes.tables.items c.deref.result.now
    c.requires.range blocks c.in_ok-board.board.few.1 c.in_ok-passes.ensures.passes c.in_ok-passes.ensures.ended c.close.ensures.dealt c.close.ensures.all c.in_ok-passes.ensures.counts c.deref.ensures.value in
    let counts = sums_count c.add_up.result c.args.s.now c.args.l.now c.args.range.now c.deref.result.now all c.add_up.ensures.counted in
    record { rows = rows_exact c.add_up.result c.args.s.now c.args.l.now c.args.range.now c.add_up.ensures.tally counts; counts = counts }
