use Rattle.std.proofs.Common.{◌≡◌, ℕ, ◌+◌, max, List, [], sym, ap, ◌∙◌, subst, arith}
use Rattle.passes.specs.Total.{total}
use Rattle.passes.specs.Numbers.{top}
use Rattle.passes.proofs.Times.{top_above, top-snoc}
use Rattle.passes.proofs.Totals.{total_snoc}
use Rattle.claim_board.specs.Board.{dealt_to}
use Rattle.sampler_run.specs.Held.{Held, IsRestOf, StandsAfter}
use Rattle.tally_range.specs.Blocks.{count_block}
use Rattle.tally_range.specs.Shares.{pass_of, told_by}
use Rattle.zar_io.specs.Visits.{blocks_told}
use Rattle.stream_runs.proofs.Told.{one_told}
use Rattle.tally_range.proofs.working.work.Goals as goal

pub count_block-requires-clause-home : goal.count_block-requires-clause-home
count_block-requires-clause-home g c =
    let start = c.in_ok-home.ensures.start in
    record { stands = subst (λ (s : Held). StandsAfter [] s c.in_ok-home.home) (sym start) c.in_ok-home.ensures.rest; same = c.loop-block.invariant.4 ∙ sym start }

pub loop-block-smaller : goal.loop-block-smaller
loop-block-smaller g c = let s = c.in-Some.ensures.some in let i = c.loop-block.invariant in let old : List ℕ = dealt_to (pass_of c.loop-block.share) in let le = top_above c.in-Some.block old s.1 in
    let t : top (dealt_to c.claim.new.pass) ≡ max (top old) (c.in-Some.block + 1) = ap top s.2 ∙ top-snoc c.in-Some.block old in omega arith

pub loop-block-preserved : goal.loop-block-preserved
loop-block-preserved g c = let s = c.in-Some.ensures.some in let i = c.loop-block.invariant in let p = c.claim.ensures.pass in
    let block : ℕ = c.in-Some.block in let old : List ℕ = dealt_to (pass_of c.loop-block.share) in let le = top_above block old s.1 in
    let t : top (dealt_to c.claim.new.pass) ≡ max (top old) (block + 1) = ap top s.2 ∙ top-snoc block old in
    let counted = c.in_ok-count_block.ensures in (
      (p.0 ∙ i.0.0, p.1 ∙ i.0.1),
      (p.0 ∙ i.1.0, p.1 ∙ i.1.1, p.2 ∙ i.1.2),
      s.3,
      omega arith,
      counted.same_start ∙ i.4,
      λ run is key. let new = counted.counted run (subst (λ (h : Held). IsRestOf h run) (sym i.4) is) key in
          let more : total (count_block run c.args.range.now key) (dealt_to c.claim.new.pass) ≡ total (count_block run c.args.range.now key) old + count_block run c.args.range.now key block =
          ap (total (count_block run c.args.range.now key)) s.2 ∙ total_snoc (count_block run c.args.range.now key) old block in
          let before = i.5 run is key in omega arith,
      λ key. let few = counted.few key in let before = i.6 key in omega arith,
      one_told (told_by c.args.share.now) (told_by c.loop-block.share) (blocks_told c.enter.new.self) old (dealt_to c.claim.new.pass) block i.7 c.enter.ensures s.2,
    )
