use Rattle.std.proofs.Common.{◌≡◌, ◌∙◌, Bool, List, [], ◌∷◌, All, true, refl, sym, ap, subst, rules, arith}
use Rattle.gcl_core.specs.declared.answers.Answer.{Answer}
use Rattle.gcl_core.specs.declared.answers.TallyKey.{TallyKey}
use Rattle.sampler_code.specs.Assembled.{IsRunOf}
use Rattle.claim_board.specs.Board.{blocks_of, dealt_to, had_none, AreAllPasses}
use Rattle.claim_board.specs.declared.pass.Pass.{Pass}
use Rattle.stream_runs.specs.Blocks.{blocks_over}
use Rattle.passes.specs.Total.{total}
use Rattle.tally_range.specs.Blocks.{count_block}
use Rattle.tally_range.specs.Rows.{Rows}
use Rattle.tally_range.specs.Sums.{count_in}
use Rattle.tally_range.proofs.Tallied.{range_counted}
use Rattle.one_thread.proofs.OnePass.{one_counts, one_tally, to_one}
use Rattle.one_thread.proofs.tallying.tally_alone.Goals as goal

-- the one pass was dealt each block, so its table counts the streams of the range
pub returns : goal.returns
returns c = record {
  rows = λ run is.
      let b = c.in_ok-board.board in
      let s = c.args.s.now in
      let l = c.args.l.now in
      let r = c.args.range.now in
      let q = c.parts-pass.result.0 in
      let t = c.parts-pass.result.1 in
      let ps = c.push.new.self.items in
      let counted = c.in_ok-work.ensures.counted in
      let one : ps ≡ q ∷ [] = search rules in
      let blocks : blocks_of b ≡ blocks_over r.from r.to = c.in_ok-board.ensures.board.0 ∙ c.blocks-2.ensures in
      let ended : had_none q ≡ true = ap had_none c.parts-pass.ensures.pass ∙ counted.ended in
      let counts : (run : List Bool → Answer) → IsRunOf s l run → (key : TallyKey) → count_in t key ≡ total (count_block run r key) (dealt_to q)
      = λ run is key.
      ap (λ (rows : Rows). count_in rows key) c.parts-pass.ensures.table ∙ counted.counts run is key
      ∙ ap (λ (p : Pass). total (count_block run r key) (dealt_to p)) (sym c.parts-pass.ensures.pass) in
      let all : AreAllPasses b ps = search rules in
      let range = range_counted b s l r c.close.result.dealt ps (t ∷ []) (t ∷ []) c.requires.range blocks (search rules) all
      (to_one (λ (p : Pass). had_none p ≡ true) ps q one ended) c.close.ensures.dealt c.close.ensures.all (one_counts s l r ps q t one counts) refl in
      one_tally r run t c.is_tally.ensures (range run is);
}
