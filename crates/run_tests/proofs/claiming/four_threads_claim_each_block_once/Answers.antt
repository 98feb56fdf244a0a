use Rattle.std.proofs.Common.{rules, ◌≡◌, ℕ, List, ◌++◌, length, take, drop, sym, ap, ◌∙◌, subst}
use Rattle.std.specs.List.{AllZip}
use Rattle.std.proofs.Math.Seq.{take-append_seam}
use Rattle.std.proofs.lemmas.List.Elements.{length_all_zip}
use Rattle.claim_board.specs.declared.pass.Pass.{Pass}
use Rattle.claim_board.specs.Board.{IsSamePass, AreAllPasses}
use Rattle.claim_board.proofs.Passes.{all_passes_same}
use Rattle.run_tests.proofs.claiming.four_threads_claim_each_block_once.Goals as goal

pub close-requires : goal.close-requires
close-requires g c =
    let b = c.in_ok-board.board in
    let old : List Pass = c.in_ok-board.passes.items in
    let new : List Pass = c.claim_in_threads.new.passes in
    let worked : AllZip IsSamePass old new = subst (λ (l : List Pass). AllZip IsSamePass l new) c.as_mut_slice.ensures.value c.claim_in_threads.ensures in
    let wide : c.in_ok-board.passes.len ≡ length new = let l = length_all_zip IsSamePass old new worked in let k : c.in_ok-board.passes.len ≡ length old = search rules in k ∙ l in
    let left : take c.in_ok-board.passes.len (new ++ drop (length new) old) ≡ new = ap (λ (n : ℕ). take n (new ++ drop (length new) old)) wide ∙ take-append_seam new (drop (length new) old) in
    subst (λ (l : List Pass). AreAllPasses b l) (sym left) (all_passes_same b old new c.in_ok-board.ensures.passes worked)
