use Rattle.std.proofs.Common.{◌≡◌, sym, subst, ◌∙◌}
use Rattle.std.proofs.lemmas.Result.{IfOk-weaker}
use Rattle.bit_tree.specs.Views.{tied_tree_of}
use Rattle.sampler_code.specs.Assembled.{Assembled}
use Rattle.sampler_code.specs.Follows.{Follows}
use Rattle.sampler_code.proofs.SoundCode.{tied_follows}
use Rattle.sampler_code.proofs.Written.{numbers_of, written}
use Rattle.gcl_core.specs.meaning.Bounds.{ExpressionFits}
use Rattle.sampler_code.proofs.assembling.assemble.Goals as goal

pub emit-requires-clause-arms : goal.emit-requires-clause-arms
emit-requires-clause-arms c = c.requires.sampleable.arms

pub of-requires-2 : goal.of-requires-2
of-requires-2 c = record {
  tree = tied_tree_of c.args.t.now;
  sampleable = c.requires.sampleable;
  numbers = numbers_of (tied_tree_of c.args.t.now) _ c.in_ok-emit.ensures.fits c.in_ok-result.ensures.stands (subst ExpressionFits (sym c.in_ok-result.ensures.stands) c.in_ok-result.ensures.fits);
  same = written (tied_tree_of c.args.t.now) _ _ _ _ _ c.new-instrs.ensures c.in_ok-emit.ensures.code c.in_ok-result.ensures.stands c.in_ok-put.ensures c.in_ok-emit.ensures.loops;
}

pub returns-clause-follows : goal.returns-clause-follows
returns-clause-follows c =
    let t = tied_tree_of c.args.t.now in
    let fits = numbers_of t _ c.in_ok-emit.ensures.fits c.in_ok-result.ensures.stands (subst ExpressionFits (sym c.in_ok-result.ensures.stands) c.in_ok-result.ensures.fits) in
    let same = written t _ _ _ _ _ c.new-instrs.ensures c.in_ok-emit.ensures.code c.in_ok-result.ensures.stands c.in_ok-put.ensures c.in_ok-emit.ensures.loops in
    IfOk-weaker c.of-2.result (λ p. p ≡ _) (λ p. Follows t p) (λ p e. subst (λ (p : Assembled). Follows t p) (sym (e ∙ same)) (tied_follows t c.requires.sampleable fits)) c.of-2.ensures
