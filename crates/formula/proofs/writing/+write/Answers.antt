use Rattle.std.proofs.Common.{◌++◌, length, refl, ◌∙◌, sym, ap, subst, arith}
use Rattle.gcl_core.specs.declared.syntax.BinOp.TheVariants.{And, Or}
use Rattle.gcl_core.specs.meaning.Syntax.{Bin}
use Rattle.gcl_core.specs.meaning.Bounds.{ExpressionFits}
use Rattle.gcl_core.specs.meaning.Views.{expression_of}
use Rattle.formula.specs.declared.op.Op.TheVariants.{AndSkip, OrSkip}
use Rattle.formula.specs.Steps.{steps_at, depth}
use Rattle.formula.proofs.Written.{plain, written_plain, written_skip, depth_plain, small_plain}
use Rattle.formula.proofs.writing.+write.Goals as goal

pub returns-in_ok-push-in-And-2-clause-steps : goal.returns-in_ok-push-in-And-2-clause-steps
returns-in_ok-push-in-And-2-clause-steps t c =
    let s0 = c.args.steps.now.items in
    let a = expression_of c.deref-in-Bin.result.now in
    let b = expression_of c.deref-in-And.result.now in
    let h = written_skip And AndSkip a b s0 c.write-in-Bin.new.steps.items c.push-in-And.new.self.items c.write-in-And.new.steps.items c.push-in-And-2.new.self.items _ c.len-skip.result c.len-end.result refl refl (λ t. refl)
    c.in_ok-left-in-Bin.ensures.steps (let l = c.len-skip.ensures in let k = c.write-in-Bin.new.steps.ok.0 in omega (arith, l, k))
    c.in_ok-push-in-And.ensures.items c.in_ok-right-in-And.ensures.steps c.in_ok-push-in-And-2.ensures.items (let l = c.len-end.ensures in let k = c.push-in-And-2.new.self.ok.0 in omega (arith, l, k)) refl in
    let o = c.in-And.is in
    let e = c.in-Bin.is in
    h ∙ ap (λ op. s0 ++ steps_at (Bin op a b) (length s0)) (sym o)
    ∙ ap (λ x. s0 ++ steps_at (Bin c.in-Bin.op (expression_of x) b) (length s0)) c.deref-in-Bin.ensures
    ∙ ap (λ x. s0 ++ steps_at (Bin c.in-Bin.op (expression_of c.in-Bin.a.value) (expression_of x)) (length s0)) c.deref-in-And.ensures
    ∙ ap (λ e. s0 ++ steps_at (expression_of e) (length s0)) (sym e)

pub returns-in_ok-push-in-Or-2-clause-steps : goal.returns-in_ok-push-in-Or-2-clause-steps
returns-in_ok-push-in-Or-2-clause-steps t c =
    let s0 = c.args.steps.now.items in
    let a = expression_of c.deref-in-Bin.result.now in
    let b = expression_of c.deref-in-Or.result.now in
    let h = written_skip Or OrSkip a b s0 c.write-in-Bin.new.steps.items c.push-in-Or.new.self.items c.write-in-Or.new.steps.items c.push-in-Or-2.new.self.items _ c.len-skip.result c.len-end-in-Or.result refl refl (λ t. refl)
    c.in_ok-left-in-Bin.ensures.steps (let l = c.len-skip.ensures in let k = c.write-in-Bin.new.steps.ok.0 in omega (arith, l, k))
    c.in_ok-push-in-Or.ensures.items c.in_ok-right-in-Or.ensures.steps c.in_ok-push-in-Or-2.ensures.items (let l = c.len-end-in-Or.ensures in let k = c.push-in-Or-2.new.self.ok.0 in omega (arith, l, k)) refl in
    let o = c.in-Or.is in
    let e = c.in-Bin.is in
    h ∙ ap (λ op. s0 ++ steps_at (Bin op a b) (length s0)) (sym o)
    ∙ ap (λ x. s0 ++ steps_at (Bin c.in-Bin.op (expression_of x) b) (length s0)) c.deref-in-Bin.ensures
    ∙ ap (λ x. s0 ++ steps_at (Bin c.in-Bin.op (expression_of c.in-Bin.a.value) (expression_of x)) (length s0)) c.deref-in-Or.ensures
    ∙ ap (λ e. s0 ++ steps_at (expression_of e) (length s0)) (sym e)

pub returns-in_ok-push-in_default : goal.returns-in_ok-push-in_default
returns-in_ok-push-in_default t c =
    let p = plain c.in-Bin.op c.in_default.not-And c.in_default.not-Or in
    let s0 = c.args.steps.now.items in
    let a = c.deref-in-Bin.result.now in
    let b = c.deref-in_default.result.now in
    let e = c.in-Bin.is in
    let s = written_plain c.in-Bin.op (expression_of a) (expression_of b) s0 c.write-in-Bin.new.steps.items c.write-in_default.new.steps.items _ p
    c.in_ok-left-in-Bin.ensures.steps c.in_ok-right-in_default.ensures.steps c.in_ok-push-in_default.ensures.items in
    record {
      steps = s
          ∙ ap (λ x. s0 ++ steps_at (Bin c.in-Bin.op (expression_of x) (expression_of b)) (length s0)) c.deref-in-Bin.ensures
          ∙ ap (λ x. s0 ++ steps_at (Bin c.in-Bin.op (expression_of c.in-Bin.a.value) (expression_of x)) (length s0)) c.deref-in_default.ensures
          ∙ ap (λ e. s0 ++ steps_at (expression_of e) (length s0)) (sym e);
      depth = depth_plain c.in-Bin.op (expression_of a) (expression_of b) _ _ _ p c.in_ok-left-in-Bin.ensures.depth c.in_ok-right-in_default.ensures.depth c.max-in_default.ensures
          ∙ ap (λ x. depth (Bin c.in-Bin.op (expression_of x) (expression_of b))) c.deref-in-Bin.ensures
          ∙ ap (λ x. depth (Bin c.in-Bin.op (expression_of c.in-Bin.a.value) (expression_of x))) c.deref-in_default.ensures
          ∙ ap (λ e. depth (expression_of e)) (sym e);
      small = small_plain s0 (steps_at (expression_of b) (length c.write-in-Bin.new.steps.items)) c.write-in-Bin.new.steps.items c.write-in_default.new.steps.items c.push-in_default.new.self.items c.in-Bin.op _ _ _
          c.in_ok-left-in-Bin.ensures.small c.in_ok-right-in_default.ensures.small c.in_ok-right-in_default.ensures.steps c.in_ok-push-in_default.ensures.items c.max-in_default.ensures;
      fits = subst (λ e. ExpressionFits (expression_of e)) (sym e)
          (subst (λ x. ExpressionFits (expression_of x)) c.deref-in-Bin.ensures c.in_ok-left-in-Bin.ensures.fits, subst (λ x. ExpressionFits (expression_of x)) c.deref-in_default.ensures c.in_ok-right-in_default.ensures.fits);
    }
