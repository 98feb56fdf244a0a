use Rattle.std.proofs.Common.{◌≡◌, ◌∙◌, ◌+◌, suc, take, length, refl, ap, subst, arith}
use Rattle.std.proofs.lemmas.List.{length-take-le}
use Rattle.std.proofs.Math.Seq.{take-length}
use Rattle.gcl_core.specs.text.Names.{with_name}
use Rattle.gcl_core.proofs.DistinctNames.{next_name}
use Rattle.gcl_core.proofs.naming.Names.copy.Goals as goal

pub loop-i-init : goal.loop-i-init
loop-i-init c = record { place = omega arith; copied = c.new-copy.ensures }

pub add-requires : goal.add-requires
add-requires c =
    let e = ap length c.loop-i.invariant.copied in
    let l = length-take-le c.loop-i.i c.args.self.now c.loop-i.invariant.place in
    omega (arith, e, l, c.loop-i-test.true, c.count-i-end.type_inv)

pub loop-i-preserved : goal.loop-i-preserved
loop-i-preserved c =
    let names = c.args.self.now in
    let i = c.loop-i.i in
    record {
      place = omega (arith, c.loop-i-test.true, c.count-i-end.ensures);
      copied = c.in_ok-add.ensures.added ∙ ap (λ known. with_name known c.get.result.now) c.loop-i.invariant.copied ∙ next_name names i c.get.result.now c.differ.ensures c.get.ensures
          ∙ subst (λ n. take (suc i) names ≡ take n names) (let e : suc i ≡ i + 1 = omega arith in e) refl;
    }

pub returns : goal.returns
returns c =
    let names = c.args.self.now in
    let all : c.loop-i.i ≡ length names = omega (arith, c.loop-i.invariant.place, c.loop-i-test.false, c.count-i-end.ensures) in
    c.loop-i.invariant.copied ∙ ap (λ n. take n names) all ∙ take-length names
