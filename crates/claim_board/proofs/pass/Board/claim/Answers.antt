use Rattle.std.proofs.Common.{rules, ◌≡◌, ℕ, ◌<◌, Bool, true, cond, [], ◌∷◌, get_or, sym, ap, ◌∙◌, subst, arith}
use Rattle.claim_board.specs.declared.hand.Hand.{Hand}
use Rattle.passes.specs.Numbers.{ascends}
use Rattle.claim_board.specs.Views.{took}
use Rattle.claim_board.proofs.Keeps.{claims}
use Rattle.passes.proofs.Times.{ascends-snoc}
use Rattle.claim_board.proofs.pass.Board.claim.Goals as goal

pub fetch_add-drawn-requires : goal.fetch_add-drawn-requires
fetch_add-drawn-requires c = let b = c.args.self.now in let p = c.args.pass.now in let v : Hand = p.seat.me.0 in
    let told = b.told in let few = b.few in (
      c.requires.0,
      search rules,
      claims b.table.shared.key _ _ _ (get_or v.passes.numbers 0 0) (omega arith) (omega arith) (c.requires.1 ∙ sym b.told.0) p.single
          (p.ended ∙ ap (λ (x : Bool). cond x v.passes.numbers []) c.if-pass.false),
    )

pub invariant_of-pass : goal.invariant_of-pass
invariant_of-pass c = let p = c.args.pass.now in let v : Hand = p.seat.me.0 in let n : ℕ = c.fetch_add-drawn.result in let d = c.fetch_add-drawn.ensures.2 in
    let inside : n < v.blocks = subst (λ (z : ℕ). n < z) (sym c.requires.1) c.if-drawn-self.true in
    let is : c.fetch_add-drawn.new.seat.me.0 ≡ took n v = d.0.1 inside in record {
      no_slot = d.1 ∙ p.no_slot;
      single = subst (λ (z : Hand). z.passes.numbers ≡ get_or z.passes.numbers 0 0 ∷ []) (sym is) p.single;
      ended = subst (λ (z : Hand). z.ended ≡ cond p.had_none z.passes.numbers []) (sym is) p.ended;
      ascending = subst (λ (z : Hand). ascends z.dealt ≡ true) (sym is) (ascends-snoc v.dealt n p.ascending d.0.0);
    }
