use Rattle.std.proofs.Common.{sym, subst, ◌∙◌}
use Rattle.visit_finder.specs.inner.Pivots.{Renews}
use Rattle.visit_finder.proofs.Renewals.{renews_none, renews_more}
use Rattle.visit_finder.proofs.solving.Left.replace.Goals as goal

pub loop-target-init : goal.loop-target-init
loop-target-init c = record {
  next = tt;
  finite = tt;
  renews = renews_none c.args.moduli.now c.args.state c.args.leaves.now c.args.column.now c.args.self.now.columns.entries;
}

pub renew-requires-clause-columns : goal.renew-requires-clause-columns
renew-requires-clause-columns c = c.loop-target.invariant.renews.forms c.requires.columns

pub loop-target-preserved : goal.loop-target-preserved
loop-target-preserved c = record {
  next = tt;
  finite = tt;
  renews =
      subst (λ new. Renews c.args.moduli.now c.args.state c.args.leaves.now c.args.column.now c.args.self.now.columns.entries new) (sym (c.rank.ensures ∙ c.stand_where_more.ensures))
      (renews_more c.args.moduli.now c.args.state c.args.leaves.now c.args.column.now _ _ _ c.loop-target.invariant.renews c.in_ok-renew.ensures);
}
