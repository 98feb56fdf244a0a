use Rattle.std.proofs.Common.{◌<◌, sym, subst}
use Rattle.std.specs.List.{All}
use Rattle.weighted_roll.proofs.Tabled.{after_small}
use Rattle.weighted_roll.proofs.table.Table.unroll.Goals as goal

pub double-requires-clause-below : goal.double-requires-clause-below
double-requires-clause-below c =
    let s = c.args.self.now in
    subst (λ x. All (λ r. r < s.whole) x) (sym c.loop-t.invariant) (after_small s.whole c.loop-t.t s.weights.items s.below)
