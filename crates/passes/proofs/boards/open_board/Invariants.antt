use Rattle.std.proofs.Common.{◌≡◌, ◌-◌, [], ◌∷◌, ◌++◌, All, map}
use Rattle.passes.specs.Numbering.{stands_for}
use Rattle.passes.specs.Views.{views_made, EachMade}
use Rattle.passes.proofs.boards.open_board.Given as goal

-- as many passes are made as the first view counts, and the views so far and those to come are all
abbrev pub invariant-loop : goal.invariant-loop
invariant-loop g l =
    let view = g.P.Seated.view in
    let makes = g.V.View.makes in
    let made_by = g.V.View.made_by in
    record {
      same : l.table ≡ l.initial.table;
      seat : l.first.table_id ≡ l.table.shared.table_id;
      holds_none : l.first.me.1 ≡ [];
      numbers : g.V.View.passes l.first.me.0 ≡ stands_for (0 ∷ []) l.counter;
      fresh : EachMade makes made_by g.P.Seated.fresh (l.workers - l.counter) l.first.me.0;
      tables : All (λ (p : g.row.P.Denot). g.P.Seated.table p ≡ l.table.shared.table_id) l.passes.items;
      views : map view l.passes.items ++ views_made makes made_by (l.workers - l.counter) l.first.me.0 ≡ views_made makes made_by (l.workers - 1) (g.R.TableRule.first l.about);
    }
