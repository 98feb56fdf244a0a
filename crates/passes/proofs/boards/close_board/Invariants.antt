use Rattle.std.proofs.Common.{◌≡◌, ◌<◌, List, [], ◌++◌, length, All, map}
use Rattle.passes.specs.Views.{views_joined}
use Rattle.passes.proofs.boards.close_board.Given as goal

-- the seat has what the passes had that are no longer in the list
abbrev pub invariant-loop-pass : goal.invariant-loop-pass
invariant-loop-pass g l =
    let last = λ (gone : List g.row.P.Denot). views_joined g.V.View.joined g.V.View.spent (map g.P.Seated.view gone) in
    (gone : List g.row.P.Denot)
    × record {
      same : l.table ≡ l.initial.table;
      seat : l.seat.table_id ≡ l.table.shared.table_id;
      some : 0 < length gone;
      view : l.seat.me ≡ (last gone, []);
      numbers : 0 < length (g.V.View.passes l.seat.me.0).numbers;
      all : l.fn.passes.items ≡ l.passes.items ++ gone;
      tables : All (λ (p : g.row.P.Denot). g.P.Seated.table p ≡ l.table.shared.table_id) l.passes.items;
    }

abbrev pub decreases-loop-pass : goal.decreases-loop-pass
decreases-loop-pass g l = goal.left-loop-pass g l
