use Rattle.std.proofs.Common.{◌≡◌, ℕ, suc, ◌+◌, ◌-◌, List, ◌++◌, All, map, refl, sym, ap, ◌∙◌, subst, arith}
use Rattle.std.proofs.lemmas.List.Elements.{All-nil}
use Rattle.atomic_table.specs.Table.{Splits}
use Rattle.passes.specs.declared.view.Numbering.{Numbering}
use Rattle.passes.specs.Numbering.{stands_for}
use Rattle.passes.specs.Views.{views_made, EachMade}
use Rattle.passes.proofs.Elements.{all_push}
use Rattle.passes.proofs.Made.{next_made, last_made}
use Rattle.passes.proofs.boards.open_board.Goals as goal

pub loop-init : goal.loop-init
loop-init g c =
    let none_yet = c.in_ok-passes.ensures.items in
    let first = c.in_ok-table.ensures.4 in
    let v : c.in_ok-table.first.me.0 ≡ g.R.TableRule.first c.args.about.now = ap (λ (m : g.row.V.Denot × List (ℕ × Unit {0})). m.0) first in
    let At = λ (p : g.row.P.Denot). g.P.Seated.table p ≡ c.in_ok-table.table.shared.table_id in
    record {
      same = refl;
      seat = c.in_ok-table.ensures.2;
      holds_none = ap (λ (m : g.row.V.Denot × List (ℕ × Unit {0})). m.1) first;
      numbers = ap g.V.View.passes v ∙ c.requires.first;
      fresh = subst (λ (u : g.row.V.Denot). EachMade g.V.View.makes g.V.View.made_by g.P.Seated.fresh (c.args.workers - 1) u) (sym v) c.requires.fresh;
      tables = subst (λ (l : List g.row.P.Denot). All At l) (sym none_yet) (All-nil At);
      views = λ i. map g.P.Seated.view (none_yet i) ++ views_made g.V.View.makes g.V.View.made_by (c.args.workers - 1) (v i);
    }

pub split_seat-seat-requires : goal.split_seat-seat-requires
split_seat-seat-requires g c =
    let i = c.loop.invariant in
    let v = c.loop.first.me.0 in
    let below = c.loop-test.true in
    let made_is : (g.V.View.passes v).made ≡ c.loop.counter = ap (λ (p : Numbering). p.made) i.numbers in (
      i.seat,
      (let w = c.in_ok-table.ensures.0 in omega arith),
      subst (λ (k : g.row.K.Denot). Splits (g.R.TableRule.holds k) c.loop.first.id v (g.V.View.makes v) (g.V.View.made_by v)) (sym c.in_ok-table.ensures.5)
          (c.requires.splits c.loop.first.id v (ap (λ (p : Numbering). p.numbers) i.numbers) (omega arith)),
    )

pub of-requires : goal.of-requires
of-requires g c =
    let i = c.loop.invariant in
    let s = c.split_seat-seat.ensures in
    let below = c.loop-test.true in
    let step : c.args.workers - c.loop.counter ≡ suc (c.args.workers - (c.loop.counter + 1)) = omega arith in
    let here = subst (λ (n : ℕ). EachMade g.V.View.makes g.V.View.made_by g.P.Seated.fresh n c.loop.first.me.0) step i.fresh in
    (ap (λ (m : g.row.V.Denot × List (ℕ × Unit {0})). m.1) s.4, subst g.P.Seated.fresh (sym (ap (λ (m : g.row.V.Denot × List (ℕ × Unit {0})). m.0) s.4)) here.0)

pub loop-preserved : goal.loop-preserved
loop-preserved g c =
    let makes = g.V.View.makes in
    let made_by = g.V.View.made_by in
    let i = c.loop.invariant in
    let s = c.split_seat-seat.ensures in
    let v = c.loop.first.me.0 in
    let below = c.loop-test.true in
    let more = c.in_ok-push.ensures.items in
    let next : c.split_seat-seat.new.seat.me.0 ≡ makes v = ap (λ (m : g.row.V.Denot × List (ℕ × Unit {0})). m.0) s.2 in
    let new = c.of.ensures.1 ∙ ap (λ (m : g.row.V.Denot × List (ℕ × Unit {0})). m.0) s.4 in
    let step : c.args.workers - c.loop.counter ≡ suc (c.args.workers - (c.loop.counter + 1)) = omega arith in
    let here = subst (λ (n : ℕ). EachMade makes made_by g.P.Seated.fresh n v) step i.fresh in
    let law = g.V.View.numbered in
    record {
      same = refl;
      seat = s.0 ∙ i.seat;
      holds_none = ap (λ (m : g.row.V.Denot × List (ℕ × Unit {0})). m.1) s.2 ∙ i.holds_none;
      numbers = ap g.V.View.passes next ∙ law.makes v ∙ (λ k. stands_for (i.numbers k).numbers ((i.numbers k).made + 1));
      fresh = subst (λ (u : g.row.V.Denot). EachMade makes made_by g.P.Seated.fresh (c.args.workers - (c.loop.counter + 1)) u) (sym next) here.1;
      tables = all_push (λ (p : g.row.P.Denot). g.P.Seated.table p ≡ c.in_ok-table.table.shared.table_id) c.loop.passes.items c.push.new.self.items _ more i.tables (c.of.ensures.0 ∙ s.3 ∙ i.seat);
      views = next_made makes made_by g.P.Seated.view c.loop.passes.items c.push.new.self.items _ _ _ v _ _ step more new next i.views;
    }

pub of-requires-2 : goal.of-requires-2
of-requires-2 g c =
    let i = c.loop.invariant in
    let stop = c.loop-test.false in
    let none_left : c.args.workers - c.loop.counter ≡ 0 = omega arith in
    (i.holds_none, subst (λ (n : ℕ). EachMade g.V.View.makes g.V.View.made_by g.P.Seated.fresh n c.loop.first.me.0) none_left i.fresh)

pub returns-clause-table : goal.returns-clause-table
returns-clause-table g c =
    let i = c.loop.invariant in
    all_push (λ (p : g.row.P.Denot). g.P.Seated.table p ≡ c.in_ok-table.table.shared.table_id) c.loop.passes.items c.push-2.new.self.items _ c.in_ok-push-2.ensures.items i.tables (c.of-2.ensures.0 ∙ i.seat)

pub returns-clause-views : goal.returns-clause-views
returns-clause-views g c =
    let i = c.loop.invariant in
    let stop = c.loop-test.false in
    let none_left : c.args.workers - c.loop.counter ≡ 0 = omega arith in
    last_made g.V.View.makes g.V.View.made_by g.P.Seated.view c.loop.passes.items c.push-2.new.self.items _ _ c.loop.first.me.0 _ none_left c.in_ok-push-2.ensures.items c.of-2.ensures.1 i.views
