use Rattle.std.proofs.Common.{rules, ◌≡◌, ℕ, ◌<◌, List, [], ◌∷◌, ◌++◌, length, map, append_assoc, refl, sym, ap, ◌∙◌, subst, arith}
use mathlib.Core.Option.{some}
use Rattle.passes.specs.Views.{views_joined}
use Rattle.passes.proofs.Elements.{all_pop, nothing_left, word_is}
use Rattle.passes.proofs.Made.{some_joined, joined_more}
use Rattle.passes.proofs.boards.close_board.Goals as goal

pub unreachable-requires : goal.unreachable-requires
unreachable-requires g c = let v : length c.args.passes.items ≡ 0 = let e = c.in_default.ensures.cases.0 in search rules in let some_pass = c.requires.some in omega arith

pub loop-pass-init : goal.loop-pass-init
loop-pass-init g c =
    let p = c.in-Some.last in
    let is = c.in-Some.ensures.items in
    let s = c.into_seat-seat.ensures in
    let a = all_pop (λ (q : g.row.P.Denot). g.P.Seated.table q ≡ c.args.table.shared.table_id) c.args.passes.items c.pop.new.self.items p is c.requires.table in (
      p ∷ [],
      record {
        same = refl;
        seat = s.seat.0 ∙ a.1;
        some = omega arith;
        view = s.seat.1;
        numbers = subst (λ (v : g.row.V.Denot). 0 < length (g.V.View.passes v).numbers) (sym (ap (λ (m : g.row.V.Denot × List (ℕ × Unit {0})). m.0) s.seat.1)) s.numbers;
        all = is;
        tables = a.0;
      },
    )

pub join_seat-requires : goal.join_seat-requires
join_seat-requires g c =
    let i = c.loop-pass.invariant.1 in
    let p = c.in-Some-pop.pass in
    let s = c.into_seat.ensures in
    let a = all_pop (λ (q : g.row.P.Denot). g.P.Seated.table q ≡ c.args.table.shared.table_id) c.loop-pass.passes.items c.pop-in-loop-pass.new.self.items p c.in-Some-pop.ensures.items i.tables in
    let numbers = subst (λ (v : g.row.V.Denot). 0 < length (g.V.View.passes v).numbers) (sym (ap (λ (m : g.row.V.Denot × List (ℕ × Unit {0})). m.0) s.seat.1)) s.numbers in (
      i.seat,
      s.seat.0 ∙ a.1,
      ap (λ (m : g.row.V.Denot × List (ℕ × Unit {0})). m.1) s.seat.1,
      (let w = c.requires.words in omega arith),
      c.requires.joins c.loop-pass.seat.id c.into_seat.result.id c.loop-pass.seat.me.0 c.into_seat.result.me.0 i.numbers numbers,
    )

pub loop-pass-preserved : goal.loop-pass-preserved
loop-pass-preserved g c =
    let gone = c.loop-pass.invariant.0 in
    let i = c.loop-pass.invariant.1 in
    let p = c.in-Some-pop.pass in
    let before = c.loop-pass.passes.items in
    let after = c.pop-in-loop-pass.new.self.items in
    let is = c.in-Some-pop.ensures.items in
    let s = c.into_seat.ensures in
    let j = c.join_seat.ensures in
    let a = all_pop (λ (q : g.row.P.Denot). g.P.Seated.table q ≡ c.args.table.shared.table_id) before after p is i.tables in
    let both = ap (λ (m : g.row.V.Denot × List (ℕ × Unit {0})). m.0) j.2 in (
      p ∷ gone,
      record {
        same = refl;
        seat = j.0 ∙ i.seat;
        some = omega arith;
        view = j.2 ∙ (λ k. (g.V.View.joined (i.view k).0 (s.seat.1 k).0, (i.view k).1)) ∙ ap (λ (v : g.row.V.Denot). (v, [])) (joined_more g.V.View.joined g.V.View.spent g.P.Seated.view p gone i.some);
        numbers = subst (λ (v : g.row.V.Denot). 0 < length (g.V.View.passes v).numbers) (sym both)
            (some_joined g.V.View.passes g.V.View.makes g.V.View.made_by g.V.View.joined g.V.View.spent g.V.View.numbered c.loop-pass.seat.me.0 c.into_seat.result.me.0 i.numbers);
        all = i.all ∙ ap (λ (l : List g.row.P.Denot). l ++ gone) is ∙ append_assoc after (p ∷ []) gone;
        tables = a.0;
      },
    )

pub free-requires : goal.free-requires
free-requires g c k h = let n = c.close_with-closed.ensures.counts in let z = c.requires.slots in absurd (omega arith)

pub returns : goal.returns
returns g c =
    let gone = c.loop-pass.invariant.0 in
    let i = c.loop-pass.invariant.1 in
    let f = c.close_with-closed.ensures.values.2 in
    let none_left : c.loop-pass.passes.items ≡ [] = nothing_left _ (let e = c.in_default-pop.ensures.cases.0 in search rules) in
    let all : c.args.passes.items ≡ gone = i.all ∙ ap (λ (l : List g.row.P.Denot). l ++ gone) none_left in (
      f.0,
      c.loop-pass.seat.id,
      (f.1.0, f.1.1 ∙ ap some (ap (λ (m : g.row.V.Denot × List (ℕ × Unit {0})). m.0) i.view ∙ ap (λ (l : List g.row.P.Denot). views_joined g.V.View.joined g.V.View.spent (map g.P.Seated.view l)) (sym all))),
      word_is f.0.words _ c.word-word.result f.2 c.word-word.ensures,
    )
