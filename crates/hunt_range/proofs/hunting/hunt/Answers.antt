use Rattle.std.proofs.Common.{rules, ◌≡◌, ℕ, Ok, List, ◌++◌, length, take, drop, All, sym, ap, ◌∙◌, subst}
use Rattle.std.specs.List.{AllZip}
use Rattle.std.proofs.Math.Seq.{take-append_seam}
use Rattle.std.proofs.lemmas.List.Elements.{length_all_zip}
use Rattle.hunt_range.specs.declared.hunter.Hunter.{Hunter}
use Rattle.hunt_range.specs.inner.Hunters.{HasHuntedRuns, HasWorked, AreAll}
use Rattle.hunt_range.proofs.Pairs.{all_worked, all_hunted}
use Rattle.hunt_range.proofs.hunting.hunt.Goals as goal

-- the hunters that the threads left are the whole vector
left : (len : ℕ) (R : Hunter → Hunter → Type 0) (old new : List Hunter) → len ≡ length old → AllZip R old new → take len (new ++ drop (length new) old) ≡ new
left len R old new wide z = ap (λ (n : ℕ). take n (new ++ drop (length new) old)) (wide ∙ length_all_zip R old new z) ∙ take-append_seam new (drop (length new) old)

pub close_both-requires-clause-all : goal.close_both-requires-clause-all
close_both-requires-clause-all g c κs within =
    let R = HasWorked (HasHuntedRuns c.args.s.now c.args.l.now c.args.range.now c.args.want.now) in
    let old : List Hunter = c.in_ok-hunters.hunters.items in
    let new : List Hunter = c.run_all.new.hunters in
    let worked : AllZip R old new = subst (λ (l : List Hunter). AllZip R l new) c.as_mut_slice.ensures.value c.run_all.ensures in
    let wide : c.in_ok-hunters.hunters.len ≡ length old = search rules in
    subst (AreAll c.in_ok-board.board c.in_ok-least.least) (sym (left c.in_ok-hunters.hunters.len R old new wide worked)) (all_worked c.in_ok-board.board c.in_ok-least.least (HasHuntedRuns c.args.s.now c.args.l.now c.args.range.now c.args.want.now) old new worked c.in_ok-hunters.ensures.all)

pub close_both-requires-clause-hunted : goal.close_both-requires-clause-hunted
close_both-requires-clause-hunted g c κs within =
    let R = HasWorked (HasHuntedRuns c.args.s.now c.args.l.now c.args.range.now c.args.want.now) in
    let old : List Hunter = c.in_ok-hunters.hunters.items in
    let new : List Hunter = c.run_all.new.hunters in
    let worked : AllZip R old new = subst (λ (l : List Hunter). AllZip R l new) c.as_mut_slice.ensures.value c.run_all.ensures in
    let wide : c.in_ok-hunters.hunters.len ≡ length old = search rules in
    subst (All (λ (h : Hunter). h.done ≡ Ok tt → HasHuntedRuns c.args.s.now c.args.l.now c.args.range.now c.args.want.now h.pass h.bid)) (sym
    (left c.in_ok-hunters.hunters.len R old new wide worked)) (all_hunted (HasHuntedRuns c.args.s.now c.args.l.now c.args.range.now c.args.want.now) old new worked)
