use Rattle.std.proofs.Common.{map, subst}
use Rattle.visit_finder.specs.Equations.{AreKnown}
use Rattle.visit_finder.specs.Exact.{turns_within}
use Rattle.visit_finder.specs.Multiples.{AreOfTurns}
use Rattle.visit_finder.proofs.Visits.{visits_at_place, if_both}
use Rattle.visit_finder.proofs.Walks.{same_modulus}
use Rattle.visit_finder.proofs.turns.Turns.visits_at.Goals as goal

pub returns-clause-visits : goal.returns-clause-visits
returns-clause-visits c =
    let before = c.args.moduli.now in
    let mid = c.parts_at.new.moduli in
    let after = c.solved.new.moduli in
    let parts = c.in_ok-parts.parts.entries in
    let of = c.in_ok-parts.ensures.parts in
    let states = map (λ e. e.0) c.args.leaving.now.entries in
    let turns = c.args.self.now in
    let begun = c.args.entered.entries in
    if_both c.solved.result _ _ _ (λ found known forms entered place within kept.
    let same = same_modulus mid after place c.solved.ensures.loses in
    visits_at_place mid _ place states turns begun parts found.entries same
    (subst (λ m. AreOfTurns m place (turns_within states turns) parts) same (of.parts_of place within (c.solved.ensures.loses.1 place kept)))
    (subst (λ states. AreKnown mid place begun parts states found.entries) c.in_ok-states.ensures.states (known place within kept))
    (λ s r there. forms s r there place within)) c.solved.ensures.known c.solved.ensures.forms
