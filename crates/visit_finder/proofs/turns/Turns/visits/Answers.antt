use Rattle.std.proofs.Common.{rules, ◌≡◌, ℕ, ◌<◌, false, map, subst}
use Rattle.std.proofs.lemmas.Result.{IfOk-weaker, IfErr-weaker}
use Rattle.visit_finder.specs.Places.{is_lost}
use Rattle.visit_finder.specs.Exact.{entries_within}
use Rattle.visit_finder.specs.Multiples.{AreOfEntries}
use Rattle.visit_finder.proofs.Walks.{same_modulus}
use Rattle.visit_finder.proofs.OnlyVisits.{AllFound, are_only, have_none}
use Rattle.visit_finder.proofs.turns.Turns.visits.Goals as goal

none_lost : (c : goal.After-drop-leaving-then-hold) → (place : ℕ) → place < 5 → is_lost c.visits_at.new.moduli place ≡ false
none_lost c = search rules

all_found : (c : goal.After-drop-leaving-then-hold) →
    AllFound c.visits_at.new.moduli (map (λ e. e.0) c.in_ok-leaving.leaving.entries) c.args.self.now c.args.entered.now.items c.in_ok-begun.begun.entries c.in_ok-visits.visits.entries
all_found c =
    let states = map (λ e. e.0) c.in_ok-leaving.leaving.entries in
    let entries = c.args.entered.now.items in
    let begun = c.in_ok-begun.begun.entries in
    record {
      count = c.fractions.ensures.places;
      closed = c.in_ok-leaving.ensures.closed;
      entered = λ place within.
          subst (λ m. AreOfEntries m place (entries_within states entries) begun) (same_modulus c.entered_at.new.moduli c.visits_at.new.moduli place c.in_ok-visits.ensures.loses)
          (c.in_ok-begun.ensures.begun.begun_of place within (c.in_ok-visits.ensures.loses.1 place (none_lost c place within)));
      visited = λ place within. c.in_ok-visits.ensures.visits c.in_ok-begun.ensures.begun.forms place within (none_lost c place within);
    }

pub returns-then-hold-clause-only : goal.returns-then-hold-clause-only
returns-then-hold-clause-only c = IfOk-weaker c.fractions.result _ _ (λ found h. are_only _ _ _ _ _ _ (all_found c) found.entries h) c.fractions.ensures.fractions

pub returns-then-hold-clause-none : goal.returns-then-hold-clause-none
returns-then-hold-clause-none c = IfErr-weaker c.fractions.result _ _ (λ e h is. have_none _ _ _ _ _ _ (all_found c) (h is)) c.fractions.ensures.none
