use Rattle.std.proofs.Common.{rules, ◌≡◌, inl, ℕ, ◌+◌, ◌≤◌, true, Contains, nat_cmp, length, length-append, slice_index, Bool, BTreeMap, List, ◌++◌, ◌∷◌, [], refl, sym, ap, subst, subst₂, ◌∙◌, arith}
use Rattle.std.specs.Global.{Vec}
use Rattle.std.specs.BTreeMap.{ContainsKey}
use Rattle.visit_finder.specs.Sources.{sources_of}
use Rattle.visit_finder.proofs.Closed.{AreSettling, found_items, none_found, finds_one, waits_more, settling_begins, settling_passes, settling_finds, settling_ends, apart_from_removed, none_waits, count_under, count_removed, one_popped}
use Rattle.visit_finder.proofs.turns.left.Goals.{then-not-contains+in_ok-insert+in_ok-push, else-not-contains, then-not-contains_key+in_ok-insert-2+in_ok-push-2, else-not-contains_key}
use Rattle.visit_finder.proofs.turns.left.Goals as goal

pub loop-number-init : goal.loop-number-init
loop-number-init c = λ s found. absurd (none_found c.new-leaving.result c.new-leaving.ensures.empty s found)

pub loop-number-preserved : goal.loop-number-preserved
loop-number-preserved c =
    let All = λ (leaving : BTreeMap ℕ Bool) (waiting : Vec ℕ). (s : ℕ) → ContainsKey nat_cmp leaving s → Contains waiting.items s in
    elim c.if-not-contains.branch [
      | then-not-contains+in_ok-insert+in_ok-push w ↦ subst₂ All (sym w.leaving-is) (sym w.waiting-is)
          (subst (λ (xs : List ℕ). (s : ℕ) → ContainsKey nat_cmp w.insert.new.self s → Contains xs s) (sym w.in_ok-push.ensures.items)
          (λ s. waits_more (ContainsKey nat_cmp c.loop-number.leaving) (ContainsKey nat_cmp w.insert.new.self) c.loop-number.number-counter
          (finds_one c.loop-number.leaving w.insert.new.self c.loop-number.number-counter true w.in_ok-insert.ensures.updates) c.loop-number.waiting.items s (c.loop-number.invariant s)))
      | else-not-contains w ↦ subst₂ All (sym w.leaving-is) (sym w.waiting-is) c.loop-number.invariant
    ]

pub loop-to-init : goal.loop-to-init
loop-to-init c = λ s. inl (refl, c.loop-number.invariant s)

pub loop-from-init : goal.loop-from-init
loop-from-init c = record {
  settling = settling_begins (ContainsKey nat_cmp c.loop-to.leaving) c.loop-to.waiting.items (sources_of c.loop-to.sources.entries) (sources_of c.args.sources.entries)
      c.in-Some.to c.pop.new.self.items c.deref-from-items.result.now (sources_of c.remove.new.self.entries) c.in-Some.ensures.items
      (c.deref-from-items.ensures.value ∙ ap found_items c.in-Some-remove.ensures.value) (apart_from_removed c.in-Some.to c.loop-to.sources c.remove.new.self c.remove.ensures.updates) c.loop-to.invariant;
  count = omega arith;
}

pub loop-from-preserved : goal.loop-from-preserved
loop-from-preserved c =
    let list = c.deref-from-items.result.now in
    let i = c.loop-from.from-index in
    let from : ℕ = slice_index list i in
    let now = sources_of c.remove.new.self.entries in
    let first = sources_of c.args.sources.entries in
    let Found = ContainsKey nat_cmp c.loop-from.leaving in
    let IsKept = λ (leaving : BTreeMap ℕ Bool) (waiting : Vec ℕ). record {
      settling : AreSettling (ContainsKey nat_cmp leaving) waiting.items now first list (i + 1);
      count : length waiting.items ≤ length c.pop.new.self.items + (i + 1);
    } in
    elim c.if-not-contains_key.branch [
      | then-not-contains_key+in_ok-insert-2+in_ok-push-2 w ↦
          let leaving = w.insert-then-not-contains_key.new.self in
          let pushed : w.push-then-not-contains_key.new.self.items ≡ c.loop-from.waiting.items ++ from ∷ [] = w.in_ok-push-2.ensures.items in
          let one = finds_one c.loop-from.leaving leaving from true w.in_ok-insert-2.ensures.updates in
          let more = ap length pushed ∙ length-append c.loop-from.waiting.items (from ∷ []) in
          subst₂ IsKept (sym w.leaving-is) (sym w.waiting-is) (record {
            settling = subst (λ (xs : List ℕ). AreSettling (ContainsKey nat_cmp leaving) xs now first list (i + 1)) (sym pushed)
                (settling_finds Found (ContainsKey nat_cmp leaving) from one c.loop-from.waiting.items now first list i c.loop-from-test.true refl c.loop-from.invariant.settling);
            count = omega (arith, more, c.loop-from.invariant.count);
          })
      | else-not-contains_key w ↦ subst₂ IsKept (sym w.leaving-is) (sym w.waiting-is) (record {
        settling = settling_passes Found c.loop-from.waiting.items now first list i c.loop-from-test.true (sym w.if-not-contains_key.ensures) c.loop-from.invariant.settling;
        count = omega (arith, c.loop-from.invariant.count);
      })
    ]

pub loop-to-smaller-in-Some-remove : goal.loop-to-smaller-in-Some-remove
loop-to-smaller-in-Some-remove c =
    let popped = one_popped c.loop-to.waiting.items c.pop.new.self.items c.in-Some.to c.in-Some.ensures.items in
    let removed = count_removed c.in-Some.to c.loop-to.sources.entries c.remove.new.self.entries c.in-Some-remove.list (sym c.in-Some-remove.ensures.value) c.remove.ensures.entries in
    let read = ap length c.deref-from-items.ensures.value in
    omega (arith, popped, removed, read, c.loop-from.invariant.count, c.loop-from.auto.from-index-end)

pub loop-to-preserved-in-Some-remove : goal.loop-to-preserved-in-Some-remove
loop-to-preserved-in-Some-remove c =
    settling_ends (ContainsKey nat_cmp c.loop-from.leaving) c.loop-from.waiting.items (sources_of c.remove.new.self.entries) (sources_of c.args.sources.entries)
    c.deref-from-items.result.now c.loop-from.from-index c.loop-from-test.false c.loop-from.invariant.settling

pub loop-to-smaller : goal.loop-to-smaller
loop-to-smaller c =
    let popped = one_popped c.loop-to.waiting.items c.pop.new.self.items c.in-Some.to c.in-Some.ensures.items in
    let same = ap count_under c.in_default-remove.ensures.unchanged in
    omega (arith, popped, same)

pub loop-to-preserved : goal.loop-to-preserved
loop-to-preserved c =
    let Found = ContainsKey nat_cmp c.loop-to.leaving in
    let rest = c.pop.new.self.items in
    let now = sources_of c.remove.new.self.entries in
    let first = sources_of c.args.sources.entries in
    settling_ends Found rest now first [] 0 (omega arith)
    (settling_begins Found c.loop-to.waiting.items (sources_of c.loop-to.sources.entries) first c.in-Some.to rest [] now c.in-Some.ensures.items
    (ap found_items c.in_default-remove.ensures.value) (apart_from_removed c.in-Some.to c.loop-to.sources c.remove.new.self c.remove.ensures.updates) c.loop-to.invariant)

pub returns-clause-closed : goal.returns-clause-closed
returns-clause-closed c =
    let none : length c.loop-to.waiting.items ≡ 0 = let e = c.in_default.ensures.cases.0 in search rules in
    none_waits c.loop-to.leaving c.loop-to.waiting.items (sources_of c.loop-to.sources.entries) c.args.sources.entries none c.loop-to.invariant
