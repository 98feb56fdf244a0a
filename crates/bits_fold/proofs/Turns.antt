-- One turn of a loop, as the code checks it.
use Rattle.std.proofs.Common.{◌≡◌, ◌<◌, Bool, true, [], ◌++◌, Some, refl, sym, ap, ◌∙◌, subst, arith}
use Rattle.numbers.specs.Arithmetic.{sum_of}
use Rattle.numbers.proofs.Divisors.{equal_trans, product_pos}
use Rattle.gcl_core.specs.meaning.Bounds.{BlockIsWeighed}
use Rattle.gcl_core.specs.meaning.Syntax.{Statements}
use Rattle.gcl_core.specs.meaning.Value.{State, Value}
use Rattle.gcl_core.specs.weighing.Fractions.{Fraction, plus}
use Rattle.gcl_core.specs.weighing.WeightedEnds.{sure}
use Rattle.table_flow.specs.Tables.{Table, holds, fails, only}
use Rattle.table_flow.specs.Counts.{kept_if, stopped, all_kept, none_stopped}
use Rattle.mass_fold.specs.declared.ended.Ended.{Ended}
use Rattle.mass_fold.specs.inner.Amounts.{Entries}
use Rattle.mass_fold.specs.inner.Ended.{rows_of}
use Rattle.mass_fold.specs.inner.Steps.{StepsTo}
use Rattle.table_flow.proofs.EqualFractions.{equal_plus}
use Rattle.unlimited_law.specs.Alike.{AreFractions, Alike}
use Rattle.unlimited_law.specs.Settling.{total}
use Rattle.unlimited_law.proofs.BlockLimits.{behind_fractions}
use Rattle.unlimited_law.proofs.ByState.{kept_fractions}
use Rattle.unlimited_law.proofs.Likeness.{alike_trans}
use Rattle.exact_fold.specs.inner.Settled.{as_table, AreAbove}
use Rattle.exact_fold.specs.inner.Turning.{inside, outside, keys_in, Alone, AllInside}
use Rattle.exact_fold.proofs.SameLists.{alike_refl, alike_sym, alike_append}
use Rattle.exact_fold.proofs.Steps.{guarded, merged_alike}
use Rattle.exact_fold.proofs.Turns.{only_parts, within_inside, all_within, left}
use Rattle.bits_law.specs.Reading.{AreSilent, LoopReads, TurnCosts, BlockCosts}
use Rattle.bits_law.proofs.BlockTends.{block_some}
use Rattle.bits_law.proofs.TurnTends.{turn_some}
use Rattle.bits_fold.specs.Counted.{price_of}
use Rattle.bits_fold.specs.declared.counted.Counted.{Counted}
use Rattle.bits_fold.specs.declared.counted.Counted.TheVariants as counted
use Rattle.bits_fold.specs.inner.Reading.{WeighsTo, ReadsFrom}
use Rattle.bits_fold.specs.inner.Turning.{IsSilent, HasVisits, VisitsFrom, MayBegin}
use Rattle.bits_fold.proofs.SameReads.{turn_from}
use Rattle.bits_fold.proofs.Steps.{no_end, no_end_fractions}
use Rattle.bits_fold.proofs.Sums.{sum_is}
use Rattle.bits_law.specs.Price.{Price}

-- ---- by a price
module _ (price : Price) where
  module _ (v : State → Value) (a : Statements) where
    abbrev Body : Table → Table → Fraction → Type 0
    Body = TurnCosts price.turns (BlockCosts price a)

    pub turn_reads : (D es vs ns all seen kept on exits copy : Entries) (E F : Ended) (bits : Fraction) → BlockIsWeighed a → AreFractions (rows_of E) → AreAbove vs → vs ≡ copy → on ≡ copy → kept ≡ seen → ReadsFrom Body vs ns bits →
        ((E : Ended) → StepsTo all_kept none_stopped es ns E all E) → ((E : Ended) → StepsTo (kept_if (outside D)) none_stopped [] all E seen E) →
        StepsTo (kept_if (holds v)) (stopped v) [] seen E on F → StepsTo (kept_if (fails v)) (stopped v) [] seen E exits F → VisitsFrom v Body D es kept exits bits
    turn_reads D es vs ns all seen kept on exits copy E F bits wa u av ec eo ek body merge leave d c h =
        let p = body av in
        let m = merged_alike es ns all E merge h p.above u in
        let l = left (outside D) all seen E leave m.above u in
        let g = guarded v seen on exits E F d c l.above u in
        let M = as_table all in
        let V = as_table seen in
        let X = only (inside D) M in
        let n = as_table ns in
        let fm = m.alike.first in
        let same_visits : Alike (as_table vs) (only (holds v) V) = subst (λ z. Alike (as_table z) (only (holds v) V)) (eo ∙ sym ec) g.first_alike in
        let x = alike_append l.alike (alike_refl X (kept_fractions (inside D) M fm)) in
        subst (λ z. HasVisits v Body D es z exits bits) (sym ek) (record {
          visits_above = l.above;
          exits_above = g.second_above;
          visits = (
            n,
            X,
            turn_from price a wa (only (holds v) V) (as_table vs) n bits (alike_sym same_visits) p.reads,
            alike_trans (V ++ X) M (as_table es ++ n) (alike_trans (V ++ X) (only (outside D) M ++ X) M x (only_parts (inside D) M fm)) m.alike,
            within_inside D M,
          );
          exits = g.second_alike;
        })

    -- the loop begun with the visits, and with more
    pub may_begin : (D vs ms all again rest : Entries) (most : Fraction) → AreAbove ms → ((E : Ended) → StepsTo all_kept none_stopped vs ms E all E) → VisitsFrom v Body D all again rest most → MayBegin v Body D vs
    may_begin D vs ms all again rest most above merge second h =
        let m = merged_alike vs ms all no_end merge h above no_end_fractions in
        let s = second m.above in
        let o = s.visits in
        let V = as_table all in
        let W = as_table vs ++ as_table ms in (
          as_table ms,
          as_table again,
          most,
          (o.0, o.1, o.2, alike_trans (as_table again ++ o.1) (V ++ o.0) (W ++ o.0) o.3 (alike_append m.alike (alike_refl o.0 (behind_fractions V o.0 (o.3).second))), o.4),
        )

    -- visits, and visits of the loop begun with them
    pub loop_reads : (D es vs xs : Entries) (bits : Fraction) → AreSilent v Body (keys_in D) → VisitsFrom v Body D es vs xs bits → MayBegin v Body D vs → ReadsFrom (LoopReads v Body) es xs bits
    loop_reads D es vs xs bits silent first second h =
        let f = first h in
        let o = f.visits in
        let some = turn_some (BlockCosts price a) price.turns (block_some price a) _ _ bits o.2 in
        record {
          above = f.exits_above;
          reads = (keys_in D, as_table vs, bits, silent, o, second f.visits_above, record { next = f.exits; equal = refl; fraction = omega (arith, some) });
        }

    pub state_silent : (D one ns : Entries) (s : State) (bits : Fraction) → BlockIsWeighed a → holds v s ≡ true → Alone s one → ReadsFrom Body one ns bits → bits.0 ≡ 0 → AllInside D ns → IsSilent v Body (keys_in D) s
    state_silent D one ns s bits wa h alone body none all =
        let p = body alone.0 in
        (h, as_table ns, bits, turn_from price a wa (sure s) (as_table one) (as_table ns) bits (alike_sym alone.1) p.reads, none, all_within D ns all)

  -- where each turn counts 1
  pub turn_counts : (a : Statements) (es fs : Entries) (weight within bits : Fraction) → WeighsTo es weight → ReadsFrom (BlockCosts price a) es fs within → sum_of weight within ≡ Some bits → ReadsFrom (TurnCosts true (BlockCosts price a)) es fs bits
  turn_counts a es fs weight within bits w r s h =
      let o = r h in
      let l = w h in
      let I = total (as_table es) in
      let ws : 0 < weight.1 = let z = l.0 in omega arith in
      let ys = block_some price a _ _ within o.reads in
      let t = sum_is weight within bits ws ys s in
      record {
        above = o.above;
        reads = (
          within,
          o.reads,
          equal_trans bits (plus weight within) (plus I within) (product_pos weight.1 within.1 ws ys) t.equal (equal_plus weight I within within l.1 refl),
          let z = t.some in omega arith,
        );
      }

  pub turn_as : (what : Counted) (a : Statements) (es fs : Entries) (bits : Fraction) → what ≡ counted.Turns → ReadsFrom (TurnCosts true (BlockCosts price a)) es fs bits → ReadsFrom (TurnCosts (price_of what).turns (BlockCosts price a)) es fs bits
  turn_as what a es fs bits e h = subst (λ (b : Bool). ReadsFrom (TurnCosts b (BlockCosts price a)) es fs bits) (sym (ap (λ w. (price_of w).turns) e)) h
