-- Where a block reads for ever: it depends on what the states of a table weigh alone, and what does in a part does in the whole.
use Rattle.std.proofs.Common.{inl, inr, ⊎_elim, ◌≡◌, ◌∙◌, ℕ, zero, suc, ◌-◌, ◌<◌, [], ◌∷◌, ◌++◌, None, refl, sym, subst, append_assoc, append-nil, arith}
use Rattle.std.specs.List.{sum}
use Rattle.numbers.specs.Fraction.{IsEqual}
use Rattle.gcl_core.specs.declared.syntax.Weight.{Weight}
use Rattle.gcl_core.specs.meaning.Arms.{parts_of}
use Rattle.gcl_core.specs.meaning.Bounds.{IsWeight, StatementIsWeighed, BlockIsWeighed, ArmsAreWeighed}
use Rattle.gcl_core.specs.meaning.Syntax.{Expression, Statement, Skip, Set, If, While, Choice, Choose, Uniform, Observe, Statements, done, ◌▸◌, ArmList, no_arm, arm}
use Rattle.gcl_core.specs.meaning.Value.{State, Value, value_of}
use Rattle.gcl_core.specs.weighing.Fractions.{Fraction}
use Rattle.gcl_core.specs.weighing.WeightedEnds.{scaled, class_weight}
use Rattle.table_flow.specs.Tables.{Table, holds, fails, only}
use Rattle.table_flow.specs.Counts.{kept_if, stopped, all_kept, none_stopped}
use Rattle.mass_fold.specs.declared.ended.Ended.{Ended}
use Rattle.mass_fold.specs.inner.Amounts.{Entries}
use Rattle.mass_fold.specs.inner.Ended.{rows_of}
use Rattle.mass_fold.specs.inner.Fold.{SidesTo, WeighedBy}
use Rattle.mass_fold.specs.inner.Steps.{StepsTo}
use Rattle.unlimited_law.specs.Alike.{AreFractions, Alike}
use Rattle.unlimited_law.proofs.BlockLimits.{behind_fractions}
use Rattle.unlimited_law.proofs.ByState.{append_fractions}
use Rattle.unlimited_law.proofs.Integrals.{integral, integral_append}
use Rattle.unlimited_law.proofs.Likeness.{alike_trans}
use Rattle.unlimited_law.proofs.Numbers.{same_sym, same_trans, add_turned}
use Rattle.exact_fold.specs.inner.Settled.{as_table, AreAbove}
use Rattle.exact_fold.proofs.Arms.{side_alike}
use Rattle.exact_fold.proofs.SameLists.{alike_of, alike_refl, alike_sym, alike_append, alike_scaled, alike_only}
use Rattle.exact_fold.proofs.Steps.{above_fractions, guarded, merged_alike}
use Rattle.exact_fold.proofs.Turns.{sides_alike}
use Rattle.bits_law.specs.Forever.{ComesBy, StatementEndless, BlockEndless, ArmsEndless}
use Rattle.bits_law.specs.Reading.{TurnCosts, StatementCosts, BlockCosts}
use Rattle.bits_fold.specs.declared.stop.Stop.{Stop}
use Rattle.bits_fold.specs.declared.stop.Stop.TheVariants as stop
use Rattle.bits_fold.specs.inner.Forever.{StopsFrom, LoopStops, Rounds}
use Rattle.bits_fold.specs.inner.Reading.{ReadsFrom}
use Rattle.bits_fold.proofs.SameReads.{statement_from, turn_from}
use Rattle.bits_fold.proofs.Steps.{no_end, no_end_fractions, RestReads}
use Rattle.bits_law.specs.Price.{Price}

-- ---- a part
-- where the part reads for ever, so does the whole
pub stops_by : {Part Whole : Table → Type 0} (es fs : Entries) (s : Stop) → (AreAbove es → AreAbove fs × (Part (as_table fs) → Whole (as_table es))) → StopsFrom Part fs s → StopsFrom Whole es s
stops_by es fs s f h = record { forever = λ e above. let x = f above in x.1 (h.forever e x.0) }

-- ---- a loop
alike_turned : (I J : Table) → AreFractions I → AreFractions J → Alike (I ++ J) (J ++ I)
alike_turned I J f g =
    alike_of (I ++ J) (J ++ I) (append_fractions I J f g) (append_fractions J I g f)
    (λ F. same_trans (integral_append F I J) (same_trans (add_turned (integral F I) (integral F J)) (same_sym (integral_append F J I))))

-- ---- by a price
module _ (price : Price) where
  -- ---- from a table that weighs the same
  comes_from : (v : State → Value) (a : Statements) → BlockIsWeighed a → (m : ℕ) (I I' T : Table) → Alike I I' → ComesBy v (TurnCosts price.turns (BlockCosts price a)) m I' T → ComesBy v (TurnCosts price.turns (BlockCosts price a)) m I T
  comes_from v a w zero I I' T h o = alike_trans T I' I o (alike_sym h)
  comes_from v a w (suc m) I I' T h o = (
    o.0,
    o.1,
    o.2,
    turn_from price a w (only (holds v) I) (only (holds v) I') o.0 o.2 (alike_only (holds v) h) o.3,
    o.4,
    alike_trans T (I' ++ o.1) (I ++ o.1) o.5 (alike_append (alike_sym h) (alike_refl o.1 (behind_fractions I' o.1 o.5.second))),
  )

  mutual
    statement_forever : (st : Statement) → StatementIsWeighed st → (I I' : Table) → Alike I I' → StatementEndless price st I' → StatementEndless price st I
    statement_forever Skip w I I' h o = o
    statement_forever (Set x e) w I I' h o = o
    statement_forever (Observe e) w I I' h o = o
    statement_forever (Uniform x e) w I I' h o = o
    statement_forever (If e a c) w I I' h o =
        ⊎_elim (λ (x : BlockEndless price a (only (holds (value_of e)) I')). inl (block_forever a w.0 _ _ (alike_only (holds (value_of e)) h) x))
        (λ (x : BlockEndless price c (only (fails (value_of e)) I')). inr (block_forever c w.1 _ _ (alike_only (fails (value_of e)) h) x)) o
    statement_forever (Choice p a c) w I I' h o =
        let some : 0 < p.den = let z = w.0.positive in omega arith in
        let u = class_weight p.den None p.num in
        let l = class_weight p.den None (p.den - p.num) in
        ⊎_elim (λ (x : BlockEndless price a (scaled u I')). inl (block_forever a w.1 _ _ (alike_scaled u some h) x)) (λ (x : BlockEndless price c (scaled l I')). inr (block_forever c w.2 _ _ (alike_scaled l some h) x)) o
    statement_forever (Choose arms) w I I' h o = arms_forever (sum (parts_of arms)) (let z = w.0.positive in omega arith) arms w.1 I I' h o
    statement_forever (While e a) w I I' h o = (o.0, o.1, o.2, o.3, comes_from (value_of e) a w o.0 I I' o.1 h o.4, o.5, o.6)

    pub block_forever : (b : Statements) → BlockIsWeighed b → (I I' : Table) → Alike I I' → BlockEndless price b I' → BlockEndless price b I
    block_forever done w I I' h o = o
    block_forever (st ▸ b) w I I' h o =
        ⊎_elim (λ (x : StatementEndless price st I'). inl (statement_forever st w.0 I I' h x))
        (λ (x : (K : Table) × (read : Fraction) × StatementCosts price st I' K read × BlockEndless price b K). inr (x.0, x.1, statement_from price st w.0 I I' x.0 x.1 h x.2, x.3)) o

    arms_forever : (b : ℕ) → 0 < b → (arms : ArmList) → ArmsAreWeighed arms → (I I' : Table) → Alike I I' → ArmsEndless price b arms I' → ArmsEndless price b arms I
    arms_forever b some no_arm w I I' h o = o
    arms_forever b some (arm p a arms) w I I' h o =
        ⊎_elim (λ (x : BlockEndless price a (scaled (class_weight b None p) I')). inl (block_forever a w.0 _ _ (alike_scaled (class_weight b None p) some h) x)) (λ (x : ArmsEndless price b arms I'). inr (arms_forever b some arms w.1 I I' h x)) o

  pub stops_as : (st st' : Statement) (es : Entries) (s : Stop) → st ≡ st' → StopsFrom (StatementEndless price st') es s → StopsFrom (StatementEndless price st) es s
  stops_as st st' es s p h = subst (λ st. StopsFrom (StatementEndless price st) es s) (sym p) h

  pub branch_stops : (e : Expression) (a c : Statements) (es first second : Entries) (E F : Ended) (s : Stop) → BlockIsWeighed a → AreFractions (rows_of E) → StepsTo (kept_if (holds (value_of e))) (stopped (value_of e)) [] es E first F →
      StepsTo (kept_if (fails (value_of e))) (stopped (value_of e)) [] es E second F → StopsFrom (BlockEndless price a) first s → StopsFrom (StatementEndless price (If e a c)) es s
  branch_stops e a c es first second E F s w u d f =
      stops_by es first s (λ h. let g = guarded (value_of e) es first second E F d f h u in (g.first_above, λ x. inl (block_forever a w _ _ (alike_sym g.first_alike) x)))

  pub other_stops : (e : Expression) (a c : Statements) (es first second : Entries) (E F : Ended) (s : Stop) → BlockIsWeighed c → AreFractions (rows_of E) → StepsTo (kept_if (holds (value_of e))) (stopped (value_of e)) [] es E first F →
      StepsTo (kept_if (fails (value_of e))) (stopped (value_of e)) [] es E second F → StopsFrom (BlockEndless price c) second s → StopsFrom (StatementEndless price (If e a c)) es s
  other_stops e a c es first second E F s w u d f =
      stops_by es second s (λ h. let g = guarded (value_of e) es first second E F d f h u in (g.second_above, λ x. inr (block_forever c w _ _ (alike_sym g.second_alike) x)))

  pub side_stops : (p : Weight) (a c : Statements) (es first second : Entries) (E F : Ended) (s : Stop) → IsWeight p → BlockIsWeighed a → AreFractions (rows_of E) → SidesTo p None es E first second F → StopsFrom (BlockEndless price a) first s →
      StopsFrom (StatementEndless price (Choice p a c)) es s
  side_stops p a c es first second E F s w wa u d =
      stops_by es first s (λ h. let g = sides_alike p es first second E F w d h u in (g.first_above, λ x. inl (block_forever a wa _ _ (alike_sym g.first_alike) x)))

  pub other_side_stops : (p : Weight) (a c : Statements) (es first second : Entries) (E F : Ended) (s : Stop) → IsWeight p → BlockIsWeighed c → AreFractions (rows_of E) → SidesTo p None es E first second F → StopsFrom (BlockEndless price c) second s →
      StopsFrom (StatementEndless price (Choice p a c)) es s
  other_side_stops p a c es first second E F s w wc u d =
      stops_by es second s (λ h. let g = sides_alike p es first second E F w d h u in (g.second_above, λ x. inr (block_forever c wc _ _ (alike_sym g.second_alike) x)))

  -- ---- arms
  abbrev pub ArmsOn : ℕ → ArmList → ArmList → Entries → Type 0
  ArmsOn b all rest es = ArmsEndless price b rest (as_table es) → ArmsEndless price b all (as_table es)

  pub arm_stops : (b p : ℕ) (all rest : ArmList) (a : Statements) (part : Fraction) (es side : Entries) (s : Stop) → 0 < b → BlockIsWeighed a → IsEqual part (class_weight b None 1) → WeighedBy part p es side →
      ArmsOn b all (arm p a rest) es → StopsFrom (BlockEndless price a) side s → StopsFrom (ArmsEndless price b all) es s
  arm_stops b p all rest a part es side s some w e d on =
      stops_by es side s (λ h. let g = side_alike b p part es side some e d h in (g.above, λ x. on (inl (block_forever a w _ _ (alike_sym g.alike) x))))

  -- ---- a sequence
  abbrev pub RestOn : (Table → Type 0) → Statements → Entries → Entries → Type 0
  RestOn Whole b es now = AreAbove es → BlockEndless price b (as_table now) → Whole (as_table es)

  module _ (Reads : Table → Table → Fraction → Type 0) (Whole : Table → Type 0) (b rest : Statements) (st : Statement) (es now : Entries) (bits : Fraction) (p : b ≡ st ▸ rest) (so : RestReads price Reads b es now bits) (on : RestOn Whole b es now) where
    here : AreAbove es → BlockEndless price (st ▸ rest) (as_table now) → Whole (as_table es)
    here h x = on h (subst (λ b. BlockEndless price b (as_table now)) (sym p) x)

    pub rest_on : (gs : Entries) (z : Fraction) → ReadsFrom (StatementCosts price st) now gs z → RestOn Whole rest es gs
    rest_on gs z reads h x = here h (inr (as_table gs, z, (reads (so h).above).reads, x))

    pub rest_stops : (s : Stop) → StopsFrom (StatementEndless price st) now s → StopsFrom Whole es s
    rest_stops s = stops_by es now s (λ h. ((so h).above, λ x. here h (inl x)))

  module _ (v : State → Value) (a : Statements) where
    abbrev Body : Table → Table → Fraction → Type 0
    Body = TurnCosts price.turns (BlockCosts price a)

    comes_some : (m : ℕ) (I T : Table) → ComesBy v Body m I T → AreFractions T
    comes_some zero I T o = o.first
    comes_some (suc m) I T o = o.5.first

    -- some turns from I lead to `now`, and all that they came to, `now` with it, weighs what `all` does
    pub record CameTo (I now all : Table) : Type 0 where
      pub before : Table
      pub sum : Alike all (before ++ now)
      pub onward : (m : ℕ) (U : Table) → ComesBy v Body m now U → (k : ℕ) × (T : Table) × ComesBy v Body k I T × Alike T (before ++ U)

    pub record Coming (es now all : Entries) : Type 0 where
      pub now_above : AreAbove now
      pub all_above : AreAbove all
      pub came : CameTo (as_table es) (as_table now) (as_table all)

    abbrev pub ComesOn : Entries → Entries → Entries → Type 0
    ComesOn es now all = AreAbove es → Coming es now all

    pub comes_start : (es all : Entries) → all ≡ es → ComesOn es es all
    comes_start es all p h =
        subst (Coming es es) (sym p) (record {
          now_above = h;
          all_above = h;
          came = record { before = []; sum = alike_refl _ (above_fractions es h); onward = λ m U c. (m, U, c, alike_refl U (comes_some m (as_table es) U c)) };
        })

    pub comes_next : (es now all on off gs copy all' : Entries) (E F : Ended) (z : Fraction) → BlockIsWeighed a → AreFractions (rows_of E) → StepsTo (kept_if (holds v)) (stopped v) [] now E on F → StepsTo (kept_if (fails v)) (stopped v) [] now E off F →
        ReadsFrom Body on gs z → copy ≡ gs → ((E : Ended) → StepsTo all_kept none_stopped all copy E all' E) → ComesOn es now all → ComesOn es gs all'
    comes_next es now all on off gs copy all' E F z w u d f reads p m so h =
        let o = so h in
        let g = guarded v now on off E F d f o.now_above u in
        let r = reads g.first_above in
        let x = merged_alike all gs all' no_end (subst (λ z. (E : Ended) → StepsTo all_kept none_stopped all z E all' E) p m) o.all_above r.above no_end_fractions in
        let N = as_table now in
        let G = as_table gs in
        let B = o.came.before in
        let gf = above_fractions gs r.above in
        record {
          now_above = r.above;
          all_above = x.above;
          came = record {
            before = B ++ N;
            sum = alike_trans (as_table all') (as_table all ++ G) ((B ++ N) ++ G) x.alike (alike_append o.came.sum (alike_refl G gf));
            onward = λ k U c.
                let fr = append_fractions N U (above_fractions now o.now_above) (comes_some k G U c) in
                let y = o.came.onward (suc k) (N ++ U) (G, U, z, turn_from price a w (only (holds v) N) (as_table on) G z (alike_sym g.first_alike) r.reads, c, alike_refl (N ++ U) fr) in
                (y.0, y.1, y.2, subst (Alike y.1) (sym (append_assoc B N U)) y.3);
          };
        }

    -- all that it came to, as what goes round, and more
    pub comes_round : (es now all : Entries) → ComesOn es now all → Rounds v Body all → LoopStops v Body (BlockEndless price a) es
    comes_round es now all so rounds h =
        let o = so h in
        let x = rounds o.all_above in
        let N = as_table now in
        let y = o.came.onward zero N (alike_refl N (above_fractions now o.now_above)) in
        (y.0, y.1, x.0, x.1, y.2, alike_trans y.1 (o.came.before ++ N) (x.0 ++ x.1) y.3 (alike_trans (o.came.before ++ N) (as_table all) (x.0 ++ x.1) (alike_sym o.came.sum) x.2), inl x.3)

    -- the body reads for ever from where it came to
    pub comes_forever : (es now all on off : Entries) (E F : Ended) → BlockIsWeighed a → AreFractions (rows_of E) → StepsTo (kept_if (holds v)) (stopped v) [] now E on F → StepsTo (kept_if (fails v)) (stopped v) [] now E off F →
        ComesOn es now all → StopsFrom (BlockEndless price a) on stop.ReadsForever → LoopStops v Body (BlockEndless price a) es
    comes_forever es now all on off E F w u d f so stops h =
        let o = so h in
        let g = guarded v now on off E F d f o.now_above u in
        let N = as_table now in
        let B = o.came.before in
        let nf = above_fractions now o.now_above in
        let y = o.came.onward zero N (alike_refl N nf) in (
          y.0,
          y.1,
          N,
          B,
          y.2,
          alike_trans y.1 (B ++ N) (N ++ B) y.3 (alike_turned B N (before_fractions B N y.3.second) nf),
          inr (block_forever a w (only (holds v) N) (as_table on) (alike_sym g.first_alike) (stops.forever refl g.first_above)),
        )
      where
        before_fractions : (I J : Table) → AreFractions (I ++ J) → AreFractions I
        before_fractions [] J h = tt
        before_fractions (e ∷ I) J h = (h.0, before_fractions I J h.1)

    -- one turn that leads the table to itself, and is a part of all
    pub goes_round : (all vs copy more on off gs rest sum : Entries) (E F : Ended) (z : Fraction) → BlockIsWeighed a → AreFractions (rows_of E) → AreAbove vs → AreAbove rest → copy ≡ vs → more ≡ vs → ((E : Ended) → StepsTo all_kept none_stopped more rest E sum E) → sum ≡ all →
        StepsTo (kept_if (holds v)) (stopped v) [] vs E on F → StepsTo (kept_if (fails v)) (stopped v) [] vs E off F → ReadsFrom Body on gs z → gs ≡ copy → 0 < z.0 → Rounds v Body all
    goes_round all vs copy more on off gs rest sum E F z w u av ar same twice m p d f reads s some h =
        let x = merged_alike vs rest sum no_end (subst (λ z. (E : Ended) → StepsTo all_kept none_stopped z rest E sum E) twice m) av ar no_end_fractions in
        let g = guarded v vs on off E F d f av u in
        let V = as_table vs in
        let vf = above_fractions vs av in
        let r = reads g.first_above in
        let whole : Alike (as_table all) (V ++ as_table rest) = subst (λ z. Alike (as_table z) (V ++ as_table rest)) p x.alike in
        let body : Body (only (holds v) V) V z = subst (λ k. Body (only (holds v) V) (as_table k) z) (s ∙ same) (turn_from price a w (only (holds v) V) (as_table on) (as_table gs) z (alike_sym g.first_alike) r.reads) in
        (V, as_table rest, whole, (V, [], z, body, subst (Alike V) (sym (append-nil V)) (alike_refl V vf), some))
