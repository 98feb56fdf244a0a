-- What a round over pairs gives outcomes is within their masses at least, and enough at most; and no table on the way has more states than
-- the peak.
use Rattle.std.proofs.Common.{◌≡◌, ℕ, zero, suc, ◌+◌, ◌*◌, ◌≤◌, ◌<◌, All, Bool, true, false, cond, [], ◌∷◌, length, Option, refl, sym, ap, ◌∙◌, arith}
use Rattle.std.proofs.Math.Nat.{mul-le-mul_left}
use Rattle.std.proofs.lemmas.List.Elements.{All-nil}
use Rattle.std.proofs.lemmas.List.{length-map}
use Rattle.numbers.specs.declared.units.TheConstants.{ALL}
use Rattle.gcl_core.specs.meaning.Bounds.{BlockIsWeighed}
use Rattle.gcl_core.specs.meaning.Syntax.{SourceProgram}
use Rattle.gcl_core.specs.meaning.Outcomes.{zeros}
use Rattle.gcl_core.specs.meaning.Value.{State}
use Rattle.gcl_core.specs.meaning.Blocks.{End, on}
use Rattle.gcl_core.specs.weighing.Fractions.{one}
use Rattle.gcl_core.specs.weighing.WeightedEnds.{Weighted, sure, weighted_ends}
use Rattle.gcl_core.specs.weighing.Mass.{sum_of}
use Rattle.table_flow.specs.Tables.{Table, Flow, block_flow, peak_of, states}
use Rattle.table_flow.specs.Width.{round_width}
use Rattle.table_flow.specs.Scale.{whole, amount, weight}
use Rattle.table_flow.proofs.AtWidth.{at_width}
use Rattle.table_flow.proofs.Masses.{sum_held}
use Rattle.table_flow.proofs.Wholes.{whole_from}
use Rattle.units_law.specs.Merged.{merged}
use Rattle.units_law.specs.Rounding.{Rounding, RoundsDown}
use Rattle.units_law.specs.Rounds.{end_units_of}
use Rattle.units_law.specs.Units.{held}
use Rattle.units_law.proofs.Counted.{Stands}
use Rattle.units_law.proofs.FewStates.{fewer_states}
use Rattle.units_law.proofs.Orders.{NoMore, NoLess, NothingWhere, no_more, no_less, nothing_where, from_left, along}
use Rattle.units_law.proofs.States.{at}
use Rattle.scaled_law.specs.Given.{least_flow, most_flow, AreWithin, AreEnough}
use Rattle.scaled_law.specs.Pairs.{Pair, Pairs, at_most, merged_pairs}
use Rattle.scaled_law.specs.Scaled.{Scaled, Steering, IsPositive, begun, round_scaled}
use Rattle.scaled_law.specs.Up.{RoundsUp}
use Rattle.scaled_law.proofs.Merging.{parts, most_merged}
use Rattle.scaled_law.proofs.PairCounts.{low_part, high_part, low_stands, high_stands, nothing_stands, low_times, high_times, nothing_times}
use Rattle.scaled_law.proofs.Splits.{none, all_before, amounts_split}
use Rattle.scaled_law.proofs.Walk.{Part, Follows, block_follows}

-- ---- the three parts that are counted

module _ (low high : Rounding) (r : Option ℕ) where
  pub least_part : RoundsDown low → Part low high r low_part NoMore
  least_part c = record { order = no_more; stands = low_stands low high r c; times = low_times; adds = λ u w. refl; all = λ J. refl }

  pub most_part : RoundsUp high → Part low high r high_part NoLess
  most_part c = record { order = no_less; stands = high_stands low high r c; times = high_times; adds = λ u w. refl; all = λ J. refl }

  pub states_part : RoundsUp high → Part low high r high_part NothingWhere
  states_part c = record { order = nothing_where; stands = nothing_stands low high r c; times = nothing_times; adds = λ u w. refl; all = λ J. refl }

-- ---- how many states stand in a merged table

merged_few : (N L D S : ℕ) → 0 < D → (J : Pairs State) (I : Table) → Stands (λ G (J : Pairs State). held G (at_most J)) NothingWhere D S N J I → states I ≤ L → length (merged_pairs J) ≤ L
merged_few N L D S p J I h few =
    let l = fewer_states N L (at_most J) I (λ q m. found (held (at q) (at_most J)) (amount N (at q) I) m (h (at q))) few in
    let e : length (merged_pairs J) ≡ length (merged (at_most J)) = sym (length-map (merged_pairs J) (λ e. (e.0, e.1.1))) ∙ ap length (most_merged J) in
    omega arith
  where
    product_none : (d a : ℕ) → 0 < d → 0 < a → d * a ≡ 0 → ⊥
    product_none zero a p q e = absurd (omega arith)
    product_none (suc d) zero p q e = absurd (omega arith)
    product_none (suc d) (suc a) p q e = omega arith

    found : (a b : ℕ) → 0 < a → (S * b ≡ 0 → D * a ≡ 0) → 0 < b
    found a zero m h = absurd (product_none D a p m (h (omega arith)))
    found a (suc b) m h = omega arith

-- ---- a round

module _ (low high : Rounding) (steer : Steering) (q : IsPositive steer) (p : SourceProgram) (n : ℕ) (r : Option ℕ) (w : BlockIsWeighed p.body) where
  abbrev start : State
  start = zeros (length p.names)

  abbrev N : ℕ
  N = round_width p n r

  abbrev L : ℕ
  L = peak_of p n r

  abbrev flow : Flow
  flow = block_flow n r p.body (sure start)

  abbrev last : Scaled
  last = round_scaled low high steer p n r

  module _ (part : Pair → ℕ) (same : (u : ℕ) → part (u, u) ≡ u) (R : ℕ → ℕ → Type 0) (a : Part low high r part R) (Few : Pairs State → Type 0)
      (is_few : (D S : ℕ) → 0 < D → (J : Pairs State) (I : Table) → Stands (λ G (J : Pairs State). held G (parts part J)) R D S N J I → states I ≤ L → Few (merged_pairs J)) where
    pub round_follows : Follows low high steer n r part R a N L (at_width p n r w).positive Few is_few (weight N) last [] flow.next flow.ended
    round_follows =
        block_follows low high steer n r part R a N L (at_width p n r w).positive Few is_few q p.body w (begun p) [] (sure start) [] (at_width p n r w).within
        (record {
          whole = omega arith;
          fraction = omega arith;
          beside = tt;
          I1 = sure start;
          I2 = [];
          E1 = [];
          E2 = [];
          next = all_before (sure start);
          ended = none;
          next_stands = λ G. along R (N * (ALL * G start)) (N * (ALL * G start)) _ _
              (let x = ap (λ t. N * (t * G start)) (same ALL) in omega arith) (let x = ap (λ t. ALL * (t * G start)) (whole_from N one N (omega arith) (omega arith)).0 in omega arith) (a.order.itself (N * (ALL * G start)));
          ended_stands = λ G. nothing ALL (1 * N);
          loose = along R 0 0 _ _ (let x = ap (λ t. 1 * N * t) (same 0) in omega arith) (omega arith) (a.order.itself 0);
          few = All-nil Few;
        })
      where
        nothing : (S D : ℕ) → R (D * 0) (S * 0)
        nothing S D = along R 0 0 (D * 0) (S * 0) (omega arith) (omega arith) (a.order.itself 0)

  -- no clause is wanted of the tables
  abbrev Any : Pairs State → Type 0
  Any J = Unit {0}

  pub within : RoundsDown low → (is : End → Bool) → AreWithin last.scale (end_units_of is (least_flow last)) (sum_of is (weighted_ends n r p.body start))
  within c is =
      let x = round_follows low_part (λ u. refl) NoMore (least_part low high r c) Any (λ D S p J I h l. tt) in
      let b = at_width p n r w in
      let m = sum_of is (weighted_ends n r p.body start) in
      let S = last.scale in
      below N S.0 S.1 m.0 m.1 _ _ _ _ _ _ _ _ b.positive (x.next_stands (λ s. cond (is (on s)) 1 0)) (x.ended_stands (λ x. cond (is x) 1 0))
      (amounts_split N (λ s. cond (is (on s)) 1 0) x.next) (amounts_split N (λ x. cond (is x) 1 0) x.ended) (sum_held n r N L p.body start b.within is)
    where
      below : (N S d m0 m1 u v y y1 y2 z z1 z2 : ℕ) → 0 < N → d * N * u ≤ S * y1 → d * N * v ≤ S * z1 → y ≡ y1 + y2 → z ≡ z1 + z2 → m1 * (y + z) ≡ m0 * N → (u + v) * (d * m1) ≤ m0 * S
      below N S d m0 m1 u v y y1 y2 z z1 z2 p h k e f g =
          let a = mul-le-mul_left m1 h in
          let b = mul-le-mul_left m1 k in
          let c = ap (λ t. S * t) g in
          let i = ap (λ t. S * m1 * t) e in
          let j = ap (λ t. S * m1 * t) f in
          from_left N ((u + v) * (d * m1)) (m0 * S) p (omega arith)

  -- what counts some ends is at most the weight of all
  counted_most : {A : Type 0} (is : A → Bool) (I : Weighted A) → amount N (λ x. cond (is x) 1 0) I ≤ weight N I
  counted_most is [] = omega arith
  counted_most is (e ∷ I) = by (is e.1) (counted_most is I)
    where
      by : (b : Bool) → amount N (λ x. cond (is x) 1 0) I ≤ weight N I → whole N e.0 * cond b 1 0 + amount N (λ x. cond (is x) 1 0) I ≤ weight N (e ∷ I)
      by true i = omega arith
      by false i = omega arith

  pub enough : RoundsUp high → (is : End → Bool) → AreEnough last.scale (end_units_of is (most_flow last) + last.loose.1) (sum_of is (weighted_ends n r p.body start))
  enough c is =
      let x = round_follows high_part (λ u. refl) NoLess (most_part low high r c) Any (λ D S p J I h l. tt) in
      let b = at_width p n r w in
      let m = sum_of is (weighted_ends n r p.body start) in
      let S = last.scale in
      above N S.0 S.1 m.0 m.1 _ _ _ _ _ _ _ _ _ _ _ _ b.positive (x.next_stands (λ s. cond (is (on s)) 1 0)) (x.ended_stands (λ x. cond (is x) 1 0)) x.loose
      (counted_most (λ s. is (on s)) x.I2) (counted_most is x.E2)
      (amounts_split N (λ s. cond (is (on s)) 1 0) x.next) (amounts_split N (λ x. cond (is x) 1 0) x.ended) (sum_held n r N L p.body start b.within is)
    where
      above : (N S d m0 m1 u v l y y1 y2 z z1 z2 o i e : ℕ) → 0 < N → S * y1 ≤ d * N * u → S * z1 ≤ d * N * v → S * (o + i + e) ≤ d * N * l → y2 ≤ i → z2 ≤ e → y ≡ y1 + y2 → z ≡ z1 + z2 →
          m1 * (y + z) ≡ m0 * N → m0 * S ≤ (u + v + l) * (d * m1)
      above N S d m0 m1 u v l y y1 y2 z z1 z2 o i e p h k t ly lz f g q =
          let a = mul-le-mul_left m1 h in
          let b = mul-le-mul_left m1 k in
          let c = mul-le-mul_left m1 t in
          let x = mul-le-mul_left (S * m1) ly in
          let y = mul-le-mul_left (S * m1) lz in
          let j = ap (λ t. S * t) q in
          let f' = ap (λ t. S * m1 * t) f in
          let g' = ap (λ t. S * m1 * t) g in
          let n : 0 ≤ S * m1 * o = omega arith in
          from_left N (m0 * S) ((u + v + l) * (d * m1)) p (omega arith)

  pub tables_few : RoundsUp high → All (λ J. length J ≤ L) last.tables
  tables_few c = (round_follows high_part (λ u. refl) NothingWhere (states_part low high r c) (λ J. length J ≤ L) (merged_few N L)).few

  -- a whole is some units
  pub units_positive : RoundsDown low → (0 < last.scale.0) × (0 < last.scale.1)
  units_positive c = let x = round_follows low_part (λ u. refl) NoMore (least_part low high r c) Any (λ D S p J I h l. tt) in (x.whole, x.fraction)
