-- A round over pairs stands to its fractions, whatever units are taken and whenever loops are left: they are taken apart into those that
-- the tables stand to, and those that are loose.
use Rattle.std.proofs.Common.{◌≡◌, ℕ, zero, suc, ◌+◌, ◌-◌, ◌*◌, ◌≤◌, ◌<◌, All, Bool, true, false, List, [], ◌∷◌, ◌++◌, Option, refl, sym, ap, ◌∙◌, subst, arith}
use Rattle.std.specs.Prelude.{if◌then◌else◌}
use Rattle.std.proofs.lemmas.List.{append_assoc, append-nil}
use Rattle.std.proofs.lemmas.List.Elements.{All-append, All-cons, All-nil}
use Rattle.numbers.proofs.Divisors.{product_pos}
use Rattle.std.specs.List.{sum}
use Rattle.gcl_core.specs.declared.answers.Limit.TheVariants.{Turns, Attempts}
use Rattle.gcl_core.specs.meaning.Arms.{parts_of}
use Rattle.gcl_core.specs.meaning.Bounds.{StatementIsWeighed, BlockIsWeighed, ArmsAreWeighed}
use Rattle.gcl_core.specs.meaning.Syntax.{Statement, Skip, Set, If, While, Choice, Choose, Uniform, Observe, Statements, done, ◌▸◌, ArmList, no_arm, arm}
use Rattle.gcl_core.specs.meaning.Value.{State, Value, value_of}
use Rattle.gcl_core.specs.meaning.Blocks.{End, limit}
use Rattle.gcl_core.specs.weighing.Fractions.{Fraction}
use Rattle.gcl_core.specs.weighing.WeightedEnds.{Weighted, scaled, class_weight, no_class_weight}
use Rattle.table_flow.specs.Tables.{Table, holds, fails, only, faults, all_end, only_go, faults_go, end_go, statement_go, statement_flow, block_flow, states}
use Rattle.table_flow.specs.Scale.{Wholes, Within, amount, weight}
use Rattle.table_flow.proofs.FlowWords.{loop_flow, arms_flow}
use Rattle.table_flow.proofs.Amounts.{ends_whole, amount_append, both_first, both_second, ends_first}
use Rattle.table_flow.proofs.InsideFlows.{head_whole, first_inside, others_inside, turn_inside, turns_inside, side_first, side_second, undecided_whole, choose_inside, first_arm, other_arms}
use Rattle.table_flow.proofs.Kept.{arms_weight, guard_weight, all_end_weight, choice_kept, arms_kept, kept_turns, kept_one, kept_all}
use Rattle.units_law.specs.Rounding.{Rounding}
use Rattle.units_law.specs.Units.{held, total}
use Rattle.units_law.proofs.Blocks.{class_stands, rest_stands, tidied as table_tidied, only_stands, faults_stand, end_stands, beside as table_beside, beside_ended, statement_stands}
use Rattle.units_law.proofs.Counted.{StandsIn, Stands}
use Rattle.units_law.proofs.Orders.{IsOrder, along}
use Rattle.scaled_law.specs.Pairs.{Pair, Pairs, added, at_least, at_most, counted_pairs, merged_pairs, class_pairs, rest_pairs, pairs_kind}
use Rattle.scaled_law.specs.Scaled.{Scaled, Steering, IsPositive, top, below, with_tables, swapped, taken_back, times_pair, times_all, ends_more, gone_on, tidied, two_blocks, left_loop, enters, loop_scaled, statement_scaled, block_scaled, arms_scaled}
use Rattle.scaled_law.proofs.Asides.{of, Aside, AllBeside, lost, topped, timed, times_stand, times_beside}
use Rattle.scaled_law.proofs.Merging.{parts}
use Rattle.scaled_law.proofs.PairCounts.{pairs_counted}
use Rattle.scaled_law.proofs.Splits.{Splits, none, appended, all_behind, wholes_split, amounts_split, only_splits, faults_splits, end_splits, scaled_splits}
use Rattle.scaled_law.proofs.SplitFlows.{within_split, statement_splits, parts_fewer}

-- which part of the pairs is counted, and how its products stand to fractions
pub record Part (low high : Rounding) (r : Option ℕ) (part : Pair → ℕ) (R : ℕ → ℕ → Type 0) : Type 0 where
  pub order : IsOrder R
  pub stands : StandsIn (pairs_kind low high) (pairs_counted part) R r
  pub times : (k : Fraction) → 0 < k.1 → (w : Pair) → R (k.1 * part (times_pair k w)) (k.0 * part w)
  pub adds : (u w : Pair) → part (added u w) ≡ part u + part w
  pub all : (J : Pairs State) → part (total (at_least J), total (at_most J)) ≡ total (parts part J)

module _ (low high : Rounding) (steer : Steering) (n : ℕ) (r : Option ℕ) (part : Pair → ℕ) (R : ℕ → ℕ → Type 0) (a : Part low high r part R) (N L : ℕ) (some : 0 < N) (Few : Pairs State → Type 0)
    (is_few : (D S : ℕ) → 0 < D → (J : Pairs State) (I : Table) → Stands (λ G J. held G (parts part J)) R D S N J I → states I ≤ L → Few (merged_pairs J)) where
  abbrev units : Scaled → ℕ
  units f = f.scale.1 * N

  -- ---- a round, beside its fractions

  -- what goes on, and what has ended, beside the fractions of these
  pub record Follows (weigh : Table → ℕ) (f : Scaled) (Xs : List Aside) (I : Table) (E : Weighted End) : Type 0 where
    pub whole : 0 < f.scale.0
    pub fraction : 0 < f.scale.1
    pub beside : AllBeside part R N (units f) f.scale.0 f.aside Xs
    pub I1 : Table
    pub I2 : Table
    pub E1 : Weighted End
    pub E2 : Weighted End
    pub next : Splits I I1 I2
    pub ended : Splits E E1 E2
    pub next_stands : Stands (of part R N) R (units f) f.scale.0 N f.next I1
    pub ended_stands : Stands (of part R N) R (units f) f.scale.0 N f.ended E1
    pub loose : R (units f * part f.loose) (f.scale.0 * (lost part R N (units f) f.scale.0 f.aside Xs beside + weigh I2 + weight N E2))
    pub few : All Few f.tables

  abbrev W : Table → ℕ
  W = weight N

  -- what is loose, where it weighs the same otherwise
  same_loose : (D S l x y : ℕ) → y ≡ x → R (D * l) (S * x) → R (D * l) (S * y)
  same_loose D S l x y e h = along R (D * l) (S * x) (D * l) (S * y) refl (ap (λ t. S * t) e) h

  -- where some of it has ended
  ended_weight : (x i e w z t : ℕ) → t ≡ e + z → w + z ≡ i → x + w + t ≡ x + i + e
  ended_weight x i e w z t p q = omega arith

  -- some states end
  moved_on : (weigh weigh' : Table → ℕ) (f : Scaled) (Xs : List Aside) (I : Table) (E : Weighted End) (h : Follows weigh f Xs I E) (a : Table → Table) (z : Table → Weighted End) (J : Pairs State) (Z : Pairs End) (Ts : List (Pairs State)) →
      Splits (a I) (a h.I1) (a h.I2) → Splits (z I) (z h.I1) (z h.I2) → Stands (of part R N) R (units f) f.scale.0 N J (a h.I1) → Stands (of part R N) R (units f) f.scale.0 N Z (z h.I1) → weigh' (a h.I2) + weight N (z h.I2) ≡ weigh h.I2 → All Few Ts →
      Follows weigh' (gone_on (record { next = J; ended = Z; tables = Ts; draws = []; reached = [] }) f) Xs (a I) (E ++ z I)
  moved_on weigh weigh' f Xs I E h a' z J Z Ts s t u v e few = record {
    whole = h.whole;
    fraction = h.fraction;
    beside = h.beside;
    I1 = a' h.I1;
    I2 = a' h.I2;
    E1 = h.E1 ++ z h.I1;
    E2 = h.E2 ++ z h.I2;
    next = s;
    ended = appended h.ended t;
    next_stands = u;
    ended_stands = beside_ended (pairs_kind low high) (pairs_counted part) R a.order n r a.stands (units f) f.scale.0 N L f.ended Z h.E1 (z h.I1) h.ended_stands v;
    loose = same_loose (units f) f.scale.0 (part f.loose) _ _ (ended_weight _ _ _ _ _ _ (amount_append N (λ x. 1) h.E2 (z h.I2)) e) h.loose;
    few = All-append Few f.tables Ts h.few few;
  }

  -- one part goes on, and another stands aside
  parted : (weigh weigh' : Table → ℕ) (f : Scaled) (Xs : List Aside) (I : Table) (E : Weighted End) (h : Follows weigh f Xs I E) (a b : Table → Table) (J K : Pairs State) →
      Splits (a I) (a h.I1) (a h.I2) → Splits (b I) (b h.I1) (b h.I2) → Stands (of part R N) R (units f) f.scale.0 N J (a h.I1) → Stands (of part R N) R (units f) f.scale.0 N K (b h.I1) → weight N (a h.I2) + weigh' (b h.I2) ≡ weigh h.I2 →
      Follows W (with_tables J (K ∷ f.aside) f) ((b I, weigh') ∷ Xs) (a I) E
  parted weigh weigh' f Xs I E h a' b J K s t u v e = record {
    whole = h.whole;
    fraction = h.fraction;
    beside = (record { X1 = b h.I1; X2 = b h.I2; split = t; stands = v }, h.beside);
    I1 = a' h.I1;
    I2 = a' h.I2;
    E1 = h.E1;
    E2 = h.E2;
    next = s;
    ended = h.ended;
    next_stands = u;
    ended_stands = h.ended_stands;
    loose = same_loose (units f) f.scale.0 (part f.loose) _ _ (parted_weight _ _ _ _ _ e) h.loose;
    few = h.few;
  }
    where
      parted_weight : (x i e w v : ℕ) → w + v ≡ i → v + x + w + e ≡ x + i + e
      parted_weight x i e w v p = omega arith

  -- no state stands aside yet
  laid_aside : (weigh : Table → ℕ) (f : Scaled) (Xs : List Aside) (I : Table) (E : Weighted End) → Follows weigh f Xs I E → Follows weigh (with_tables f.next ([] ∷ f.aside) f) (([], W) ∷ Xs) I E
  laid_aside weigh f Xs I E h = record {
    whole = h.whole;
    fraction = h.fraction;
    beside = (record { X1 = []; X2 = []; split = none; stands = λ G. along R 0 0 _ _ (omega arith) (omega arith) (a.order.itself 0) }, h.beside);
    I1 = h.I1;
    I2 = h.I2;
    E1 = h.E1;
    E2 = h.E2;
    next = h.next;
    ended = h.ended;
    next_stands = h.next_stands;
    ended_stands = h.ended_stands;
    loose = same_loose (units f) f.scale.0 (part f.loose) (lost part R N (units f) f.scale.0 f.aside Xs h.beside + weigh h.I2 + weight N h.E2) _ (laid_weight _ _ _) h.loose;
    few = h.few;
  }
    where
      laid_weight : (x i e : ℕ) → 0 + x + i + e ≡ x + i + e
      laid_weight x i e = omega arith

  -- the other table goes on
  swaps : (weigh weigh' : Table → ℕ) (f : Scaled) (X : Table) (Xs : List Aside) (I : Table) (E : Weighted End) → Follows weigh f ((X, weigh') ∷ Xs) I E → Follows weigh' (swapped f) ((I, weigh) ∷ Xs) X E
  swaps weigh weigh' f X Xs I E h =
      let t = topped part R N (units f) f.scale.0 f.aside (X, weigh') Xs h.beside in
      record {
        whole = h.whole;
        fraction = h.fraction;
        beside = (record { X1 = h.I1; X2 = h.I2; split = h.next; stands = h.next_stands }, t.others);
        I1 = t.one.X1;
        I2 = t.one.X2;
        E1 = h.E1;
        E2 = h.E2;
        next = t.one.split;
        ended = h.ended;
        next_stands = t.one.stands;
        ended_stands = h.ended_stands;
        loose = same_loose (units f) f.scale.0 (part f.loose) _ _ (swapped_weight _ _ _ _ _ t.all) h.loose;
        few = h.few;
      }
    where
      swapped_weight : (x i e v y : ℕ) → x ≡ v + y → i + y + v + e ≡ x + i + e
      swapped_weight x i e v y p = omega arith

  -- what goes on comes behind what stood aside
  takes_back : (f : Scaled) (X : Table) (Xs : List Aside) (I : Table) (E : Weighted End) → Follows W f ((X, W) ∷ Xs) I E → Follows W (taken_back f) Xs (X ++ I) E
  takes_back f X Xs I E h =
      let t = topped part R N (units f) f.scale.0 f.aside (X, W) Xs h.beside in
      record {
        whole = h.whole;
        fraction = h.fraction;
        beside = t.others;
        I1 = t.one.X1 ++ h.I1;
        I2 = t.one.X2 ++ h.I2;
        E1 = h.E1;
        E2 = h.E2;
        next = appended t.one.split h.next;
        ended = h.ended;
        next_stands = table_beside (pairs_kind low high) (pairs_counted part) R a.order n r a.stands (units f) f.scale.0 N L (top f.aside) f.next t.one.X1 h.I1 t.one.stands h.next_stands;
        ended_stands = h.ended_stands;
        loose = same_loose (units f) f.scale.0 (part f.loose) _ _ (back_weight _ _ _ _ _ _ t.all (amount_append N (λ s. 1) t.one.X2 h.I2)) h.loose;
        few = h.few;
      }
    where
      back_weight : (x i e v y w : ℕ) → x ≡ v + y → w ≡ v + i → y + w + e ≡ x + i + e
      back_weight x i e v y w p q = omega arith

  -- two tables that stand aside become one
  joins_aside : (weigh : Table → ℕ) (f : Scaled) (Y X : Table) (Xs : List Aside) (I : Table) (E : Weighted End) → Follows weigh f ((Y, W) ∷ ((X, W) ∷ Xs)) I E →
      Follows weigh (with_tables f.next ((top (below f.aside) ++ top f.aside) ∷ below (below f.aside)) f) ((X ++ Y, W) ∷ Xs) I E
  joins_aside weigh f Y X Xs I E h =
      let t = topped part R N (units f) f.scale.0 f.aside (Y, W) ((X, W) ∷ Xs) h.beside in
      let u = topped part R N (units f) f.scale.0 (below f.aside) (X, W) Xs t.others in
      record {
        whole = h.whole;
        fraction = h.fraction;
        beside = (
          record {
            X1 = u.one.X1 ++ t.one.X1;
            X2 = u.one.X2 ++ t.one.X2;
            split = appended u.one.split t.one.split;
            stands = table_beside (pairs_kind low high) (pairs_counted part) R a.order n r a.stands (units f) f.scale.0 N L (top (below f.aside)) (top f.aside) u.one.X1 t.one.X1 u.one.stands t.one.stands;
          },
          u.others,
        );
        I1 = h.I1;
        I2 = h.I2;
        E1 = h.E1;
        E2 = h.E2;
        next = h.next;
        ended = h.ended;
        next_stands = h.next_stands;
        ended_stands = h.ended_stands;
        loose = same_loose (units f) f.scale.0 (part f.loose) _ _ (joined_weight _ _ _ _ _ _ _ _ t.all u.all (amount_append N (λ s. 1) u.one.X2 t.one.X2)) h.loose;
        few = h.few;
      }
    where
      joined_weight : (x i e v y w z t : ℕ) → x ≡ v + y → y ≡ w + z → t ≡ w + v → t + z + i + e ≡ x + i + e
      joined_weight x i e v y w z t p q s = omega arith

  -- a table that stood aside, and of which nothing is loose any more, is left
  drops : (f : Scaled) (X : Table) (Xs : List Aside) (I : Table) (E : Weighted End) (none_loose : Table → ℕ) → ((J : Table) → none_loose J ≡ 0) → Follows none_loose f ((X, W) ∷ Xs) I E → Follows W (with_tables (top f.aside) (below f.aside) f) Xs X E
  drops f X Xs I E none_loose z h =
      let t = topped part R N (units f) f.scale.0 f.aside (X, W) Xs h.beside in
      record {
        whole = h.whole;
        fraction = h.fraction;
        beside = t.others;
        I1 = t.one.X1;
        I2 = t.one.X2;
        E1 = h.E1;
        E2 = h.E2;
        next = t.one.split;
        ended = h.ended;
        next_stands = t.one.stands;
        ended_stands = h.ended_stands;
        loose = same_loose (units f) f.scale.0 (part f.loose) _ _ (dropped_weight _ _ _ _ _ t.all (z h.I2)) h.loose;
        few = h.few;
      }
    where
      dropped_weight : (x i e v y : ℕ) → x ≡ v + y → i ≡ 0 → y + v + e ≡ x + i + e
      dropped_weight x i e v y p q = omega arith

  -- ---- other units

  times_follow : (k : Fraction) → 0 < k.0 → 0 < k.1 → (weigh : Table → ℕ) (f : Scaled) (Xs : List Aside) (I : Table) (E : Weighted End) → Follows weigh f Xs I E → Follows weigh (times_all k f) Xs I E
  times_follow k p q weigh f Xs I E h =
      let b = times_beside part R N a.order a.times k q f.scale.1 f.scale.0 f.aside Xs h.beside in
      record {
        whole = product_pos k.0 f.scale.0 p h.whole;
        fraction = product_pos k.1 f.scale.1 q h.fraction;
        beside = b.all;
        I1 = h.I1;
        I2 = h.I2;
        E1 = h.E1;
        E2 = h.E2;
        next = h.next;
        ended = h.ended;
        next_stands = times_stand part R N a.order a.times k q f.scale.1 f.scale.0 f.next h.I1 h.next_stands;
        ended_stands = times_stand part R N a.order a.times k q f.scale.1 f.scale.0 f.ended h.E1 h.ended_stands;
        loose = timed part R N a.order a.times f.scale.1 f.scale.0 k.0 k.1 (part (times_pair k f.loose)) (part f.loose) _ (a.times k q f.loose)
            (same_loose (units f) f.scale.0 (part f.loose) _ _ (ap (λ t. t + weigh h.I2 + weight N h.E2) b.same) h.loose);
        few = h.few;
      }

  -- ---- a statement without a block, and tidying

  once_follows : (st : Statement) → StatementIsWeighed st → (f : Scaled) (Xs : List Aside) (I : Table) (E : Weighted End) → Wholes N I → Wholes N (statement_flow n r st I).next → Within N L (statement_flow n r st I) →
      Follows W f Xs I E → Follows W (gone_on (statement_go (pairs_kind low high) n r st f.next) f) Xs (statement_flow n r st I).next (E ++ (statement_flow n r st I).ended)
  once_follows st p f Xs I E w y s h =
      let f1 = statement_flow n r st h.I1 in
      let f2 = statement_flow n r st h.I2 in
      let d = statement_splits n r st h.next in
      let u = wholes_split N h.next w in
      let v = wholes_split N d.next y in
      let t = within_split N L (statement_flow n r st I) f1 f2 d s in
      let D = units f in
      let S = f.scale.0 in
      let x = statement_stands (pairs_kind low high) (pairs_counted part) R a.order n r a.stands D S N L Few (is_few D S (product_pos f.scale.1 N h.fraction some)) (λ J. refl) st p f.next h.I1 u.0 v.0 t.0 h.next_stands in
      let k = kept_one n r N L st h.I2 p u.1 v.1 t.1 in
      let g = statement_go (pairs_kind low high) n r st f.next in
      moved_on W W f Xs I E h (λ I. (statement_flow n r st I).next) (λ I. (statement_flow n r st I).ended) g.next g.ended g.tables d.next d.ended x.next x.ended k x.few

  tidied_follows : (f : Scaled) (Xs : List Aside) (I : Table) (E : Weighted End) → states I ≤ L → Follows W f Xs I E → Follows W (tidied f) Xs I E
  tidied_follows f Xs I E l h =
      let D = units f in
      let S = f.scale.0 in
      let m = is_few D S (product_pos f.scale.1 N h.fraction some) f.next h.I1 h.next_stands (let x = parts_fewer h.next in omega (arith, x, l)) in
      record {
        whole = h.whole;
        fraction = h.fraction;
        beside = h.beside;
        I1 = h.I1;
        I2 = h.I2;
        E1 = h.E1;
        E2 = h.E2;
        next = h.next;
        ended = h.ended;
        next_stands = table_tidied (pairs_kind low high) (pairs_counted part) R a.order n r a.stands D S N L f.next h.I1 h.next_stands;
        ended_stands = h.ended_stands;
        loose = h.loose;
        few = All-append Few f.tables (merged_pairs f.next ∷ []) h.few (All-cons Few (merged_pairs f.next) [] m (All-nil Few));
      }

  -- some end, and all others stay, weighed otherwise
  abbrev ends_follow : (weigh' : Table → ℕ) (f : Scaled) (Xs : List Aside) (I : Table) (E : Weighted End) (h : Follows W f Xs I E) (z : Table → Weighted End) (Z : Pairs End) →
      Splits (z I) (z h.I1) (z h.I2) → Stands (of part R N) R (units f) f.scale.0 N Z (z h.I1) → weigh' h.I2 + weight N (z h.I2) ≡ weight N h.I2 → Follows weigh' (ends_more Z f) Xs I (E ++ z I)
  ends_follow weigh' f Xs I E h z Z t v e = record {
    whole = h.whole;
    fraction = h.fraction;
    beside = h.beside;
    I1 = h.I1;
    I2 = h.I2;
    E1 = h.E1 ++ z h.I1;
    E2 = h.E2 ++ z h.I2;
    next = h.next;
    ended = appended h.ended t;
    next_stands = h.next_stands;
    ended_stands = beside_ended (pairs_kind low high) (pairs_counted part) R a.order n r a.stands (units f) f.scale.0 N L f.ended Z h.E1 (z h.I1) h.ended_stands v;
    loose = same_loose (units f) f.scale.0 (part f.loose) _ _ (ended_weight _ _ _ _ _ _ (amount_append N (λ x. 1) h.E2 (z h.I2)) e) h.loose;
    few = h.few;
  }

  -- ---- loops and branches, for blocks that follow theirs

  abbrev BlockFollows : Statements → (Scaled → Scaled) → Type 0
  BlockFollows b step = (f : Scaled) (Xs : List Aside) (I : Table) (E : Weighted End) → Within N L (block_flow n r b I) → Follows W f Xs I E → Follows W (step f) Xs (block_flow n r b I).next (E ++ (block_flow n r b I).ended)

  either : (b : Bool) (P : Scaled → Type 0) (x y : Scaled) → P x → P y → P (if b then x else y)
  either true P x y p q = p
  either false P x y p q = q

  regrouped : (f : Scaled) (Xs : List Aside) (I : Table) (E F G H : Weighted End) → Follows W f Xs I (((E ++ F) ++ G) ++ H) → Follows W f Xs I (E ++ (F ++ (G ++ H)))
  regrouped f Xs I E F G H h = subst (λ t. Follows W f Xs I t) (append_assoc (E ++ F) G H ∙ append_assoc E F (G ++ H)) h

  -- two blocks, each from its part
  two_follow : (b c : Statements) (step step' : Scaled → Scaled) → BlockFollows b step → BlockFollows c step' → (weigh : Table → ℕ) (f : Scaled) (Xs : List Aside) (I : Table) (E F : Weighted End) (h : Follows weigh f Xs I (E ++ F)) (p q : Table → Table) (A B : Pairs State) →
      Splits (p I) (p h.I1) (p h.I2) → Splits (q I) (q h.I1) (q h.I2) → Stands (of part R N) R (units f) f.scale.0 N A (p h.I1) → Stands (of part R N) R (units f) f.scale.0 N B (q h.I1) → weight N (p h.I2) + weight N (q h.I2) ≡ weigh h.I2 →
      Within N L (block_flow n r b (p I)) → Within N L (block_flow n r c (q I)) →
      Follows W (two_blocks step step' A B f) Xs ((block_flow n r b (p I)).next ++ (block_flow n r c (q I)).next) (E ++ (F ++ ((block_flow n r b (p I)).ended ++ (block_flow n r c (q I)).ended)))
  two_follow b c step step' m m' weigh f Xs I E F h p q A B s t u v e wb wc =
      let x = parted weigh W f Xs I (E ++ F) h p q A B s t u v e in
      let f' = block_flow n r b (p I) in
      let g' = block_flow n r c (q I) in
      let f1 = with_tables A (B ∷ f.aside) f in
      let y = m f1 ((q I, W) ∷ Xs) (p I) (E ++ F) wb x in
      let z = swaps W W (step f1) (q I) Xs f'.next ((E ++ F) ++ f'.ended) y in
      let o = m' (swapped (step f1)) ((f'.next, W) ∷ Xs) (q I) ((E ++ F) ++ f'.ended) wc z in
      let i = takes_back (step' (swapped (step f1))) f'.next Xs g'.next (((E ++ F) ++ f'.ended) ++ g'.ended) o in
      regrouped _ Xs (f'.next ++ g'.next) E F f'.ended g'.ended i

  -- a turn begins
  enters_follow : (v : State → Value) (f : Scaled) (X : Table) (Xs : List Aside) (I : Table) (E : Weighted End) → Follows W f ((X, W) ∷ Xs) I E →
      Follows W (enters v f) ((X ++ only (fails v) I, W) ∷ Xs) (only (holds v) I) (E ++ faults v I)
  enters_follow v f X Xs I E h =
      let K = pairs_kind low high in
      let c = pairs_counted part in
      let D = units f in
      let S = f.scale.0 in
      let weigh : Table → ℕ = λ I. weight N (only (holds v) I) + weight N (only (fails v) I) in
      let x = ends_follow weigh f ((X, W) ∷ Xs) I E h (faults v) (faults_go counted_pairs v f.next) (faults_splits v h.next)
      (faults_stand K c R a.order n r a.stands D S N L f.next h.I1 h.next_stands v) (let g = guard_weight N v h.I2 in omega (arith, g)) in
      let F = ends_more (faults_go counted_pairs v f.next) f in
      let both : weight N (only (holds v) h.I2) + weight N (only (fails v) h.I2) ≡ weigh h.I2 = refl in
      let y = parted weigh W F ((X, W) ∷ Xs) I (E ++ faults v I) x (only (holds v)) (only (fails v)) (only_go counted_pairs (holds v) f.next) (only_go counted_pairs (fails v) f.next)
      (only_splits (holds v) h.next) (only_splits (fails v) h.next) (only_stands K c R a.order n r a.stands D S N L f.next h.I1 h.next_stands (holds v))
      (only_stands K c R a.order n r a.stands D S N L f.next h.I1 h.next_stands (fails v)) both in
      joins_aside W (with_tables (only_go counted_pairs (holds v) f.next) (only_go counted_pairs (fails v) f.next ∷ F.aside) F) (only (fails v) I) X Xs (only (holds v) I) (E ++ faults v I) y

  -- the last turn
  ends_loop : (v : State → Value) (f : Scaled) (X : Table) (Xs : List Aside) (I : Table) (E : Weighted End) → Follows W f ((X, W) ∷ Xs) I E →
      Follows W (loop_scaled steer v (λ f. f) zero f) Xs (X ++ only (fails v) I) (E ++ (faults v I ++ all_end (limit Turns) (only (holds v) I)))
  ends_loop v f X Xs I E h =
      let K = pairs_kind low high in
      let c = pairs_counted part in
      let D = units f in
      let S = f.scale.0 in
      let A = only_go counted_pairs (holds v) f.next in
      let F = faults_go counted_pairs v f.next in
      let z : Table → Weighted End = λ I. faults v I ++ all_end (limit Turns) (only (holds v) I) in
      let m = moved_on W W f ((X, W) ∷ Xs) I E h (only (fails v)) z (only_go counted_pairs (fails v) f.next) (F ++ end_go counted_pairs (limit Turns) A) []
      (only_splits (fails v) h.next) (appended (faults_splits v h.next) (end_splits (limit Turns) (only_splits (holds v) h.next)))
      (only_stands K c R a.order n r a.stands D S N L f.next h.I1 h.next_stands (fails v))
      (beside_ended K c R a.order n r a.stands D S N L F (end_go counted_pairs (limit Turns) A) (faults v h.I1) (all_end (limit Turns) (only (holds v) h.I1)) (faults_stand K c R a.order n r a.stands D S N L f.next h.I1 h.next_stands v)
      (end_stands K c R a.order n r a.stands D S N L A (only (holds v) h.I1) (only_stands K c R a.order n r a.stands D S N L f.next h.I1 h.next_stands (holds v)) (limit Turns)))
      (last_weight _ _ _ _ _ (amount_append N (λ x. 1) (faults v h.I2) (all_end (limit Turns) (only (holds v) h.I2))) (all_end_weight N (limit Turns) (only (holds v) h.I2)) (guard_weight N v h.I2)) (All-nil Few) in
      same_tables (X ++ only (fails v) I) (E ++ z I)
      (takes_back (gone_on (record { next = only_go counted_pairs (fails v) f.next; ended = F ++ end_go counted_pairs (limit Turns) A; tables = []; draws = []; reached = [] }) f) X Xs (only (fails v) I) (E ++ z I) m)
    where
      last_weight : (H F G t i : ℕ) → {z : ℕ} → z ≡ G + t → t ≡ H → H + (F + G) ≡ i → F + z ≡ i
      last_weight H F G t i p q s = omega arith

      -- no table was made
      same_tables : (M : Table) (Z : Weighted End) → Follows W (taken_back (gone_on (record { next = only_go counted_pairs (fails v) f.next; ended = faults_go counted_pairs v f.next ++ end_go counted_pairs (limit Turns) (only_go counted_pairs (holds v) f.next); tables = []; draws = []; reached = [] }) f)) Xs M Z →
          Follows W (loop_scaled steer v (λ f. f) zero f) Xs M Z
      same_tables M Z h =
          subst (λ t. Follows W (record {
            next = top f.aside ++ only_go counted_pairs (fails v) f.next;
            aside = below f.aside;
            ended = f.ended ++ (faults_go counted_pairs v f.next ++ end_go counted_pairs (limit Turns) (only_go counted_pairs (holds v) f.next));
            loose = f.loose;
            scale = f.scale;
            tables = t;
          }) Xs M Z) (append-nil f.tables) h

  -- where the loop is left before its end, whatever goes on in it weighs what stands in it
  leaves_follows : (f : Scaled) (X : Table) (Xs : List Aside) (I : Table) (E : Weighted End) (M : Table) (Z : Weighted End) → weight N M + weight N Z ≡ weight N I → Follows W f ((X, W) ∷ Xs) I E → Follows W (left_loop f) Xs (X ++ M) (E ++ Z)
  leaves_follows f X Xs I E M Z e h =
      let D = units f in
      let S = f.scale.0 in
      let t = topped part R N D S f.aside (X, W) Xs h.beside in
      record {
        whole = h.whole;
        fraction = h.fraction;
        beside = t.others;
        I1 = t.one.X1 ++ [];
        I2 = t.one.X2 ++ M;
        E1 = h.E1 ++ [];
        E2 = h.E2 ++ Z;
        next = appended t.one.split (all_behind M);
        ended = appended h.ended (all_behind Z);
        next_stands = λ G. along R (D * of part R N G (top f.aside)) (S * amount N G t.one.X1) (D * of part R N G (top f.aside)) _ refl (ap (λ z. S * z) (behind_nothing G t.one.X1)) (t.one.stands G);
        ended_stands = λ G. along R (D * of part R N G f.ended) (S * amount N G h.E1) (D * of part R N G f.ended) _ refl (ap (λ z. S * z) (behind_nothing G h.E1)) (h.ended_stands G);
        loose = along R (D * part f.loose + D * total (parts part f.next)) (S * (lost part R N D S f.aside ((X, W) ∷ Xs) h.beside + weight N h.I2 + weight N h.E2) + S * weight N h.I1) _ _
            (let u = ap (λ z. D * z) (a.adds f.loose (total (at_least f.next), total (at_most f.next))) in let v = ap (λ z. D * z) (a.all f.next) in omega arith)
            (let u = ap (λ z. S * z) (left_weight _ _ _ _ _ _ _ _ _ _ t.all (amount_append N (λ x. 1) t.one.X2 M) (amount_append N (λ x. 1) h.E2 Z) e (amounts_split N (λ s. 1) h.next)) in omega arith)
            (a.order.sums _ _ _ _ h.loose (h.next_stands (λ s. 1)));
        few = h.few;
      }
    where
      behind_nothing : {A : Type 0} (G : A → ℕ) (I : Weighted A) → amount N G (I ++ []) ≡ amount N G I
      behind_nothing G I = let x = amount_append N G I [] in omega arith

      left_weight : (x e m z i1 i2 v y X' E' : ℕ) → {i : ℕ} → x ≡ v + y → X' ≡ v + m → E' ≡ e + z → m + z ≡ i → i ≡ i1 + i2 → y + X' + E' ≡ x + i2 + e + i1
      left_weight x e m z i1 i2 v y X' E' o p q s t = omega arith

  loop_follows : (v : State → Value) (b : Statements) → BlockIsWeighed b → (step : Scaled → Scaled) → BlockFollows b step → (t : ℕ) (f : Scaled) (X : Table) (Xs : List Aside) (I : Table) (E : Weighted End) → Within N L (loop_flow v (block_flow n r b) t I) →
      Follows W f ((X, W) ∷ Xs) I E → Follows W (loop_scaled steer v step t f) Xs (X ++ (loop_flow v (block_flow n r b) t I).next) (E ++ (loop_flow v (block_flow n r b) t I).ended)
  loop_follows v b p step m zero f X Xs I E s h = ends_loop v f X Xs I E h
  loop_follows v b p step m (suc t) f X Xs I E s h =
      let M = loop_flow v (block_flow n r b) (suc t) I in
      let f' = block_flow n r b (only (holds v) I) in
      let g' = loop_flow v (block_flow n r b) t f'.next in
      let wf = turn_inside n r N L v b t I s in
      let wg = turns_inside n r N L v b t I s in
      let g = enters v f in
      let x = enters_follow v f X Xs I E h in
      let y = m g ((X ++ only (fails v) I, W) ∷ Xs) (only (holds v) I) (E ++ faults v I) wf x in
      let z = loop_follows v b p step m t (step g) (X ++ only (fails v) I) Xs f'.next ((E ++ faults v I) ++ f'.ended) wg y in
      let o = subst (λ m'. Follows W (loop_scaled steer v step t (step g)) Xs m' (((E ++ faults v I) ++ f'.ended) ++ g'.ended)) (append_assoc X (only (fails v) I) g'.next) z in
      either (steer.leaves f.next) (λ f. Follows W f Xs (X ++ M.next) (E ++ M.ended)) (left_loop f) (loop_scaled steer v step t (step g))
      (leaves_follows f X Xs I E M.next M.ended (kept_turns n r N L v b (kept_all n r N L b p) (suc t) I s) h) (regrouped _ Xs (X ++ (only (fails v) I ++ g'.next)) E (faults v I) f'.ended g'.ended o)

  -- ---- a block

  module _ (q : IsPositive steer) where
    abbrev StatementFollows : Statement → Type 0
    StatementFollows st = (f : Scaled) (Xs : List Aside) (I : Table) (E : Weighted End) → Wholes N I → Wholes N (statement_flow n r st I).next → Within N L (statement_flow n r st I) → Follows W f Xs I E →
        Follows W (statement_scaled low high steer n r st f) Xs (statement_flow n r st I).next (E ++ (statement_flow n r st I).ended)

    mutual
      statement_follows : (st : Statement) → StatementIsWeighed st → StatementFollows st
      statement_follows Skip p f Xs I E w y s h = subst (λ t. Follows W f Xs I t) (sym (append-nil E)) h
      statement_follows (Set x e) p f Xs I E w y s h = once_follows (Set x e) p f Xs I E w y s h
      statement_follows (Observe e) p f Xs I E w y s h = once_follows (Observe e) p f Xs I E w y s h
      statement_follows (Uniform x e) p f Xs I E w y s h = once_follows (Uniform x e) p f Xs I E w y s h
      statement_follows (If e b d) p f Xs I E w y s h =
          let v = value_of e in
          let K = pairs_kind low high in
          let c = pairs_counted part in
          let D = units f in
          let S = f.scale.0 in
          let Z = faults_go counted_pairs v f.next in
          let weigh : Table → ℕ = λ I. weight N (only (holds v) I) + weight N (only (fails v) I) in
          let x = ends_follow weigh f Xs I E h (faults v) Z (faults_splits v h.next) (faults_stand K c R a.order n r a.stands D S N L f.next h.I1 h.next_stands v) (let g = guard_weight N v h.I2 in omega (arith, g)) in
          let f' = block_flow n r b (only (holds v) I) in
          let g' = block_flow n r d (only (fails v) I) in
          let both : weight N (only (holds v) h.I2) + weight N (only (fails v) h.I2) ≡ weigh h.I2 = refl in
          two_follow b d (block_scaled low high steer n r b) (block_scaled low high steer n r d) (block_follows b p.0) (block_follows d p.1) weigh (ends_more Z f) Xs I E (faults v I) x (only (holds v)) (only (fails v))
          (only_go counted_pairs (holds v) f.next) (only_go counted_pairs (fails v) f.next) (only_splits (holds v) h.next) (only_splits (fails v) h.next)
          (only_stands K c R a.order n r a.stands D S N L f.next h.I1 h.next_stands (holds v)) (only_stands K c R a.order n r a.stands D S N L f.next h.I1 h.next_stands (fails v)) both
          (both_first N L (faults v I) f' g' s) (both_second N L (faults v I) f' g' s)
      statement_follows (Choice o b d) p f Xs I E w y s h =
          let K = pairs_kind low high in
          let c = pairs_counted part in
          let D = units f in
          let S = f.scale.0 in
          let A : Table → Table = scaled (class_weight o.den r o.num) in
          let B : Table → Table = scaled (class_weight o.den r (o.den - o.num)) in
          let C : Table → Table = scaled (no_class_weight o.den r) in
          let z : Table → Weighted End = λ I. all_end (limit Attempts) (C I) in
          let wf = side_first n r N L o b d I s in
          let wg = side_second n r N L o b d I s in
          let d0 : 0 < o.den = let z = p.0.positive in omega arith in
          let ha = wholes_split N (scaled_splits (class_weight o.den r o.num) h.next) (head_whole n r N L b (A I) wf.tables) in
          let hb = wholes_split N (scaled_splits (class_weight o.den r (o.den - o.num)) h.next) (head_whole n r N L d (B I) wg.tables) in
          let hc = wholes_split N (scaled_splits (no_class_weight o.den r) h.next) (undecided_whole n r N L o b d I s) in
          let hi = wholes_split N h.next w in
          let k = choice_kept N o.num o.den r h.I2 p.0.at_most_one d0 hi.1 ha.1 hb.1 hc.1 in
          let ez = all_end_weight N (limit Attempts) (C h.I2) in
          let u = rest_stands K c R a.order n r a.stands D S N L o.den d0 f.next h.I1 hi.0 hc.0 h.next_stands in
          let weigh : Table → ℕ = λ I. weight N (A I) + weight N (B I) in
          let Z = end_go counted_pairs (limit Attempts) (rest_pairs low high o.den r f.next) in
          let x = ends_follow weigh f Xs I E h z Z (end_splits (limit Attempts) (scaled_splits (no_class_weight o.den r) h.next)) (end_stands K c R a.order n r a.stands D S N L (rest_pairs low high o.den r f.next) (C h.I1) u (limit Attempts)) (omega (arith, k, ez)) in
          let both : weight N (A h.I2) + weight N (B h.I2) ≡ weigh h.I2 = refl in
          two_follow b d (block_scaled low high steer n r b) (block_scaled low high steer n r d) (block_follows b p.1) (block_follows d p.2) weigh (ends_more Z f) Xs I E (z I) x A B
          (class_pairs low high o.den r o.num f.next) (class_pairs low high o.den r (o.den - o.num) f.next) (scaled_splits (class_weight o.den r o.num) h.next) (scaled_splits (class_weight o.den r (o.den - o.num)) h.next)
          (class_stands K c R a.order n r a.stands D S N L o.den o.num d0 f.next h.I1 hi.0 ha.0 h.next_stands) (class_stands K c R a.order n r a.stands D S N L o.den (o.den - o.num) d0 f.next h.I1 hi.0 hb.0 h.next_stands) both wf wg
      statement_follows (Choose arms) p f Xs I E w y s h =
          let K = pairs_kind low high in
          let c = pairs_counted part in
          let D = units f in
          let S = f.scale.0 in
          let m = sum (parts_of arms) in
          let C : Table → Table = scaled (no_class_weight m r) in
          let z : Table → Weighted End = λ I. all_end (limit Attempts) (C I) in
          let g' = arms_flow n r m arms I in
          let d0 : 0 < m = let z = p.0.positive in omega arith in
          let hi = wholes_split N h.next w in
          let hc = wholes_split N (scaled_splits (no_class_weight m r) h.next) (ends_whole N (limit Attempts) (C I) (ends_first N (z I) g'.ended s.ended)) in
          let t = within_split N L (statement_flow n r (Choose arms) I) (statement_flow n r (Choose arms) h.I1) (statement_flow n r (Choose arms) h.I2) (statement_splits n r (Choose arms) h.next) s in
          let k = arms_kept n r N L arms h.I2 p.0 hi.1 t.1 in
          let u = rest_stands K c R a.order n r a.stands D S N L m d0 f.next h.I1 hi.0 hc.0 h.next_stands in
          let Z = end_go counted_pairs (limit Attempts) (rest_pairs low high m r f.next) in
          let weigh : Table → ℕ = arms_weight N m r (parts_of arms) in
          let x = ends_follow weigh f Xs I E h z Z (end_splits (limit Attempts) (scaled_splits (no_class_weight m r) h.next)) (end_stands K c R a.order n r a.stands D S N L (rest_pairs low high m r f.next) (C h.I1) u (limit Attempts)) (omega (arith, k)) in
          let F = ends_more Z f in
          let i = arms_follow m d0 arms p.1 (with_tables F.next ([] ∷ F.aside) F) [] Xs I (E ++ z I) w (choose_inside n r N L arms I s) (laid_aside weigh F Xs I (E ++ z I) x) in
          subst (λ t. Follows W (statement_scaled low high steer n r (Choose arms) f) Xs g'.next t) (append_assoc E (z I) g'.ended) i
      statement_follows (While e b) p f Xs I E w y s h =
          loop_follows (value_of e) b p (block_scaled low high steer n r b) (block_follows b p) n (with_tables f.next ([] ∷ f.aside) f) [] Xs I E s (laid_aside W f Xs I E h)

      pub block_follows : (b : Statements) → BlockIsWeighed b → BlockFollows b (block_scaled low high steer n r b)
      block_follows done p f Xs I E s h = subst (λ t. Follows W (tidied f) Xs I t) (sym (append-nil E)) (tidied_follows f Xs I E s.tables.1 h)
      block_follows (st ▸ b) p f Xs I E s h =
          let f' = statement_flow n r st I in
          let g' = block_flow n r b f'.next in
          let sf = first_inside n r N L st b I s in
          let sg = others_inside n r N L st b I s in
          let d = tidied f in
          let g = statement_scaled low high steer n r st d in
          let k = steer.factor g in
          let x = statement_follows st p.0 d Xs I E s.tables.0 (head_whole n r N L b f'.next sg.tables) sf (tidied_follows f Xs I E s.tables.1 h) in
          let y = times_follow k (q.some g) (q.fraction g) W g Xs f'.next (E ++ f'.ended) x in
          let z = block_follows b p.1 (times_all k g) Xs f'.next (E ++ f'.ended) sg y in
          subst (λ t. Follows W (block_scaled low high steer n r b (times_all k g)) Xs g'.next t) (append_assoc E f'.ended g'.ended) z

      arms_follow : (m : ℕ) → 0 < m → (arms : ArmList) → ArmsAreWeighed arms → (f : Scaled) (X : Table) (Xs : List Aside) (I : Table) (E : Weighted End) → Wholes N I → Within N L (arms_flow n r m arms I) →
          Follows (arms_weight N m r (parts_of arms)) f ((X, W) ∷ Xs) I E → Follows W (arms_scaled low high steer n r m arms f) Xs (X ++ (arms_flow n r m arms I).next) (E ++ (arms_flow n r m arms I).ended)
      arms_follow m d0 no_arm p f X Xs I E w s h =
          subst (λ t. Follows W (arms_scaled low high steer n r m no_arm f) Xs (X ++ []) t) (sym (append-nil E))
          (subst (λ t. Follows W (arms_scaled low high steer n r m no_arm f) Xs t E) (sym (append-nil X)) (drops f X Xs I E (arms_weight N m r (parts_of no_arm)) (λ J. refl) h))
      arms_follow m d0 (arm o b arms) p f X Xs I E w s h =
          let K = pairs_kind low high in
          let c = pairs_counted part in
          let A : Table → Table = scaled (class_weight m r o) in
          let f' = block_flow n r b (A I) in
          let g' = arms_flow n r m arms I in
          let wf = first_arm n r N L m o b arms I s in
          let hi = wholes_split N h.next w in
          let ha = wholes_split N (scaled_splits (class_weight m r o) h.next) (head_whole n r N L b (A I) wf.tables) in
          let weigh : Table → ℕ = arms_weight N m r (parts_of arms) in
          let J = class_pairs low high m r o f.next in
          let x = parted (arms_weight N m r (parts_of (arm o b arms))) weigh f ((X, W) ∷ Xs) I E h A (λ I. I) J f.next (scaled_splits (class_weight m r o) h.next) h.next
          (class_stands K c R a.order n r a.stands (units f) f.scale.0 N L m o d0 f.next h.I1 hi.0 ha.0 h.next_stands) h.next_stands refl in
          let F = with_tables J (f.next ∷ f.aside) f in
          let y = block_follows b p.0 F ((I, weigh) ∷ ((X, W) ∷ Xs)) (A I) E wf x in
          let G = block_scaled low high steer n r b F in
          let z = swaps W weigh G I ((X, W) ∷ Xs) f'.next (E ++ f'.ended) y in
          let i = joins_aside weigh (swapped G) f'.next X Xs I (E ++ f'.ended) z in
          let g = swapped G in
          let H = with_tables g.next ((top (below g.aside) ++ top g.aside) ∷ below (below g.aside)) g in
          let l = arms_follow m d0 arms p.1 H (X ++ f'.next) Xs I (E ++ f'.ended) w (other_arms n r N L m o b arms I s) i in
          subst (λ t. Follows W (arms_scaled low high steer n r m arms H) Xs (X ++ (f'.next ++ g'.next)) t) (append_assoc E f'.ended g'.ended)
          (subst (λ t. Follows W (arms_scaled low high steer n r m arms H) Xs t ((E ++ f'.ended) ++ g'.ended)) (append_assoc X f'.next g'.next) l)
