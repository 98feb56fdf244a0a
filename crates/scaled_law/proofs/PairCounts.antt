-- Tables of pairs count one part of their units, and their products stand so to fractions: at least below, at most above, and at most with
-- no unit where the fractions have nothing.
use Rattle.std.proofs.Common.{◌≡◌, ℕ, zero, suc, ◌+◌, ◌*◌, ◌<◌, [], ◌∷◌, ◌++◌, map, Option, refl, ap, ◌∙◌, arith}
use Rattle.std.proofs.lemmas.Grind.{div_ceil_times}
use Rattle.std.proofs.Math.Nat.{div-mul-le_self}
use Rattle.gcl_core.specs.meaning.Value.{State}
use Rattle.gcl_core.specs.weighing.Fractions.{Fraction}
use Rattle.gcl_core.specs.weighing.WeightedEnds.{class_weight, no_class_weight}
use Rattle.units_law.specs.Rounding.{Rounding, RoundsDown}
use Rattle.units_law.specs.Units.{held}
use Rattle.units_law.proofs.Counted.{Counts, StandsIn}
use Rattle.units_law.proofs.Merging.{held_merged}
use Rattle.units_law.proofs.Orders.{IsOrder, NoMore, NoLess, NothingWhere, no_more, no_less, nothing_where, along}
use Rattle.scaled_law.specs.Pairs.{Pair, Pairs, at_most, counted_pairs, merged_pairs, pairs_kind}
use Rattle.scaled_law.specs.Scaled.{times_pair}
use Rattle.scaled_law.specs.Up.{RoundsUp}
use Rattle.scaled_law.proofs.Merging.{parts, most_merged, least_merged}

module _ (part : Pair → ℕ) where
  pub parts_append : {A : Type 0} (G : A → ℕ) (J K : Pairs A) → held G (parts part (J ++ K)) ≡ held G (parts part J) + held G (parts part K)
  parts_append G [] K = omega arith
  parts_append G (e ∷ J) K = let i = parts_append G J K in omega arith

  abbrev pub pairs_counted : Counts counted_pairs
  pairs_counted = record {
    many = λ e. part e.1;
    of = λ G J. held G (parts part J);
    of_ended = λ G J. held G (parts part J);
    none = λ G. refl;
    more = λ G e J. refl;
    none_ended = λ G. refl;
    more_ended = λ G z e K. refl;
    append_ended = parts_append;
    moved_state = λ s e. refl;
    moved_many = λ s e. refl;
  }

  -- where each pair is cut
  pub parts_cut : (R : ℕ → ℕ → Type 0) → IsOrder R → {A : Type 0} (G : A → ℕ) (u : Fraction) (cut : Pair → Pair) → ((w : Pair) → R (u.1 * part (cut w)) (u.0 * part w)) → (J : Pairs A) →
      R (u.1 * held G (parts part (map (λ e. (e.0, cut e.1)) J))) (u.0 * held G (parts part J))
  parts_cut R o G u cut c [] = along R 0 0 _ _ (omega arith) (omega arith) (o.itself 0)
  parts_cut R o G u cut c (e ∷ J) =
      along R (G e.0 * (u.1 * part (cut e.1)) + u.1 * held G (parts part (map (λ e. (e.0, cut e.1)) J))) (G e.0 * (u.0 * part e.1) + u.0 * held G (parts part J)) _ _ (omega arith) (omega arith)
      (o.sums _ _ _ _ (o.products (G e.0) (u.1 * part (cut e.1)) (u.0 * part e.1) (c e.1)) (parts_cut R o G u cut c J))

-- ---- products

abbrev pub low_part : Pair → ℕ
low_part w = w.0

abbrev pub high_part : Pair → ℕ
high_part w = w.1

module _ (low high : Rounding) (r : Option ℕ) where
  pub low_stands : RoundsDown low → StandsIn (pairs_kind low high) (pairs_counted low_part) NoMore r
  low_stands c = record {
    tidy = λ G J. least_merged G J;
    class = λ b q p G J. parts_cut low_part NoMore no_more G (class_weight b r q) (λ w. (low.share b r q w.0, high.share b r q w.1)) (λ w. c.shares b r q w.0 p) J;
    rest = λ b p G J. parts_cut low_part NoMore no_more G (no_class_weight b r) (λ w. (low.rest b r w.0, high.rest b r w.1)) (λ w. c.rests b r w.0 p) J;
  }

  merged_same : (G : State → ℕ) (J : Pairs State) → held G (at_most (merged_pairs J)) ≡ held G (at_most J)
  merged_same G J = ap (λ t. held G t) (most_merged J) ∙ held_merged (at_most J) G

  pub high_stands : RoundsUp high → StandsIn (pairs_kind low high) (pairs_counted high_part) NoLess r
  high_stands c = record {
    tidy = λ G J. let e = merged_same G J in omega arith;
    class = λ b q p G J. parts_cut high_part NoLess no_less G (class_weight b r q) (λ w. (low.share b r q w.0, high.share b r q w.1)) (λ w. c.shares b r q w.1 p) J;
    rest = λ b p G J. parts_cut high_part NoLess no_less G (no_class_weight b r) (λ w. (low.rest b r w.0, high.rest b r w.1)) (λ w. c.rests b r w.1 p) J;
  }

  pub nothing_stands : RoundsUp high → StandsIn (pairs_kind low high) (pairs_counted high_part) NothingWhere r
  nothing_stands c = record {
    tidy = λ G J e. let x = merged_same G J in omega arith;
    class = λ b q p G J. parts_cut high_part NothingWhere nothing_where G (class_weight b r q) (λ w. (low.share b r q w.0, high.share b r q w.1)) (λ w e. let x = c.no_share b r q w.1 p e in rw x (omega arith)) J;
    rest = λ b p G J. parts_cut high_part NothingWhere nothing_where G (no_class_weight b r) (λ w. (low.rest b r w.0, high.rest b r w.1)) (λ w e. let x = c.no_rest b r w.1 p e in rw x (omega arith)) J;
  }

-- ---- other units

pub low_times : (k : Fraction) → 0 < k.1 → (w : Pair) → NoMore (k.1 * low_part (times_pair k w)) (k.0 * low_part w)
low_times k p w = let x = div-mul-le_self (w.0 * k.0) k.1 in omega arith

pub high_times : (k : Fraction) → 0 < k.1 → (w : Pair) → NoLess (k.1 * high_part (times_pair k w)) (k.0 * high_part w)
high_times k p w = let x = (div_ceil_times (w.1 * k.0) k.1 p).0 in omega arith

pub nothing_times : (k : Fraction) → 0 < k.1 → (w : Pair) → NothingWhere (k.1 * high_part (times_pair k w)) (k.0 * high_part w)
nothing_times k p w e =
    let x = (div_ceil_times (w.1 * k.0) k.1 p).1 in
    none k.1 (high_part (times_pair k w)) (w.1 * k.0) x (omega arith)
  where
    none : (d t m : ℕ) → t * d < m + d → m ≡ 0 → d * t ≡ 0
    none d zero m x e = omega arith
    none d (suc t) m x e = absurd (omega arith)
