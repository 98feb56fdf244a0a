-- Tables that stand aside in a walk over pairs, each beside its fractions: those that it stands to, and those that are loose.
use Rattle.std.proofs.Common.{◌≡◌, ℕ, ◌+◌, ◌*◌, ◌<◌, List, [], ◌∷◌, map, refl, ap, arith}
use Rattle.gcl_core.specs.meaning.Value.{State}
use Rattle.gcl_core.specs.weighing.Fractions.{Fraction}
use Rattle.gcl_core.specs.weighing.WeightedEnds.{Weighted}
use Rattle.table_flow.specs.Scale.{amount}
use Rattle.table_flow.specs.Tables.{Table}
use Rattle.units_law.specs.Units.{held}
use Rattle.units_law.proofs.Counted.{Stands}
use Rattle.units_law.proofs.Orders.{IsOrder, along}
use Rattle.scaled_law.specs.Pairs.{Pair, Pairs}
use Rattle.scaled_law.specs.Scaled.{top, below, times_pair, times_pairs}
use Rattle.scaled_law.proofs.Merging.{parts}
use Rattle.scaled_law.proofs.PairCounts.{parts_cut}
use Rattle.scaled_law.proofs.Splits.{Splits}

-- a table that stands aside, as fractions, and how what is loose of it weighs
abbrev pub Aside : Type 0
Aside = Table × (Table → ℕ)

module _ (part : Pair → ℕ) (R : ℕ → ℕ → Type 0) (N : ℕ) where
  abbrev pub of : {A : Type 0} → (A → ℕ) → Pairs A → ℕ
  of G J = held G (parts part J)

  -- ---- what stands aside

  pub record Beside (D S : ℕ) (K : Pairs State) (X : Table) : Type 0 where
    pub X1 : Table
    pub X2 : Table
    pub split : Splits X X1 X2
    pub stands : Stands of R D S N K X1

  abbrev pub AllBeside : (D S : ℕ) → List (Pairs State) → List Aside → Type 0
  AllBeside D S [] [] = Unit {0}
  AllBeside D S [] (x ∷ Xs) = ⊥
  AllBeside D S (K ∷ Ks) [] = ⊥
  AllBeside D S (K ∷ Ks) (x ∷ Xs) = Beside D S K x.0 × AllBeside D S Ks Xs

  abbrev pub lost : (D S : ℕ) (Ks : List (Pairs State)) (Xs : List Aside) → AllBeside D S Ks Xs → ℕ
  lost D S [] [] b = 0
  lost D S [] (x ∷ Xs) b = absurd b
  lost D S (K ∷ Ks) [] b = absurd b
  lost D S (K ∷ Ks) (x ∷ Xs) b = x.1 b.0.X2 + lost D S Ks Xs b.1

  -- the first of them, and the others
  pub record Topped (D S : ℕ) (Ks : List (Pairs State)) (x : Aside) (Xs : List Aside) (b : AllBeside D S Ks (x ∷ Xs)) : Type 0 where
    pub one : Beside D S (top Ks) x.0
    pub others : AllBeside D S (below Ks) Xs
    pub all : lost D S Ks (x ∷ Xs) b ≡ x.1 one.X2 + lost D S (below Ks) Xs others

  pub topped : (D S : ℕ) (Ks : List (Pairs State)) (x : Aside) (Xs : List Aside) (b : AllBeside D S Ks (x ∷ Xs)) → Topped D S Ks x Xs b
  topped D S [] x Xs b = absurd b
  topped D S (K ∷ Ks) x Xs b = record { one = b.0; others = b.1; all = refl }

  module _ (o : IsOrder R) (times : (k : Fraction) → 0 < k.1 → (w : Pair) → R (k.1 * part (times_pair k w)) (k.0 * part w)) where
    -- ---- other units

    -- over plain numbers
    pub timed : (d S k0 k1 x y b : ℕ) → R (k1 * x) (k0 * y) → R (d * N * y) (S * b) → R (k1 * d * N * x) (k0 * S * b)
    timed d S k0 k1 x y b h i =
        o.further _ (k0 * (d * N * y)) _
        (along R (d * N * (k1 * x)) (d * N * (k0 * y)) (k1 * d * N * x) (k0 * (d * N * y)) (omega arith) (omega arith) (o.products (d * N) (k1 * x) (k0 * y) h))
        (along R (k0 * (d * N * y)) (k0 * (S * b)) (k0 * (d * N * y)) (k0 * S * b) refl (omega arith) (o.products k0 (d * N * y) (S * b) i))

    pub times_stand : (k : Fraction) → 0 < k.1 → (d S : ℕ) {A : Type 0} (J : Pairs A) (I : Weighted A) → Stands of R (d * N) S N J I → Stands of R (k.1 * d * N) (k.0 * S) N (times_pairs k J) I
    times_stand k p d S J I h G = timed d S k.0 k.1 (of G (times_pairs k J)) (of G J) (amount N G I) (parts_cut part R o G k (times_pair k) (times k p) J) (h G)

    pub record TimesBeside (D S D' S' : ℕ) (Ks : List (Pairs State)) (Ks' : List (Pairs State)) (Xs : List Aside) (b : AllBeside D S Ks Xs) : Type 0 where
      pub all : AllBeside D' S' Ks' Xs
      pub same : lost D' S' Ks' Xs all ≡ lost D S Ks Xs b

    pub times_beside : (k : Fraction) → 0 < k.1 → (d S : ℕ) (Ks : List (Pairs State)) (Xs : List Aside) (b : AllBeside (d * N) S Ks Xs) → TimesBeside (d * N) S (k.1 * d * N) (k.0 * S) Ks (map (λ J. times_pairs k J) Ks) Xs b
    times_beside k p d S [] [] b = record { all = tt; same = refl }
    times_beside k p d S [] (x ∷ Xs) b = absurd b
    times_beside k p d S (K ∷ Ks) [] b = absurd b
    times_beside k p d S (K ∷ Ks) (x ∷ Xs) b =
        let i = times_beside k p d S Ks Xs b.1 in
        record {
          all = (record { X1 = b.0.X1; X2 = b.0.X2; split = b.0.split; stands = times_stand k p d S K b.0.X1 b.0.stands }, i.all);
          same = ap (λ t. x.1 b.0.X2 + t) i.same;
        }
