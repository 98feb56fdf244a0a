-- Merged tables of pairs: put together, and with more units each.
use Rattle.std.proofs.Common.{◌≡◌, ℕ, ◌+◌, ◌*◌, ◌/◌, ◌≤◌, ◌<◌, [], ◌∷◌, ◌++◌, refl, sym, ap, ◌∙◌, subst, arith}
use Rattle.std.specs.Int.{div_ceil}
use Rattle.std.proofs.lemmas.Grind.{div_ceil_times}
use Rattle.std.proofs.Math.Nat.{mul-le-mul_left}
use Rattle.gcl_core.specs.meaning.Value.{State}
use Rattle.units_law.specs.Merged.{IsMerged}
use Rattle.units_law.specs.Units.{held}
use Rattle.units_law.proofs.Merging.{merged_once, held_merged}
use Rattle.scaled_law.specs.Pairs.{Pair, Pairs, InOrder, at_least, at_most, put_pair, put_pairs, merged_pairs}
use Rattle.scaled_law.specs.Scaled.{times_pair, times_pairs}
use Rattle.scaled_law.proofs.Merging.{most_merged, least_merged_same, merged_in_order, pairs_merged_same, pairs_merged_again, pairs_merged_further}
use Rattle.scaled_law.proofs.PairCounts.{parts_append}
use Rattle.scaled_fold.specs.inner.Holding.{IsMergedOf}

pub put_further : (es J K : Pairs State) → put_pairs es (J ++ K) ≡ put_pairs (put_pairs es J) K
put_further es [] K = refl
put_further es (e ∷ J) K = put_further (put_pair es e.0 e.1.0 e.1.1) J K

-- ---- what lists hold, at least and at most

pub record Alike {A : Type 0} (J K : Pairs A) : Type 0 where
  pub least : (G : A → ℕ) → held G (at_least J) ≡ held G (at_least K)
  pub most : (G : A → ℕ) → held G (at_most J) ≡ held G (at_most K)

pub least_append : {A : Type 0} (G : A → ℕ) (J K : Pairs A) → held G (at_least (J ++ K)) ≡ held G (at_least J) + held G (at_least K)
least_append G J K = parts_append (λ w. w.0) G J K

pub most_append : {A : Type 0} (G : A → ℕ) (J K : Pairs A) → held G (at_most (J ++ K)) ≡ held G (at_most J) + held G (at_most K)
most_append G J K = parts_append (λ w. w.1) G J K

pub merged_alike : (es J : Pairs State) → IsMergedOf es J → Alike es J
merged_alike es J m = record {
  least = λ G. ap (λ K. held G (at_least K)) m.is ∙ least_merged_same J m.in_order G;
  most = λ G. ap (λ K. held G (at_most K)) m.is ∙ ap (held G) (most_merged J) ∙ held_merged (at_most J) G;
}

pub merged_order : (es J : Pairs State) → IsMergedOf es J → InOrder es
merged_order es J m = subst InOrder (sym m.is) (merged_in_order J m.in_order)

pub same_merged : (J K : Pairs State) → InOrder J → InOrder K → Alike J K → merged_pairs J ≡ merged_pairs K
same_merged J K i j a = pairs_merged_same J K i j a.least a.most

pub none_merged : IsMergedOf [] []
none_merged = record { is = refl; in_order = tt }

-- ---- each state once

pub once : (J : Pairs State) → IsMerged (at_most (merged_pairs J))
once J = subst IsMerged (sym (most_merged J)) (merged_once (at_most J))

pub of_itself : (J : Pairs State) → InOrder J → IsMergedOf (merged_pairs J) (merged_pairs J)
of_itself J i = record { is = sym (pairs_merged_again (merged_pairs J) (once J) (merged_in_order J i)); in_order = merged_in_order J i }

-- ---- one behind the other

pub order_append : (J K : Pairs State) → InOrder J → InOrder K → InOrder (J ++ K)
order_append [] K i j = j
order_append (e ∷ J) K i j = (i.0, order_append J K i.1 j)

pub both_merged : (es fs J K : Pairs State) → IsMergedOf es J → IsMergedOf fs K → IsMergedOf (put_pairs es fs) (J ++ K)
both_merged es fs J K m k =
    let i = order_append J K m.in_order k.in_order in
    let e : es ≡ merged_pairs es = m.is ∙ (of_itself J m.in_order).is ∙ sym (ap merged_pairs m.is) in
    let a = merged_alike es J m in
    let b = merged_alike fs K k in
    let s : merged_pairs (es ++ fs) ≡ merged_pairs (J ++ K) = same_merged (es ++ fs) (J ++ K) (order_append es fs (merged_order es J m) (merged_order fs K k)) i
    (record {
      least = λ G. let x = least_append G es fs in let y = least_append G J K in let u = a.least G in let v = b.least G in omega arith;
      most = λ G. let x = most_append G es fs in let y = most_append G J K in let u = a.most G in let v = b.most G in omega arith;
    }) in
    record { is = ap (λ z. put_pairs z fs) e ∙ sym (pairs_merged_further es fs) ∙ s; in_order = i }

-- ---- more units each

over_one : (m : ℕ) → m / 1 ≡ m
over_one m = omega arith

ceil_one : (m : ℕ) → div_ceil m 1 ≡ m
ceil_one m = let p : 0 < 1 = omega arith in let x = (div_ceil_times m 1 p).0 in let y = (div_ceil_times m 1 p).1 in omega (arith, x, y)

pub times_are : (k : ℕ) (w : Pair) → times_pair (k, 1) w ≡ (w.0 * k, w.1 * k)
times_are k w = ap (λ l. (l, div_ceil (w.1 * k) 1)) (over_one (w.0 * k)) ∙ ap (λ h. (w.0 * k, h)) (ceil_one (w.1 * k))

pub least_times : {A : Type 0} (k : ℕ) (G : A → ℕ) (J : Pairs A) → held G (at_least (times_pairs (k, 1) J)) ≡ k * held G (at_least J)
least_times k G [] = omega arith
least_times k G (e ∷ J) = let i = least_times k G J in let x = ap (λ (w : Pair). w.0 * G e.0) (times_are k e.1) in omega arith

pub most_times : {A : Type 0} (k : ℕ) (G : A → ℕ) (J : Pairs A) → held G (at_most (times_pairs (k, 1) J)) ≡ k * held G (at_most J)
most_times k G [] = omega arith
most_times k G (e ∷ J) = let i = most_times k G J in let x = ap (λ (w : Pair). w.1 * G e.0) (times_are k e.1) in omega arith

pub order_times : (k : ℕ) (J : Pairs State) → InOrder J → InOrder (times_pairs (k, 1) J)
order_times k [] i = tt
order_times k (e ∷ J) i = (subst (λ (w : Pair). w.0 ≤ w.1) (sym (times_are k e.1)) (more e.1.0 e.1.1 i.0), order_times k J i.1)
  where
    more : (l h : ℕ) → l ≤ h → l * k ≤ h * k
    more l h p = let x = mul-le-mul_left k p in omega (arith, x)

pub times_merged : (k : ℕ) (es J : Pairs State) → IsMergedOf es J → IsMergedOf (merged_pairs (times_pairs (k, 1) es)) (times_pairs (k, 1) J)
times_merged k es J m =
    let a = merged_alike es J m in
    record {
      is = same_merged (times_pairs (k, 1) es) (times_pairs (k, 1) J) (order_times k es (merged_order es J m)) (order_times k J m.in_order)
          (record {
            least = λ G. least_times k G es ∙ ap (λ x. k * x) (a.least G) ∙ sym (least_times k G J);
            most = λ G. most_times k G es ∙ ap (λ x. k * x) (a.most G) ∙ sym (most_times k G J);
          });
      in_order = order_times k J m.in_order;
    }

-- once as many are as many
pub one_pair : (u : Pair) → times_pair (1, 1) u ≡ u
one_pair u =
    let x : u.0 * 1 ≡ u.0 = omega arith in
    let y : u.1 * 1 ≡ u.1 = omega arith in
    let first : times_pair (1, 1) u ≡ (u.0, u.1 * 1) = times_are 1 u ∙ ap (λ (l : ℕ). (l, u.1 * 1)) x in
    first ∙ ap (λ (h : ℕ). (u.0, h)) y

pub times_one : {A : Type 0} (J : Pairs A) → times_pairs (1, 1) J ≡ J
times_one [] = refl
times_one (e ∷ J) = ap (λ (w : Pair). (e.0, w) ∷ times_pairs (1, 1) J) (one_pair e.1) ∙ ap (λ t. e ∷ t) (times_one J)
