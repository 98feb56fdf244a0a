-- A walk with more units each follows the round that has them, and what has not failed is as much on both.
use Rattle.std.proofs.Common.{◌≡◌, ℕ, ◌+◌, ◌*◌, ◌^◌, List, [], ◌∷◌, cond, map, refl, sym, ap, ◌∙◌, subst, arith}
use Rattle.gcl_core.specs.meaning.Value.{State}
use Rattle.gcl_core.specs.weighing.Mass.{is_failed}
use Rattle.std.proofs.lemmas.Nat.{pow-add}
use Rattle.numbers.specs.declared.units.TheConstants.{ALL}
use Rattle.gcl_core.specs.weighing.Fractions.{Fraction}
use Rattle.units_law.specs.Units.{total}
use Rattle.scaled_law.specs.Growth.{all_most, left_of}
use Rattle.scaled_law.specs.Pairs.{Pair, Pairs, at_most, merged_pairs}
use Rattle.scaled_law.specs.Scaled.{Scaled, times_pair, times_pairs, times_all}
use Rattle.scaled_fold.specs.Doubling.{doubled, times_for, doubling}
use Rattle.scaled_fold.specs.declared.walk.Walk.{Walk}
use Rattle.scaled_fold.specs.inner.Ended.{units_of, EndAlike}
use Rattle.scaled_fold.specs.inner.Holding.{IsMergedOf, AreMergedOf, scale_of, Holds, Follows}
use Rattle.scaled_fold.specs.inner.Stack.{stack_of}
use Rattle.scaled_fold.proofs.Following.{as_merged, as_aside}
use Rattle.scaled_fold.proofs.Merged.{merged_alike, times_merged, one_pair, times_one, least_times, most_times}

all_times : (k : ℕ) (ess Js : List (Pairs State)) → AreMergedOf ess Js → AreMergedOf (map (λ J. merged_pairs (times_pairs (k, 1) J)) ess) (map (λ J. times_pairs (k, 1) J) Js)
all_times k [] [] a = tt
all_times k [] (J ∷ Js) a = absurd a
all_times k (es ∷ ess) [] a = absurd a
all_times k (es ∷ ess) (J ∷ Js) a = (times_merged k es J a.0, all_times k ess Js a.1)

-- k times as many units make one whole
abbrev pub multiple : ℕ → Fraction → Fraction
multiple k S = (k * S.0, 1 * S.1)

-- where they were doubled so often
doubled_scale : (d m n : ℕ) → n ≡ d + m → scale_of n ≡ multiple (2 ^ m) (scale_of d)
doubled_scale d m n e =
    ap scale_of e ∙ ap (λ k. (ALL * k, 1)) (pow-add 2 d m) ∙ ap (λ k. (k, 1)) (let x : ALL * (2 ^ d * 2 ^ m) ≡ 2 ^ m * (ALL * 2 ^ d) = omega arith in x)

times_follow : (k : ℕ) (w t : Walk) → t.next.states.entries ≡ merged_pairs (times_pairs (k, 1) w.next.states.entries) → stack_of t.aside ≡ map (λ J. merged_pairs (times_pairs (k, 1) J)) (stack_of w.aside) →
    units_of t.ended ≡ times_pairs (k, 1) (units_of w.ended) → t.loose ≡ times_pair (k, 1) w.loose → scale_of t.doubled ≡ multiple k (scale_of w.doubled) → t.next.vars ≡ w.next.vars → Follows (times_all (k, 1)) w t
times_follow k w t p q e l d v = record {
  holds = λ f h. record {
    next = as_merged _ _ _ p (times_merged k w.next.states.entries f.next h.next);
    aside = as_aside _ _ (map (λ J. times_pairs (k, 1) J) f.aside) q (all_times k (stack_of w.aside) f.aside h.aside);
    ended = subst (λ E. EndAlike E [] (times_pairs (k, 1) f.ended) []) (sym e) (record {
      least = λ G z. let a = h.ended.least G z in let b = least_times k G (units_of w.ended) in let c = least_times k G f.ended in let d = ap (λ n. k * n) a in omega arith;
      most = λ G z. let a = h.ended.most G z in let b = most_times k G (units_of w.ended) in let c = most_times k G f.ended in let d = ap (λ n. k * n) a in omega arith;
    });
    loose = l ∙ ap (times_pair (k, 1)) h.loose;
    scale = ap (multiple k) h.scale ∙ sym d;
  };
  vars = v;
}

pub doubled_follow : (k m : ℕ) (w t : Walk) → k ≡ 2 ^ m → t.next.states.entries ≡ merged_pairs (times_pairs (k, 1) w.next.states.entries) →
    stack_of t.aside ≡ map (λ J. merged_pairs (times_pairs (k, 1) J)) (stack_of w.aside) → units_of t.ended ≡ times_pairs (k, 1) (units_of w.ended) → t.loose ≡ times_pair (k, 1) w.loose →
    t.doubled ≡ w.doubled + m → t.next.vars ≡ w.next.vars → Follows (times_all (2 ^ m, 1)) w t
doubled_follow k m w t e p q u l d v =
    subst (λ k. Follows (times_all (k, 1)) w t) e (times_follow k w t p q u l (doubled_scale w.doubled m t.doubled d ∙ ap (λ k. multiple k (scale_of w.doubled)) (sym e)) v)

-- ---- what has not failed

all_alike : (ess Js : List (Pairs State)) → AreMergedOf ess Js → all_most ess ≡ all_most Js
all_alike [] [] a = refl
all_alike [] (J ∷ Js) a = absurd a
all_alike (es ∷ ess) [] a = absurd a
all_alike (es ∷ ess) (J ∷ Js) a = let i = all_alike ess Js a.1 in let x = (merged_alike es J a.0).most (λ s. 1) in omega arith

pub left_is : (w : Walk) (n : ℕ) → n ≡ total (at_most w.next.states.entries) + (all_most (stack_of w.aside) + (total (at_most (units_of w.ended)) + w.loose.1)) → (f : Scaled) → Holds f w → n ≡ left_of f
left_is w n e f h =
    let a = (merged_alike w.next.states.entries f.next h.next).most (λ s. 1) in
    let b = all_alike (stack_of w.aside) f.aside h.aside in
    let c = h.ended.most (λ x. cond (is_failed x) 0 1) refl in
    let d = ap (λ (u : Pair). u.1) h.loose in
    omega arith

-- ---- as many times as many as there is room for

pub is_times : (w : ℕ) → doubled 120 w ≡ times_for w
unfolding times_for
is_times w = refl

-- the units of a walk are multiplied by what the round multiplies its own by
pub grown_follows : (k : ℕ) (w t : Walk) → ((f : Scaled) → Holds f w → k ≡ times_for (left_of f)) → Follows (times_all (k, 1)) w t → Follows (λ f. times_all (doubling.factor f) f) w t
grown_follows k w t e s = record { holds = λ f h. subst (λ k. Holds (times_all (k, 1) f) t) (e f h) (s.holds f h); vars = s.vars }

times_one_all : (Js : List (Pairs State)) → map (λ J. times_pairs (1, 1) J) Js ≡ Js
times_one_all [] = refl
times_one_all (J ∷ Js) = ap (λ K. K ∷ map (λ J. times_pairs (1, 1) J) Js) (times_one J) ∙ ap (λ Ks. J ∷ Ks) (times_one_all Js)

once_scale : (S : Fraction) → multiple 1 S ≡ S
once_scale S = let a : 1 * S.0 ≡ S.0 = omega arith in let b : 1 * S.1 ≡ S.1 = omega arith in ap (λ n. (n, 1 * S.1)) a ∙ ap (λ n. (S.0, n)) b

pub once_follows : (k : ℕ) (w : Walk) → k ≡ 1 → Follows (times_all (k, 1)) w w
once_follows k w e = subst (λ k. Follows (times_all (k, 1)) w w) (sym e) (record {
  holds = λ f h. record {
    next = subst (IsMergedOf w.next.states.entries) (sym (times_one f.next)) h.next;
    aside = subst (AreMergedOf (stack_of w.aside)) (sym (times_one_all f.aside)) h.aside;
    ended = subst (λ X. EndAlike (units_of w.ended) [] X []) (sym (times_one f.ended)) h.ended;
    loose = h.loose ∙ sym (one_pair f.loose);
    scale = once_scale f.scale ∙ h.scale;
  };
  vars = refl;
})
