-- A table that stands aside, deeper than what a block puts there, has each state once after the block if it had before.
use Rattle.std.proofs.Common.{◌≡◌, ℕ, zero, suc, ◌*◌, ◌<◌, Bool, true, false, All, List, [], ◌∷◌, map, Option, refl, sym, ap, subst, arith}
use Rattle.std.specs.Prelude.{nat_le, if◌then◌else◌}
use Rattle.std.specs.List.Sorted.{IsStrictlySortedBy}
use Rattle.std.specs.Map.{keys_of, values_of}
use Rattle.std.proofs.lemmas.List.Elements.{All-cons, All-head, All-tail}
use Rattle.numbers.specs.declared.units.TheConstants.{ALL}
use Rattle.gcl_core.specs.meaning.Syntax.{Statement, Skip, Set, If, While, Choice, Choose, Uniform, Observe, Statements, done, ◌▸◌, ArmList, no_arm, arm}
use Rattle.gcl_core.specs.meaning.Value.{State, Value, value_of}
use Rattle.units_law.specs.Down.{down}
use Rattle.units_law.specs.Merged.{order, IsMerged}
use Rattle.scaled_law.specs.Growth.{left_of}
use Rattle.scaled_law.specs.Pairs.{Pair, Pairs, at_most}
use Rattle.scaled_law.specs.Scaled.{Scaled, top, below, times_pairs, times_all, tidied, left_loop, enters, loop_scaled, statement_scaled, block_scaled, arms_scaled}
use Rattle.scaled_law.specs.Up.{up}
use Rattle.scaled_fold.specs.Doubling.{doubled, times_for, doubling}
use Rattle.scaled_fold.proofs.Merged.{times_are, once}

-- the table that many tables below the top
abbrev pub at : ℕ → List (Pairs State) → Pairs State
at zero Js = top Js
at (suc d) Js = at d (below Js)

abbrev pub IsOnce : Pairs State → Type 0
IsOnce J = IsMerged (at_most J)

-- ---- more units each

pub doubled_some : (t w : ℕ) → 0 < doubled t w
doubled_some zero w = omega arith
doubled_some (suc t) w = by (nat_le (2 * w) ALL) (doubled_some t (2 * w))
  where
    by : (b : Bool) → 0 < doubled t (2 * w) → 0 < (if b then 2 * doubled t (2 * w) else 1)
    by true i = omega (arith, i)
    by false i = omega arith

same_keys : (k : ℕ) (J : Pairs State) → keys_of (at_most (times_pairs (k, 1) J)) ≡ keys_of (at_most J)
same_keys k [] = refl
same_keys k (e ∷ J) = ap (λ t. e.0 ∷ t) (same_keys k J)

times_some : (k : ℕ) → 0 < k → (J : Pairs State) → All (λ w. 0 < w) (values_of (at_most J)) → All (λ w. 0 < w) (values_of (at_most (times_pairs (k, 1) J)))
times_some k p [] h = h
times_some k p (e ∷ J) h =
    All-cons (λ w. 0 < w) _ _ (subst (λ (w : Pair). 0 < w.1) (sym (times_are k e.1)) (more e.1.1 (All-head (λ w. 0 < w) e.1.1 (values_of (at_most J)) h)))
    (times_some k p J (All-tail (λ w. 0 < w) e.1.1 (values_of (at_most J)) h))
  where
    more : (w : ℕ) → 0 < w → 0 < w * k
    more zero q = absurd (omega (arith, q))
    more (suc w) q = omega (arith, p)

pub times_once : (k : ℕ) → 0 < k → (J : Pairs State) → IsOnce J → IsOnce (times_pairs (k, 1) J)
times_once k p J m = record { sorted = subst (IsStrictlySortedBy order) (sym (same_keys k J)) m.sorted; some = times_some k p J m.some }

at_times : (k d : ℕ) (Js : List (Pairs State)) → at d (map (λ J. times_pairs (k, 1) J) Js) ≡ times_pairs (k, 1) (at d Js)
at_times k zero [] = refl
at_times k zero (J ∷ Js) = refl
at_times k (suc d) [] = at_times k d []
at_times k (suc d) (J ∷ Js) = at_times k d Js

abbrev pub Keeps : (Scaled → Scaled) → Type 0
Keeps g = (d : ℕ) (f : Scaled) → IsOnce (at d f.aside) → IsOnce (at d (g f).aside)

-- a factor is not 0
pub times_for_some : (w : ℕ) → 0 < times_for w
unfolding times_for
times_for_some w = doubled_some 120 w

pub grows_keeps : Keeps (λ f. times_all (doubling.factor f) f)
grows_keeps d f h = let k = times_for (left_of f) in subst IsOnce (sym (at_times k d f.aside)) (times_once k (times_for_some (left_of f)) (at d f.aside) h)

-- ---- loops

loop_keeps : (v : State → Value) (body : Scaled → Scaled) → Keeps body → (t d : ℕ) (f : Scaled) → IsOnce (at (suc d) f.aside) → IsOnce (at d (loop_scaled doubling v body t f).aside)
loop_keeps v body k zero d f h = h
loop_keeps v body k (suc t) d f h = by (doubling.leaves f.next) (loop_keeps v body k t d (body (enters v f)) (k (suc d) (enters v f) h))
  where
    by : (b : Bool) → IsOnce (at d (loop_scaled doubling v body t (body (enters v f))).aside) → IsOnce (at d (if b then left_loop f else loop_scaled doubling v body t (body (enters v f))).aside)
    by true i = h
    by false i = i

module _ (n : ℕ) (r : Option ℕ) where
  mutual
    pub statement_keeps : (s : Statement) → Keeps (statement_scaled down up doubling n r s)
    statement_keeps Skip d f h = h
    statement_keeps (Set x e) d f h = h
    statement_keeps (Observe e) d f h = h
    statement_keeps (Uniform x e) d f h = h
    statement_keeps (If e a c) d f h = block_keeps c (suc d) _ (block_keeps a (suc d) _ h)
    statement_keeps (Choice p a c) d f h = block_keeps c (suc d) _ (block_keeps a (suc d) _ h)
    statement_keeps (Choose arms) d f h = arms_keeps _ arms d _ h
    statement_keeps (While e a) d f h = loop_keeps (value_of e) (block_scaled down up doubling n r a) (block_keeps a) n d _ h

    pub block_keeps : (b : Statements) → Keeps (block_scaled down up doubling n r b)
    block_keeps done d f h = h
    block_keeps (st ▸ b) d f h = block_keeps b d _ (grows_keeps d (statement_scaled down up doubling n r st (tidied f)) (statement_keeps st d (tidied f) h))

    arms_keeps : (b : ℕ) (arms : ArmList) (d : ℕ) (f : Scaled) → IsOnce (at (suc d) f.aside) → IsOnce (at d (arms_scaled down up doubling n r b arms f).aside)
    arms_keeps b no_arm d f h = h
    arms_keeps b (arm p a arms) d f h = arms_keeps b arms d _ (block_keeps a (suc (suc d)) _ h)

  -- what a block leaves has each state once
  pub block_once : (b : Statements) (f : Scaled) → IsOnce (block_scaled down up doubling n r b f).next
  block_once done f = once f.next
  block_once (st ▸ b) f = block_once b _
