-- Two cut plays weighed, at a scale that both have: where ends at bad limits count nothing, the first is no heavier.
use Rattle.std.proofs.Common.{◌≡◌, ⊎_elim, ℕ, zero, suc, ◌*◌, ◌≤◌, ◌<◌, true, Option, Some, None, List, length, refl, subst, arith}
use Rattle.std.proofs.lemmas.Bool.{ltb-true, cases_lt}
use Rattle.gcl_core.specs.declared.answers.Limit.{Limit}
use Rattle.gcl_core.specs.declared.answers.Limit.TheVariants.{Turns, Attempts}
use Rattle.gcl_core.specs.meaning.Blocks.{End, on, failed, fault, limit, by_class}
use Rattle.gcl_core.proofs.Plays.{Play, drawing}
use Rattle.gcl_core.specs.weighing.WeightedEnds.{Weighted, sure, weighted_classes}
use Rattle.weighing_law.proofs.WeighedPlays.{weighed}
use Rattle.gcl_core.proofs.FittingValues.{end_fits}
use Rattle.weighing_law.proofs.Comparing.{Compared, cmp_sure, cmp_more, cmp_then}
use Rattle.weighing_law.proofs.DrawMatching.{class_below}
use Rattle.weighing_law.proofs.Shares.{product_pos}
use Rattle.gcl_core.proofs.CutPlays.{Cut, same_end, no_turns, same_draw, IsDraw}

-- one scale for n of them, where each has one
pub record Common (P : ℕ → ℕ → Type 0) (n : ℕ) : Type 0 where
  pub scale : ℕ
  pub positive : 0 < scale
  pub each : (i : ℕ) → i < n → P i scale

pub record AtSomeScale (P : ℕ → Type 0) : Type 0 where
  pub scale : ℕ
  pub positive : 0 < scale
  pub holds : P scale

pub common : (P : ℕ → ℕ → Type 0) → ((i N M : ℕ) → P i N → P i (N * M)) → (n : ℕ) → ((i : ℕ) → i < n → AtSomeScale (P i)) → Common P n
common P up zero h = record { scale = 1; positive = omega arith; each = λ i lt. absurd (omega arith) }
common P up (suc n) h =
    let c = common P up n (λ i lt. h i (omega arith)) in
    let l = h n (omega arith) in
    record {
      scale = c.scale * l.scale;
      positive = product_pos c.scale l.scale c.positive l.positive;
      each = λ i lt. ⊎_elim (λ (below : i < n). up i c.scale l.scale (c.each i below))
          (λ (above : n ≤ i). let e : n ≡ i = omega arith in let turned : l.scale * c.scale ≡ c.scale * l.scale = omega arith in subst (λ j. P j (c.scale * l.scale)) e (subst (P n) turned (up n l.scale c.scale l.holds))) (cases_lt i n);
    }

module _ (bad : Limit → Type 0) where
  abbrev pub BadEnd : End → Type 0
  BadEnd (on s) = ⊥
  BadEnd failed = ⊥
  BadEnd (fault f) = ⊥
  BadEnd (limit l) = bad l

  abbrev pub BadClass : Option ℕ → Type 0
  BadClass None = bad Attempts
  BadClass (Some i) = ⊥

  abbrev pub Pair : ℕ → Weighted End → Weighted End → Type 0
  Pair N m m' = Compared end_fits N BadEnd m m'

module _ (bad : Limit → Type 0) (r r' : Option ℕ) (fewer : ℕ)
    (drawn : (cs : List ℕ) → IsDraw cs → AtSomeScale (λ N. Compared (class_below (length cs)) N (BadClass bad) (weighted_classes cs r) (weighted_classes cs r'))) where
  abbrev pub Weighs : Play → Play → ℕ → Type 0
  Weighs p q N = Pair bad N (weighed r p) (weighed r' q)

  one_more : (cs : List ℕ) (k k' : ℕ → Play) (N M : ℕ) → Compared (class_below (length cs)) N (BadClass bad) (weighted_classes cs r) (weighted_classes cs r') → ((i : ℕ) → i < length cs → Weighs (k i) (k' i) M) →
      Weighs (drawing cs k) (drawing cs k') (N * M)
  one_more cs k k' N M c h =
      cmp_then (class_below (length cs)) end_fits N M (BadClass bad) (BadEnd bad) (weighted_classes cs r) (weighted_classes cs r') _ _ c step dead
    where
      step : (o : Option ℕ) → class_below (length cs) o ≡ true → Pair bad M (by_class o (sure (limit Attempts)) (λ i. weighed r (k i))) (by_class o (sure (limit Attempts)) (λ i. weighed r' (k' i)))
      step None t = cmp_sure end_fits M (BadEnd bad) (limit Attempts) refl
      step (Some i) t = h i (ltb-true i (length cs) t)

      dead : (o : Option ℕ) (t : class_below (length cs) o ≡ true) → BadClass bad o → (G : End → ℕ) → ((e : End) → BadEnd bad e → G e ≡ 0) → (step o t).low G ≡ 0
      dead None t b G z = rw (z (limit Attempts) b) (omega arith)
      dead (Some i) t b G z = absurd b

  pub play_weighs : (d : ℕ) (p q : Play) → Cut fewer (bad Turns) (Unit {0}) d p q → AtSomeScale (Weighs p q)
  play_weighs d p q (same_end e h) = record { scale = 1; positive = omega arith; holds = cmp_sure end_fits 1 (BadEnd bad) e h }
  play_weighs d p q (no_turns {p = m} l h) =
      let c = play_weighs d m q h in
      record { scale = c.scale; positive = c.positive; holds = turned_out c.scale (weighed r m) (weighed r' q) l c.holds }
    where
      turned_out : (N : ℕ) (m m' : Weighted End) → bad Turns → Pair bad N m m' → Pair bad N (sure (limit Turns)) m'
      turned_out N m m' b l = record {
        low = λ G. N * G (limit Turns);
        high = l.high;
        low_entries = (refl, tt);
        high_entries = l.high_entries;
        low_counts = λ G. (N, 0, omega arith, refl, omega arith);
        high_counts = l.high_counts;
        below = λ G H z h. rw (z (limit Turns) b) (omega arith);
      }
  play_weighs d p q (same_draw e cs k k' ok le h) =
      let w = drawn cs (ok tt) in
      let c = common (λ i. Weighs (k i) (k' i)) (λ i N M l. cmp_more end_fits N M (BadEnd bad) _ _ l) (length cs) (λ i lt. play_weighs e (k i) (k' i) (h i lt)) in
      record { scale = w.scale * c.scale; positive = product_pos w.scale c.scale w.positive c.positive; holds = one_more cs k k' w.scale c.scale w.holds c.each }
