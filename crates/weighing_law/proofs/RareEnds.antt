-- How rarely a play ends for want of attempts: each bit that it may read by one attempt for each draw adds 2 to the minus the limit of attempts.
use Rattle.std.proofs.Common.{◌≡◌, ◌⊎◌, inl, inr, ℕ, zero, suc, ◌+◌, ◌*◌, ◌^◌, ◌-◌, ◌≤◌, ◌<◌, Bool, true, false, Option, Some, None, List, [], ◌∷◌, length, refl, ap, subst, arith}
use Rattle.std.proofs.lemmas.Bool.{ltb-true, cases_lt}
use Rattle.std.proofs.lemmas.Nat.{pow_pos, pow-add}
use Rattle.std.proofs.Math.Nat.{pow-suc, pow-zero, mul-le-mul_left, mul-le-mul_right}
use Rattle.gcl_core.specs.declared.answers.Limit.TheVariants.{Attempts}
use Rattle.gcl_core.specs.meaning.Blocks.{End, limit, by_class}
use Rattle.gcl_core.specs.meaning.Draw.{bits_for, last_from, last_end, rejected_numbers, strings_to_a_number}
use Rattle.gcl_core.specs.weighing.OneDraw.{Ascends}
use Rattle.gcl_core.specs.weighing.WeightedEnds.{Weighted, sure, class_weight, no_class_weight, classes_from, weighted_classes, draw_weighted}
use Rattle.gcl_core.proofs.Classes.{bits_enough, bits_le}
use Rattle.gcl_core.proofs.CutPlays.{IsDraw, Cut, same_end, no_turns, same_draw}
use Rattle.gcl_core.proofs.DrawTrees.{class_sum, parts_all}
use Rattle.gcl_core.proofs.Plays.{Play, drawing}
use Rattle.gcl_core.proofs.Sums.{two_more}
use Rattle.gcl_core.proofs.TreeWeights.{chi}
use Rattle.weighing_law.proofs.DrawMatching.{class_below, draw_entries, counts_classes}
use Rattle.weighing_law.proofs.Passing.{if_passes, either_way, passing}
use Rattle.weighing_law.proofs.PlayWeights.{AtSomeScale, common}
use Rattle.weighing_law.proofs.Shares.{product_pos}
use Rattle.weighing_law.proofs.WeighedPlays.{weighed}
use Rattle.weighing_law.proofs.WeightedLists.{Counts, counts-append, counts-more, counts_taken_on}
use Rattle.weighing_law.proofs.Spared.{is_own, Spares}

-- ---- rejected numbers
-- of the numbers of the bits for b fewer than half are rejected
few_rejected : (b k : ℕ) → 1 ≤ b → bits_for b ≡ k → b ≤ 2 ^ k → (k ≡ 0 → 2 ^ k - b ≡ 0) × (1 ≤ k → 2 * (2 ^ k - b) ≤ 2 ^ k)
few_rejected b zero one e top = (λ z. omega (arith, one), λ h. absurd (omega arith))
few_rejected b (suc j) one e top = (λ z. absurd (omega arith), λ h. by_order (cases_lt (2 ^ j) b))
  where
    by_order : (2 ^ j < b) ⊎ (b ≤ 2 ^ j) → 2 * (2 ^ suc j - b) ≤ 2 ^ suc j
    by_order (inl h) = omega (arith, two_more j)
    by_order (inr h) = let le = bits_le b j h in absurd (omega (arith, e, le))

half_power : (q k : ℕ) → 2 * q ≤ 2 ^ k → (r : ℕ) → 2 ^ r * q ^ r ≤ 2 ^ (k * r)
half_power q k h zero = let p : k * 0 ≡ 0 = omega arith in rw (p, pow-zero q) (omega arith)
half_power q k h (suc r) =
    let p : k * suc r ≡ k + k * r = omega arith in
    rw (p, pow-add 2 k (k * r), pow-suc q r) (more q (q ^ r) (2 ^ r) (2 ^ suc r) (2 ^ k) (2 ^ (k * r)) (two_more r) h (half_power q k h r))
  where
    more : (q Q T T' K N : ℕ) → T' ≡ T + T → 2 * q ≤ K → T * Q ≤ N → T' * (Q * q) ≤ K * N
    more q Q T T' K N e h k = rw e (let x = mul-le-mul_right (T * Q) h in let y = mul-le-mul_left K k in omega arith)

no_power : (q r : ℕ) → q ≡ 0 → 1 ≤ r → q ^ r ≡ 0
no_power q zero e h = absurd (omega arith)
no_power q (suc r) e h = let p = pow-suc q r in let z = ap (λ x. q ^ r * x) e in omega arith

pub rejects_rarely : (b r : ℕ) → 1 ≤ b → 1 ≤ r → 2 ^ r * rejected_numbers b ^ r ≤ bits_for b * 2 ^ (bits_for b * r)
rejects_rarely b r one some =
    let few = few_rejected b (bits_for b) one refl (bits_enough b) in
    by_bits (bits_for b) few.0 few.1
  where
    by_bits : (k : ℕ) → (k ≡ 0 → 2 ^ k - b ≡ 0) → (1 ≤ k → 2 * (2 ^ k - b) ≤ 2 ^ k) → 2 ^ r * (2 ^ k - b) ^ r ≤ k * 2 ^ (k * r)
    by_bits zero none few = let z = no_power (2 ^ 0 - b) r (none refl) some in rw z (omega arith)
    by_bits (suc j) none few =
        let h = half_power (2 ^ suc j - b) (suc j) (few (omega arith)) r in
        let x = mul-le-mul_right (2 ^ (suc j * r)) (let le : 1 ≤ suc j = omega arith in le) in omega arith

-- ---- sums over classes
parts_sum : (i c : ℕ) (ends : List ℕ) → Ascends c ends → c + class_sum (λ o. 1) i c ends ≡ last_from c ends
parts_sum i c [] up = omega arith
parts_sum i c (d ∷ ends) up = let h = parts_sum (i + 1) d ends up.1 in let le = up.0 in omega arith

class_sum_most : (H : Option ℕ → ℕ) (x X i c : ℕ) (ends : List ℕ) → ((j : ℕ) → x * H (Some j) ≤ X) → x * class_sum H i c ends ≤ X * class_sum (λ o. 1) i c ends
class_sum_most H x X i c [] h = omega arith
class_sum_most H x X i c (d ∷ ends) h = more (d - c) (H (Some i)) x X _ _ (h i) (class_sum_most H x X (i + 1) d ends h)
  where
    more : (p g x X s t : ℕ) → x * g ≤ X → x * s ≤ X * t → x * (p * g + s) ≤ X * (p * 1 + t)
    more p g x X s t a b = let y = mul-le-mul_left p a in omega arith

-- ---- plays
module _ (meant : End → Bool) (own : (e : End) → is_own e ≡ true → meant e ≡ false) (r : ℕ) (some : 1 ≤ r) where
  abbrev G : End → ℕ
  G = chi meant

  -- of a whole of N, the ends that are meant have at most d / (r * 2 ^ r), where at most d bits are read by r attempts for each draw; and
  -- nothing, where the limit of attempts is not meant
  pub record Rare (d N : ℕ) (m : Weighted End) : Type 0 where
    pub part : ℕ
    pub counts : Counts N G m part
    pub few : r * 2 ^ r * part ≤ d * N * G (limit Attempts)

  rare_sure : (d N : ℕ) (e : End) → is_own e ≡ true → Rare d N (sure e)
  rare_sure d N e h = record {
    part = N * G e;
    counts = (N, 0, omega arith, refl, omega arith);
    few = let z : G e ≡ 0 = ap (λ b. chi (λ (e : End). b) e) (own e h) in rw z (omega arith);
  }

  rare_more : (d N M : ℕ) (m : Weighted End) → Rare d N m → Rare d (N * M) m
  rare_more d N M m h = record {
    part = M * h.part;
    counts = counts-more N M G m h.part h.counts;
    few = more (r * 2 ^ r) h.part d N M (G (limit Attempts)) h.few;
  }
    where
      more : (x v d N M c : ℕ) → x * v ≤ d * N * c → x * (M * v) ≤ d * (N * M) * c
      more x v d N M c h = let y = mul-le-mul_left M h in omega arith

  module _ (cs : List ℕ) (k : ℕ → Play) (ok : IsDraw cs) (e M : ℕ) (each : (i : ℕ) → i < length cs → Rare e M (weighed (Some r) (k i))) where
    abbrev b : ℕ
    b = last_end cs

    abbrev N : ℕ
    N = 2 ^ (bits_for b * r)

    abbrev A : ℕ
    A = strings_to_a_number (bits_for b) (rejected_numbers b) r

    abbrev K : Option ℕ → Weighted End
    K o = by_class o (sure (limit Attempts)) (λ i. weighed (Some r) (k i))

    abbrev passes : Option ℕ → Bool
    passes = class_below (length cs)

    part_of : (o : Option ℕ) → passes o ≡ true → (v : ℕ) × Counts M G (K o) v
    part_of None t = (M * G (limit Attempts), (M, 0, omega arith, refl, omega arith))
    part_of (Some i) t = let h = each i (ltb-true i (length cs) t) in (h.part, h.counts)

    H : Option ℕ → ℕ
    H o = if_passes (passes o) (λ t. (part_of o t).0) 0

    counted : Counts N H (weighted_classes cs (Some r)) (A * class_sum H 0 0 cs + rejected_numbers b ^ r * H None)
    counted =
        counts-append N H (classes_from (class_weight b (Some r)) 0 0 cs) ((no_class_weight b (Some r), None) ∷ []) _ _ (counts_classes b r 0 0 cs H)
        (1, 0, omega arith, refl, omega arith)

    none_is : H None ≡ M * G (limit Attempts)
    unfolding H part_of
    none_is = refl

    some_few : (i : ℕ) → r * 2 ^ r * H (Some i) ≤ e * M * G (limit Attempts)
    unfolding H part_of
    some_few i = either_way (λ v. r * 2 ^ r * v ≤ e * M * G (limit Attempts)) (passes (Some i)) (λ t. (part_of (Some i) t).0) 0 (λ t. (each i (ltb-true i (length cs) t)).few) (omega arith)

    in_all : Counts (N * M) G (draw_weighted (Some r) cs (λ i. weighed (Some r) (k i))) (A * class_sum H 0 0 cs + rejected_numbers b ^ r * H None)
    unfolding H
    in_all =
        counts_taken_on N M passes H G (weighted_classes cs (Some r)) K _ (draw_entries cs (Some r)) counted
        (λ o t. passing (λ x. Counts M G (K o) x) (passes o) (λ t. (part_of o t).0) 0 (λ t. (part_of o t).1) t)

    rare_draw : (d : ℕ) → bits_for b * r + e ≤ d → Rare d (N * M) (weighed (Some r) (drawing cs k))
    rare_draw d le = record {
      part = A * class_sum H 0 0 cs + rejected_numbers b ^ r * H None;
      counts = in_all;
      few =
          let q = rejected_numbers b in
          let classes = class_sum_most H (r * 2 ^ r) (e * M * G (limit Attempts)) 0 0 cs some_few in
          let all : class_sum (λ o. 1) 0 0 cs ≡ b = let h = parts_sum 0 0 cs ok.ascends in omega arith in
          let most : A * b ≤ N = let p = parts_all b (bits_for b) q r (let h = bits_enough b in omega arith) in omega arith in
          rw none_is
          (total r (2 ^ r) A (class_sum H 0 0 cs) (q ^ r) M (G (limit Attempts)) e b N (bits_for b) d
          (subst (λ n. r * 2 ^ r * class_sum H 0 0 cs ≤ e * M * G (limit Attempts) * n) all classes) most (rejects_rarely b r ok.positive some) le);
    }
      where
        total : (r T A S Q M c e b N k d : ℕ) → r * T * S ≤ e * M * c * b → A * b ≤ N → T * Q ≤ k * N → k * r + e ≤ d → r * T * (A * S + Q * (M * c)) ≤ d * (N * M) * c
        total r T A S Q M c e b N k d h1 h2 h3 h4 =
            let x = mul-le-mul_left A h1 in
            let y = mul-le-mul_right (e * M * c) h2 in
            let z = mul-le-mul_left (r * (M * c)) h3 in
            let w = mul-le-mul_right (N * M * c) h4 in omega arith

  pub rare_play : (lost : Type 0) (d : ℕ) (p q : Play) → Cut r lost (Unit {0}) d p q → Spares q → AtSomeScale (λ N. Rare d N (weighed (Some r) q))
  rare_play lost d p q (same_end e h) s = record { scale = 1; positive = omega arith; holds = rare_sure d 1 e s }
  rare_play lost d p q (no_turns {p = m} l h) s = rare_play lost d m q h s
  rare_play lost d p q (same_draw e cs k k' ok le h) s =
      let c = common (λ i N. Rare e N (weighed (Some r) (k' i))) (λ i N M x. rare_more e N M (weighed (Some r) (k' i)) x) (length cs) (λ i lt. rare_play lost e (k i) (k' i) (h i lt) (s i)) in
      record {
        scale = 2 ^ (bits_for (last_end cs) * r) * c.scale;
        positive = product_pos (2 ^ (bits_for (last_end cs) * r)) c.scale (pow_pos (bits_for (last_end cs) * r)) c.positive;
        holds = rare_draw cs k' (ok tt) e c.scale c.each d le;
      }
