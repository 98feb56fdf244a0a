-- Without a limit of attempts all ends of a play together weigh 1.
use Rattle.std.proofs.Common.{◌≡◌, ℕ, ◌+◌, ◌*◌, ◌≤◌, Bool, true, Some, None, List, [], ◌∷◌, length, refl, subst, arith}
use Rattle.std.proofs.lemmas.Bool.{ltb-true}
use Rattle.std.proofs.Math.Nat.{mul-le-mul_left}
use Rattle.gcl_core.specs.declared.answers.Limit.TheVariants.{Attempts}
use Rattle.gcl_core.specs.meaning.Draw.{last_from, last_end}
use Rattle.gcl_core.specs.meaning.Blocks.{limit}
use Rattle.gcl_core.proofs.Plays.{Play}
use Rattle.gcl_core.specs.weighing.OneDraw.{Ascends}
use Rattle.gcl_core.specs.weighing.WeightedEnds.{Weighted, sure, taken_on, weighted_classes}
use Rattle.weighing_law.proofs.WeighedPlays.{weighed}
use Rattle.gcl_core.proofs.CutPlays.{Cut, same_end, no_turns, same_draw}
use Rattle.gcl_core.proofs.DrawTrees.{class_sum}
use Rattle.gcl_core.proofs.TreeWeights.{chi}
use Rattle.weighing_law.proofs.Comparing.{counts_unlimited}
use Rattle.weighing_law.proofs.DrawMatching.{class_below, draw_entries}
use Rattle.weighing_law.proofs.PlayWeights.{AtSomeScale, common}
use Rattle.weighing_law.proofs.Shares.{product_pos}
use Rattle.weighing_law.proofs.WeightedLists.{EachEntry, Counts, counts-more, counts_taken_on}

counts-const : {A : Type 0} (N c : ℕ) (G : A → ℕ) (m : Weighted A) (v : ℕ) → Counts N G m v → Counts N (λ a. c * G a) m (c * v)
counts-const N c G [] v h = rw h (omega arith)
counts-const N c G (e ∷ m) v h = (h.0, c * h.1, h.2, counts-const N c G m h.1 h.3, rw h.4 (omega arith))

-- all together weigh 1
abbrev pub Whole : {A : Type 0} → ℕ → Weighted A → Type 0
Whole N m = Counts N (λ a. 1) m N

whole_sure : {A : Type 0} (N : ℕ) (a : A) → Whole N (sure a)
whole_sure N a = (N, 0, omega arith, refl, omega arith)

whole_more : {A : Type 0} (N M : ℕ) (m : Weighted A) → Whole N m → Whole (N * M) m
whole_more N M m h = let p : M * N ≡ N * M = omega arith in subst (Counts (N * M) (λ a. 1) m) p (counts-more N M (λ a. 1) m N h)

whole_then : {A B : Type 0} (test : A → Bool) (N M : ℕ) (m : Weighted A) (k : A → Weighted B) → EachEntry test m → Whole N m → ((a : A) → test a ≡ true → Whole M (k a)) → Whole (N * M) (taken_on m k)
whole_then test N M m k p h q =
    let turned : M * N ≡ N * M = omega arith in
    let o : M ≡ M * 1 = omega arith in
    subst (Counts (N * M) (λ b. 1) (taken_on m k)) turned
    (counts_taken_on N M test (λ a. M * 1) (λ b. 1) m k (M * N) p (counts-const N M (λ a. 1) m N h) (λ a t. subst (Counts M (λ b. 1) (k a)) o (q a t)))

parts_sum : (i c : ℕ) (ends : List ℕ) → Ascends c ends → c + class_sum (λ o. 1) i c ends ≡ last_from c ends
parts_sum i c [] up = omega arith
parts_sum i c (d ∷ ends) up = let h = parts_sum (i + 1) d ends up.1 in omega arith

whole_draw : (ends : List ℕ) (K c2 : ℕ) → Ascends 0 ends → last_end ends * c2 ≡ K → Whole K (weighted_classes ends None)
whole_draw ends K c2 up e =
    let b = last_end ends in
    let p : class_sum (λ o. 1) 0 0 ends ≡ b = let h = parts_sum 0 0 ends up in omega arith in
    subst (λ n. Whole n (weighted_classes ends None)) e (whole_more b c2 (weighted_classes ends None) (subst (Counts b (λ o. 1) (weighted_classes ends None)) p (counts_unlimited ends (λ o. 1))))

-- ---- plays
pub play_whole : (r : ℕ) (lost : Type 0) (d : ℕ) (p q : Play) → Cut r lost (Unit {0}) d p q → AtSomeScale (λ N. Whole N (weighed None q))
play_whole r lost d p q (same_end e h) = record { scale = 1; positive = omega arith; holds = whole_sure 1 e }
play_whole r lost d p q (no_turns {p = m} l h) = play_whole r lost d m q h
play_whole r lost d p q (same_draw e cs k k' ok le h) =
    let b = last_end cs in
    let c = common (λ i N. Whole N (weighed None (k' i))) (λ i N M w. whole_more N M (weighed None (k' i)) w) (length cs) (λ i lt. play_whole r lost e (k i) (k' i) (h i lt)) in
    let one_part : b * 1 ≡ b = omega arith in
    let positive = (ok tt).positive in
    record {
      scale = b * c.scale;
      positive = product_pos b c.scale (omega (arith, positive)) c.positive;
      holds = whole_then (class_below (length cs)) b c.scale (weighted_classes cs None) _ (draw_entries cs None) (whole_draw cs b 1 (ok tt).ascends one_part)
          (elim [ None ↦ λ t. whole_sure c.scale (limit Attempts) | Some i ↦ λ t. c.each i (ltb-true i (length cs) t) ]);
    }

-- ---- three tests of which no two hold at once
pub three_parts : {A : Type 0} (N : ℕ) (t1 t2 t3 : A → Bool) (m : Weighted A) (v : ℕ) → ((a : A) → chi t1 a + chi t2 a + chi t3 a ≤ 1) → Counts N (λ a. 1) m v →
    (x : ℕ) × (y : ℕ) × (z : ℕ) × Counts N (chi t1) m x × Counts N (chi t2) m y × Counts N (chi t3) m z × (x + y + z ≤ v)
three_parts N t1 t2 t3 [] v apart h = (0, 0, 0, refl, refl, refl, omega arith)
three_parts N t1 t2 t3 (e ∷ m) v apart h =
    let r = three_parts N t1 t2 t3 m h.1 apart h.3 in
    let w = e.0.0 * h.0 in (
      w * chi t1 e.1 + r.0,
      w * chi t2 e.1 + r.1,
      w * chi t3 e.1 + r.2,
      (h.0, r.0, h.2, r.3, refl),
      (h.0, r.1, h.2, r.4, refl),
      (h.0, r.2, h.2, r.5, refl),
      fits w (chi t1 e.1) (chi t2 e.1) (chi t3 e.1) r.0 r.1 r.2 h.1 v (apart e.1) r.6 h.4,
    )
  where
    fits : (w a b c x y z u v : ℕ) → a + b + c ≤ 1 → x + y + z ≤ u → v ≡ w * 1 + u → w * a + x + (w * b + y) + (w * c + z) ≤ v
    fits w a b c x y z u v p q e = let k = mul-le-mul_left w p in omega arith
