-- A play weighed, and that it gives the weighted ends of its block.
use Rattle.std.proofs.Common.{◌≡◌, ℕ, zero, suc, ◌*◌, ◌<◌, Option, Some, None, List, [], ◌∷◌, ◌++◌, map, refl, sym, ap, ◌∙◌, arith, append-nil, append_assoc}
use Rattle.std.proofs.Math.Path.{fun_ext}
use Rattle.gcl_core.specs.declared.answers.Limit.TheVariants.{Attempts}
use Rattle.gcl_core.specs.meaning.Syntax.{Statement, Statements}
use Rattle.gcl_core.specs.meaning.Value.{State}
use Rattle.gcl_core.specs.meaning.Blocks.{End, on, failed, fault, limit, by_class, by_end}
use Rattle.gcl_core.specs.weighing.Fractions.{Fraction, one, times}
use Rattle.gcl_core.specs.weighing.WeightedEnds.{Weighted, sure, scaled, taken_on, weighted_classes, end_weighted, draw_weighted, statement_weighted, weighted_ends}
use Rattle.gcl_core.proofs.Plays.{Play, ended, drawing, with_end, statement_play, block_play, statement_folds, block_folds}

-- ---- the laws of weighted lists
pair_is : (x y u v : ℕ) → x ≡ y → u ≡ v → ◌≡◌ {A = Fraction} (x, u) (y, v)
pair_is x y u v e f = ap (λ z. (z, u)) e ∙ ap (λ z. (y, z)) f

one_times : (p : Fraction) → times one p ≡ p
one_times (a, b) = pair_is (1 * a) a (1 * b) b (omega arith) (omega arith)

scaled_one : {A : Type 0} (m : Weighted A) → scaled one m ≡ m
scaled_one [] = refl
scaled_one ((p, a) ∷ m) = ap (λ x. (x, a) ∷ scaled one m) (one_times p) ∙ ap (λ x. (p, a) ∷ x) (scaled_one m)

taken_sure : {A B : Type 0} (a : A) (k : A → Weighted B) → taken_on (sure a) k ≡ k a
taken_sure a k = append-nil (scaled one (k a)) ∙ scaled_one (k a)

map_both : {A B : Type 0} (f : A → B) (m n : List A) → map f (m ++ n) ≡ map f m ++ map f n
map_both f [] n = refl
map_both f (a ∷ m) n = ap (λ x. f a ∷ x) (map_both f m n)

scaled_both : {A : Type 0} (p : Fraction) (m n : Weighted A) → scaled p (m ++ n) ≡ scaled p m ++ scaled p n
scaled_both (zero, d) m n = refl
scaled_both (suc a, d) m n = map_both _ m n

taken_both : {A B : Type 0} (m n : Weighted A) (k : A → Weighted B) → taken_on (m ++ n) k ≡ taken_on m k ++ taken_on n k
taken_both [] n k = refl
taken_both (e ∷ m) n k = ap (λ x. scaled e.0 (k e.1) ++ x) (taken_both m n k) ∙ sym (append_assoc (scaled e.0 (k e.1)) (taken_on m k) (taken_on n k))

times_twice : (p q x : Fraction) → times p (times q x) ≡ times (times p q) x
times_twice p q x = pair_is _ _ _ _ (omega arith) (omega arith)

abbrev by : {A : Type 0} → Fraction → Weighted A → Weighted A
by p m = map (λ e. (times p e.0, e.1)) m

map_twice : {A : Type 0} (p q : Fraction) (m : Weighted A) → by p (by q m) ≡ by (times p q) m
map_twice p q [] = refl
map_twice p q ((x, a) ∷ m) = ap (λ y. (y, a) ∷ by p (by q m)) (times_twice p q x) ∙ ap (λ n. (times (times p q) x, a) ∷ n) (map_twice p q m)

no_scaled : {A : Type 0} (a d : ℕ) (m : Weighted A) → a ≡ 0 → scaled (a, d) m ≡ []
no_scaled zero d m e = refl
no_scaled (suc a) d m e = absurd (omega arith)

some_scaled : {A : Type 0} (a d : ℕ) (m : Weighted A) → 0 < a → scaled (a, d) m ≡ by (a, d) m
some_scaled zero d m e = absurd (omega arith)
some_scaled (suc a) d m e = refl

scaled_twice : {A : Type 0} (p q : Fraction) (m : Weighted A) → scaled p (scaled q m) ≡ scaled (times p q) m
scaled_twice (zero, d) q m = sym (no_scaled (0 * q.0) (d * q.1) m (omega arith))
scaled_twice (suc a, d) (zero, c) m = sym (no_scaled (suc a * 0) (d * c) m (omega arith))
scaled_twice (suc a, d) (suc b, c) m = map_twice (suc a, d) (suc b, c) m ∙ sym (some_scaled (suc a * suc b) (d * c) m (omega arith))

taken_scaled : {A B : Type 0} (p : Fraction) (m : Weighted A) (k : A → Weighted B) → taken_on (scaled p m) k ≡ scaled p (taken_on m k)
taken_scaled (zero, d) m k = refl
taken_scaled (suc a, d) [] k = refl
taken_scaled (suc a, d) (e ∷ m) k =
    ap (λ x. x ++ taken_on (scaled (suc a, d) m) k) (sym (scaled_twice (suc a, d) e.0 (k e.1)))
    ∙ ap (λ x. scaled (suc a, d) (scaled e.0 (k e.1)) ++ x) (taken_scaled (suc a, d) m k)
    ∙ sym (scaled_both (suc a, d) (scaled e.0 (k e.1)) (taken_on m k))

taken_twice : {A B C : Type 0} (m : Weighted A) (f : A → Weighted B) (g : B → Weighted C) → taken_on (taken_on m f) g ≡ taken_on m (λ a. taken_on (f a) g)
taken_twice [] f g = refl
taken_twice (e ∷ m) f g =
    taken_both (scaled e.0 (f e.1)) (taken_on m f) g
    ∙ ap (λ x. x ++ taken_on (taken_on m f) g) (taken_scaled e.0 (f e.1) g)
    ∙ ap (λ x. scaled e.0 (taken_on (f e.1) g) ++ x) (taken_twice m f g)

-- ---- plays
module _ (r : Option ℕ) where
  abbrev pub weighed : Play → Weighted End
  weighed (ended e) = sure e
  weighed (drawing cs k) = draw_weighted r cs (λ i. weighed (k i))

  weighed_then : (p : Play) (go : State → Play) → weighed (with_end p go) ≡ end_weighted (weighed p) (λ s. weighed (go s))
  weighed_then (ended (on s)) go = sym (taken_sure (on s) (λ e. by_end e sure (λ s. weighed (go s))))
  weighed_then (ended failed) go = sym (taken_sure failed (λ e. by_end e sure (λ s. weighed (go s))))
  weighed_then (ended (fault f)) go = sym (taken_sure (fault f) (λ e. by_end e sure (λ s. weighed (go s))))
  weighed_then (ended (limit l)) go = sym (taken_sure (limit l) (λ e. by_end e sure (λ s. weighed (go s))))
  weighed_then (drawing cs m) go =
      let K = λ (e : End). by_end e sure (λ s. weighed (go s)) in
      ap (taken_on (weighted_classes cs r)) (fun_ext (elim [ None ↦ sym (taken_sure (limit Attempts) K) | Some i ↦ weighed_then (m i) go ]))
      ∙ sym (taken_twice (weighted_classes cs r) (λ class. by_class class (sure (limit Attempts)) (λ i. weighed (m i))) K)

  pub weighed_statement : (n : ℕ) (st : Statement) (s : State) → weighed (statement_play n st s) ≡ statement_weighted n r st s
  weighed_statement n = statement_folds sure end_weighted (draw_weighted r) weighed (λ e. refl) (λ cs k. refl) weighed_then n

  pub weighed_block : (n : ℕ) (b : Statements) (s : State) → weighed (block_play n b s) ≡ weighted_ends n r b s
  weighed_block n = block_folds sure end_weighted (draw_weighted r) weighed (λ e. refl) (λ cs k. refl) weighed_then n
