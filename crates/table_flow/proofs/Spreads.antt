-- What entries count, each taken on by itself.
use Rattle.std.proofs.Common.{◌≡◌, ℕ, zero, suc, ◌+◌, ◌*◌, ℤ, pos, [], ◌∷◌, ◌++◌, map, Option, slice_set, refl, sym, ap, ◌∙◌, arith}
use Rattle.gcl_core.specs.declared.answers.Limit.TheVariants.{Attempts}
use Rattle.gcl_core.specs.meaning.Value.{State}
use Rattle.gcl_core.specs.meaning.Blocks.{End, on, limit}
use Rattle.gcl_core.specs.meaning.Draw.{uniform_ends}
use Rattle.gcl_core.specs.weighing.Fractions.{Fraction, one, times}
use Rattle.gcl_core.specs.weighing.WeightedEnds.{Weighted, sure, scaled, taken_on, class_weight, no_class_weight, weighted_classes}
use Rattle.table_flow.specs.Counts.{sum_below}
use Rattle.table_flow.specs.Tables.{Table}
use Rattle.table_flow.proofs.FlowWords.{set_below}
use Rattle.table_flow.proofs.DrawnLists.{all_on, drawn_on, draw_list}

-- what F gives the entries, added
abbrev pub sum_of_all : {A : Type 0} → (Fraction → A → ℕ) → Weighted A → ℕ
sum_of_all F [] = 0
sum_of_all F (e ∷ m) = F e.0 e.1 + sum_of_all F m

abbrev pub after_weight : {A : Type 0} → Fraction → (Fraction → A → ℕ) → Fraction → A → ℕ
after_weight w F v x = F (times w v) x

-- a weight of 0 counts nothing
abbrev pub Zero : {A : Type 0} → (Fraction → A → ℕ) → Type 0
Zero {A} F = (d : ℕ) (x : A) → F (0, d) x ≡ 0

-- each entry of a table taken on by itself
abbrev pub spread : {A B : Type 0} → (Fraction → B → ℕ) → Weighted A → (A → Weighted B) → ℕ
spread F [] k = 0
spread F (e ∷ m) k = sum_of_all (after_weight e.0 F) (k e.1) + spread F m k

pub sum_append : {A : Type 0} (F : Fraction → A → ℕ) (m n : Weighted A) → sum_of_all F (m ++ n) ≡ sum_of_all F m + sum_of_all F n
sum_append F [] n = omega arith
sum_append F (e ∷ m) n = let i = sum_append F m n in omega arith

sum_map : {A : Type 0} (F : Fraction → A → ℕ) (w : Fraction) (m : Weighted A) → sum_of_all F (map (λ e. (times w e.0, e.1)) m) ≡ sum_of_all (after_weight w F) m
sum_map F w [] = refl
sum_map F w (e ∷ m) = ap (λ x. F (times w e.0) e.1 + x) (sum_map F w m)

after_zero : {A : Type 0} (F : Fraction → A → ℕ) (d : ℕ) (v : Fraction) (x : A) → Zero F → F (times (0, d) v) x ≡ 0
after_zero F d v x z = let p : 0 * v.0 ≡ 0 = omega arith in ap (λ n. F (n, d * v.1) x) p ∙ z (d * v.1) x

pub sum_none : {A : Type 0} (F : Fraction → A → ℕ) (d : ℕ) (m : Weighted A) → Zero F → sum_of_all (after_weight (0, d) F) m ≡ 0
sum_none F d [] z = refl
sum_none F d (e ∷ m) z = let a = after_zero F d e.0 e.1 z in let b = sum_none F d m z in omega arith

pub sum_scaled : {A : Type 0} (F : Fraction → A → ℕ) (w : Fraction) (m : Weighted A) → Zero F → sum_of_all F (scaled w m) ≡ sum_of_all (after_weight w F) m
sum_scaled F (zero, d) m z = sym (sum_none F d m z)
sum_scaled F (suc n, d) m z = sum_map F (suc n, d) m

pub sum_taken : {A B : Type 0} (F : Fraction → B → ℕ) (m : Weighted A) (k : A → Weighted B) → Zero F → sum_of_all F (taken_on m k) ≡ spread F m k
sum_taken F [] k z = refl
sum_taken F (e ∷ m) k z =
    let a = sum_append F (scaled e.0 (k e.1)) (taken_on m k) in
    let b = sum_scaled F e.0 (k e.1) z in
    let c = sum_taken F m k z in
    omega arith

pub zero_after : {A : Type 0} (F : Fraction → A → ℕ) (w : Fraction) → Zero F → Zero (after_weight w F)
zero_after F w z d x = let p : w.0 * 0 ≡ 0 = omega arith in ap (λ n. F (n, w.1 * d) x) p ∙ z (w.1 * d) x

pub spread_append : {A B : Type 0} (F : Fraction → B → ℕ) (m n : Weighted A) (k : A → Weighted B) → spread F (m ++ n) k ≡ spread F m k + spread F n k
spread_append F [] n k = omega arith
spread_append F (e ∷ m) n k = let i = spread_append F m n k in omega arith

pub times_assoc : (p q r : Fraction) → times (times p q) r ≡ times p (times q r)
times_assoc p q r = let a : p.0 * q.0 * r.0 ≡ p.0 * (q.0 * r.0) = omega arith in let b : p.1 * q.1 * r.1 ≡ p.1 * (q.1 * r.1) = omega arith in ap (λ x. (x, p.1 * q.1 * r.1)) a ∙ ap (λ y. (p.0 * (q.0 * r.0), y)) b

pub times_one : (p : Fraction) → times p one ≡ p
times_one p = let a : p.0 * 1 ≡ p.0 = omega arith in let b : p.1 * 1 ≡ p.1 = omega arith in ap (λ x. (x, p.1 * 1)) a ∙ ap (λ y. (p.0, y)) b

pub sum_ext : {A : Type 0} (F G : Fraction → A → ℕ) (m : Weighted A) → ((w : Fraction) (x : A) → F w x ≡ G w x) → sum_of_all F m ≡ sum_of_all G m
sum_ext F G [] h = refl
sum_ext F G (e ∷ m) h = let a = h e.0 e.1 in let i = sum_ext F G m h in omega arith

pub spread_scaled : {A B : Type 0} (F : Fraction → B → ℕ) (w : Fraction) (m : Weighted A) (k : A → Weighted B) → Zero F → spread F (scaled w m) k ≡ spread (after_weight w F) m k
spread_scaled F (zero, d) [] k z = refl
spread_scaled {B = B} F (zero, d) (e ∷ m) k z =
    let i = spread_scaled F (zero, d) m k z in
    let a = sum_ext (after_weight e.0 (after_weight (zero, d) F)) (λ w x. 0) (k e.1) (λ w x. after_zero F d (times e.0 w) x z) in
    let b = sum_zero (k e.1) in
    omega arith
  where
    sum_zero : (m : Weighted B) → sum_of_all (λ w x. 0) m ≡ 0
    sum_zero [] = refl
    sum_zero (e ∷ m) = let i = sum_zero m in omega arith
spread_scaled F (suc n, d) [] k z = refl
spread_scaled F (suc n, d) (e ∷ m) k z =
    let i = spread_scaled F (suc n, d) m k z in
    let a = sum_ext (after_weight (times (suc n, d) e.0) F) (after_weight e.0 (after_weight (suc n, d) F)) (k e.1) (λ w x. ap (λ v. F v x) (times_assoc (suc n, d) e.0 w)) in
    omega arith

-- ---- a uniform draw
pub sure_sum : {A : Type 0} (F : Fraction → A → ℕ) (w : Fraction) (x : A) → sum_of_all (after_weight w F) (sure x) ≡ F w x
sure_sum F w x = let p = ap (λ v. F v x) (times_one w) in omega arith

pub sum_ext_below : (m : ℕ) (G H : ℕ → ℕ) → ((i : ℕ) → G i ≡ H i) → sum_below m G ≡ sum_below m H
sum_ext_below zero G H h = refl
sum_ext_below (suc m) G H h = let i = sum_ext_below m G H h in let j = h m in omega arith

sum_moved : (G : Fraction → State → ℕ) (x : ℕ) (z : ℤ) (J : Table) → sum_of_all G (map (λ e. (e.0, slice_set e.1 x z)) J) ≡ sum_of_all (λ w s. G w (slice_set s x z)) J
sum_moved G x z [] = refl
sum_moved G x z (e ∷ J) = ap (λ y. G e.0 (slice_set e.1 x z) + y) (sum_moved G x z J)

pub sum_set_below : (G : Fraction → State → ℕ) (x m : ℕ) (J : Table) → sum_of_all G (set_below x m J) ≡ sum_below m (λ i. sum_of_all (λ w s. G w (slice_set s x (pos i))) J)
sum_set_below G x zero J = refl
sum_set_below G x (suc m) J =
    let a = sum_append G (set_below x m J) (map (λ e. (e.0, slice_set e.1 x (pos m))) J) in
    let b = sum_moved G x (pos m) J in
    let i = sum_set_below G x m J in
    omega arith

sum_all_on : (F : Fraction → End → ℕ) (J : Table) → sum_of_all F (all_on J) ≡ sum_of_all (λ w s. F w (on s)) J
sum_all_on F [] = refl
sum_all_on F (e ∷ J) = ap (λ y. F e.0 (on e.1) + y) (sum_all_on F J)

-- a draw of bound m in a state
pub draw_sum : (x : ℕ) (r : Option ℕ) (F : Fraction → End → ℕ) (m : ℕ) (s : State) → Zero F →
    sum_of_all F (taken_on (weighted_classes (uniform_ends m) r) (drawn_on x s)) ≡ sum_below m (λ i. F (class_weight m r 1) (on (slice_set s x (pos i)))) + F (no_class_weight m r) (limit Attempts)
draw_sum x r F m s z =
    let u = class_weight m r 1 in
    let l = no_class_weight m r in
    let J = set_below x m (scaled u (sure s)) in
    let a = ap (sum_of_all F) (draw_list x s m r) in
    let b = sum_append F (all_on J) (scaled l (sure (limit Attempts))) in
    let c = sum_all_on F J in
    let d = sum_set_below (λ w s. F w (on s)) x m (scaled u (sure s)) in
    let e = sum_ext_below m (λ i. sum_of_all (λ w s. F w (on (slice_set s x (pos i)))) (scaled u (sure s))) (λ i. F u (on (slice_set s x (pos i))))
    (λ i. sum_scaled (λ w s. F w (on (slice_set s x (pos i)))) u (sure s) (λ d s. z d (on (slice_set s x (pos i)))) ∙ sure_sum (λ w s. F w (on (slice_set s x (pos i)))) u s) in
    let g = sum_scaled F l (sure (limit Attempts)) z ∙ sure_sum F l (limit Attempts) in
    omega arith

pub times_swap : (p q : Fraction) → times p q ≡ times q p
times_swap p q = let a : p.0 * q.0 ≡ q.0 * p.0 = omega arith in let b : p.1 * q.1 ≡ q.1 * p.1 = omega arith in ap (λ x. (x, p.1 * q.1)) a ∙ ap (λ y. (q.0 * p.0, y)) b

-- one entry, scaled
pub scaled_one : {A : Type 0} (F : Fraction → A → ℕ) (u : Fraction) (e : Fraction × A) → Zero F → sum_of_all F (scaled u (e ∷ [])) ≡ F (times e.0 u) e.1
scaled_one F u e z = let a = sum_scaled F u (e ∷ []) z in let b = ap (λ w. F w e.1) (times_swap u e.0) in omega arith
