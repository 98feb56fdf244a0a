-- What goes on from a table, and what ended, is linear in the table. And lists that give each sum the same weigh the same.
use Rattle.std.proofs.Common.{◌≡◌, ℕ, ◌+◌, ◌*◌, [], ◌∷◌, ◌++◌, None, refl, ap, ◌∙◌, arith}
use Rattle.std.proofs.lemmas.Nat.Gcd.{dvd_refl}
use Rattle.gcl_core.specs.meaning.Syntax.{Statements, done, ◌▸◌}
use Rattle.gcl_core.specs.meaning.Value.{State}
use Rattle.gcl_core.specs.meaning.Blocks.{End, on, failed, fault, limit}
use Rattle.gcl_core.specs.weighing.Fractions.{Fraction}
use Rattle.gcl_core.specs.weighing.WeightedEnds.{Weighted, weighted_ends}
use Rattle.table_flow.specs.Scale.{whole}
use Rattle.table_flow.specs.Tables.{Table, statement_flow, block_flow}
use Rattle.table_flow.specs.Width.{weights, common_denominator}
use Rattle.table_flow.proofs.Amounts.{whole_zero, all_first, all_second}
use Rattle.table_flow.proofs.Denominators.{common_positive, wholes_at, weights_whole}
use Rattle.table_flow.proofs.EachMember.{each_append}
use Rattle.table_flow.proofs.Linear.{IsOver, NoOn, no_one, flow_paths, amount_is}
use Rattle.table_flow.proofs.Positive.{a_append, weights_positive}
use Rattle.table_flow.proofs.Spreads.{sum_of_all, after_weight, Zero, spread, sum_none, spread_append}
use Rattle.unlimited_law.specs.Alike.{AreFractions, Alike}
use Rattle.unlimited_law.proofs.BlockLimits.{all_positive}
use Rattle.unlimited_law.proofs.ByState.{alike_amounts}

-- ---- the same sums
pub alike_sums : {A : Type 0} (m o : Weighted A) → AreFractions m → AreFractions o → ((F : Fraction → A → ℕ) → Zero F → sum_of_all F m ≡ sum_of_all F o) → Alike m o
alike_sums {A} m o first second same =
    let p = a_append (weights m) (weights o) (weights_positive m (all_positive m first)) (weights_positive o (all_positive o second)) in
    let N = common_denominator (weights m ++ weights o) in
    let w = wholes_at N (weights m ++ weights o) p (dvd_refl N) in
    alike_amounts N m o (common_positive (weights m ++ weights o) p) (weights_whole N m (all_first N (weights m) (weights o) w)) (weights_whole N o (all_second N (weights m) (weights o) w))
    (λ G. let a = amount_is N G m in let b = amount_is N G o in let c = same (λ w x. whole N w * G x) (λ d x. zero_times N G d x) in omega arith)
  where
    zero_times : (N : ℕ) (G : A → ℕ) (d : ℕ) (x : A) → whole N (0, d) * G x ≡ 0
    zero_times N G d x = let a = ap (λ y. y * G x) (whole_zero N d) in let c : 0 * G x ≡ 0 = omega arith in a ∙ c

-- ---- tables without weight
abbrev pub numerators : {A : Type 0} → Weighted A → ℕ
numerators m = sum_of_all (λ w x. w.0) m

pub sum_nothing : {A : Type 0} (F : Fraction → A → ℕ) (m : Weighted A) → Zero F → numerators m ≡ 0 → sum_of_all F m ≡ 0
sum_nothing F [] z h = refl
sum_nothing F (e ∷ m) z h =
    let i = sum_nothing F m z (omega arith) in
    let n : e.0.0 ≡ 0 = omega arith in
    let a = ap (λ x. F (x, e.0.1) e.1) n ∙ z e.0.1 e.1 in
    omega arith

spread_nothing : {A B : Type 0} (F : Fraction → B → ℕ) (m : Weighted A) (k : A → Weighted B) → Zero F → numerators m ≡ 0 → spread F m k ≡ 0
spread_nothing F [] k z h = refl
spread_nothing F (e ∷ m) k z h =
    let i = spread_nothing F m k z (omega arith) in
    let n : e.0.0 ≡ 0 = omega arith in
    let a = ap (λ x. sum_of_all (after_weight (x, e.0.1) F) (k e.1)) n ∙ sum_none F e.0.1 (k e.1) z in
    omega arith

-- ---- what goes on, and what ended
abbrev where_on : (Fraction → State → ℕ) → Fraction → End → ℕ
where_on G w (on s) = G w s
where_on G w failed = 0
where_on G w (fault f) = 0
where_on G w (limit l) = 0

where_on_zero : (G : Fraction → State → ℕ) → Zero G → Zero (where_on G)
where_on_zero G z d (on s) = z d s
where_on_zero G z d failed = refl
where_on_zero G z d (fault f) = refl
where_on_zero G z d (limit l) = refl

none_on : (G : Fraction → State → ℕ) (m : Weighted End) → NoOn m → sum_of_all (where_on G) m ≡ 0
none_on G [] h = refl
none_on G ((w, on s) ∷ m) h = absurd h.0
none_on G ((w, failed) ∷ m) h = let i = none_on G m h.1 in omega arith
none_on G ((w, fault f) ∷ m) h = let i = none_on G m h.1 in omega arith
none_on G ((w, limit l) ∷ m) h = let i = none_on G m h.1 in omega arith

abbrev where_over : (Fraction → End → ℕ) → Fraction → End → ℕ
where_over F w (on s) = 0
where_over F w failed = F w failed
where_over F w (fault f) = F w (fault f)
where_over F w (limit l) = F w (limit l)

where_over_zero : (F : Fraction → End → ℕ) → Zero F → Zero (where_over F)
where_over_zero F z d (on s) = refl
where_over_zero F z d failed = z d failed
where_over_zero F z d (fault f) = z d (fault f)
where_over_zero F z d (limit l) = z d (limit l)

all_over : (F : Fraction → End → ℕ) (m : Weighted End) → NoOn m → sum_of_all (where_over F) m ≡ sum_of_all F m
all_over F [] h = refl
all_over F ((w, on s) ∷ m) h = absurd h.0
all_over F ((w, failed) ∷ m) h = ap (λ x. F w failed + x) (all_over F m h.1)
all_over F ((w, fault f) ∷ m) h = ap (λ x. F w (fault f) + x) (all_over F m h.1)
all_over F ((w, limit l) ∷ m) h = ap (λ x. F w (limit l) + x) (all_over F m h.1)

sum_zero : {A : Type 0} (m : Weighted A) → sum_of_all (λ w x. 0) m ≡ 0
sum_zero [] = refl
sum_zero (e ∷ m) = let i = sum_zero m in omega arith

module _ (n : ℕ) where
  pub none_goes_on : (b : Statements) (I : Table) → NoOn (block_flow n None b I).ended
  none_goes_on done I = tt
  none_goes_on (st ▸ b) I =
      let f = statement_flow n None st I in
      each_append IsOver f.ended (block_flow n None b f.next).ended (no_one n None st I) (none_goes_on b f.next)

  module _ (b : Statements) where
    next_is : (G : Fraction → State → ℕ) → Zero G → (I : Table) → sum_of_all G (block_flow n None b I).next ≡ spread (where_on G) I (weighted_ends n None b)
    next_is G z I =
        let a = flow_paths n None b (where_on G) I (where_on_zero G z) in
        let o = none_on G (block_flow n None b I).ended (none_goes_on b I) in
        omega arith

    ended_is : (F : Fraction → End → ℕ) → Zero F → (I : Table) → sum_of_all F (block_flow n None b I).ended ≡ spread (where_over F) I (weighted_ends n None b)
    ended_is F z I =
        let a = flow_paths n None b (where_over F) I (where_over_zero F z) in
        let o = all_over F (block_flow n None b I).ended (none_goes_on b I) in
        let c = sum_zero (block_flow n None b I).next in
        omega arith

    pub next_adds : (G : Fraction → State → ℕ) → Zero G → (I J : Table) →
        sum_of_all G (block_flow n None b (I ++ J)).next ≡ sum_of_all G (block_flow n None b I).next + sum_of_all G (block_flow n None b J).next
    next_adds G z I J =
        let a = next_is G z (I ++ J) in
        let c = next_is G z I in
        let d = next_is G z J in
        let e = spread_append (where_on G) I J (weighted_ends n None b) in
        omega arith

    pub ended_adds : (F : Fraction → End → ℕ) → Zero F → (I J : Table) →
        sum_of_all F (block_flow n None b (I ++ J)).ended ≡ sum_of_all F (block_flow n None b I).ended + sum_of_all F (block_flow n None b J).ended
    ended_adds F z I J =
        let a = ended_is F z (I ++ J) in
        let c = ended_is F z I in
        let d = ended_is F z J in
        let e = spread_append (where_over F) I J (weighted_ends n None b) in
        omega arith

    -- from a table without weight
    pub next_nothing : (G : Fraction → State → ℕ) → Zero G → (I : Table) → numerators I ≡ 0 → sum_of_all G (block_flow n None b I).next ≡ 0
    next_nothing G z I h = next_is G z I ∙ spread_nothing (where_on G) I (weighted_ends n None b) (where_on_zero G z) h

    pub ended_nothing : (F : Fraction → End → ℕ) → Zero F → (I : Table) → numerators I ≡ 0 → sum_of_all F (block_flow n None b I).ended ≡ 0
    ended_nothing F z I h = ended_is F z I ∙ spread_nothing (where_over F) I (weighted_ends n None b) (where_over_zero F z) h
