-- A draw by attempts beside the roll by the weights of its classes.
use Rattle.std.proofs.Common.{◌≡◌, ⊎_elim, ℕ, zero, suc, ◌+◌, ◌*◌, ◌^◌, ◌≤◌, ◌<◌, Bool, true, false, cond, Option, Some, None, List, [], ◌∷◌, ◌++◌, length, get_or, refl, sym, ap, ◌∙◌, arith}
use Rattle.std.proofs.lemmas.Bool.{cases_lt}
use Rattle.std.proofs.Math.Nat.{mul-le-mul_left}
use Rattle.std.specs.List.{sum}
use Rattle.std.specs.Option.{option_eq}
use Rattle.std.specs.Prelude.{◌==◌}
use Rattle.gcl_core.specs.meaning.Reading.{Reading, gives, more_bits}
use Rattle.gcl_core.specs.meaning.Draw.{bits_for, last_end, draw_on, rejected_numbers, strings_to_a_number}
use Rattle.gcl_core.specs.weighing.StringWeight.{reading_to}
use Rattle.gcl_core.specs.weighing.OneDraw.{DrawWeighs, draw_weight, class_size}
use Rattle.gcl_core.proofs.Classes.{bits_enough}
use Rattle.gcl_core.proofs.DrawTrees.{parts_all}
use Rattle.dice_roll.specs.Weights.{count_strings}
use Rattle.dice_roll.proofs.Counting.{count_same}
use Rattle.weighted_roll.specs.Weights.{AreWeights}
use Rattle.weighted_roll.specs.Rollers.{is_label, decided}
use Rattle.weighted_roll.specs.ExactRollers.{Keeps, HasLabels, HasAtMost}
use Rattle.weighted_roll.proofs.Growing.{power_pos, never_more, is_label-of}
use Rattle.weighted_roll.proofs.Allowed.{are_below, are_some}
use Rattle.weighted_roll.proofs.Optimality.{optimal}
use Rattle.weighted_roll.specs.Drawn.{class_in, drawn, StaysBehind}
use Rattle.weighted_roll.proofs.Keeping.{Goes, drawn_goes, passes, weight_is_count}

class_goes : (i : ℕ) (v : List Bool) (r s : Reading (Option ℕ)) → Goes r v s → class_in r ≡ Some i → class_in s ≡ Some i
class_goes i v (gives c rest) s h e = ap class_in h ∙ e
class_goes i v more_bits s h e = absurd (let no : ⊥ = cc in no)

keeps_class : (ends : List ℕ) (r : ℕ) → Keeps (drawn ends r)
keeps_class ends r = record { keeps = λ w v i e. class_goes i v (draw_on ends r w) (draw_on ends r (w ++ v)) (drawn_goes ends r w v) e }

test_goes : (test : Option ℕ → Bool) (v : List Bool) (t : Bool) (r s : Reading (Option ℕ)) → Goes r v s → reading_to test r ≡ Some t → reading_to test s ≡ Some t
test_goes test v t (gives c rest) s h e = ap (reading_to test) h ∙ e
test_goes test v t more_bits s h e = absurd (let no : ⊥ = cc in no)

is_read : (i : ℕ) (r : Reading (Option ℕ)) → passes (reading_to (λ c. option_eq ◌==◌ c (Some i)) r) ≡ is_label i (class_in r)
is_read i (gives (Some j) rest) = refl
is_read i (gives None rest) = refl
is_read i more_bits = refl

count_is_weight : (ends : List ℕ) (r i T : ℕ) → decided (drawn ends r) i T ≡ draw_weight ends r (Some i) T
count_is_weight ends r i T =
    sym (weight_is_count (λ w. reading_to (λ c. option_eq ◌==◌ c (Some i)) (draw_on ends r w))
    (λ u v t e. test_goes (λ c. option_eq ◌==◌ c (Some i)) v t (draw_on ends r u) (draw_on ends r (u ++ v)) (drawn_goes ends r u v) e) T
    ∙ count_same (λ w. passes (reading_to (λ c. option_eq ◌==◌ c (Some i)) (draw_on ends r w))) (λ w. is_label i (drawn ends r w)) T (λ w l. is_read i (draw_on ends r w)))

-- A * d = P * (c * S) and b * S <= A give b * d <= c * P
share : (A b c d P S : ℕ) → 0 < A → A * d ≡ P * (c * S) → b * S ≤ A → b * d ≤ c * P
share A b c d P S pos e le =
    ⊎_elim
    (λ (lt : c * P < b * d).
    let m = mul-le-mul_left (c * P) le in
    let o : c * P + 1 ≤ b * d = omega arith in
    let n = mul-le-mul_left A o in
    let q = ap (λ y. b * y) e in
    absurd (let no : ⊥ = omega arith in no))
    (λ (l : b * d ≤ c * P). l)
    (cases_lt (c * P) (b * d))

share_most : (ends : List ℕ) (r : ℕ) → DrawWeighs ends r → (i T : ℕ) → bits_for (last_end ends) * r ≤ T → last_end ends * decided (drawn ends r) i T ≤ class_size ends i * 2 ^ T
share_most ends r law i T le =
    let b = last_end ends in
    let k = bits_for b in
    let S = strings_to_a_number k (rejected_numbers b) r in
    let enough = bits_enough b in
    let whole : b + rejected_numbers b ≡ 2 ^ k = omega arith in
    let parts = parts_all b k (rejected_numbers b) r whole in
    let fits : b * S ≤ 2 ^ (k * r) = omega arith in
    let e = ap (λ d. 2 ^ (k * r) * d) (count_is_weight ends r i T) ∙ law.to_a_class i T le in
    share (2 ^ (k * r)) b (class_size ends i) (decided (drawn ends r) i T) (2 ^ T) S (power_pos (k * r)) e fits

has_at_most : (ends : List ℕ) (r : ℕ) → DrawWeighs ends r → (i a b : ℕ) → class_size ends i ≡ a → last_end ends ≡ b → HasAtMost (drawn ends r) i a b
has_at_most ends r law i a b e f = record {
  near = λ k n. (
    n + bits_for (last_end ends) * r,
    let l : n ≤ n + bits_for (last_end ends) * r = omega arith in l,
    near k (n + bits_for (last_end ends) * r)
        (let l : bits_for (last_end ends) * r ≤ n + bits_for (last_end ends) * r = omega arith in l),
  );
}
  where
    near : (k T : ℕ) → bits_for (last_end ends) * r ≤ T → 2 ^ k * (b * decided (drawn ends r) i T) ≤ (2 ^ k * a + 1) * 2 ^ T
    near k T le =
        let s = share_most ends r law i T le in
        let x = ap (λ y. y * decided (drawn ends r) i T) f in
        let z = ap (λ y. y * 2 ^ T) e in
        let l : b * decided (drawn ends r) i T ≤ a * 2 ^ T = omega arith in
        let m = mul-le-mul_left (2 ^ k) l in
        omega arith

-- ---- a label that is given counts

one_true : (t : Bool) → t ≡ true → 1 ≤ cond t 1 0
one_true true e = omega arith
one_true false e = absurd (let no : ⊥ = cc in no)

counted : (f : List Bool → Bool) (w : List Bool) → f w ≡ true → 1 ≤ count_strings f (length w)
counted f [] e = one_true (f []) e
counted f (false ∷ w) e = let c = counted (λ u. f (false ∷ u)) w e in omega arith
counted f (true ∷ w) e = let c = counted (λ u. f (true ∷ u)) w e in omega arith

past_end : (ws : List ℕ) (i : ℕ) → length ws ≤ i → get_or ws i 0 ≡ 0
past_end [] i le = refl
past_end (x ∷ ws) zero le = absurd (omega arith)
past_end (x ∷ ws) (suc i) le = past_end ws i (let l : length ws ≤ i = omega arith in l)

no_label : (b d a P : ℕ) → 0 < b → b * d ≤ a * P → a ≡ 0 → 1 ≤ d → ⊥
no_label b d a P pos le z one = let m = mul-le-mul_left b one in let y = ap (λ a. a * P) z in omega arith

has_labels : (r : List Bool → Option ℕ) (ws : List ℕ) (b : ℕ) → 0 < b → Keeps r → ((i : ℕ) → HasAtMost r i (get_or ws i 0) b) → HasLabels r (length ws)
has_labels r ws b pos keeps h = record {
  below = λ w i e.
      ⊎_elim
      (λ (lt : i < length ws). lt)
      (λ (ge : length ws ≤ i).
      absurd (no_label b (decided r i (length w)) (get_or ws i 0) (2 ^ length w) pos (never_more r i (get_or ws i 0) b keeps (h i) (length w)) (past_end ws i ge)
      (counted (λ u. is_label i (r u)) w (is_label-of i (r w) e))))
      (cases_lt i (length ws));
}

pub stays_behind : (ends : List ℕ) (r : ℕ) (ws : List ℕ) → DrawWeighs ends r → AreWeights ws → last_end ends ≡ sum ws → ((i : ℕ) → class_size ends i ≡ get_or ws i 0)
    → StaysBehind ends r ws
stays_behind ends r ws law are e f =
    let best = optimal ws (are_below ws are) (are_some ws are) in
    let most = λ (i : ℕ). has_at_most ends r law i (get_or ws i 0) (sum ws) (f i) e in
    let labels = has_labels (drawn ends r) ws (sum ws) (are_some ws are) (keeps_class ends r) most in
    record {
      each = λ i T. best.most (drawn ends r) i (keeps_class ends r) (most i) T;
      left = λ T. best.fewest (drawn ends r) (keeps_class ends r) labels most T;
      flips = λ N. best.cheapest (drawn ends r) (keeps_class ends r) labels most N;
    }
