-- Sums over the strings that pass, and distances.
use Rattle.std.proofs.Common.{◌≡◌, ◌⊎◌, inl, inr, ℕ, zero, suc, ◌+◌, ◌-◌, ◌*◌, ◌≤◌, ◌<◌, Bool, true, false, List, [], ◌∷◌, length, refl, sym, ap, ◌∙◌, arith}
use Rattle.std.specs.Prelude.{if◌then◌else◌}
use Rattle.std.proofs.lemmas.Bool.{cases_lt}
use Rattle.many_runs.specs.StringSums.{sum_of_those, apart}

-- ---- distances
pub apart_left : (a b d : ℕ) → a ≡ b + d → apart a b ≡ d
apart_left a b d e = omega arith

pub apart_right : (a b d : ℕ) → b ≡ a + d → apart a b ≡ d
apart_right a b d e = omega arith

pub apart_mul : (k a b : ℕ) → apart (k * a) (k * b) ≡ k * apart a b
apart_mul k a b = by_order (cases_lt a b)
  where
    by_order : (a < b) ⊎ (b ≤ a) → apart (k * a) (k * b) ≡ k * apart a b
    by_order (inl h) =
        let d = b - a in
        let e : b ≡ a + d = omega arith in
        let f : k * b ≡ k * a + k * d = ap (λ b. k * b) e ∙ omega arith in
        apart_right (k * a) (k * b) (k * d) f ∙ ap (λ d. k * d) (sym (apart_right a b d e))
    by_order (inr h) =
        let d = a - b in
        let e : a ≡ b + d = omega arith in
        let f : k * a ≡ k * b + k * d = ap (λ a. k * a) e ∙ omega arith in
        apart_left (k * a) (k * b) (k * d) f ∙ ap (λ d. k * d) (sym (apart_left a b d e))

pub apart_sum : (a b c d x y : ℕ) → apart a b ≤ x → apart c d ≤ y → apart (a + c) (b + d) ≤ x + y
apart_sum a b c d x y h k = omega arith

-- ---- sums
if_none : (b : Bool) → ◌≡◌ {A = ℕ} (if b then 0 else 0) 0
if_none true = refl
if_none false = refl

pub sum_none : (test : List Bool → Bool) (f : List Bool → ℕ) (h : ℕ) → ((u : List Bool) → f u ≡ 0) → sum_of_those test f h ≡ 0
sum_none test f zero e = ap (λ n. if test [] then n else 0) (e []) ∙ if_none (test [])
sum_none test f (suc h) e =
    let a = ap (λ n. if test [] then n else 0) (e []) ∙ if_none (test []) in
    let b = sum_none (λ v. test (false ∷ v)) (λ v. f (false ∷ v)) h (λ v. e (false ∷ v)) in
    let c = sum_none (λ v. test (true ∷ v)) (λ v. f (true ∷ v)) h (λ v. e (true ∷ v)) in
    omega arith

-- no string passes
pub sum_never : (f : List Bool → ℕ) (h : ℕ) → sum_of_those (λ v. false) f h ≡ 0
sum_never f zero = refl
sum_never f (suc h) = let b = sum_never (λ v. f (false ∷ v)) h in let c = sum_never (λ v. f (true ∷ v)) h in omega arith

pub sum_ext : (test : List Bool → Bool) (f g : List Bool → ℕ) (h : ℕ) → ((u : List Bool) → length u ≤ h → f u ≡ g u) → sum_of_those test f h ≡ sum_of_those test g h
sum_ext test f g zero e = ap (λ n. if test [] then n else 0) (e [] (omega arith))
sum_ext test f g (suc h) e =
    let a = ap (λ n. if test [] then n else 0) (e [] (omega arith)) in
    let b = sum_ext (λ v. test (false ∷ v)) (λ v. f (false ∷ v)) (λ v. g (false ∷ v)) h (λ v le. e (false ∷ v) (omega (arith, le))) in
    let c = sum_ext (λ v. test (true ∷ v)) (λ v. f (true ∷ v)) (λ v. g (true ∷ v)) h (λ v le. e (true ∷ v) (omega (arith, le))) in
    omega arith

if_add : (b : Bool) (m n : ℕ) → (if b then m + n else 0) ≡ (if b then m else 0) + (if b then n else 0)
if_add true m n = refl
if_add false m n = refl

pub sum_add : (test : List Bool → Bool) (f g : List Bool → ℕ) (h : ℕ) → sum_of_those test (λ u. f u + g u) h ≡ sum_of_those test f h + sum_of_those test g h
sum_add test f g zero = if_add (test []) (f []) (g [])
sum_add test f g (suc h) =
    let a = if_add (test []) (f []) (g []) in
    let b = sum_add (λ v. test (false ∷ v)) (λ v. f (false ∷ v)) (λ v. g (false ∷ v)) h in
    let c = sum_add (λ v. test (true ∷ v)) (λ v. f (true ∷ v)) (λ v. g (true ∷ v)) h in
    omega arith

if_mul : (b : Bool) (k n : ℕ) → (if b then k * n else 0) ≡ k * (if b then n else 0)
if_mul true k n = refl
if_mul false k n = omega arith

pub sum_mul : (test : List Bool → Bool) (k : ℕ) (f : List Bool → ℕ) (h : ℕ) → sum_of_those test (λ u. k * f u) h ≡ k * sum_of_those test f h
sum_mul test k f zero = if_mul (test []) k (f [])
sum_mul test k f (suc h) =
    let a = if_mul (test []) k (f []) in
    let b = sum_mul (λ v. test (false ∷ v)) k (λ v. f (false ∷ v)) h in
    let c = sum_mul (λ v. test (true ∷ v)) k (λ v. f (true ∷ v)) h in
    let d = spread k (if test [] then f [] else 0) (sum_of_those (λ v. test (false ∷ v)) (λ v. f (false ∷ v)) h) (sum_of_those (λ v. test (true ∷ v)) (λ v. f (true ∷ v)) h) in
    omega arith
  where
    spread : (k a b c : ℕ) → k * (a + (b + c)) ≡ k * a + (k * b + k * c)
    spread k a b c = omega arith

if_apart : (b : Bool) (m n : ℕ) → apart (if b then m else 0) (if b then n else 0) ≤ (if b then apart m n else 0)
if_apart true m n = omega arith
if_apart false m n = omega arith

-- sums are no further apart than their members together
pub sum_apart : (test : List Bool → Bool) (f g : List Bool → ℕ) (h : ℕ) → apart (sum_of_those test f h) (sum_of_those test g h) ≤ sum_of_those test (λ u. apart (f u) (g u)) h
sum_apart test f g zero = if_apart (test []) (f []) (g [])
sum_apart test f g (suc h) =
    apart_sum (if test [] then f [] else 0) (if test [] then g [] else 0) _ _ _ _ (if_apart (test []) (f []) (g []))
    (apart_sum (sum_of_those (λ v. test (false ∷ v)) (λ v. f (false ∷ v)) h) (sum_of_those (λ v. test (false ∷ v)) (λ v. g (false ∷ v)) h) _ _ _ _
    (sum_apart (λ v. test (false ∷ v)) (λ v. f (false ∷ v)) (λ v. g (false ∷ v)) h)
    (sum_apart (λ v. test (true ∷ v)) (λ v. f (true ∷ v)) (λ v. g (true ∷ v)) h))
