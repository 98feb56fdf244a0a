-- Visits that balance exactly, over a denominator that may have a factor in common with the modulus: it can be made less, until it has none.
use Rattle.std.proofs.Common.{◌≡◌, ℕ, zero, suc, ◌+◌, ◌*◌, ◌/◌, ◌≤◌, Bool, true, false, ◌&&◌, cond, if◌then◌else◌, List, [], ◌∷◌, refl, sym, ap, ◌∙◌, arith}
use Rattle.std.specs.Prelude.{◌==◌, Contains}
use Rattle.std.proofs.Math.Nat.{mul-div_right}
use Rattle.narrow_fractions.specs.Remainders.{Same}
use Rattle.narrow_fractions.proofs.Congruence.{equal, turned, chained, times, cancelled}
use Rattle.narrow_fractions.proofs.Euclid.{cancel, multiple}
use Rattle.narrow_fractions.proofs.Denominators.{common_of}
use Rattle.visit_finder.specs.Exact.{Turn, Entry, is_in, turns_within, entries_within, part, entered, led, BalanceExactly}
use Rattle.visit_finder.specs.Exact as exact
use Rattle.visit_finder.proofs.Members.{among}

-- what turns within the states lead to a state, where the visits of each state are g times others
pub led_times : (whole g : ℕ) (states : List ℕ) (turns : List Turn) (v w : ℕ → ℕ) → ((t : ℕ) → Contains states t → v t ≡ g * w t) → (s : ℕ) →
    led whole (turns_within states turns) v s ≡ g * led whole (turns_within states turns) w s
led_times whole g states [] v w same s = omega arith
led_times whole g states (e ∷ es) v w same s = by (is_in states e.0) (is_in states e.1) refl (led_times whole g states es v w same s)
  where
    one : (b : Bool) (p x y l k : ℕ) → x ≡ g * y → l ≡ g * k → (if b then p * x else 0) + l ≡ g * ((if b then p * y else 0) + k)
    one true p x y l k e f = let h = ap (λ n. p * n) e in omega (arith, h, f)
    one false p x y l k e f = omega (arith, f)

    by : (b c : Bool) → is_in states e.0 ≡ b → led whole (turns_within states es) v s ≡ g * led whole (turns_within states es) w s →
        led whole (cond (b && c) (e ∷ turns_within states es) (turns_within states es)) v s ≡ g * led whole (cond (b && c) (e ∷ turns_within states es) (turns_within states es)) w s
    by true true p i = one (e.1 == s) (part whole e.2) (v e.0) (w e.0) _ _ (same e.0 (among states e.0 p)) i
    by true false p i = i
    by false true p i = i
    by false false p i = i

module _ (m : ℕ) (states : List ℕ) (turns : List Turn) (entries : List Entry) (pos : 1 ≤ m)
    (known : (once : ℕ) (v : ℕ → ℕ) → BalanceExactly states turns entries once v → (t : ℕ) → Contains states t → (r : ℕ) × Same m (v t) (once * r)) where
  -- each numerator has the factor that the denominator has in common with the modulus
  has_factor : (once : ℕ) (v : ℕ → ℕ) (g a b : ℕ) → 1 ≤ g → m ≡ g * a → once ≡ g * b → BalanceExactly states turns entries once v → (t : ℕ) → Contains states t → v t ≡ g * (v t / g)
  has_factor once v g a b one e f balance t c =
      let k = known once v balance t c in
      let r = k.0 in
      let s = k.1 in
      let j = multiple g (v t) (a * s.0) (b * r + a * s.1) (by m g a b (v t) once r s.0 s.1 e f s.2) in
      j.1 ∙ ap (λ y. g * y) (sym (ap (λ y. y / g) j.1 ∙ mul-div_right j.0 one))
    where
      by : (m g a b p d r x y : ℕ) → m ≡ g * a → d ≡ g * b → p + m * x ≡ d * r + m * y → p + g * (a * x) ≡ g * (b * r + a * y)
      by m g a b p d r x y e f s = let ex = ap (λ k. k * x) e in let ey = ap (λ k. k * y) e in let fr = ap (λ k. k * r) f in omega arith

  less_exact : (once : ℕ) (v : ℕ → ℕ) (g : ℕ) → 1 ≤ g → once ≡ g * (once / g) → ((t : ℕ) → Contains states t → v t ≡ g * (v t / g)) → BalanceExactly states turns entries once v →
      BalanceExactly states turns entries (once / g) (λ t. v t / g)
  less_exact once v g one z h balance s c =
      let inner = turns_within states turns in
      let begun = entries_within states entries in
      let whole = exact.common_of inner begun in
      let leads = led_times whole g states turns v (λ t. v t / g) h s in
      by whole g (v s) (v s / g) (entered whole begun s) once (once / g) (led whole inner v s) (led whole inner (λ t. v t / g) s) one (h s c) z leads (balance s c)
    where
      by : (whole g x y a o p l k : ℕ) → 1 ≤ g → x ≡ g * y → o ≡ g * p → l ≡ g * k → whole * x ≡ a * o + l → whole * y ≡ a * p + k
      by whole g x y a o p l k one ex eo el e =
          let xx = ap (λ n. whole * n) ex in
          let oo = ap (λ n. a * n) eo in
          cancel g _ _ one (omega (arith, xx, oo, el, e))

  -- whatever the denominator: the fraction of one state has the remainder that was found of it
  module _ (s r : ℕ) (here : Contains states s) (is : (once : ℕ) (v : ℕ → ℕ) → BalanceExactly states turns entries once v → Same m (v s) (once * r)) where
    up_to : (fuel once : ℕ) (v : ℕ → ℕ) → once ≤ fuel → 1 ≤ once → BalanceExactly states turns entries once v → (num den : ℕ) → den * v s ≡ once * num → Same m (den * r) num
    up_to zero once v f p balance num den e = absurd (omega arith)
    up_to (suc fuel) once v f p balance num den e = let c = common_of m once pos in by (λ o w. up_to fuel o w) c.0 c.1 c.2 c.3 c.4 c.5 c.6
      where
        small : (d g b fuel : ℕ) → d ≤ suc fuel → 1 ≤ d → d ≡ suc (suc g) * b → b ≤ fuel
        small d g zero fuel f p e = omega arith
        small d g (suc b) fuel f p e = omega arith

        positive : (d g b : ℕ) → 1 ≤ d → d ≡ suc (suc g) * b → 1 ≤ b
        positive d g zero p e = absurd (omega arith)
        positive d g (suc b) p e = omega arith

        both : (k den num x d y c : ℕ) → x ≡ k * y → d ≡ k * c → den * x ≡ d * num → k * (den * y) ≡ k * (c * num)
        both k den num x d y c p q e = let pp = ap (λ z. den * z) p in let qq = ap (λ z. z * num) q in omega arith

        by : ((o : ℕ) (w : ℕ → ℕ) → o ≤ fuel → 1 ≤ o → BalanceExactly states turns entries o w → (num den : ℕ) → den * w s ≡ o * num → Same m (den * r) num) →
            (g w a b : ℕ) → m ≡ g * a → once ≡ g * b → Same m (w * once) g → Same m (den * r) num
        by more zero w a b e1 e2 s1 = absurd (omega arith)
        by more (suc zero) w a b e1 e2 s1 =
            cancelled m once w (den * r) num s1
            (chained m _ _ _ (equal m _ (den * (once * r)) (omega arith)) (chained m _ _ _ (times m den _ _ (turned m _ _ (is once v balance))) (equal m _ _ e)))
        by more (suc (suc g)) w a b e1 e2 s1 =
            let k = suc (suc g) in
            let one : 1 ≤ k = omega arith in
            let h = has_factor once v k a b one e1 e2 balance in
            let q : once / k ≡ b = ap (λ y. y / k) e2 ∙ mul-div_right b one in
            let z : once ≡ k * (once / k) = e2 ∙ ap (λ y. k * y) (sym q) in
            more (once / k) (λ t. v t / k) (omega (arith, small once g b fuel f p e2, q)) (omega (arith, positive once g b p e2, q)) (less_exact once v k one z h balance) num den
            (cancel k _ _ one (both k den num (v s) once (v s / k) (once / k) (h s here) z e))

    pub remainder_of : (once : ℕ) (v : ℕ → ℕ) → 1 ≤ once → BalanceExactly states turns entries once v → (num den : ℕ) → den * v s ≡ once * num → Same m (den * r) num
    remainder_of once v p balance num den e = up_to once once v (omega arith) p balance num den e
