-- What a meter counts, draw by draw.
use Rattle.std.proofs.Common.{◌≡◌, ℕ, ◌+◌, ◌*◌, ◌^◌, ◌≤◌, ◌<◌, [], ◌∷◌, Option, Some, None, refl, sym, ap, ◌∙◌, subst, arith}
use Rattle.std.proofs.Math.Nat.{mul-le-mul_left, mul-le-mul_right}
use Rattle.gcl_core.specs.meaning.Value.{State}
use Rattle.gcl_core.specs.weighing.Fractions.{Fraction, times}
use Rattle.gcl_core.specs.weighing.WeightedEnds.{class_weight}
use Rattle.numbers.specs.Fraction.{IsEqual}
use Rattle.numbers.specs.Arithmetic.{InLowest, sum_of, product_of}
use Rattle.numbers.proofs.Divisors.{product_pos}
use Rattle.table_flow.specs.Scale.{whole, Whole}
use Rattle.table_flow.proofs.Wholes.{whole_from, sum_whole, sum_wide, product_whole, product_wide}
use Rattle.mass_fold.specs.declared.meter.Meter.{Meter}
use Rattle.mass_fold.specs.declared.meter.Meter.TheVariants.{Off, Bits, TooWide}
use Rattle.mass_fold.specs.Amounts.{held}
use Rattle.mass_fold.specs.inner.Amounts.{Entries}
use Rattle.mass_fold.specs.inner.Steps.{EachState, IsParts, PartsBlame}
use Rattle.mass_fold.specs.Metering.{IsPriced}
use Rattle.mass_fold.specs.inner.Metering.{Counted, AddsBits, IsPrice, PriceBlames, CountsAll, CountsRest}
use Rattle.mass_fold.proofs.Insertion.{whole_pos}
use Rattle.mass_fold.proofs.Powers.{equal_whole}

-- ---- one sum

-- a product, at the product of both scales
pub times_whole : (N M : ℕ) (p q : Fraction) → Whole N p → Whole M q → (whole (N * M) (times p q) ≡ whole N p * whole M q) × Whole (N * M) (times p q)
times_whole N M p q wp wq = whole_from (N * M) (times p q) (whole N p * whole M q) (product_pos p.1 q.1 wp.positive wq.positive) (joined p.0 p.1 q.0 q.1 (whole N p) (whole M q) N M wp.exact wq.exact)
  where
    joined : (a b c d U V N M : ℕ) → b * U ≡ a * N → d * V ≡ c * M → b * d * (U * V) ≡ a * c * (N * M)
    joined a b c d U V N M e f = let x = ap (λ z. z * (d * V)) e in let y = ap (λ z. a * N * z) f in omega arith

module _ (sum bits f : Fraction) (N M : ℕ) (Np : 0 < N) (Mp : 0 < M) (wb : Whole M bits) (wf : Whole N f) where
  abbrev X : ℕ
  X = N * M

  Xp : 0 < X
  Xp = product_pos N M Np Mp

  pub product_refuses : product_of f bits ≡ None → (C : ℕ) → 1 ≤ C → whole X sum + whole N f * whole M bits ≤ X * C → 2 ^ 128 ≤ X * C
  product_refuses e C one h = let t = times_whole N M f bits wf wb in product_wide X C f bits Xp one t.1 (omega (arith, t.0)) e

  module _ (more : Fraction) (e : product_of f bits ≡ Some more) where
    more_whole : (whole X more ≡ whole N f * whole M bits) × Whole X more
    more_whole = let t = times_whole N M f bits wf wb in let p = product_whole X f bits more t.1 e in (p.0 ∙ t.0, p.1)

    pub sum_refuses : InLowest sum → InLowest more → sum_of sum more ≡ None → Whole X sum → (C : ℕ) → 1 ≤ C → whole X sum + whole N f * whole M bits ≤ X * C → 2 ^ 128 ≤ X * C
    sum_refuses ls lm q ws C one h = let m = more_whole in sum_wide X C sum more Xp one ws m.1 ls lm (omega (arith, m.0)) q

    pub sum_gives : (total : Fraction) → sum_of sum more ≡ Some total → Whole X sum → Whole X total × (whole X total ≡ whole X sum + whole N f * whole M bits)
    sum_gives total q ws = let m = more_whole in let s = sum_whole X sum more total ws m.1 q in (s.1, s.0 ∙ ap (λ x. whole X sum + x) m.0)

-- ---- one after the other
pub counted_none : (X : ℕ) (m : Meter) → Counted X 0 m m
counted_none X Off = refl
counted_none X (Bits f) = λ w. (w, omega arith)
counted_none X TooWide = refl

pub counted_then : (X a b : ℕ) (m now m' : Meter) → Counted X a m now → Counted X b now m' → Counted X (a + b) m m'
counted_then X a b Off now m' x y = subst (λ n. Counted X b n m') x y
counted_then X a b TooWide now m' x y = subst (λ n. Counted X b n m') x y
counted_then X a b (Bits f) Off m' x y = absurd x
counted_then X a b (Bits f) (Bits g) Off x y = absurd y
counted_then X a b (Bits f) (Bits g) (Bits h) x y = λ w. let p = x w in let q = y p.0 in (q.0, omega (arith, p.1, q.1))
counted_then X a b (Bits f) (Bits g) TooWide x y = λ w C one k. let p = x w in y p.0 C one (omega (arith, p.1))
counted_then X a b (Bits f) TooWide Off x y = cc
counted_then X a b (Bits f) TooWide (Bits h) x y = cc
counted_then X a b (Bits f) TooWide TooWide x y = λ w C one k. x w C one (omega arith)

pub counted_as : (X a b : ℕ) (m m' : Meter) → a ≡ b → Counted X a m m' → Counted X b m m'
counted_as X a b m m' e x = subst (λ n. Counted X n m m') e x

-- ---- all entries
module _ (Fact : ℕ → State → Type 0) (p : ℕ → State → ℕ) where
  pub counts_none : (m : Meter) → CountsAll Fact p [] m m
  counts_none m N M Np Mp h k = counted_none (N * M) m

  pub counts_next : (s : State) (f : Fraction) (es : Entries) (m now m' : Meter) → CountsAll Fact p ((s, f) ∷ []) m now → CountsAll Fact p es now m' → CountsAll Fact p ((s, f) ∷ es) m m'
  counts_next s f es m now m' x y N M Np Mp h k =
      counted_as (N * M) _ _ m m' (omega arith)
      (counted_then (N * M) (held N (p M) ((s, f) ∷ [])) (held N (p M) es) m now m' (x N M Np Mp (h.0, h.1, tt) (k.0, tt)) (y N M Np Mp h.2 k.1))

  module _ (es : Entries) (m : Meter) where
    pub rest_turn : (now now' : Meter) (rest rest' : Entries) (s : State) (f : Fraction) → rest ≡ (s, f) ∷ rest' → CountsRest Fact p es m now rest → CountsAll Fact p ((s, f) ∷ []) now now' → CountsRest Fact p es m now' rest'
    rest_turn now now' rest rest' s f e d x m' y = d m' (subst (λ es. CountsAll Fact p es now m') (sym e) (counts_next s f rest' now now' m' x y))

    pub rest_end : (now : Meter) (rest : Entries) → rest ≡ [] → CountsRest Fact p es m now rest → CountsAll Fact p es m now
    rest_end now rest e d = d now (subst (λ es. CountsAll Fact p es now now) (sym e) (counts_none now))

-- bits that are the same for each state
pub one_adds : (bits f : Fraction) (s : State) (m m' : Meter) → AddsBits bits f m m' → CountsAll (λ M s. Whole M bits) (λ M s. whole M bits) ((s, f) ∷ []) m m'
one_adds bits f s m m' x N M Np Mp h k = counted_as (N * M) _ _ m m' (omega arith) (x N M Np Mp k.0 h.1)

-- other words of the same
each_along : (P Q : State → Type 0) → ((s : State) → P s → Q s) → (es : Entries) → EachState P es → EachState Q es
each_along P Q go [] k = tt
each_along P Q go (e ∷ es) k = (go e.0 k.0, each_along P Q go es k.1)

held_along : (N : ℕ) (P : State → Type 0) (G H : State → ℕ) → ((s : State) → P s → G s ≡ H s) → (es : Entries) → EachState P es → held N G es ≡ held N H es
held_along N P G H go [] k = refl
held_along N P G H go (e ∷ es) k = let i = held_along N P G H go es k.1 in let j = ap (λ x. whole N e.1 * x) (go e.0 k.0) in omega arith

pub counts_as : (P Q : ℕ → State → Type 0) (p q : ℕ → State → ℕ) (es : Entries) (m m' : Meter) → ((M : ℕ) (s : State) → 0 < M → P M s → Q M s × (q M s ≡ p M s)) → CountsAll Q q es m m' → CountsAll P p es m m'
counts_as P Q p q es m m' go x N M Np Mp h k =
    counted_as (N * M) _ _ m m' (held_along N (P M) (q M) (p M) (λ s a. (go M s Mp a).1) es k)
    (x N M Np Mp h (each_along (P M) (Q M) (λ s a. (go M s Mp a).0) es k))

-- ---- prices
module _ (undecided b : ℕ) (r : Option ℕ) (part rest over : Fraction) (is : IsParts b r part rest) (lp : InLowest over) (eo : IsEqual over (undecided, 1)) where
  part_whole : (M : ℕ) → IsPriced r M b → (whole M (times part over) ≡ undecided * whole M (class_weight b r 1)) × Whole M (times part over)
  part_whole M k =
      let x = equal_whole M part (class_weight b r 1) is.part_positive is.part_is k.one in
      let op : 0 < over.1 = let z = lp.positive in omega arith in
      let y = whole_from M (times part over) (undecided * whole M part) (product_pos part.1 over.1 is.part_positive op) (joined part.0 part.1 over.0 over.1 undecided (whole M part) M x.1.exact eo) in
      (y.0 ∙ ap (λ z. undecided * z) x.0, y.1)
    where
      joined : (a b c d u V M : ℕ) → b * V ≡ a * M → c * 1 ≡ u * d → b * d * (u * V) ≡ a * c * M
      joined a b c d u V M e f = let x = ap (λ z. u * d * z) e in let y = ap (λ z. z * (a * M)) f in omega arith

  pub price_is : (bits : Fraction) → product_of part over ≡ Some bits → IsPrice undecided b r bits
  price_is bits e M Mp k = let p = part_whole M k in let q = product_whole M part over bits p.1 e in (q.1, q.0 ∙ p.0)

  pub price_wide : product_of part over ≡ None → PriceBlames undecided b r
  price_wide e M C Mp one k h = let p = part_whole M k in product_wide M C part over Mp one p.1 (omega (arith, p.0)) e

pub parts_wide : (undecided b : ℕ) (r : Option ℕ) → PartsBlame b r → PriceBlames undecided b r
parts_wide undecided b r x M C Mp one k h = let y = x M Mp k.one k.none in let z : M * 1 ≤ M * C = mul-le-mul_left M one in omega arith

-- a price that does not fit
pub wide_here : (undecided b : ℕ) (r : Option ℕ) (Fact : ℕ → State → Type 0) (p : ℕ → State → ℕ) (s : State) (f sum : Fraction) (es : Entries) → PriceBlames undecided b r →
    ((M : ℕ) → Fact M s → IsPriced r M b × (p M s ≡ undecided * whole M (class_weight b r 1))) → CountsAll Fact p ((s, f) ∷ es) (Bits sum) TooWide
wide_here undecided b r Fact p s f sum es x go N M Np Mp h k w C one most =
    let g = go M k.0 in
    let U = undecided * whole M (class_weight b r 1) in
    let above : 1 * U ≤ whole N f * U = mul-le-mul_right U (let z = whole_pos N f Np h.0 h.1 in let y : 1 ≤ whole N f = omega arith in y) in
    let here : whole N f * p M s ≡ whole N f * U = ap (λ z. whole N f * z) g.1 in
    let both : 1 ≤ N * C = let z = product_pos N C Np (let y : 0 < C = omega arith in y) in omega arith in
    let all : N * M * C ≡ M * (N * C) = omega arith in
    subst (λ z. 2 ^ 128 ≤ z) (sym all) (x M (N * C) Mp both g.0 (omega arith))
