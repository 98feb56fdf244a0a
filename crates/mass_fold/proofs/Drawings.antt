-- Draws on a table, entry by entry.
use Rattle.std.proofs.Common.{◌≡◌, ℕ, zero, suc, ◌+◌, ◌-◌, ◌*◌, ◌≤◌, ◌<◌, ◌^◌, pos, [], ◌∷◌, Option, Some, None, slice_set, refl, sym, ap, ◌∙◌, subst, arith}
use Rattle.std.proofs.Math.Nat.{mul-le-mul_left}
use Rattle.gcl_core.specs.meaning.Value.{State}
use Rattle.gcl_core.specs.meaning.Blocks.{End}
use Rattle.gcl_core.specs.weighing.Fractions.{Fraction, times, one}
use Rattle.gcl_core.specs.weighing.WeightedEnds.{class_weight, no_class_weight}
use Rattle.numbers.specs.Fraction.{IsEqual}
use Rattle.numbers.specs.Arithmetic.{product_of}
use Rattle.numbers.proofs.Divisors.{product_pos}
use Rattle.table_flow.specs.Scale.{whole, Whole, amount}
use Rattle.table_flow.specs.Counts.{sum_below}
use Rattle.table_flow.proofs.Wholes.{product_whole, product_refused}
use Rattle.table_flow.proofs.EqualFractions.{equal_times}
use Rattle.mass_fold.specs.declared.error.MassError.{MassError}
use Rattle.mass_fold.specs.declared.error.MassError.TheVariants.{TooWide}
use Rattle.mass_fold.specs.declared.ended.Gone.{Gone}
use Rattle.mass_fold.specs.declared.ended.Ended.{Ended}
use Rattle.mass_fold.specs.Amounts.{held, AreHeld}
use Rattle.mass_fold.specs.inner.Amounts.{Entries, Blames, PutGives, PutBlames}
use Rattle.mass_fold.specs.inner.Ended.{end_of, rows_of, EndGives, EndBlames}
use Rattle.mass_fold.specs.inner.Steps.{DrawsOn, DrawBlames, PartsBlame, AddedBy, StoppedBy, BlamedBy, SpreadGives, SpreadBlames, at_numbers}
use Rattle.mass_fold.proofs.Insertion.{whole_pos, numerator_pos}
use Rattle.mass_fold.proofs.Powers.{equal_whole}

-- ---- products

-- of f with a fraction of the value of u
pub product_at : (N : ℕ) (f w u h : Fraction) → 0 < w.1 → IsEqual w u → Whole N f → Whole N (times f u) → product_of f w ≡ Some h → (whole N h ≡ whole N (times f u)) × Whole N h
product_at N f w u h wp e a b q =
    let x = equal_whole N (times f w) (times f u) (product_pos f.1 w.1 a.positive wp) (equal_times f f w u refl e) b in
    let y = product_whole N f w h x.1 (q) in
    (y.0 ∙ x.0, y.1)

pub refused_at : (N : ℕ) (f w u : Fraction) → 0 < N → 0 < w.1 → IsEqual w u → Whole N f → Whole N (times f u) → whole N (times f u) ≤ N → product_of f w ≡ None → 2 ^ 128 ≤ N
refused_at N f w u Np wp e a b m q =
    let x = equal_whole N (times f w) (times f u) (product_pos f.1 w.1 a.positive wp) (equal_times f f w u refl e) b in
    product_refused N f w Np x.1 (let z = x.0 in omega arith) q

pub above_zero : (N : ℕ) (f w u h : Fraction) → 0 < N → 0 < f.0 → 0 < u.0 → Whole N (times f u) → (whole N h ≡ whole N (times f u)) × Whole N h → 0 < h.0
above_zero N f w u h Np fp up b y = numerator_pos N h y.1 (let z = whole_pos N (times f u) Np (product_pos f.0 u.0 fp up) b in omega (arith, y.0))

-- ---- one entry after the other
module _ (p q : State → Fraction) (go : (State → ℕ) → State → ℕ) (stop : (End → ℕ) → State → ℕ) (es : Entries) (E : Ended) where
  drawing_none : DrawsOn p q go stop es E [] E es
  drawing_none N Np h w a b = record { kept = tt; ended = w; left = h; parts = a; rests = b; draws = λ d. d; going = λ G. omega arith; stopping = λ G. refl }

  pub drawing_start : (fs rest : Entries) → fs ≡ [] → rest ≡ es → DrawsOn p q go stop es E fs E rest
  drawing_start fs rest a b = subst (λ fs. DrawsOn p q go stop es E fs E rest) (sym a) (subst (λ rest. DrawsOn p q go stop es E [] E rest) (sym b) drawing_none)

  pub drawing_along : (fs : Entries) (F : Ended) (rest rest' : Entries) → rest ≡ rest' → DrawsOn p q go stop es E fs F rest → DrawsOn p q go stop es E fs F rest'
  drawing_along fs F rest rest' a d = subst (DrawsOn p q go stop es E fs F) a d

  module _ (fs : Entries) (F : Ended) (s : State) (f : Fraction) (rest : Entries) (d : DrawsOn p q go stop es E fs F ((s, f) ∷ rest)) where
    pub drawing_turn : (fs' : Entries) (F' : Ended) → AddedBy (p s) fs fs' f (λ G. go G s) → StoppedBy (q s) F F' f (λ G. stop G s) → DrawsOn p q go stop es E fs' F' rest
    drawing_turn fs' F' x y N Np h w a b =
        let r = d N Np h w a b in
        let u = x N Np r.kept r.left.0 r.left.1 r.parts.0 in
        let v = y N Np r.ended r.left.0 r.left.1 r.rests.0 in
        record {
          kept = u.0;
          ended = v.0;
          left = r.left.2;
          parts = r.parts.1;
          rests = r.rests.1;
          draws = λ k. (r.draws k).1;
          going = λ G. let z = r.going G in let t = u.1 G in omega arith;
          stopping = λ G. let z = r.stopping G in let t = v.1 G in omega arith;
        }

    pub drawing_blame : (e : MassError) → BlamedBy (p s) (q s) fs F f (λ G. go G s) (λ G. stop G s) e → DrawBlames p q go stop es E e
    drawing_blame e x N L I Np h w a b k part most few most' =
        let r = d N Np h w a b in
        let t = (r.draws k).0 in
        x N L I Np r.kept r.ended r.left.0 r.left.1 t.0 t.1 r.parts.0 r.rests.0 (λ G. let z = r.going G in let y = part G in omega arith) most few (let z = r.stopping (λ x. 1) in omega arith)

-- ---- one state's part
pub added_none : (u : Fraction) (fs : Entries) (f : Fraction) → AddedBy u fs fs f (λ G. 0)
added_none u fs f N Np h fp w b = (h, λ G. omega arith)

pub stopped_none : (u : Fraction) (F : Ended) (f : Fraction) → StoppedBy u F F f (λ G. 0)
stopped_none u F f N Np h fp w b = (h, λ G. omega arith)

-- one state put
pub added_put : (w u : Fraction) (fs fs' : Entries) (f h : Fraction) (s t : State) → 0 < w.1 → IsEqual w u → 0 < u.0 → product_of f w ≡ Some h → t ≡ s → PutGives fs fs' t h → AddedBy u fs fs' f (λ G. G s)
added_put w u fs fs' f h s t wp e up q r g N Np k fp a b =
    let y = product_at N f w u h wp e a b q in
    let z = g N Np k (above_zero N f w u h Np fp up b y) y.1 in
    (z.0, λ G. z.1 G ∙ ap (λ n. held N G fs + n * G t) y.0 ∙ ap (λ s. held N G fs + whole N (times f u) * G s) r)

pub blamed_put : (w u v : Fraction) (fs : Entries) (F : Ended) (f h : Fraction) (s t : State) (k : (End → ℕ) → ℕ) (e : MassError) → 0 < w.1 → IsEqual w u → 0 < u.0 → product_of f w ≡ Some h → t ≡ s → PutBlames e fs t h → BlamedBy u v fs F f (λ G. G s) k e
blamed_put w u v fs F f h s t k e wp eq up q r g N L I Np hs we fp a du dv b bv part most few most' =
    let y = product_at N f w u h wp eq a b q in
    g N L I Np hs (above_zero N f w u h Np fp up b y) y.1 (λ G. let z = part G in let x = ap (λ n. n * G t) y.0 in let o = ap (λ s. whole N (times f u) * G s) r in omega arith) most few

-- a product of the part that goes on is refused
pub blamed_part : (w u v : Fraction) (fs : Entries) (F : Ended) (f : Fraction) (g : (State → ℕ) → ℕ) (k : (End → ℕ) → ℕ) → 0 < w.1 → IsEqual w u → 1 ≤ g (λ s. 1) → product_of f w ≡ None → BlamedBy u v fs F f g k TooWide
blamed_part w u v fs F f g k wp eq one q N L I Np hs we fp a du dv b bv part most few most' =
    refused_at N f w u Np wp eq a b (let z = part (λ s. 1) in let m = mul-le-mul_left (whole N (times f u)) one in omega arith) q

-- the parts of the draw do not fit
pub blamed_parts : (b : ℕ) (r : Option ℕ) (fs : Entries) (F : Ended) (f : Fraction) (g : (State → ℕ) → ℕ) (k : (End → ℕ) → ℕ) → PartsBlame b r → BlamedBy (class_weight b r 1) (no_class_weight b r) fs F f g k TooWide
blamed_parts b r fs F f g k x N L I Np hs we fp a du dv = λ _ _ _ _ _ _. x N Np du dv

-- one weight among what has ended
pub stopped_end : (w u : Fraction) (F F' : Ended) (f h : Fraction) (x : Gone) → 0 < w.1 → IsEqual w u → product_of f w ≡ Some h → EndGives F F' x h → StoppedBy u F F' f (λ G. G (end_of x))
stopped_end w u F F' f h x wp e q g N Np k fp a b =
    let y = product_at N f w u h wp e a b q in
    let z = g N k y.1 in
    (z.0, λ G. z.1 G ∙ ap (λ n. amount N G (rows_of F) + n * G (end_of x)) y.0)

pub blamed_end : (w u v : Fraction) (fs : Entries) (F : Ended) (f h : Fraction) (g : (State → ℕ) → ℕ) (x : Gone) (e : MassError) → 0 < w.1 → IsEqual w v → product_of f w ≡ Some h → EndBlames e F x h → BlamedBy u v fs F f g (λ G. G (end_of x)) e
blamed_end w u v fs F f h g x e wp eq q z N L I Np hs we fp a du dv b bv part most few most' =
    let y = product_at N f w v h wp eq a bv q in
    subst (λ e. Blames e N L) (sym z.0) (z.1 N Np we y.1 (let o = y.0 in omega arith))

pub blamed_rest : (w u v : Fraction) (fs : Entries) (F : Ended) (f : Fraction) (g : (State → ℕ) → ℕ) (x : Gone) → 0 < w.1 → IsEqual w v → product_of f w ≡ None → BlamedBy u v fs F f g (λ G. G (end_of x)) TooWide
blamed_rest w u v fs F f g x wp eq q N L I Np hs we fp a du dv b bv part most few most' =
    refused_at N f w v Np wp eq a bv (omega arith) q

-- all of the weight ends
by_one : (N : ℕ) (f : Fraction) → whole N (times f one) ≡ whole N f
by_one N f = let a : f.0 * 1 ≡ f.0 = omega arith in let b : f.1 * 1 ≡ f.1 = omega arith in ap (λ n. whole N (n, f.1 * 1)) a ∙ ap (λ d. whole N (f.0, d)) b

pub stopped_all : (F F' : Ended) (f : Fraction) (x : Gone) → EndGives F F' x f → StoppedBy one F F' f (λ G. G (end_of x))
stopped_all F F' f x g N Np k fp a b = let z = g N k a in (z.0, λ G. z.1 G ∙ ap (λ n. amount N G (rows_of F) + n * G (end_of x)) (sym (by_one N f)))

pub blamed_all : (u : Fraction) (fs : Entries) (F : Ended) (f : Fraction) (g : (State → ℕ) → ℕ) (x : Gone) (e : MassError) → EndBlames e F x f → BlamedBy u one fs F f g (λ G. G (end_of x)) e
blamed_all u fs F f g x e z N L I Np hs we fp a du dv b bv part most few most' =
    subst (λ e. Blames e N L) (sym z.0) (z.1 N Np we a (let o = by_one N f in omega arith))

-- ---- x set to each number below a bound
pub spread_none : (es fs : Entries) (x : ℕ) (s : State) (h : Fraction) → es ≡ fs → SpreadGives es fs x 0 s h
spread_none es fs x s h e N Np k hp w = (subst (AreHeld N) e k, λ G. ap (held N G) (sym e) ∙ omega arith)

pub spread_next : (es fs fs' : Entries) (x m : ℕ) (s t : State) (h : Fraction) → SpreadGives es fs x m s h → t ≡ slice_set s x (pos m) → PutGives fs fs' t h → SpreadGives es fs' x (m + 1) s h
spread_next es fs fs' x m s t h d e g = subst (λ n. SpreadGives es fs' x n s h) (let q : suc m ≡ m + 1 = omega arith in q)
    (λ N Np k hp w. let a = d N Np k hp w in let b = g N Np a.0 hp w in
    (b.0, λ G. let y = a.1 G in let z = b.1 G in let o = ap (λ t. whole N h * G t) e in omega arith))

sum_less : (n m : ℕ) (F : ℕ → ℕ) → n ≤ m → sum_below n F ≤ sum_below m F
sum_less n m F le = more n (m - n) (let q : n + (m - n) ≡ m = omega arith in q)
  where
    grow : (n d : ℕ) → sum_below n F ≤ sum_below (n + d) F
    grow n zero = let q : n + 0 ≡ n = omega arith in rw q (omega arith)
    grow n (suc d) = let q : n + suc d ≡ suc (n + d) = omega arith in let i = grow n d in rw q (omega arith)

    more : (n d : ℕ) → n + d ≡ m → sum_below n F ≤ sum_below m F
    more n d q = subst (λ m. sum_below n F ≤ sum_below m F) q (grow n d)

pub spread_blames : (e : MassError) (es fs : Entries) (x i m : ℕ) (s t : State) (h : Fraction) → SpreadGives es fs x i s h → i < m → t ≡ slice_set s x (pos i) → PutBlames e fs t h → SpreadBlames e es x m s h
spread_blames e es fs x i m s t h d lt q g N L I Np k hp w part most few =
    let a = d N Np k hp w in
    g N L I Np a.0 hp w (λ G. let y = a.1 G in let z = part G in let o = ap (λ t. whole N h * G t) q in
    let c = mul-le-mul_left (whole N h) (sum_less (suc i) m (λ i. G (slice_set s x (pos i))) lt) in omega arith) most few

pub added_spread : (w u : Fraction) (fs fs' : Entries) (f h : Fraction) (x m : ℕ) (s : State) → 0 < w.1 → IsEqual w u → 0 < u.0 → product_of f w ≡ Some h → SpreadGives fs fs' x m s h → AddedBy u fs fs' f (at_numbers x m s)
added_spread w u fs fs' f h x m s wp e up q g N Np k fp a b =
    let y = product_at N f w u h wp e a b q in
    let z = g N Np k (above_zero N f w u h Np fp up b y) y.1 in
    (z.0, λ G. z.1 G ∙ ap (λ n. held N G fs + n * at_numbers x m s G) y.0)

pub blamed_spread : (w u v : Fraction) (fs : Entries) (F : Ended) (f h : Fraction) (x m : ℕ) (s : State) (k : (End → ℕ) → ℕ) (e : MassError) → 0 < w.1 → IsEqual w u → 0 < u.0 → product_of f w ≡ Some h → SpreadBlames e fs x m s h → BlamedBy u v fs F f (at_numbers x m s) k e
blamed_spread w u v fs F f h x m s k e wp eq up q g N L I Np hs we fp a du dv b bv part most few most' =
    let y = product_at N f w u h wp eq a b q in
    g N L I Np hs (above_zero N f w u h Np fp up b y) y.1 (λ G. let z = part G in let c = ap (λ n. n * at_numbers x m s G) y.0 in omega arith) most few

pub set_as : (s t q : State) (x i : ℕ) (z : _) → t ≡ s → pos i ≡ z → q ≡ slice_set t x z → q ≡ slice_set s x (pos i)
set_as s t q x i z e f g = g ∙ ap (λ t. slice_set t x z) e ∙ ap (λ z. slice_set s x z) (sym f)
