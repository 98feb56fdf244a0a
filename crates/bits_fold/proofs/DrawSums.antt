-- What the draws of a table read, by sums over its entries.
use Rattle.std.proofs.Common.{◌≡◌, ℕ, zero, suc, ◌-◌, ◌*◌, ◌^◌, ◌≤◌, ◌<◌, pos, negsuc, true, List, [], ◌∷◌, Ok, Err, Some, None, refl, sym, ap, ◌∙◌, subst, arith}
use Rattle.numbers.specs.Arithmetic.{sum_of, product_of}
use Rattle.numbers.specs.Fraction.{IsEqual}
use Rattle.numbers.proofs.Divisors.{product_pos}
use Rattle.gcl_core.specs.meaning.Draw.{bits_for, last_end, rejected_numbers, uniform_ends}
use Rattle.gcl_core.specs.meaning.Value.{State, Value}
use Rattle.gcl_core.specs.weighing.Fractions.{Fraction, plus, times}
use Rattle.gcl_core.proofs.Classes.{bits_enough}
use Rattle.gcl_core.proofs.EqualClasses.{last_of_equal}
use Rattle.mass_fold.specs.inner.Amounts.{Entries}
use Rattle.unlimited_law.specs.Settling.{total}
use Rattle.unlimited_law.proofs.Numbers.{Rational, ◌⊕◌, ◌⊗◌, ◌≃◌, same_refl, same_sym, same_trans, add_same, add_assoc, add_nought, nought_add, times_same, times_turned, times_unit}
use Rattle.unlimited_law.proofs.FractionNumbers.{of, of_plus, of_times, of_zero, of_equal, equal_of}
use Rattle.unlimited_law.proofs.Integrals.{integral, integral_same, integral_times}
use Rattle.unlimited_law.proofs.Covers.{sign}
use Rattle.unlimited_law.proofs.SameWeights as weights
use Rattle.exact_fold.specs.inner.Settled.{as_table, AreAbove}
use Rattle.exact_fold.proofs.Steps.{above_positive, above_fractions}
use Rattle.bits_law.specs.Price.{Price, draws_price, turns_price, price_of_draw, price_of_draws}
use Rattle.bits_law.proofs.TableReads.{draw_some, each_some, each_is, bound_reads, bound_some, bound_is}
use Rattle.bits_fold.specs.Counted.{price_of}
use Rattle.bits_fold.specs.declared.counted.Counted.{Counted}
use Rattle.bits_fold.specs.inner.Reading.{price_of_bound, WeighsTo, DrawsCost}
use Rattle.bits_fold.proofs.Sums.{sum_is, product_is}
use Rattle.table_flow.proofs.FlowWords.{drawn_each, drawn_bound}
use Rattle.table_flow.proofs.UniformLists.{reached_by_list}
use Rattle.table_flow.specs.Tables.{fractions_kind, uniform_go}

-- ---- sums over entries
pub record SoFar (F : State → Rational) (all rest : Entries) (sum : Fraction) : Type 0 where
  pub left : AreAbove rest
  pub some : 0 < sum.1
  pub sums : of sum ⊕ integral F (as_table rest) ≃ integral F (as_table all)

abbrev pub SumsSoFar : (State → Rational) → Entries → Entries → Fraction → Type 0
SumsSoFar F all rest sum = AreAbove all → SoFar F all rest sum

pub sums_start : (F : State → Rational) (all rest : Entries) (sum : Fraction) → rest ≡ all → IsEqual sum (0, 1) → 1 ≤ sum.1 → SumsSoFar F all rest sum
sums_start F all rest sum p e some = subst (λ z. SumsSoFar F all z sum) (sym p) by
  where
    by : SumsSoFar F all all sum
    by h = record {
      left = h;
      some = omega arith;
      sums = same_trans (add_same (same_trans (of_equal sum (0, 1) (omega arith) (omega arith) e) (of_zero 1)) (same_refl _)) (nought_add _);
    }

-- what an entry adds
pub record Adds (F : State → Rational) (s : State) (f more : Fraction) : Type 0 where
  pub some : 0 < more.1
  pub is : of more ≃ of f ⊗ F s

pub sums_next : (F : State → Rational) (all rest rest' : Entries) (s : State) (f sum more sum' : Fraction) → rest ≡ (s, f) ∷ rest' → (0 < f.1 → Adds F s f more) → sum_of sum more ≡ Some sum' → SumsSoFar F all rest sum → SumsSoFar F all rest' sum'
sums_next F all rest rest' s f sum more sum' p a e so h = by (subst (λ z. SoFar F all z sum) p (so h))
  where
    by : SoFar F all ((s, f) ∷ rest') sum → SoFar F all rest' sum'
    by o =
        let m = a (o.left).1 in
        let n = sum_is sum more sum' o.some m.some e in
        record {
          left = (o.left).2;
          some = n.some;
          sums = same_trans
              (add_same (same_trans (of_equal sum' (plus sum more) n.some (product_pos sum.1 more.1 o.some m.some) n.equal) (of_plus sum more o.some m.some)) (same_refl _))
              (same_trans (add_assoc (of sum) (of more) _) (same_trans (add_same (same_refl (of sum)) (add_same m.is (same_refl _))) o.sums));
        }

sums_end : (F : State → Rational) (all : Entries) (sum : Fraction) → SoFar F all [] sum → of sum ≃ integral F (as_table all)
sums_end F all sum o = same_trans (same_sym (add_nought (of sum))) o.sums

-- ---- the sum of the weights
abbrev pub any : State → Rational
any = sign (λ s. true)

pub weight_adds : (s : State) (f : Fraction) → 0 < f.1 → Adds any s f f
weight_adds s f h = record { some = h; is = same_sym (times_unit (of f)) }

pub weight_end : (all rest : Entries) (sum : Fraction) → rest ≡ [] → SumsSoFar any all rest sum → WeighsTo all sum
weight_end all rest sum p so h =
    let o = subst (λ z. SoFar any all z sum) p (so h) in
    let f = above_fractions all h in
    let I = as_table all in (
      let z = o.some in omega arith,
      equal_of sum (total I) o.some (weights.sum_some (λ s. true) I f) (same_trans (sums_end any all sum o) (same_sym (weights.sum_is (λ s. true) I f))),
    )

-- ---- by a price
module _ (P : Price) where
  -- ---- one draw
  pub price_is : (ends : List ℕ) (undecided last : ℕ) (price : Fraction) → undecided ≡ P.attempt ends → last ≡ last_end ends → IsEqual price (undecided, last) → IsEqual price (price_of_draw P None ends)
  price_is ends undecided last price u l e =
      let k = bits_for (last_end ends) in
      let h = bits_enough (last_end ends) in
      let left : 2 ^ k - rejected_numbers (last_end ends) ≡ last_end ends = omega arith in
      by price.0 price.1 (P.attempt ends) (last_end ends) (2 ^ k) (2 ^ k - rejected_numbers (last_end ends)) (ap (λ z. price.0 * z) (sym l) ∙ e ∙ ap (λ z. z * price.1) u) left
    where
      by : (a d U b K r : ℕ) → a * b ≡ U * d → r ≡ b → a * (K * r) ≡ U * K * d
      by a d U b K r e h = let x = ap (λ z. K * z) e in let y = ap (λ z. a * (K * z)) h in omega arith

  -- the same draw of each entry
  pub each_read : (ends : List ℕ) (es : Entries) (weight price f : Fraction) → 0 < last_end ends → 1 ≤ price.1 → IsEqual price (price_of_draw P None ends) → WeighsTo es weight → product_of weight price ≡ Some f → DrawsCost P (drawn_each ends) es f
  each_read ends es weight price f some pp e w p h =
      let I = as_table es in
      let t = w h in
      let wp : 0 < weight.1 = let z = t.0 in omega arith in
      let pp : 0 < price.1 = omega arith in
      let fr = above_fractions es h in
      let ip = above_positive es h in
      let g = product_is weight price f wp pp p in (
        let z = g.some in omega arith,
        equal_of f (price_of_draws P (drawn_each ends I)) g.some (each_some P ends some I ip)
            (same_trans (of_equal f (times weight price) g.some (product_pos weight.1 price.1 wp pp) g.equal)
            (same_trans (of_times weight price)
            (same_trans (times_turned (of weight) (of price))
            (same_trans (times_same (of price) (same_trans (of_equal weight (total I) wp (weights.sum_some (λ s. true) I fr) t.1) (weights.sum_is (λ s. true) I fr)))
            (same_trans (same_sym (integral_times (of price) any I))
            (same_trans (integral_same (λ s. of price ⊗ any s) (λ s. of (price_of_draw P None ends)) I (λ s. same_trans (times_unit (of price)) (of_equal price (price_of_draw P None ends) pp (draw_some P ends some) e)))
            (same_sym (each_is P ends some I ip)))))))),
      )

  -- ---- uniform draws
  bound_price : (o : Value) (price : Fraction) → 0 < price.1 → IsEqual price (price_of_bound P o) → of price ≃ bound_reads P o
  bound_price (Err f) price h e = same_trans (of_equal price (0, 1) h (omega arith) e) (of_zero 1)
  bound_price (Ok (pos zero)) price h e = same_trans (of_equal price (0, 1) h (omega arith) e) (of_zero 1)
  bound_price (Ok (negsuc m)) price h e = same_trans (of_equal price (0, 1) h (omega arith) e) (of_zero 1)
  bound_price (Ok (pos (suc m))) price h e =
      of_equal price (price_of_draw P None (uniform_ends (suc m))) h (draw_some P (uniform_ends (suc m)) (let l = last_of_equal (suc m) in omega arith)) e

  abbrev pub bound_of : (State → Value) → State → Rational
  bound_of v s = bound_reads P (v s)

  pub bound_adds : (v : State → Value) (s : State) (f price more : Fraction) → 1 ≤ price.1 → IsEqual price (price_of_bound P (v s)) → product_of f price ≡ Some more → 0 < f.1 → Adds (bound_of v) s f more
  bound_adds v s f price more pp e p h =
      let g = product_is f price more h (omega arith) p in
      record {
        some = g.some;
        is = same_trans (of_equal more (times f price) g.some (product_pos f.1 price.1 h (omega arith)) g.equal) (same_trans (of_times f price) (times_same (of f) (bound_price (v s) price (omega arith) e)));
      }

  pub bound_end : (v : State → Value) (all rest : Entries) (sum : Fraction) → rest ≡ [] → SumsSoFar (bound_of v) all rest sum → (x : ℕ) → DrawsCost P (λ I. (uniform_go fractions_kind None x v I).reached) all sum
  bound_end v all rest sum p so x h =
      let o = subst (λ z. SoFar (bound_of v) all z sum) p (so h) in
      let I = as_table all in
      let ip = above_positive all h in
      rw (reached_by_list fractions_kind None x v I) (
        let z = o.some in omega arith,
        equal_of sum (price_of_draws P (drawn_bound v I)) o.some (bound_some P v I ip) (same_trans (sums_end (bound_of v) all sum o) (same_sym (bound_is P v I ip))),
      )

  -- a bound that is a number above 0
  pub bound_at : (o : Value) (m k : ℕ) (price : Fraction) → o ≡ Ok (pos (suc m)) → k ≡ suc m → IsEqual price (price_of_draw P None (uniform_ends k)) → IsEqual price (price_of_bound P o)
  bound_at o m k price e c q = subst (λ z. IsEqual price (price_of_bound P z)) (sym e) (subst (λ k. IsEqual price (price_of_draw P None (uniform_ends k))) c q)

-- ---- draws and turns of loops
one_each : (f : Fraction) (n : ℕ) → IsEqual f (1, 1) → IsEqual f (n, n)
one_each f n e = let x = ap (λ z. z * n) e in omega arith

none_each : (f : Fraction) (n : ℕ) → IsEqual f (0, 1) → IsEqual f (0, n)
none_each f n e = let z : f.0 ≡ 0 = omega arith in let x = ap (λ z. z * n) z in omega arith

-- a draw counts 1
pub once : (ends : List ℕ) (f : Fraction) → IsEqual f (1, 1) → IsEqual f (price_of_draw draws_price None ends)
once ends f e = price_is draws_price ends (last_end ends) (last_end ends) f refl refl (one_each f (last_end ends) e)

-- or nothing
pub never : (ends : List ℕ) (f : Fraction) → IsEqual f (0, 1) → IsEqual f (price_of_draw turns_price None ends)
never ends f e = price_is turns_price ends 0 (last_end ends) f refl refl (none_each f (last_end ends) e)

-- the price of what is counted
pub priced_as : (what which : Counted) (ends : List ℕ) (f : Fraction) → what ≡ which → IsEqual f (price_of_draw (price_of which) None ends) → IsEqual f (price_of_draw (price_of what) None ends)
priced_as what which ends f e h = subst (λ w. IsEqual f (price_of_draw (price_of w) None ends)) (sym e) h
