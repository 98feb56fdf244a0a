-- The rows of a program that settles are its masses in the limit.
use Rattle.std.proofs.Common.{◌≡◌, ℕ, ◌+◌, ◌-◌, ◌*◌, ◌≤◌, ◌<◌, Bool, true, false, not, cond, Ok, Err, [], ◌∷◌, refl, sym, ap, ◌∙◌, subst, arith}
use Rattle.std.proofs.Math.Nat.{lt_of_mul-lt-mul_left, mul-lt-mul_of_pos_right, mul-le-mul_right, le_of_mul-le-mul_right}
use Rattle.gcl_core.specs.declared.answers.Fault.{Fault}
use Rattle.gcl_core.specs.declared.answers.Outcome.{Outcome}
use Rattle.gcl_core.specs.declared.answers.Outcome.TheVariants as outcome
use Rattle.gcl_core.specs.meaning.Blocks.{End, on, failed, fault, limit}
use Rattle.gcl_core.specs.meaning.Outcomes.{same_outcome, outcome_of}
use Rattle.gcl_core.specs.meaning.Syntax.{SourceProgram, Expression}
use Rattle.gcl_core.specs.meaning.Value.{Value, value_of}
use Rattle.gcl_core.specs.weighing.WeightedEnds.{Weighted}
use Rattle.gcl_core.specs.weighing.Fractions.{Fraction, one, plus, divided_by_rest}
use Rattle.gcl_core.specs.weighing.Mass.{sum_of, ends_in, is_failed}
use Rattle.numbers.specs.Fraction.{IsEqual, lowest}
use Rattle.numbers.specs.Arithmetic.{InLowest}
use Rattle.numbers.proofs.Divisors.{product_pos, cancel}
use Rattle.table_flow.specs.Scale.{whole, amount}
use Rattle.table_flow.proofs.Amounts.{amount_ext}
use Rattle.table_flow.proofs.Linear.{sum_amount}
use Rattle.mass_fold.specs.declared.ended.Ended.{Ended}
use Rattle.mass_fold.specs.Amounts.{held, AreHeld}
use Rattle.mass_fold.specs.inner.Amounts.{Entries}
use Rattle.mass_fold.specs.inner.Ended.{rows_of}
use Rattle.mass_fold.specs.inner.Masses.{counted, HoldMasses}
use Rattle.mass_fold.specs.inner.Outcomes.{by_result, ResultsGive, count_of_end, EndedGive}
use Rattle.mass_fold.specs.inner.Rounds.{TableParts, OverRest}
use Rattle.mass_fold.specs.Rows.{Rows}
use Rattle.mass_fold.proofs.OutcomeRows.{rows_are, one_value, lowest_is}
use Rattle.mass_fold.proofs.Rest.{rest_above}
use Rattle.unlimited_law.specs.Alike.{AreFractions, Alike}
use Rattle.unlimited_law.specs.Settling.{Outflow}
use Rattle.unlimited_law.specs.SettledMasses.{ProgramSettles, over, settled_weight, settled_failed, rest_of_one, runs_out}
use Rattle.unlimited_law.proofs.SameWeights.{sum_some}
use Rattle.exact_fold.specs.Exact.{all_of, IsExact, FailsAlways}
use Rattle.exact_fold.specs.inner.Settled.{as_table, AreAbove, IsUnlimited, AreUnlimited}
use Rattle.exact_fold.specs.inner.Rounds.{SumsTo, RoundOf, DividesTo}
use Rattle.exact_fold.proofs.Steps.{TogetherAt, together_at, above_fractions, are_held, held_amount}

-- ---- all weights over what does not fail
module _ (mass : (Outcome → Bool) → Fraction) (g : Fraction) (rows : Rows) (f : Fraction) (Q : ℕ) (holds : HoldMasses Q mass rows) (parts : TableParts Q rows f) (same : IsEqual f g) (fails : 0 < g.1) (below : f.0 < f.1) where
  passes : g.0 < g.1
  passes = by f.0 f.1 g.0 g.1 same fails below
    where
      by : (a b c d : ℕ) → a * d ≡ c * b → 0 < d → a < b → c < d
      by a b c d e p l = lt_of_mul-lt-mul_left b (let z = mul-lt-mul_of_pos_right l p in omega arith)

  rest_exact : g.1 * (Q - whole Q f) ≡ (g.1 - g.0) * Q
  rest_exact =
      let t = parts in
      let l : g.0 < g.1 = passes in
      exact f.0 f.1 g.0 g.1 (g.1 - g.0) (whole Q f) Q (Q - whole Q f) (omega arith) (let z = t.sum in omega arith) t.failed.positive same t.failed.exact
    where
      exact : (a b c d u W Q M : ℕ) → d ≡ c + u → Q ≡ M + W → 0 < b → a * d ≡ c * b → b * W ≡ a * Q → d * M ≡ u * Q
      exact a b c d u W Q M e s pos i w =
          let x : d * W ≡ c * Q = cancel b _ _ pos (let y = ap (λ z. d * z) w in let z = ap (λ z. z * Q) i in let v : b * (d * W) ≡ b * (c * Q) = omega arith in v) in
          let y = ap (λ z. d * z) s in
          let z = ap (λ z. z * Q) e in
          omega arith

  joined : (m0 m1 h : ℕ) → m1 * h ≡ m0 * Q → m1 * (g.1 - g.0) * h ≡ m0 * g.1 * (Q - whole Q f)
  joined m0 m1 h e = let x = ap (λ z. (g.1 - g.0) * z) e in let y = ap (λ z. m0 * z) rest_exact in omega arith

  rest_holds : (masses : Rows) → OverRest f rows masses → HoldMasses (Q - whole Q f) (λ meant. divided_by_rest (mass meant) g) masses
  rest_holds masses h =
      let s = h Q parts in
      let l : g.0 < g.1 = passes in
      record {
        positive = rest_above f rows below Q parts;
        kept = s.0;
        fraction = λ meant. product_pos (mass meant).1 (g.1 - g.0) (holds.fraction meant) (omega arith);
        sums = λ meant.
            let m = mass meant in
            ap (λ z. m.1 * (g.1 - g.0) * z) (s.1 (counted meant)) ∙ joined m.0 m.1 (held Q (counted meant) rows) (holds.sums meant);
      }

-- ---- what is left of one
rest_is : (masses : Rows) (mass : (Outcome → Bool) → Fraction) (N : ℕ) (sum endless : Fraction) → HoldMasses N mass masses → SumsTo masses sum → sum.0 ≤ sum.1 → 1 ≤ sum.1 → IsEqual endless (sum.1 - sum.0, sum.1) → InLowest endless →
    endless ≡ lowest (rest_of_one (mass (λ x. true)))
rest_is masses mass N sum endless h s small some left low =
    let m = mass (λ x. true) in
    let t = s N h.positive h.kept in
    let e = one_value N (whole N sum) sum m h.positive (t.0).exact (ap (λ z. m.1 * z) t.1 ∙ h.sums (λ x. true)) in
    lowest_is endless (rest_of_one m) low (h.fraction (λ x. true)) (by sum.0 sum.1 (sum.1 - sum.0) m.0 m.1 endless.0 endless.1 small some (omega arith) e left)
  where
    turned : (n d u a b x y : ℕ) → d ≡ n + u → n * b ≡ a * d → d * b ≡ a * d + u * b
    turned n d u a b x y p e = let z = ap (λ z. z * b) p in omega arith

    by : (n d u a b x y : ℕ) → n ≤ d → 1 ≤ d → d ≡ n + u → n * b ≡ a * d → x * d ≡ u * y → x * b ≡ (b - a) * y
    by n d u a b x y l some p e q =
        let f = turned n d u a b x y p e in
        let k : a ≤ b = le_of_mul-le-mul_right {m = a} {n = b} {k = d} (omega arith) (omega arith) in
        at (b - a) (omega arith)
      where
        at : (v : ℕ) → b ≡ a + v → x * b ≡ v * y
        at v r =
            let g : v * d ≡ u * b = let z = ap (λ z. z * d) r in let f = turned n d u a b x y p e in omega arith in
            cancel d _ _ (omega arith) (let z = ap (λ z. z * b) q in let w = ap (λ z. z * y) g in omega arith)

-- ---- what the limit gives an event, at a scale
pub none_meant : {A : Type 0} (m : Weighted A) → sum_of (λ a. false) m ≡ (0, 1)
none_meant [] = refl
none_meant (e ∷ m) = none_meant m

equal_at : (p q : Fraction) (B N : ℕ) → 0 < q.1 → p.0 * q.1 ≡ q.0 * p.1 → q.1 * B ≡ q.0 * N → p.1 * B ≡ p.0 * N
equal_at p q B N some e h = cancel q.1 _ _ some (let x = ap (λ z. p.1 * z) h in let y = ap (λ z. z * N) e in omega arith)

pub both_at : (a b : Fraction) (A B N : ℕ) → a.1 * A ≡ a.0 * N → b.1 * B ≡ b.0 * N → (plus a b).1 * (A + B) ≡ (plus a b).0 * N
both_at a b A B N x y = let u = ap (λ z. b.1 * z) x in let v = ap (λ z. a.1 * z) y in omega arith

counted_end : (result : Expression) (meant : Outcome → Bool) (x : End) → count_of_end (counted meant) x ≡ cond (over (ends_in result meant) x) 1 0
counted_end result meant (on s) = refl
counted_end result meant failed = refl
counted_end result meant (fault f) = refl
counted_end result meant (limit l) = refl

module _ (p : SourceProgram) (f : Outflow) (fs : Entries) (F : Ended) (next : f.next ≡ as_table fs) (ends : Alike (rows_of F) f.ended) (above : AreAbove fs) where
  module _ (t : TogetherAt fs [] F) where
    weight_at : (meant : Outcome → Bool) → (settled_weight (ends_in p.result meant) f).1 * (held t.scale (by_result p.result (counted meant)) fs + amount t.scale (count_of_end (counted meant)) (rows_of F)) ≡ (settled_weight (ends_in p.result meant) f).0 * t.scale
    weight_at meant =
        let event = ends_in p.result meant in
        let M = t.scale in
        let a = sum_amount M (λ s. event (on s)) (as_table fs) t.first in
        let b = sum_amount M (over event) (rows_of F) t.ends in
        let A = held_amount M (by_result p.result (counted meant)) fs in
        let B = amount_ext M (count_of_end (counted meant)) (λ x. cond (over event x) 1 0) (rows_of F) (counted_end p.result meant) in
        let x : (sum_of (λ s. event (on s)) (as_table fs)).1 * held M (by_result p.result (counted meant)) fs ≡ (sum_of (λ s. event (on s)) (as_table fs)).0 * M = ap (λ z. (sum_of (λ s. event (on s)) (as_table fs)).1 * z) A ∙ a in
        let y : (sum_of (over event) (rows_of F)).1 * amount M (count_of_end (counted meant)) (rows_of F) ≡ (sum_of (over event) (rows_of F)).0 * M = ap (λ z. (sum_of (over event) (rows_of F)).1 * z) B ∙ b in
        let w = equal_at (sum_of (over event) f.ended) (sum_of (over event) (rows_of F)) (amount M (count_of_end (counted meant)) (rows_of F)) M (sum_some (over event) (rows_of F) ends.first) (sym (ends.each (over event))) y in
        both_at (sum_of (λ s. event (on s)) f.next) (sum_of (over event) f.ended) _ _ M (subst (λ z. (sum_of (λ s. event (on s)) z).1 * held M (by_result p.result (counted meant)) fs ≡ (sum_of (λ s. event (on s)) z).0 * M) (sym next) x) w

  pub some_weight : (event : End → Bool) → 0 < (settled_weight event f).1
  some_weight event =
      product_pos (sum_of (λ s. event (on s)) f.next).1 (sum_of (over event) f.ended).1
      (sum_some (λ s. event (on s)) f.next (subst AreFractions (sym next) (above_fractions fs above))) (sum_some (over event) f.ended ends.second)

  pub failed_equal : IsEqual F.failed (settled_failed p f)
  failed_equal =
      let a : sum_of (λ s. is_failed (on s)) f.next ≡ (0, 1) = none_meant f.next in
      let e = ends.each (over is_failed) in
      by F.failed (sum_of (λ s. is_failed (on s)) f.next) (sum_of (over is_failed) f.ended) a e
    where
      by : (w a b : Fraction) → a ≡ (0, 1) → (w.0 * 1 + 0 * w.1) * b.1 ≡ b.0 * (w.1 * 1) → w.0 * (a.1 * b.1) ≡ (a.0 * b.1 + b.0 * a.1) * w.1
      by w a b e h = let x : a.0 ≡ 0 = ap (λ z. z.0) e in let y : a.1 ≡ 1 = ap (λ z. z.1) e in rw (x, y) (omega arith)

  pub round_of : (none rows rows' : Rows) → ProgramSettles p f → AreUnlimited f.ended → none ≡ [] → ResultsGive p.result fs none rows → EndedGive F rows rows' → RoundOf p rows' F.failed
  round_of none rows rows' settles unlimited empty results ended =
      let t = together_at fs [] F above tt ends.first in
      let M = t.scale in
      let a = results M t.some (are_held M fs above t.first) (subst (AreHeld M) (sym empty) tt) in
      let b = ended M t.some t.ends a.0 in
      let n : (G : Outcome → ℕ) → held M G none ≡ 0 = λ G. ap (held M G) empty in
      let mass : (Outcome → Bool) → Fraction = λ meant. settled_weight (ends_in p.result meant) f in
      record {
        outflow = f;
        settles = settles;
        unlimited = unlimited;
        scale = M;
        holds = record {
          positive = t.some;
          kept = b.0;
          fraction = λ meant. some_weight (ends_in p.result meant);
          sums = λ meant.
              let G = counted meant in
              let same : held M G rows' ≡ held M (by_result p.result G) fs + amount M (count_of_end G) (rows_of F) = let x = b.1 G in let y = a.1 G in let z = n G in omega arith in
              ap (λ z. (mass meant).1 * z) same ∙ weight_at t meant;
        };
        part = (t.ends).0;
        failed = failed_equal;
        fails = some_weight is_failed;
      }

-- ---- limits have no mass
sum_ext : {A : Type 0} (t u : A → Bool) (m : Weighted A) → ((a : A) → t a ≡ u a) → sum_of t m ≡ sum_of u m
sum_ext t u [] h = refl
sum_ext t u (e ∷ m) h = ap (λ x. cond (t e.1) (plus e.0 x) x) (sum_ext t u m h) ∙ ap (λ b. cond b (plus e.0 (sum_of u m)) (sum_of u m)) (h e.1)

sum_unlimited : (t u : End → Bool) (m : Weighted End) → AreUnlimited m → ((e : End) → IsUnlimited e → t e ≡ u e) → sum_of t m ≡ sum_of u m
sum_unlimited t u [] q h = refl
sum_unlimited t u (e ∷ m) q h =
    ap (λ x. cond (t e.1) (plus e.0 x) x) (sum_unlimited t u m q.1 h) ∙ ap (λ b. cond b (plus e.0 (sum_of u m)) (sum_of u m)) (h e.1 q.0)

-- outcomes that agree but for limits have the same weight
pub same_weight : (result : Expression) (t u : Outcome → Bool) (f : Outflow) → AreUnlimited f.ended → ((v : Value) → t (outcome_of v) ≡ u (outcome_of v)) → ((g : Fault) → t (outcome.Fault g) ≡ u (outcome.Fault g)) →
    settled_weight (ends_in result t) f ≡ settled_weight (ends_in result u) f
same_weight result t u f q values faults =
    ap (λ x. plus x (sum_of (over (ends_in result t)) f.ended)) (sum_ext (λ s. t (outcome_of (value_of result s))) (λ s. u (outcome_of (value_of result s))) f.next (λ s. values (value_of result s)))
    ∙ ap (plus (sum_of (λ s. u (outcome_of (value_of result s))) f.next)) (sum_unlimited (over (ends_in result t)) (over (ends_in result u)) f.ended q ends)
  where
    ends : (e : End) → IsUnlimited e → over (ends_in result t) e ≡ over (ends_in result u) e
    ends (on s) h = refl
    ends failed h = refl
    ends (fault g) h = faults g
    ends (limit l) h = absurd h

pub nothing_weighs : (result : Expression) (f : Outflow) → (settled_weight (ends_in result (λ x. false)) f).0 ≡ 0
nothing_weighs result f =
    let a : sum_of (λ s. ends_in result (λ x. false) (on s)) f.next ≡ (0, 1) = none_meant f.next in
    let b : sum_of (over (ends_in result (λ x. false))) f.ended ≡ (0, 1) = sum_ext _ (λ e. false) f.ended none ∙ none_meant f.ended in
    ap (λ x. (plus x (sum_of (over (ends_in result (λ x. false))) f.ended)).0) a ∙ ap (λ x. (plus (0, 1) x).0) b
  where
    none : (e : End) → over (ends_in result (λ x. false)) e ≡ false
    none (on s) = refl
    none failed = refl
    none (fault g) = refl
    none (limit l) = refl

-- ---- the sum of the rows
all_share : (N : ℕ) (rows : Rows) → AreHeld N rows → (all_of rows).1 * held N (λ x. 1) rows ≡ (all_of rows).0 * N
all_share N [] h = omega arith
all_share N (row ∷ rows) h = both_at row.1 (all_of rows) (whole N row.1 * 1) (held N (λ x. 1) rows) N (let x = (h.1).exact in omega arith) (all_share N rows h.2)

one_in_all : (rows : Rows) (N : ℕ) (sum endless : Fraction) → 0 < N → AreHeld N rows → SumsTo rows sum → sum.0 ≤ sum.1 → 1 ≤ sum.1 → IsEqual endless (sum.1 - sum.0, sum.1) → IsEqual (plus (all_of rows) endless) one
one_in_all rows N sum endless n h s small some left =
    let t = s N n h in
    let all = all_of rows in
    let e = one_value N (whole N sum) sum all n (t.0).exact (ap (λ z. all.1 * z) t.1 ∙ all_share N rows h) in
    by sum.0 sum.1 (sum.1 - sum.0) all.0 all.1 endless.0 endless.1 some (omega arith) e left
  where
    by : (n d u a b x y : ℕ) → 1 ≤ d → d ≡ n + u → n * b ≡ a * d → x * d ≡ u * y → (a * y + x * b) * 1 ≡ 1 * (b * y)
    by n d u a b x y some p e q =
        cancel d _ _ (omega arith) (let z = ap (λ z. z * y) e in let w = ap (λ z. z * b) q in let v = ap (λ z. z * (b * y)) p in omega arith)

-- ---- all that is said of a program
pub exact_of : (p : SourceProgram) (rows masses : Rows) (f endless : Fraction) → RoundOf p rows f → f.0 < f.1 → DividesTo rows f masses endless → IsExact p masses endless
exact_of p rows masses f endless r below d =
    let o = r.outflow in
    let g = settled_failed p o in
    let mass : (Outcome → Bool) → Fraction = λ meant. settled_weight (ends_in p.result meant) o in
    let N = r.scale in
    let tp = d.parts N r.holds.positive r.holds.kept r.part in
    let all = rest_holds mass g rows f N r.holds tp r.failed r.fails below masses d.over in
    record {
      settled = o;
      settles = r.settles;
      passes = passes mass g rows f N r.holds tp r.failed r.fails below;
      masses = rows_are (N - whole N f) (λ meant. divided_by_rest (mass meant) g) masses masses refl all d.ascending d.each;
      rest = rest_is masses (λ meant. divided_by_rest (mass meant) g) (N - whole N f) d.sum endless all d.sums d.small d.some d.left d.low
          ∙ ap (λ w. lowest (rest_of_one (divided_by_rest w g))) (same_weight p.result (λ x. true) (λ x. not (runs_out x)) o r.unlimited (elim [ Ok z ↦ refl | Err h ↦ refl ]) (λ h. refl));
      no_limit = λ k.
          ap (λ w. (divided_by_rest w g).0) (same_weight p.result (same_outcome (outcome.Limit k)) (λ x. false) o r.unlimited (elim [ Ok z ↦ refl | Err h ↦ refl ]) (λ h. refl))
          ∙ ap (λ z. z * g.1) (nothing_weighs p.result o) ∙ none g.1;
      sum = one_in_all masses (N - whole N f) d.sum endless all.positive all.kept d.sums d.small d.some d.left;
    }
  where
    none : (n : ℕ) → 0 * n ≡ 0
    none n = omega arith

-- a round that fails with all weight
pub fails_always : (p : SourceProgram) (rows : Rows) (f : Fraction) → RoundOf p rows f → f.1 ≤ f.0 → FailsAlways p
fails_always p rows f r le = record { settled = r.outflow; settles = r.settles; fails = by f.0 f.1 (settled_failed p r.outflow).0 (settled_failed p r.outflow).1 r.part.positive le r.failed }
  where
    by : (a b c d : ℕ) → 0 < b → b ≤ a → a * d ≡ c * b → 1 * d ≤ c * 1
    by a b c d some le e = le_of_mul-le-mul_right {m = 1 * d} {n = c * 1} {k = b} (let x = mul-le-mul_right d le in omega arith) some

pub left_as : (r : Fraction) (d n e d' n' : ℕ) → d ≡ d' → n ≡ n' → e ≡ d' → IsEqual r (d - n, e) → IsEqual r (d' - n', d')
left_as r d n e d' n' p q k x = ap (λ z. r.0 * z) (sym k) ∙ x ∙ ap (λ z. (z - n) * r.1) p ∙ ap (λ z. (d' - z) * r.1) q
