-- Choices of a fold.
use Rattle.std.proofs.Common.{◌≡◌, ℕ, zero, suc, ◌+◌, ◌*◌, ◌-◌, ◌≤◌, ◌<◌, List, [], ◌∷◌, ◌++◌, Option, Some, None, refl, sym, ap, ◌∙◌, subst, arith}
use Rattle.std.proofs.Math.Nat.{mul-le-mul_left}
use Rattle.std.specs.Map.{keys_of}
use Rattle.std.specs.List.Sorted.{IsStrictlySortedBy}
use Rattle.gcl_core.specs.declared.answers.Limit.TheVariants as limit_kind
use Rattle.gcl_core.specs.declared.syntax.Weight.{Weight}
use Rattle.gcl_core.specs.meaning.Syntax.{Choice, Statements}
use Rattle.gcl_core.specs.meaning.Bounds.{IsWeight, BlockIsWeighed}
use Rattle.gcl_core.specs.meaning.Blocks.{End, limit}
use Rattle.gcl_core.specs.weighing.Fractions.{Fraction, times}
use Rattle.gcl_core.specs.weighing.WeightedEnds.{Weighted, scaled, class_weight, no_class_weight}
use Rattle.numbers.specs.Fraction.{IsEqual}
use Rattle.numbers.specs.Arithmetic.{product_of}
use Rattle.numbers.proofs.Divisors.{product_pos, cancel}
use Rattle.table_flow.specs.Tables.{Table, all_end, statement_flow, block_flow, draws_each, draw_weights}
use Rattle.table_flow.specs.Scale.{whole, Whole, Wholes, AllWhole, amount, weight}
use Rattle.table_flow.specs.Counts.{none_kept, none_stopped, all_kept, all_stopped}
use Rattle.table_flow.proofs.Amounts.{amount_append, amount_all_end, all_first, regroup}
use Rattle.table_flow.proofs.InsideFlows.{side_first, side_second, undecided_whole}
use Rattle.table_flow.proofs.Kept.{kept_one, kept_all, all_end_weight, choice_kept, sides_kept}
use Rattle.table_flow.proofs.Wholes.{whole_from, product_refused}
use Rattle.table_flow.proofs.Draws.{each_part, class_pos, no_class_pos, parts_add_up}
use Rattle.mass_fold.specs.declared.error.MassError.{MassError}
use Rattle.mass_fold.specs.declared.error.MassError.TheVariants.{TooWide}
use Rattle.mass_fold.specs.declared.ended.Gone.TheVariants as gone_kind
use Rattle.mass_fold.specs.declared.ended.Ended.{Ended}
use Rattle.mass_fold.specs.inner.Amounts.{Entries, order}
use Rattle.mass_fold.specs.inner.Ended.{end_of, rows_of}
use Rattle.mass_fold.specs.inner.Steps.{StepsTo, StepBlames, EachState, BothWhole, DrawsTo, DrawBlames, IsParts, PartsBlame}
use Rattle.mass_fold.specs.inner.Fold.{Stands, FoldsTo, FoldBlames, Around, FoldsOne, OneBlames, UndecidedTo, UndecidedBlames, WeighedBy, WeighBlamesBy, SidesWithin, SidesTo, SidesBlame}
use Rattle.mass_fold.proofs.Insertion.{whole_pos, product_below}
use Rattle.mass_fold.proofs.Powers.{equal_whole, whole_at_most, product_equal}
use Rattle.mass_fold.proofs.Shares.{scaled_stands}
use Rattle.mass_fold.proofs.Folds.{end_along, merged, merge_blamed, head_few, shared_none}

-- ---- the weight of one side of a choice
pub weighed_none : (part : Fraction) (count : ℕ) (es fs : Entries) → 0 < part.1 → count ≡ 0 → fs ≡ [] → WeighedBy part count es fs
weighed_none part count es fs pp z e (zero, d) up q N I Np a b s = subst (λ fs. Stands N fs []) (sym e) (record { kept = tt; same = λ G. refl })
weighed_none part count es fs pp z e (suc n, d) up q N I Np a b s = absurd (no n (part.0 * count * d) part.1 pp (let x = ap (λ c. part.0 * c * d) z in let y : part.0 * 0 * d ≡ 0 = omega arith in x ∙ y) q)
  where
    no : (n x y : ℕ) → 0 < y → x ≡ 0 → x ≡ suc n * y → ⊥
    no n x y h e q = let z : suc n * y ≡ y + n * y = omega arith in omega arith

-- so many parts, as a product
side_equal : (part over w u : Fraction) (count : ℕ) → 0 < over.1 → 0 < part.1 → IsEqual over (count, 1) → product_of part over ≡ Some w → part.0 * count * u.1 ≡ u.0 * part.1 → IsEqual w u
side_equal part over w u count op pp oe e q = cancel_all part.0 part.1 over.0 over.1 w.0 w.1 u.0 u.1 count op pp oe (product_equal part over w e) q
  where
    step : (a b o p x y c d n : ℕ) → o * 1 ≡ n * p → x * (b * p) ≡ a * o * y → a * n * d ≡ c * b → b * p * (x * d) ≡ b * p * (c * y)
    step a b o p x y c d n f g h = let i = ap (λ z. z * d) g in let j = ap (λ z. a * z * (y * d)) f in let k = ap (λ z. z * (p * y)) h in omega arith

    cancel_all : (a b o p x y c d n : ℕ) → 0 < p → 0 < b → o * 1 ≡ n * p → x * (b * p) ≡ a * o * y → a * n * d ≡ c * b → x * d ≡ c * y
    cancel_all a b o p x y c d n pp bp f g h = cancel (b * p) _ _ (product_pos b p bp pp) (step a b o p x y c d n f g h)

same_draws : (N : ℕ) (w : Fraction) (es : Entries) → Whole N w → EachState (BothWhole N (λ s. w) (λ s. w)) es
same_draws N w [] h = tt
same_draws N w (d ∷ es) h = ((h, h), same_draws N w es h)

-- nothing has ended
none_ended : Ended
none_ended = record { failed = (0, 1); overflow = (0, 1); divisor = (0, 1); bound = (0, 1); turns = (0, 1); attempts = (0, 1) }

none_whole : (N : ℕ) → (whole N (0, 1) ≡ 0) × Whole N (0, 1)
none_whole N = whole_from N (0, 1) 0 (omega arith) (omega arith)

none_rows : (N : ℕ) → Wholes N (rows_of none_ended)
unfolding none_ended
none_rows N = let z = (none_whole N).1 in (z, (z, (z, (z, (z, (z, tt))))))

none_weighs : (N : ℕ) → amount N (λ x. 1) (rows_of none_ended) ≡ 0
unfolding none_ended
none_weighs N = let z = (none_whole N).0 in omega arith

module _ (part over w : Fraction) (count : ℕ) (es : Entries) (op : 0 < over.1) (pp : 0 < part.1) (oe : IsEqual over (count, 1)) where
  times_side : (u : Fraction) → part.0 * count * u.1 ≡ u.0 * part.1 → IsEqual (times part over) u
  times_side u q = step part.0 part.1 over.0 over.1 u.0 u.1 count oe q
    where
      step : (a b o p c d n : ℕ) → o * 1 ≡ n * p → a * n * d ≡ c * b → a * o * d ≡ c * (b * p)
      step a b o p c d n f h = let i = ap (λ z. a * z * d) f in let k = ap (λ z. z * p) h in omega arith

  pub side_refused : product_of part over ≡ None → WeighBlamesBy part count es TooWide
  side_refused e u up small q N L I Np wu a b s most few =
      let x = equal_whole N (times part over) u (product_pos part.1 over.1 pp op) (times_side u q) wu in
      product_refused N part over Np x.1 (let z = whole_at_most N u.0 u.1 small wu in let y = x.0 in omega arith) e

  module _ (wp : 0 < w.1) (e : product_of part over ≡ Some w) where
    pub side_given : (fs : Entries) → IsStrictlySortedBy order (keys_of es) → ((E : Ended) → DrawsTo (λ s. w) (λ s. w) all_kept none_stopped es E fs E) → WeighedBy part count es fs
    side_given fs o d u up q N I Np a b s =
        let x = scaled_stands N u w es I Np up wp (side_equal part over w u count op pp oe e q) o a b s in
        let y = d none_ended N Np s.kept (none_rows N) x.0 x.0 in
        record { kept = y.kept; same = λ G. let z = y.going G in let t = x.1 G in omega arith }

    pub side_blames : (error : MassError) → IsStrictlySortedBy order (keys_of es) → ((E : Ended) → DrawBlames (λ s. w) (λ s. w) all_kept none_stopped es E error) → WeighBlamesBy part count es error
    side_blames error o d u up small q N L I Np wu a b s most few =
        let eq = side_equal part over w u count op pp oe e q in
        let x = scaled_stands N u w es I Np up wp eq o a b s in
        let ww = (equal_whole N w u wp eq wu).1 in
        d none_ended N L (scaled u I) Np s.kept (none_rows N) x.0 x.0 (same_draws N w es ww) (λ G. let t = x.1 G in omega arith) most few (let z = none_weighs N in let y = shared_none N (λ s. w) es in omega arith)

    pub side_above : 0 < part.0 → (count ≡ 0 → ⊥) → 1 ≤ w.0
    side_above ap cp = above part.0 part.1 over.0 over.1 w.0 w.1 count ap op wp oe (product_equal part over w e) cp
      where
        counted : (n o p : ℕ) → 0 < p → o * 1 ≡ n * p → (n ≡ 0 → ⊥) → 0 < o
        counted zero o p pp f h = absurd (h refl)
        counted (suc n) o p pp f h = let z : suc n * p ≡ p + n * p = omega arith in omega arith

        above : (a b o p x y n : ℕ) → 0 < a → 0 < p → 0 < y → o * 1 ≡ n * p → x * (b * p) ≡ a * o * y → (n ≡ 0 → ⊥) → 1 ≤ x
        above a b o p x y n ap pp yp f g h =
            let oo = counted n o p pp f h in
            let z = product_pos (a * o) y (product_pos a o ap oo) yp in
            let k = product_below x (b * p) (omega arith) in
            omega arith

-- ---- both sides of a choice
pub count_whole : (N b : ℕ) (r : Option ℕ) (a : ℕ) → 0 < b → Whole N (class_weight b r 1) → Whole N (class_weight b r a)
count_whole N b None a bp w = (whole_from N (a, b) (a * whole N (1, b)) bp (let e = w.exact in let z = ap (λ x. a * x) e in omega arith)).1
count_whole N b (Some k) a bp w =
    let c = class_weight b (Some k) 1 in
    let S = each_part b (Some k) in
    (whole_from N (class_weight b (Some k) a) (a * whole N c) (class_pos b (Some k) a bp) (let e : c.1 * whole N c ≡ 1 * S * N = w.exact in let z = ap (λ x. a * x) e in omega arith)).1

pub count_small : (b : ℕ) (r : Option ℕ) (a : ℕ) → a ≤ b → (class_weight b r a).0 ≤ (class_weight b r a).1
count_small b None a h = h
count_small b (Some k) a h = let t = parts_add_up b (Some k) in let m = mul-le-mul_left (each_part b (Some k)) h in omega arith

pub count_equal : (b : ℕ) (r : Option ℕ) (a : ℕ) (part : Fraction) → IsEqual part (class_weight b r 1) → part.0 * a * (class_weight b r a).1 ≡ (class_weight b r a).0 * part.1
count_equal b None a part e = let z = ap (λ x. a * x) e in omega arith
count_equal b (Some k) a part e = let z = ap (λ x. a * x) e in omega arith

-- ---- what no attempt decides
pub parts_refuse : (b : ℕ) (r : Option ℕ) (es : Entries) (E : Ended) → PartsBlame b r → UndecidedBlames b r es E TooWide
parts_refuse b r es E x N L I J Np one none wi wz s t m = x N Np one none

module _ (b : ℕ) (r : Option ℕ) (part rest : Fraction) (is : IsParts b r part rest) (es : Entries) (E : Ended) (o : IsStrictlySortedBy order (keys_of es)) where
  pub undecided_refused : (error : MassError) → DrawBlames (λ s. rest) (λ s. rest) none_kept (all_stopped (end_of gone_kind.Attempts)) es E error → UndecidedBlames b r es E error
  undecided_refused error d N L I J Np one none wi wz s t m =
      let u = no_class_weight b r in
      let x = scaled_stands N u rest es I Np (no_class_pos b r) is.rest_positive is.rest_is o wi wz s in
      let wr = (equal_whole N rest u is.rest_positive is.rest_is none).1 in
      d N L [] Np s.kept t.kept x.0 x.0 (same_draws N rest es wr) (λ G. let z = shared_none N (λ s. rest) es in omega arith) (omega arith) (omega arith)
      (let y = x.1 (λ s. 1) in let z = t.same (λ x. 1) in omega arith)

  pub undecided_to : (F : Ended) → DrawsTo (λ s. rest) (λ s. rest) none_kept (all_stopped (end_of gone_kind.Attempts)) es E [] F → UndecidedTo b r es E F
  undecided_to F d N I J Np wi wz s t =
      let u = no_class_weight b r in
      let x = scaled_stands N u rest es I Np (no_class_pos b r) is.rest_positive is.rest_is o wi wz s in
      let y = d N Np s.kept t.kept x.0 x.0 in
      record {
        kept = y.ended;
        same = λ G. let q = y.stopping G in let z = x.1 (all_stopped (end_of gone_kind.Attempts) G) in let k = t.same G in
            let b = amount_append N G J (all_end (limit limit_kind.Attempts) (scaled u I)) in let e = amount_all_end N G (limit limit_kind.Attempts) (scaled u I) in omega arith;
      }

-- ---- both sides
module _ (p : Weight) (r : Option ℕ) (w : IsWeight p) (es : Entries) (E : Ended) where
  bp : 0 < p.den
  bp = let z = w.positive in omega arith

  pub none_refused : (error : MassError) → UndecidedBlames p.den r es E error → SidesBlame p r es E error
  none_refused error d N L I J Np s t pr h m =
      let k = choice_kept N p.num p.den r I w.at_most_one bp h.before h.first h.second h.third in
      d N L I J Np pr.one pr.none h.before h.third s t (omega arith)

  module _ (part : Fraction) (is : IsEqual part (class_weight p.den r 1)) where
    pub first_refused : (error : MassError) → WeighBlamesBy part p.num es error → SidesBlame p r es E error
    first_refused error d N L I J Np s t pr h m =
        let k = choice_kept N p.num p.den r I w.at_most_one bp h.before h.first h.second h.third in
        d (class_weight p.den r p.num) (class_pos p.den r p.num bp) (count_small p.den r p.num w.at_most_one) (count_equal p.den r p.num part is) N L I Np (count_whole N p.den r p.num bp pr.one) h.before h.first s (omega arith) h.few_first

    pub second_refused : (error : MassError) → WeighBlamesBy part (p.den - p.num) es error → SidesBlame p r es E error
    second_refused error d N L I J Np s t pr h m =
        let c = p.den - p.num in
        let k = choice_kept N p.num p.den r I w.at_most_one bp h.before h.first h.second h.third in
        d (class_weight p.den r c) (class_pos p.den r c bp) (count_small p.den r c (omega arith)) (count_equal p.den r c part is) N L I Np (count_whole N p.den r c bp pr.one) h.before h.second s (omega arith) h.few_second

    pub sides_to : (F : Ended) → UndecidedTo p.den r es E F → (first second : Entries) → WeighedBy part p.num es first → WeighedBy part (p.den - p.num) es second → SidesTo p r es E first second F
    sides_to F d first second a c N L I J Np s t h =
        let i = p.den - p.num in (
          a (class_weight p.den r p.num) (class_pos p.den r p.num bp) (count_equal p.den r p.num part is) N I Np h.before h.first s,
          c (class_weight p.den r i) (class_pos p.den r i bp) (count_equal p.den r i part is) N I Np h.before h.second s,
          d N I J Np h.before h.third s t,
        )

-- ---- the whole choice
pub draws_head : (N : ℕ) (es : Entries) (I : Table) (ws : List Fraction) → 0 < N → Stands N es I → (es ≡ [] → ⊥) → AllWhole N (draws_each ws I) → AllWhole N ws
draws_head N [] I ws Np s h w = absurd (h refl)
draws_head N (d ∷ es) [] ws Np s h w = absurd (let z = s.same (λ s. 1) in let y = whole_pos N d.1 Np s.kept.0 s.kept.1 in omega arith)
draws_head N (d ∷ es) (e ∷ I) ws Np s h w = all_first N ws (draws_each ws I) w

module _ (n : ℕ) (r : Option ℕ) (p : Weight) (a c : Statements) (w : IsWeight p) (es : Entries) (E : Ended) where
  abbrev pub A : Table → Table
  A I = scaled (class_weight p.den r p.num) I

  abbrev pub C : Table → Table
  C I = scaled (class_weight p.den r (p.den - p.num)) I

  abbrev pub Z : Table → Weighted End
  Z I = all_end (limit limit_kind.Attempts) (scaled (no_class_weight p.den r) I)

  pub sides_within : (N L : ℕ) (I : Table) → Around N L I (statement_flow n r (Choice p a c) I) → SidesWithin N L p r I
  sides_within N L I h =
      let x = head_few n r N L a (A I) (side_first n r N L p a c I h.inside).tables in
      let y = head_few n r N L c (C I) (side_second n r N L p a c I h.inside).tables in
      record { before = h.before; first = x.0; second = y.0; third = undecided_whole n r N L p a c I h.inside; few_first = x.1; few_second = y.1 }

  pub sides_blame : (error : MassError) → (es ≡ [] → ⊥) → SidesBlame p r es E error → OneBlames (statement_flow n r (Choice p a c)) es E error
  sides_blame error some d N L I J Np s t h m =
      let ds = all_first N (draws_each (draw_weights p.den r) I) ((block_flow n r a (A I)).draws ++ (block_flow n r c (C I)).draws) h.inside.draws in
      let dw = draws_head N es I (draw_weights p.den r) Np s some ds in
      d N L I J Np s t (record { one = dw.0; none = dw.1.0 }) (sides_within N L I h) m

  module _ (first second : Entries) (F : Ended) (d : SidesTo p r es E first second F) where
    pub fold_choice : (ls cs rs : Entries) (G H : Ended) → FoldsTo (block_flow n r a) first F ls G → FoldsTo (block_flow n r c) second G cs H → ((E : Ended) → StepsTo all_kept none_stopped ls cs E rs E) → FoldsOne (statement_flow n r (Choice p a c)) es E rs H
    fold_choice ls cs rs G H x y m N L I J Np s t h =
        let fa = block_flow n r a (A I) in
        let fc = block_flow n r c (C I) in
        let q = d N L I J Np s t (sides_within N L I h) in
        let u = x N L (A I) (J ++ Z I) Np q.0 q.2 (side_first n r N L p a c I h.inside) in
        let o = y N L (C I) ((J ++ Z I) ++ fa.ended) Np q.1 u.1 (side_second n r N L p a c I h.inside) in (
          merged N ls cs rs H fa.next fc.next Np (m H) o.1.kept u.0 o.0,
          end_along N H _ _ (λ K. regroup K N (J ++ Z I) fa.ended fc.ended ∙ regroup K N J (Z I) (fa.ended ++ fc.ended)) o.1,
        )

    weighed_up : (N L : ℕ) (I : Table) → Around N L I (statement_flow n r (Choice p a c) I) → weight N (Z I) + (weight N (A I) + weight N (C I)) ≡ weight N I
    weighed_up N L I h =
        let z = all_end_weight N (limit limit_kind.Attempts) (scaled (no_class_weight p.den r) I) in
        let k = sides_kept n r N L p a c I w h.before h.inside in
        omega arith

    pub first_blames : (error : MassError) → FoldBlames (block_flow n r a) first F error → OneBlames (statement_flow n r (Choice p a c)) es E error
    first_blames error x N L I J Np s t h m =
        let q = d N L I J Np s t (sides_within N L I h) in
        let k = weighed_up N L I h in
        let o = amount_append N (λ x. 1) J (Z I) in
        x N L (A I) (J ++ Z I) Np q.0 q.2 (side_first n r N L p a c I h.inside) (omega arith)

    module _ (ls : Entries) (G : Ended) (x : FoldsTo (block_flow n r a) first F ls G) (wa : BlockIsWeighed a) where
      pub second_blames : (error : MassError) → FoldBlames (block_flow n r c) second G error → OneBlames (statement_flow n r (Choice p a c)) es E error
      second_blames error y N L I J Np s t h m =
          let fa = block_flow n r a (A I) in
          let q = d N L I J Np s t (sides_within N L I h) in
          let wf = side_first n r N L p a c I h.inside in
          let u = x N L (A I) (J ++ Z I) Np q.0 q.2 wf in
          let k = weighed_up N L I h in
          let o = amount_append N (λ x. 1) J (Z I) in
          let j = amount_append N (λ x. 1) (J ++ Z I) fa.ended in
          let z = kept_all n r N L a wa (A I) wf in
          y N L (C I) ((J ++ Z I) ++ fa.ended) Np q.1 u.1 (side_second n r N L p a c I h.inside) (omega arith)

      pub both_blame : (cs : Entries) (H : Ended) (error : MassError) → BlockIsWeighed c → FoldsTo (block_flow n r c) second G cs H → ((E : Ended) → StepBlames all_kept none_stopped ls cs E error) → OneBlames (statement_flow n r (Choice p a c)) es E error
      both_blame cs H error wc y b N L I J Np s t h m =
          let fa = block_flow n r a (A I) in
          let fc = block_flow n r c (C I) in
          let q = d N L I J Np s t (sides_within N L I h) in
          let u = x N L (A I) (J ++ Z I) Np q.0 q.2 (side_first n r N L p a c I h.inside) in
          let o = y N L (C I) ((J ++ Z I) ++ fa.ended) Np q.1 u.1 (side_second n r N L p a c I h.inside) in
          let z = kept_one n r N L (Choice p a c) I (w, wa, wc) h.before h.after h.inside in
          merge_blamed N L ls cs E error fa.next fc.next (fa.next ++ fc.next) J Np (b E) t u.0 o.0 (λ G. let i = amount_append N G fa.next fc.next in omega arith) (omega arith) h.few_after (omega arith)

-- ---- as the code has it
pub as_count : (n k : ℕ) (f : Fraction) → k ≡ n → IsEqual f (k, 1) → IsEqual f (n, 1)
as_count n k f p e = subst (λ k. IsEqual f (k, 1)) p e

pub part_above_zero : (b : ℕ) (r : Option ℕ) (part rest : Fraction) → 1 ≤ b → 0 < (class_weight b r 1).0 → IsParts b r part rest → 1 ≤ part.0
part_above_zero b r part rest h k is = above part.0 part.1 (class_weight b r 1).0 (class_weight b r 1).1 k is.part_positive is.part_is
  where
    above : (x y c d : ℕ) → 0 < c → 0 < y → x * d ≡ c * y → 1 ≤ x
    above x y c d cp yp e = let z = product_pos c y cp yp in let k = product_below x d (omega arith) in omega arith
