-- The sides of a choice in wide fractions, and one more weight among what has ended.
use Rattle.std.proofs.Common.{◌≡◌, ℕ, zero, suc, ◌+◌, ◌*◌, ◌-◌, ◌<◌, None, refl, sym, ap, ◌∙◌, subst, append-nil, arith}
use Rattle.std.specs.Map.{keys_of}
use Rattle.std.specs.List.Sorted.{IsStrictlySortedBy}
use Rattle.gcl_core.specs.declared.syntax.Weight.{Weight}
use Rattle.gcl_core.specs.meaning.Bounds.{IsWeight}
use Rattle.gcl_core.specs.meaning.Value.{State}
use Rattle.gcl_core.specs.weighing.Fractions.{Fraction, plus, times}
use Rattle.numbers.specs.Fraction.{lowest}
use Rattle.numbers.proofs.Divisors.{cancel, lowest_equal}
use Rattle.table_flow.specs.Scale.{whole, Whole, Wholes}
use Rattle.table_flow.specs.Counts.{all_kept, none_stopped}
use Rattle.table_flow.proofs.Wholes.{whole_from, whole_lowest}
use Rattle.mass_fold.specs.declared.ended.Gone.{Gone}
use Rattle.mass_fold.specs.declared.ended.Gone.TheVariants.{Failed, Overflow, Divisor, Bound, Turns, Attempts}
use Rattle.mass_fold.specs.declared.ended.Ended.{Ended}
use Rattle.mass_fold.specs.Amounts.{held}
use Rattle.mass_fold.specs.inner.Amounts.{Entries, PutGives, order}
use Rattle.mass_fold.specs.inner.Ended.{end_of, weight_of, with_weight, rows_of, EndGives}
use Rattle.mass_fold.specs.inner.Steps.{AddedBy, DrawsTo}
use Rattle.mass_fold.specs.inner.Fold.{EndStands, UndecidedTo, WeighedBy, SidesTo}
use Rattle.mass_fold.proofs.Drawings.{above_zero}
use Rattle.mass_fold.proofs.Shares.{scaled_stands}
use Rattle.mass_fold.proofs.Sides.{sides_to}
use Rattle.wide_fold.proofs.Insertion.{lowest_whole}

-- ---- one state put, times a weight
product_at : (N : ℕ) (f w h : Fraction) → Whole N (times f w) → h ≡ lowest (times f w) → (whole N h ≡ whole N (times f w)) × Whole N h
product_at N f w h b e = subst (λ h. (whole N h ≡ whole N (times f w)) × Whole N h) (sym e) (whole_lowest N (times f w).0 (times f w).1 b)

pub added_put : (w : Fraction) (fs fs' : Entries) (f h : Fraction) (s t : State) → 0 < w.0 → h ≡ lowest (times f w) → t ≡ s → PutGives fs fs' t h → AddedBy w fs fs' f (λ G. G s)
added_put w fs fs' f h s t up e r g N Np k fp a b =
    let y = product_at N f w h b e in
    let z = g N Np k (above_zero N f w w h Np fp up b y) y.1 in
    (z.0, λ G. z.1 G ∙ ap (λ n. held N G fs + n * G t) y.0 ∙ ap (λ s. held N G fs + whole N (times f w) * G s) r)

-- ---- one side
as_side : (x y b n c d : ℕ) → 0 < b → x * b ≡ n * y → 1 * n * d ≡ c * b → x * d ≡ c * y
as_side x y b n c d bp f h = cancel b _ _ bp (let i = ap (λ z. z * d) f in let k = ap (λ z. z * y) h in omega arith)

abbrev nothing : Ended
nothing = record { failed = (0, 1); overflow = (0, 1); divisor = (0, 1); bound = (0, 1); turns = (0, 1); attempts = (0, 1) }

nothing_whole : (N : ℕ) → Wholes N (rows_of nothing)
nothing_whole N = let z = (whole_from N (0, 1) 0 (omega arith) (omega arith)).1 in (z, (z, (z, (z, (z, (z, tt))))))

pub side_given : (count b : ℕ) (w : Fraction) (es fs : Entries) → 0 < b → 0 < w.1 → w ≡ lowest (count, b) → IsStrictlySortedBy order (keys_of es) →
    ((E : Ended) → DrawsTo (λ s. w) (λ s. w) all_kept none_stopped es E fs E) → WeighedBy (1, b) count es fs
side_given count b w es fs bp wp e o d u up q N I Np a c s =
    let is : w.0 * b ≡ count * w.1 = subst (λ w. w.0 * b ≡ count * w.1) (sym e) (lowest_equal count b) in
    let x = scaled_stands N u w es I Np up wp (as_side w.0 w.1 b count u.0 u.1 bp is q) o a c s in
    let y = d nothing N Np s.kept (nothing_whole N) x.0 x.0 in
    record { kept = y.kept; same = λ G. let z = y.going G in let t = x.1 G in omega arith }

pub some_parts : (n : ℕ) → (n ≡ 0 → ⊥) → 0 < n
some_parts zero h = absurd (h refl)
some_parts (suc n) h = omega arith

-- ---- both sides: each attempt decides, in the end
decided : (b : ℕ) (es : Entries) (E : Ended) → UndecidedTo b None es E E
decided b es E N I J Np a z s t = subst (EndStands N E) (sym (append-nil J)) t

pub both_sides : (p : Weight) (es first second : Entries) → IsWeight p → WeighedBy (1, p.den) p.num es first → WeighedBy (1, p.den) (p.den - p.num) es second → (E : Ended) → SidesTo p None es E first second E
both_sides p es first second w a c E = sides_to p None w es E (1, p.den) refl E (decided p.den es E) first second a c

-- ---- what has ended
pub end_gives : (E F : Ended) (x : Gone) (f g v : Fraction) → g ≡ weight_of E x → v ≡ lowest (plus g f) → F ≡ with_weight E x v → EndGives E F x f
end_gives E F x f g v p e r = subst (λ F. EndGives E F x f) (sym r) (by x (e ∙ ap (λ g. lowest (plus g f)) p))
  where
    by : (x : Gone) → v ≡ lowest (plus (weight_of E x) f) → EndGives E (with_weight E x v) x f
    by Failed e N w h = let u = lowest_whole N E.failed f v w.0 h e in ((u.1, w.1), λ G. let z = ap (λ k. k * G (end_of Failed)) u.0 in omega arith)
    by Overflow e N w h = let u = lowest_whole N E.overflow f v w.1.0 h e in ((w.0, (u.1, w.1.1)), λ G. let z = ap (λ k. k * G (end_of Overflow)) u.0 in omega arith)
    by Divisor e N w h = let u = lowest_whole N E.divisor f v w.1.1.0 h e in ((w.0, (w.1.0, (u.1, w.1.1.1))), λ G. let z = ap (λ k. k * G (end_of Divisor)) u.0 in omega arith)
    by Bound e N w h = let u = lowest_whole N E.bound f v w.1.1.1.0 h e in ((w.0, (w.1.0, (w.1.1.0, (u.1, w.1.1.1.1)))), λ G. let z = ap (λ k. k * G (end_of Bound)) u.0 in omega arith)
    by Turns e N w h = let u = lowest_whole N E.turns f v w.1.1.1.1.0 h e in ((w.0, (w.1.0, (w.1.1.0, (w.1.1.1.0, (u.1, w.1.1.1.1.1))))), λ G. let z = ap (λ k. k * G (end_of Turns)) u.0 in omega arith)
    by Attempts e N w h = let u = lowest_whole N E.attempts f v w.1.1.1.1.1.0 h e in ((w.0, (w.1.0, (w.1.1.0, (w.1.1.1.0, (w.1.1.1.1.0, (u.1, tt)))))), λ G. let z = ap (λ k. k * G (end_of Attempts)) u.0 in omega arith)
