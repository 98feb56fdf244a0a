-- The draw of one state, by the value of its bound.
use Rattle.std.proofs.Common.{◌≡◌, ◌∙◌, ℕ, zero, suc, ◌*◌, ◌^◌, ◌≤◌, ◌<◌, ℤ, pos, negsuc, ◌≤ℤ◌, Ok, Err, Option, Some, None, IfSome, w64, to_z, of_z, slice_set, refl, sym, ap, subst, arith}
use Rattle.std.proofs.lemmas.Int.{ints}
use lib.IntN.{nat_abs}
use mir.Val.{SFits}
use Rattle.gcl_core.specs.declared.answers.Fault.{Fault}
use Rattle.gcl_core.specs.declared.answers.Fault.TheVariants.{BadBound}
use Rattle.gcl_core.specs.declared.answers.Limit.TheVariants.{Attempts}
use Rattle.gcl_core.specs.meaning.Draw.{bits_for}
use Rattle.gcl_core.specs.meaning.Value.{State, Value}
use Rattle.gcl_core.specs.meaning.Blocks.{fault, limit, by_value, by_bound}
use Rattle.gcl_core.specs.weighing.Fractions.{Fraction, one}
use Rattle.gcl_core.specs.weighing.WeightedEnds.{class_weight, no_class_weight}
use Rattle.table_flow.specs.Counts.{sum_below}
use Rattle.table_flow.proofs.Draws.{power_pos}
use Rattle.mass_fold.specs.declared.error.MassError.{MassError}
use Rattle.mass_fold.specs.declared.ended.Gone.{Gone}
use Rattle.mass_fold.specs.declared.ended.Gone.TheVariants as gone_kind
use Rattle.mass_fold.specs.declared.ended.Ended.{Ended}
use Rattle.mass_fold.specs.inner.Amounts.{Entries}
use Rattle.mass_fold.specs.inner.Ended.{end_of, fault_end, EndGives, EndBlames}
use Rattle.mass_fold.specs.inner.Steps.{AddedBy, StoppedBy, BlamedBy, at_numbers}
use Rattle.mass_fold.proofs.Drawings.{added_none, stopped_all, blamed_all}

-- the bound without its sign
abbrev pub unsigned : ℤ → ℕ
unsigned z = nat_abs (to_z w64 (of_z w64 z))

pub record IsBound (z : ℤ) : Type 0 where
  pub less : ℕ
  pub is : z ≡ pos (suc less)
  pub cast : unsigned z ≡ suc less
  pub small : suc less < 2 ^ 63

pub is_bound : (z : ℤ) → SFits w64 z → pos 1 ≤ℤ z → IsBound z
is_bound (pos zero) fits le = absurd (omega (arith, ints))
is_bound (pos (suc m)) fits le = record { less = m; is = refl; cast = omega (arith, ints); small = omega (arith, ints) }
is_bound (negsuc m) fits le = absurd (omega (arith, ints))

pub class_above : (b : ℕ) (r : Option ℕ) → IfSome r (λ r. 1 ≤ r) → 0 < (class_weight b r 1).0
class_above b None h = omega arith
class_above b (Some zero) h = absurd (omega arith)
class_above b (Some (suc r)) h = let p = power_pos (bits_for b * r) in omega arith

module _ (x : ℕ) (r : Option ℕ) (s : State) where
  abbrev pub AddedAt : Value → Entries → Entries → Fraction → Type 0
  AddedAt o fs fs' f = AddedBy (by_value o (λ f. one) (λ z. by_bound z one (λ m. class_weight m r 1))) fs fs' f (λ G. by_value o (λ f. 0) (λ z. by_bound z 0 (λ m. sum_below m (λ i. G (slice_set s x (pos i))))))

  abbrev pub StoppedAt : Value → Ended → Ended → Fraction → Type 0
  StoppedAt o F F' f = StoppedBy (by_value o (λ f. one) (λ z. by_bound z one (λ m. no_class_weight m r))) F F' f (λ G. by_value o (λ f. G (fault f)) (λ z. by_bound z (G (fault BadBound)) (λ m. G (limit Attempts))))

  abbrev pub BlamedAt : Value → Entries → Ended → Fraction → MassError → Type 0
  BlamedAt o fs F f e = BlamedBy (by_value o (λ f. one) (λ z. by_bound z one (λ m. class_weight m r 1))) (by_value o (λ f. one) (λ z. by_bound z one (λ m. no_class_weight m r))) fs F f
      (λ G. by_value o (λ f. 0) (λ z. by_bound z 0 (λ m. sum_below m (λ i. G (slice_set s x (pos i)))))) (λ G. by_value o (λ f. G (fault f)) (λ z. by_bound z (G (fault BadBound)) (λ m. G (limit Attempts)))) e

  pub fault_added : (o : Value) (fl : Fault) (fs : Entries) (f : Fraction) → o ≡ Err fl → AddedAt o fs fs f
  fault_added o fl fs f e = subst (λ o. AddedAt o fs fs f) (sym e) (added_none one fs f)

  pub fault_stopped : (o : Value) (fl : Fault) (k : Gone) (F F' : Ended) (f : Fraction) → o ≡ Err fl → end_of k ≡ fault_end fl → EndGives F F' k f → StoppedAt o F F' f
  fault_stopped o fl k F F' f e q g = subst (λ o. StoppedAt o F F' f) (sym e) (subst (λ x. StoppedBy one F F' f (λ G. G x)) q (stopped_all F F' f k g))

  pub fault_blamed : (o : Value) (fl : Fault) (k : Gone) (fs : Entries) (F : Ended) (f : Fraction) (error : MassError) → o ≡ Err fl → end_of k ≡ fault_end fl → EndBlames error F k f → BlamedAt o fs F f error
  fault_blamed o fl k fs F f error e q g = subst (λ o. BlamedAt o fs F f error) (sym e) (subst (λ x. BlamedBy one one fs F f (λ G. 0) (λ G. G x) error) q (blamed_all one fs F f (λ G. 0) k error g))

  bad : (z : ℤ) → (pos 1 ≤ℤ z → ⊥) → (P : ℤ → Type 0) → P (pos 0) → ((m : ℕ) → P (negsuc m)) → P z
  bad (pos zero) h P p q = p
  bad (pos (suc m)) h P p q = absurd (h (omega (arith, ints)))
  bad (negsuc m) h P p q = q m

  pub bad_added : (o : Value) (z : ℤ) (fs : Entries) (f : Fraction) → o ≡ Ok z → (pos 1 ≤ℤ z → ⊥) → AddedAt o fs fs f
  bad_added o z fs f e h = subst (λ o. AddedAt o fs fs f) (sym e) (bad z h (λ z. AddedAt (Ok z) fs fs f) (added_none one fs f) (λ m. added_none one fs f))

  pub bad_stopped : (o : Value) (z : ℤ) (F F' : Ended) (f : Fraction) → o ≡ Ok z → (pos 1 ≤ℤ z → ⊥) → EndGives F F' gone_kind.Bound f → StoppedAt o F F' f
  bad_stopped o z F F' f e h g = subst (λ o. StoppedAt o F F' f) (sym e) (bad z h (λ z. StoppedAt (Ok z) F F' f) (stopped_all F F' f gone_kind.Bound g) (λ m. stopped_all F F' f gone_kind.Bound g))

  pub bad_blamed : (o : Value) (z : ℤ) (fs : Entries) (F : Ended) (f : Fraction) (error : MassError) → o ≡ Ok z → (pos 1 ≤ℤ z → ⊥) → EndBlames error F gone_kind.Bound f → BlamedAt o fs F f error
  bad_blamed o z fs F f error e h g = subst (λ o. BlamedAt o fs F f error) (sym e) (bad z h (λ z. BlamedAt (Ok z) fs F f error) (blamed_all one fs F f (λ G. 0) gone_kind.Bound error g) (λ m. blamed_all one fs F f (λ G. 0) gone_kind.Bound error g))

  module _ (o : Value) (z : ℤ) (e : o ≡ Ok z) (b : IsBound z) where
    is_value : Ok (pos (suc b.less)) ≡ o
    is_value = sym (e ∙ ap Ok b.is)

    pub draw_added : (fs fs' : Entries) (f : Fraction) → AddedBy (class_weight (unsigned z) r 1) fs fs' f (at_numbers x (unsigned z) s) → AddedAt o fs fs' f
    draw_added fs fs' f a = subst (λ o. AddedAt o fs fs' f) is_value (subst (λ n. AddedBy (class_weight n r 1) fs fs' f (at_numbers x n s)) b.cast a)

    pub draw_stopped : (F F' : Ended) (f : Fraction) → StoppedBy (no_class_weight (unsigned z) r) F F' f (λ G. G (limit Attempts)) → StoppedAt o F F' f
    draw_stopped F F' f a = subst (λ o. StoppedAt o F F' f) is_value (subst (λ n. StoppedBy (no_class_weight n r) F F' f (λ G. G (limit Attempts))) b.cast a)

    pub draw_blamed : (fs : Entries) (F : Ended) (f : Fraction) (error : MassError) → BlamedBy (class_weight (unsigned z) r 1) (no_class_weight (unsigned z) r) fs F f (at_numbers x (unsigned z) s) (λ G. G (limit Attempts)) error → BlamedAt o fs F f error
    draw_blamed fs F f error a = subst (λ o. BlamedAt o fs F f error) is_value (subst (λ n. BlamedBy (class_weight n r 1) (no_class_weight n r) fs F f (at_numbers x n s) (λ G. G (limit Attempts)) error) b.cast a)
