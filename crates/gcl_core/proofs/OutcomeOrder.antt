-- The order of outcomes, and of keys of a tally: each pair stands in it, and in one way.
use Rattle.std.proofs.Common.{◌≡◌, ◌⊎◌, inl, inr, ℕ, zero, suc, ℤ, Bool, true, false, refl, sym, ap, ◌∙◌, arith, true≢false}
use Rattle.std.specs.Prelude.{nat_lt, ◌==◌, ◌&&◌, ◌||◌, int_lt}
use Rattle.std.specs.Ordering.{int_eq}
use Rattle.std.proofs.lemmas.Bool.Decides.{nat_tests}
use Rattle.gcl_core.specs.declared.answers.Fault.TheVariants.{Overflow, ZeroDivisor, BadBound}
use Rattle.gcl_core.specs.declared.answers.Limit.TheVariants.{Turns, Attempts, Rounds}
use Rattle.gcl_core.specs.declared.answers.Outcome.{Outcome}
use Rattle.gcl_core.specs.declared.answers.Outcome.TheVariants as outcome
use Rattle.gcl_core.specs.declared.answers.TallyKey.{TallyKey}
use Rattle.gcl_core.specs.declared.answers.TallyKey.TheVariants as key
use Rattle.gcl_core.specs.meaning.Order.{kind_number, value_in, is_before, is_key_before, same_key}
use Rattle.gcl_core.specs.meaning.Outcomes.{same_outcome}
use Rattle.gcl_core.proofs.SameOutcomes.{same_outcomes, same_keys}

-- ---- kinds and values
abbrev before : ℕ → ℤ → ℕ → ℤ → Bool
before k v l w = nat_lt k l || ((k == l) && int_lt v w)

trans : (k : ℕ) (v : ℤ) (l : ℕ) (w : ℤ) (m : ℕ) (x : ℤ) → before k v l w ≡ true → before l w m x ≡ true → before k v m x ≡ true
trans k v l w m x h i = grind (arith, nat_tests)

itself : (k : ℕ) (v : ℤ) → before k v k v ≡ false
itself k v = grind (arith, nat_tests)

neither : (k : ℕ) (v : ℤ) (l : ℕ) (w : ℤ) → before k v l w ≡ false → before l w k v ≡ false → (k == l) && int_eq v w ≡ true
neither k v l w h i = grind (arith, nat_tests)

kinds_agree : (k : ℕ) (v : ℤ) (l : ℕ) (w : ℤ) → (k == l) && int_eq v w ≡ true → k ≡ l
kinds_agree k v l w h = grind (arith, nat_tests)

values_agree : (k : ℕ) (v : ℤ) (l : ℕ) (w : ℤ) → (k == l) && int_eq v w ≡ true → v ≡ w
values_agree k v l w h = grind (arith, nat_tests)

-- the outcome of a kind with a value
abbrev outcome_with : ℕ → ℤ → Outcome
outcome_with zero v = outcome.Value v
outcome_with (suc zero) v = outcome.Fault Overflow
outcome_with (suc (suc zero)) v = outcome.Fault ZeroDivisor
outcome_with (suc (suc (suc zero))) v = outcome.Fault BadBound
outcome_with (suc (suc (suc (suc zero)))) v = outcome.Limit Turns
outcome_with (suc (suc (suc (suc (suc zero))))) v = outcome.Limit Attempts
outcome_with _ v = outcome.Limit Rounds

with_its : (x : Outcome) → outcome_with (kind_number x) (value_in x) ≡ x
with_its (outcome.Value v) = refl
with_its (outcome.Fault Overflow) = refl
with_its (outcome.Fault ZeroDivisor) = refl
with_its (outcome.Fault BadBound) = refl
with_its (outcome.Limit Turns) = refl
with_its (outcome.Limit Attempts) = refl
with_its (outcome.Limit Rounds) = refl

-- ---- outcomes
pub before_trans : (x y z : Outcome) → is_before x y ≡ true → is_before y z ≡ true → is_before x z ≡ true
before_trans x y z h i = trans (kind_number x) (value_in x) (kind_number y) (value_in y) (kind_number z) (value_in z) h i

pub before_itself : (x : Outcome) → is_before x x ≡ false
before_itself x = itself (kind_number x) (value_in x)

neither_before : (x y : Outcome) → is_before x y ≡ false → is_before y x ≡ false → x ≡ y
neither_before x y h i =
    let e = neither (kind_number x) (value_in x) (kind_number y) (value_in y) h i in
    sym (with_its x) ∙ ap (λ k. outcome_with k (value_in x)) (kinds_agree (kind_number x) (value_in x) (kind_number y) (value_in y) e)
    ∙ ap (outcome_with (kind_number y)) (values_agree (kind_number x) (value_in x) (kind_number y) (value_in y) e) ∙ with_its y

by_tests : {A : Type 0} (s t : Bool) → (s ≡ false → t ≡ false → A) → (s ≡ true) ⊎ (A ⊎ (t ≡ true))
by_tests true t f = inl refl
by_tests false true f = inr (inr refl)
by_tests false false f = inr (inl (f refl refl))

-- a test that cannot pass fails
fails_by : (t : Bool) → (t ≡ true → ⊥) → t ≡ false
fails_by true h = absurd (h refl)
fails_by false h = refl

-- an outcome is not the same as one behind it, either way round
pub before_differs : (x y : Outcome) → is_before x y ≡ true → same_outcome x y ≡ false
before_differs x y h = fails_by (same_outcome x y) (λ e. true≢false (sym h ∙ ap (is_before x) (sym (same_outcomes x y e)) ∙ before_itself x))

pub after_differs : (x y : Outcome) → is_before x y ≡ true → same_outcome y x ≡ false
after_differs x y h = fails_by (same_outcome y x) (λ e. true≢false (sym h ∙ ap (is_before x) (same_outcomes y x e) ∙ before_itself x))

-- ---- keys of a tally
pub key_before_trans : (a b c : TallyKey) → is_key_before a b ≡ true → is_key_before b c ≡ true → is_key_before a c ≡ true
key_before_trans (key.Outcome x) (key.Outcome y) (key.Outcome z) h i = before_trans x y z h i
key_before_trans (key.Outcome x) (key.Outcome y) key.MoreBits h i = refl
key_before_trans (key.Outcome x) key.MoreBits c h i = absurd (true≢false (sym i))
key_before_trans key.MoreBits b c h i = absurd (true≢false (sym h))

pub key_before_itself : (a : TallyKey) → is_key_before a a ≡ false
key_before_itself (key.Outcome x) = before_itself x
key_before_itself key.MoreBits = refl

pub key_before_total : (a b : TallyKey) → (is_key_before a b ≡ true) ⊎ ((a ≡ b) ⊎ (is_key_before b a ≡ true))
key_before_total (key.Outcome x) (key.Outcome y) = by_tests (is_before x y) (is_before y x) (λ h i. ap key.Outcome (neither_before x y h i))
key_before_total (key.Outcome x) key.MoreBits = inl refl
key_before_total key.MoreBits (key.Outcome y) = inr (inr refl)
key_before_total key.MoreBits key.MoreBits = inr (inl refl)

pub key_before_differs : (a b : TallyKey) → is_key_before a b ≡ true → same_key a b ≡ false
key_before_differs a b h = fails_by (same_key a b) (λ e. true≢false (sym h ∙ ap (is_key_before a) (sym (same_keys a b e)) ∙ key_before_itself a))

pub key_after_differs : (a b : TallyKey) → is_key_before a b ≡ true → same_key b a ≡ false
key_after_differs a b h = fails_by (same_key b a) (λ e. true≢false (sym h ∙ ap (is_key_before a) (same_keys b a e) ∙ key_before_itself a))
