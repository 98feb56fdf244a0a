-- The entries of an ordered map whose keys are numbers.
use Rattle.std.proofs.Common.{◌≡◌, ◌⊎◌, inl, inr, ℕ, zero, suc, ◌<◌, Bool, true, false, Ordering, List, [], ◌∷◌, length, get_or, Some, Contains, refl, sym, ap, subst, ◌∙◌, arith}
use Rattle.std.specs.Prelude.{cond}
use Rattle.std.specs.declared.cmp.Ordering.TheVariants.{Less, Equal, Greater}
use Rattle.std.specs.BTreeMap.{is_at, insert_entry}
use Rattle.std.specs.Map.{lookup, remove_entry}
use Rattle.std.specs.Ordering.{match_ordering, nat_cmp, eq_by_cmp}
use Rattle.std.proofs.lemmas.Map.Lookups.{exact_unsigned}
use Rattle.std.proofs.lemmas.Map.Views.{Contains-from_lookup, tells_apart}
use Rattle.visit_finder.specs.inner.Columns.{HasKey}

pub first_is : {A : Type 0} (x : A) (xs : List A) → Contains (x ∷ xs) x
first_is x xs = (0, omega arith, refl)

pub later : {A : Type 0} (x : A) (xs : List A) (y : A) → Contains xs y → Contains (x ∷ xs) y
later x xs y has = (suc has.0, let below = has.1 in omega (arith, below), has.2)

pub first_or_later : {A : Type 0} (x : A) (xs : List A) (y : A) → Contains (x ∷ xs) y → (x ≡ y) ⊎ Contains xs y
first_or_later x xs y has = by has.0 has.1 has.2
  where
    by : (k : ℕ) → k < suc (length xs) → get_or (x ∷ xs) k y ≡ y → (x ≡ y) ⊎ Contains xs y
    by zero below is = inl is
    by (suc k) below is = inr (k, omega (arith, below), is)

pub none_in : {A : Type 0} (y : A) → Contains [] y → ⊥
none_in y has = let below = has.1 in absurd (omega (arith, below))

-- a query that is at a key is for that key
pub at_key : (k q : ℕ) → is_at (nat_cmp k) q ≡ true → k ≡ q
at_key k q is = tells_apart exact_unsigned k q is

module _ {A : Type 0} where
  -- what is found is an entry
  pub has_found : (es : List (ℕ × A)) (k : ℕ) (a : A) → lookup (is_at (nat_cmp k)) es ≡ Some a → Contains es (k, a)
  has_found es k a is = Contains-from_lookup {eq = eq_by_cmp nat_cmp} (tells_apart exact_unsigned) k a es is

  -- what stays when a key is removed was there
  pub from_removed : (es : List (ℕ × A)) (k s : ℕ) (a : A) → Contains (remove_entry (is_at (nat_cmp k)) es) (s, a) → Contains es (s, a)
  from_removed [] k s a has = has
  from_removed (e ∷ es) k s a has = by (is_at (nat_cmp k) e.0) has (from_removed es k s a)
    where
      by : (b : Bool) → Contains (cond b es (e ∷ remove_entry (is_at (nat_cmp k)) es)) (s, a) → (Contains (remove_entry (is_at (nat_cmp k)) es) (s, a) → Contains es (s, a)) → Contains (e ∷ es) (s, a)
      by true has rest = later e es (s, a) has
      by false has rest = which (first_or_later e (remove_entry (is_at (nat_cmp k)) es) (s, a) has)
        where
          which : (e ≡ (s, a)) ⊎ Contains (remove_entry (is_at (nat_cmp k)) es) (s, a) → Contains (e ∷ es) (s, a)
          which (inl same) = subst (Contains (e ∷ es)) same (first_is e es)
          which (inr there) = later e es (s, a) (rest there)

  -- the entries of other keys stay
  pub stays_removed : (es : List (ℕ × A)) (k s : ℕ) (a : A) → Contains es (s, a) → (s ≡ k) ⊎ Contains (remove_entry (is_at (nat_cmp k)) es) (s, a)
  stays_removed [] k s a has = inr has
  stays_removed (e ∷ es) k s a has = by (is_at (nat_cmp k) e.0) refl (first_or_later e es (s, a) has) (stays_removed es k s a)
    where
      by : (b : Bool) → is_at (nat_cmp k) e.0 ≡ b → (e ≡ (s, a)) ⊎ Contains es (s, a) → (Contains es (s, a) → (s ≡ k) ⊎ Contains (remove_entry (is_at (nat_cmp k)) es) (s, a)) →
          (s ≡ k) ⊎ Contains (cond b es (e ∷ remove_entry (is_at (nat_cmp k)) es)) (s, a)
      by true at (inl same) rest = inl (sym (at_key k e.0 at ∙ ap (λ (e : ℕ × A). e.0) same))
      by true at (inr there) rest = inr there
      by false at (inl same) rest = inr (subst (Contains (e ∷ remove_entry (is_at (nat_cmp k)) es)) same (first_is e _))
      by false at (inr there) rest = which (rest there)
        where
          which : (s ≡ k) ⊎ Contains (remove_entry (is_at (nat_cmp k)) es) (s, a) → (s ≡ k) ⊎ Contains (e ∷ remove_entry (is_at (nat_cmp k)) es) (s, a)
          which (inl same) = inl same
          which (inr there) = inr (later e _ (s, a) there)

  -- an entry at the front is the one that was put, or was there
  put_first : (k q s : ℕ) (a b : A) (es fs : List (ℕ × A)) → k ≡ q → (Contains fs (s, b) → Contains es (s, b)) → Contains ((q, a) ∷ fs) (s, b) → ((s ≡ k) × (b ≡ a)) ⊎ Contains es (s, b)
  put_first k q s a b es fs key more has = which (first_or_later (q, a) fs (s, b) has)
    where
      which : (◌≡◌ {A = ℕ × A} (q, a) (s, b)) ⊎ Contains fs (s, b) → ((s ≡ k) × (b ≡ a)) ⊎ Contains es (s, b)
      which (inl same) = inl (sym (key ∙ ap (λ (e : ℕ × A). e.0) same), sym (ap (λ (e : ℕ × A). e.1) same))
      which (inr there) = inr (more there)

  -- an entry is the one that was put, or was there
  pub put_or_before : (es : List (ℕ × A)) (k : ℕ) (a : A) (s : ℕ) (b : A) → Contains (insert_entry nat_cmp es k a) (s, b) → ((s ≡ k) × (b ≡ a)) ⊎ Contains es (s, b)
  put_or_before [] k a s b has = put_first k k s a b [] [] refl (λ there. there) has
  put_or_before (e ∷ es) k a s b has = by (nat_cmp k e.0) refl has (put_or_before es k a s b)
    where
      by : (o : Ordering) → nat_cmp k e.0 ≡ o → Contains (match_ordering o ((k, a) ∷ e ∷ es) ((e.0, a) ∷ es) (e ∷ insert_entry nat_cmp es k a)) (s, b) →
          (Contains (insert_entry nat_cmp es k a) (s, b) → ((s ≡ k) × (b ≡ a)) ⊎ Contains es (s, b)) → ((s ≡ k) × (b ≡ a)) ⊎ Contains (e ∷ es) (s, b)
      by Less at has rest = put_first k k s a b (e ∷ es) (e ∷ es) refl (λ there. there) has
      by Equal at has rest = put_first k e.0 s a b (e ∷ es) es (exact_unsigned k e.0 at) (later e es (s, b)) has
      by Greater at has rest = which (first_or_later e (insert_entry nat_cmp es k a) (s, b) has)
        where
          before : ((s ≡ k) × (b ≡ a)) ⊎ Contains es (s, b) → ((s ≡ k) × (b ≡ a)) ⊎ Contains (e ∷ es) (s, b)
          before (inl same) = inl same
          before (inr there) = inr (later e es (s, b) there)

          which : (e ≡ (s, b)) ⊎ Contains (insert_entry nat_cmp es k a) (s, b) → ((s ≡ k) × (b ≡ a)) ⊎ Contains (e ∷ es) (s, b)
          which (inl same) = inr (subst (Contains (e ∷ es)) same (first_is e es))
          which (inr there) = before (rest there)

  pub put_key : (es : List (ℕ × A)) (k : ℕ) (a : A) → HasKey (insert_entry nat_cmp es k a) k
  put_key [] k a = (a, first_is (k, a) [])
  put_key (e ∷ es) k a = by (nat_cmp k e.0) refl (put_key es k a)
    where
      by : (o : Ordering) → nat_cmp k e.0 ≡ o → HasKey (insert_entry nat_cmp es k a) k → HasKey (match_ordering o ((k, a) ∷ e ∷ es) ((e.0, a) ∷ es) (e ∷ insert_entry nat_cmp es k a)) k
      by Less at rest = (a, first_is (k, a) (e ∷ es))
      by Equal at rest = (a, subst (λ q. Contains ((e.0, a) ∷ es) (q, a)) (sym (exact_unsigned k e.0 at)) (first_is (e.0, a) es))
      by Greater at rest = (rest.0, later e _ (k, rest.0) rest.1)

  pub put_keeps : (es : List (ℕ × A)) (k : ℕ) (a : A) (s : ℕ) → HasKey es s → HasKey (insert_entry nat_cmp es k a) s
  put_keeps [] k a s has = absurd (none_in (s, has.0) has.1)
  put_keeps (e ∷ es) k a s has = by (nat_cmp k e.0) (first_or_later e es (s, has.0) has.1) (put_keeps es k a s)
    where
      by : (o : Ordering) → (e ≡ (s, has.0)) ⊎ Contains es (s, has.0) → (HasKey es s → HasKey (insert_entry nat_cmp es k a) s) →
          HasKey (match_ordering o ((k, a) ∷ e ∷ es) ((e.0, a) ∷ es) (e ∷ insert_entry nat_cmp es k a)) s
      by Less which rest = (has.0, later (k, a) (e ∷ es) (s, has.0) has.1)
      by Equal (inl same) rest = (a, subst (λ q. Contains ((e.0, a) ∷ es) (q, a)) (ap (λ (e : ℕ × A). e.0) same) (first_is (e.0, a) es))
      by Equal (inr there) rest = (has.0, later (e.0, a) es (s, has.0) there)
      by Greater (inl same) rest = (has.0, subst (Contains (e ∷ insert_entry nat_cmp es k a)) same (first_is e _))
      by Greater (inr there) rest = let is = rest (has.0, there) in (is.0, later e _ (s, is.0) is.1)
