-- The length of the states of a table.
use Rattle.std.proofs.Common.{◌≡◌, ◌<◌, ℕ, List, Option, Some, Result, Ok, Err, OnOk, OnErr, All, length, sym, subst}
use Rattle.std.specs.BTreeMap.{insert_entry}
use Rattle.std.specs.Iterator.{Yields}
use Rattle.std.specs.Map.{keys_of}
use Rattle.std.specs.Map.Iter.{TakesFirst}
use Rattle.std.proofs.lemmas.List.{get_or-map}
use Rattle.std.proofs.lemmas.Map.Entries.{length-keys_of}
use Rattle.std.proofs.lemmas.Map.Views.{All-keys-insert_entry, All-turn}
use Rattle.gcl_core.specs.meaning.Value.{State}
use Rattle.gcl_core.specs.weighing.Fractions.{Fraction}
use Rattle.mass_fold.specs.inner.Amounts.{Entries, IsPut, order}

module _ (m : ℕ) (es : Entries) (sized : All (λ s. length s ≡ m) (keys_of es)) where
  -- after a state of this length was put, or could not be
  pub sized_after : {A E : Type 0} (r : Result A E) (s : State) (v : Fraction) (fs : Entries) → OnOk r (fs ≡ insert_entry order es s v) → OnErr r (fs ≡ es) → length s ≡ m → All (λ s. length s ≡ m) (keys_of fs)
  sized_after (Ok _) s v fs put kept l = subst (λ es. All (λ s. length s ≡ m) (keys_of es)) (sym put) (All-keys-insert_entry order s v (λ s. length s ≡ m) es sized l)
  sized_after (Err _) s v fs put kept l = subst (λ es. All (λ s. length s ≡ m) (keys_of es)) (sym kept) sized

  -- likewise, with a weight that is added
  pub sized_put : {A E : Type 0} (r : Result A E) (s : State) (f : Fraction) (fs : Entries) → OnOk r (IsPut es fs s f) → OnErr r (fs ≡ es) → length s ≡ m → All (λ s. length s ≡ m) (keys_of fs)
  sized_put {A = A} {E = E} (Ok x) s f fs put kept l = sized_after {A = A} {E = E} (Ok x) s put.1.0 fs put.1.2 tt l
  sized_put {A = A} {E = E} (Err e) s f fs put kept l = sized_after {A = A} {E = E} (Err e) s f fs tt kept l

  -- of the state that a walk comes to
  pub sized_at : {A : Type 0} (shows : A → State × Fraction) (xs : List A) (start now next : Entries) (r : Option A) (x : A) → start ≡ es → Yields (TakesFirst shows) start xs now → r ≡ Some x → TakesFirst shows now r next → length (shows x).0 ≡ m
  sized_at shows xs start now next r x =
      All-turn shows (λ e. length e.0 ≡ m) es xs start now next r x
      (λ k d l. subst (λ s. length s ≡ m) (get_or-map (λ e. e.0) es k d d.0 l) (sized k d.0 (subst (λ n. k < n) (sym (length-keys_of es)) l)))
