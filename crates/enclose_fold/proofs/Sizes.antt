-- How a table stays one: the length of its states, each once, and how many there are.
use Rattle.std.proofs.Common.{◌≡◌, ◌<◌, ◌≤◌, ◌+◌, ℕ, List, Option, Some, Result, Ok, Err, OnOk, OnErr, All, length, sym, ap, ◌∙◌, subst, arith}
use Rattle.std.specs.Iterator.{Yields}
use Rattle.std.specs.Map.{keys_of}
use Rattle.std.specs.Map.Iter.{TakesFirst}
use Rattle.std.proofs.lemmas.List.{get_or-map}
use Rattle.std.proofs.lemmas.Map.Entries.{length-keys_of}
use Rattle.std.proofs.lemmas.Map.Views.{All-keys-insert_entry, All-turn}
use Rattle.gcl_core.specs.meaning.Value.{State}
use Rattle.mass_fold.specs.declared.table.TheConstants.{MOST_STATES}
use Rattle.units_law.specs.Merged.{order, put, units_at, IsMerged}
use Rattle.units_law.specs.Units.{Units}
use Rattle.units_law.proofs.Merging.{put_merged}
use Rattle.enclose_fold.proofs.Putting.{put_some}

-- of the state that a walk comes to
pub sized_at : (m : ℕ) (es : Units State) → All (λ s. length s ≡ m) (keys_of es) → {A : Type 0} (shows : A → State × ℕ) (xs : List A) (start now next : Units State) (r : Option A) (x : A) →
    start ≡ es → Yields (TakesFirst shows) start xs now → r ≡ Some x → TakesFirst shows now r next → length (shows x).0 ≡ m
sized_at m es sized shows xs start now next r x =
    All-turn shows (λ e. length e.0 ≡ m) es xs start now next r x
    (λ k d l. subst (λ s. length s ≡ m) (get_or-map (λ e. e.0) es k d d.0 l) (sized k d.0 (subst (λ n. k < n) (sym (length-keys_of es)) l)))

-- ---- after units of a state were put, or could not be

module _ (es fs : Units State) (s : State) (w : ℕ) where
  pub sized_after : {A E : Type 0} (r : Result A E) (m : ℕ) → OnOk r (fs ≡ put es s w) → OnErr r (fs ≡ es) → 0 < w → All (λ s. length s ≡ m) (keys_of es) → length s ≡ m → All (λ s. length s ≡ m) (keys_of fs)
  sized_after (Ok _) m put kept some h l =
      subst (λ es. All (λ s. length s ≡ m) (keys_of es)) (sym (put ∙ put_some es s w some)) (All-keys-insert_entry order s (units_at es s + w) (λ s. length s ≡ m) es h l)
  sized_after (Err _) m put kept some h l = subst (λ es. All (λ s. length s ≡ m) (keys_of es)) (sym kept) h

  pub once_after : {A E : Type 0} (r : Result A E) → OnOk r (fs ≡ put es s w) → OnErr r (fs ≡ es) → IsMerged es → IsMerged fs
  once_after (Ok _) put kept m = subst IsMerged (sym put) (put_merged es s w m)
  once_after (Err _) put kept m = subst IsMerged (sym kept) m

  pub few_after : {A E : Type 0} (r : Result A E) → OnOk r (fs ≡ put es s w) → OnErr r (fs ≡ es) → length es ≤ MOST_STATES → OnOk r (length (put es s w) ≤ MOST_STATES) → length fs ≤ MOST_STATES
  few_after (Ok _) put kept l k = let e = ap length put in omega (arith, k)
  few_after (Err _) put kept l k = let e = ap length kept in omega (arith, l)
