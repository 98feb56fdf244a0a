-- How many variables the states of a table have.
use Rattle.std.proofs.Common.{◌≡◌, ◌<◌, ℕ, zero, suc, List, Option, Some, All, length, sym, subst}
use Rattle.std.specs.Iterator.{Yields}
use Rattle.std.specs.Map.{keys_of}
use Rattle.std.specs.Map.Iter.{TakesFirst}
use Rattle.std.proofs.lemmas.List.{get_or-map}
use Rattle.std.proofs.lemmas.Map.Entries.{length-keys_of}
use Rattle.std.proofs.lemmas.Map.Views.{All-keys-insert_entry, All-turn}
use Rattle.gcl_core.specs.meaning.Value.{State}
use Rattle.units_law.specs.Merged.{order}
use Rattle.scaled_law.specs.Pairs.{Pair, Pairs, added, pair_at, put_pair}

abbrev pub AreSized : ℕ → Pairs State → Type 0
AreSized m es = All (λ s. length s ≡ m) (keys_of es)

-- of the state that a walk comes to
pub sized_at : (m : ℕ) (es : Pairs State) → AreSized m es → {A : Type 0} (shows : A → State × Pair) (xs : List A) (start now next : Pairs State) (r : Option A) (x : A) →
    start ≡ es → Yields (TakesFirst shows) start xs now → r ≡ Some x → TakesFirst shows now r next → length (shows x).0 ≡ m
sized_at m es sized shows xs start now next r x =
    All-turn shows (λ e. length e.0 ≡ m) es xs start now next r x
    (λ k d l. subst (λ s. length s ≡ m) (get_or-map (λ e. e.0) es k d d.0 l) (sized k d.0 (subst (λ n. k < n) (sym (length-keys_of es)) l)))

-- after units of a state were put
pub put_sized : (m : ℕ) (es fs : Pairs State) (s : State) (l h : ℕ) → fs ≡ put_pair es s l h → AreSized m es → length s ≡ m → AreSized m fs
put_sized m es fs s l zero e a p = subst (AreSized m) (sym e) a
put_sized m es fs s l (suc h) e a p = subst (AreSized m) (sym e) (All-keys-insert_entry order s (added (pair_at es s) (l, suc h)) (λ s. length s ≡ m) es a p)
