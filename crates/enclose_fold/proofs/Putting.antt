-- What is put into a merged table, and why it is refused.
use Rattle.std.proofs.Common.{◌≡◌, ℕ, zero, suc, ◌+◌, ◌*◌, ◌≤◌, ◌<◌, Ordering, Some, None, [], ◌∷◌, ◌++◌, length, refl, sym, ap, ◌∙◌, subst, arith}
use Rattle.std.specs.declared.cmp.Ordering.TheVariants.{Less, Equal, Greater}
use Rattle.std.specs.BTreeMap.{insert_entry, is_at}
use Rattle.std.specs.List.Sorted.{IsStrictlySortedBy}
use Rattle.std.specs.Map.{keys_of, lookup}
use Rattle.std.specs.Option.{unwrap_or}
use Rattle.std.proofs.lemmas.Map.{lookup-none}
use Rattle.std.proofs.lemmas.Map.Entries.{none_below_head}
use Rattle.std.proofs.lemmas.Map.Keys.{sorted_tail}
use Rattle.gcl_core.specs.meaning.Value.{State}
use Rattle.mass_fold.specs.declared.table.TheConstants.{MOST_STATES}
use Rattle.units_law.specs.Merged.{order, put, units_at, merged, IsMerged}
use Rattle.units_law.specs.Units.{Units, held, total}
use Rattle.units_law.proofs.States.{order_total}
use Rattle.units_law.proofs.Held.{held_append}
use Rattle.units_law.proofs.Merging.{held_put, put_merged, merged_again, merged_same, merged_longer}
use Rattle.enclose_fold.specs.declared.error.EncloseError.{EncloseError}
use Rattle.enclose_fold.specs.declared.error.EncloseError.TheVariants.{TooManyStates, AllFailed, TooUnlikely, OutOfMemory}
use Rattle.enclose_fold.specs.inner.Refusals.{Refuses, RefusedAt}

-- a merged table that holds what a list does is the list, merged
pub is_merged : (es J : Units State) → IsMerged es → ((G : State → ℕ) → held G es ≡ held G J) → es ≡ merged J
is_merged es J m h = sym (merged_again es m) ∙ merged_same es J h

pub put_is : (es : Units State) (s : State) (w : ℕ) → IsMerged es → put es s w ≡ merged (es ++ (s, w) ∷ [])
put_is es s w m =
    is_merged (put es s w) (es ++ (s, w) ∷ []) (put_merged es s w m)
    (λ G. let a = held_put G es s w m in let b = held_append G es ((s, w) ∷ []) in omega arith)

insert_few : (s : State) (w : ℕ) (es : Units State) → length (insert_entry order es s w) ≤ length es + 1
insert_few s w [] = omega arith
insert_few s w (e ∷ es) = at_head (order s e.0) refl (insert_few s w es)
  where
    at_head : (o : Ordering) → order s e.0 ≡ o → length (insert_entry order es s w) ≤ length es + 1 → length (insert_entry order (e ∷ es) s w) ≤ length (e ∷ es) + 1
    at_head Less p i = rw p (omega arith)
    at_head Equal p i = rw p (omega arith)
    at_head Greater p i = rw p (omega arith)

pub put_few : (es : Units State) (s : State) (w : ℕ) → length (put es s w) ≤ length es + 1
put_few es s zero = omega arith
put_few es s (suc w) = insert_few s (units_at es s + suc w) es

-- above 0 units an entry is inserted
pub put_some : (es : Units State) (s : State) (w : ℕ) → 0 < w → put es s w ≡ insert_entry order es s (units_at es s + w)
put_some es s zero p = absurd (omega (arith, p))
put_some es s (suc w) p = refl

-- ---- refusals

pub refused_more : (e : EncloseError) (l m : ℕ) → l ≤ m → Refuses e l → Refuses e m
refused_more TooManyStates l m h r = omega (arith, h, r)
refused_more AllFailed l m h r = r
refused_more TooUnlikely l m h r = r
refused_more OutOfMemory l m h r = r

pub never_many : (e : EncloseError) (l : ℕ) → l ≤ MOST_STATES → Refuses e l → e ≡ OutOfMemory
never_many TooManyStates l h r = absurd (omega (arith, h, r))
never_many AllFailed l h r = absurd r
never_many TooUnlikely l h r = absurd r
never_many OutOfMemory l h r = refl

pub no_memory : (e : EncloseError) (l : ℕ) → e ≡ OutOfMemory → Refuses e l
no_memory e l p = subst (λ e. Refuses e l) (sym p) tt

-- a list that holds K besides has no fewer states
pub wider : (J K C : Units State) → ((G : State → ℕ) → held G J + held G K ≡ held G C) → length (merged J) ≤ length (merged C)
wider J K C h = subst (λ z. length (merged J) ≤ length z) (merged_same (J ++ K) C (λ G. held_append G J K ∙ h G)) (merged_longer J K)

pub refused_in : (e : EncloseError) (J K C : Units State) → ((G : State → ℕ) → held G J + held G K ≡ held G C) → RefusedAt J e → RefusedAt C e
refused_in e J K C h r = refused_more e (length (merged J)) (length (merged C)) (wider J K C h) r

pub put_refused : (e : EncloseError) (es : Units State) (s : State) (w : ℕ) → IsMerged es → Refuses e (length (put es s w)) → RefusedAt (es ++ (s, w) ∷ []) e
put_refused e es s w m r = subst (λ z. Refuses e (length z)) (put_is es s w m) r

-- ---- a table after a put

module _ (fs fs' : Units State) (t : State) (w : ℕ) (p : fs' ≡ put fs t w) where
  pub put_holds : IsMerged fs → (G : State → ℕ) (k : ℕ) → k ≡ w * G t → held G fs' ≡ held G fs + k
  put_holds m G k e = let a = ap (held G) p in let b = held_put G fs t w m in omega arith

  pub put_short : length fs' ≤ length fs + 1
  put_short = let a = ap length p in let b = put_few fs t w in omega arith

-- where there is room for one state more, only memory is refused
pub put_fits : (e : EncloseError) (fs : Units State) (t : State) (w : ℕ) → length fs + 1 ≤ MOST_STATES → Refuses e (length (put fs t w)) → e ≡ OutOfMemory
put_fits e fs t w l r = never_many e (length (put fs t w)) (let a = put_few fs t w in omega (arith, l)) r

-- ---- how many states there are once an entry is inserted

insert_new : (s : State) (w : ℕ) (es : Units State) → lookup (is_at (order s)) es ≡ None → length (insert_entry order es s w) ≡ length es + 1
insert_new s w [] h = omega arith
insert_new s w (e ∷ es) h = at_head (order s e.0) refl (insert_new s w es)
  where
    at_head : (o : Ordering) → order s e.0 ≡ o → (lookup (is_at (order s)) es ≡ None → length (insert_entry order es s w) ≡ length es + 1) →
        length (insert_entry order (e ∷ es) s w) ≡ length (e ∷ es) + 1
    at_head Less p i = rw p (omega arith)
    at_head Equal p i = let k : Some e.1 ≡ None = rw p at h in cc
    at_head Greater p i = let k : lookup (is_at (order s)) es ≡ None = rw p at h in let j = i k in rw p (omega arith)

none_some : (v : ℕ) → None ≡ Some v → ⊥
none_some v e = cc

insert_old : (s : State) (w v : ℕ) (es : Units State) → IsStrictlySortedBy order (keys_of es) → lookup (is_at (order s)) es ≡ Some v → length (insert_entry order es s w) ≡ length es
insert_old s w v [] m h = cc
insert_old s w v (e ∷ es) m h = at_head (order s e.0) refl (insert_old s w v es (sorted_tail order e.0 (keys_of es) m))
  where
    at_head : (o : Ordering) → order s e.0 ≡ o → (lookup (is_at (order s)) es ≡ Some v → length (insert_entry order es s w) ≡ length es) →
        length (insert_entry order (e ∷ es) s w) ≡ length (e ∷ es)
    at_head Less p i = let k = lookup-none (is_at (order s)) (e ∷ es) (none_below_head order_total s e es m p) in absurd (none_some _ (sym k ∙ h))
    at_head Equal p i = rw p refl
    at_head Greater p i = let k : lookup (is_at (order s)) es ≡ Some v = rw p at h in let j = i k in rw p (omega arith)

module _ (es : Units State) (s : State) (w : ℕ) (some : 0 < w) where
  pub put_new : lookup (is_at (order s)) es ≡ None → length (put es s w) ≡ length es + 1
  put_new h = ap length (put_some es s w some) ∙ insert_new s (units_at es s + w) es h

  pub put_old : (v : ℕ) → IsMerged es → lookup (is_at (order s)) es ≡ Some v → length (put es s w) ≡ length es
  put_old v m h = ap length (put_some es s w some) ∙ insert_old s (units_at es s + w) v es m.sorted h

pub at_some : (es : Units State) (s : State) (v : ℕ) → lookup (is_at (order s)) es ≡ Some v → units_at es s ≡ v
at_some es s v h = ap (λ o. unwrap_or o 0) h

-- a state holds no more than all
pub at_most : (es : Units State) (s : State) → units_at es s ≤ total es
at_most [] s = omega arith
at_most (e ∷ es) s = at_head (order s e.0) refl (at_most es s)
  where
    at_head : (o : Ordering) → order s e.0 ≡ o → units_at es s ≤ total es → units_at (e ∷ es) s ≤ total (e ∷ es)
    at_head Less p i = rw p (omega arith)
    at_head Equal p i = rw p (omega arith)
    at_head Greater p i = rw p (omega arith)
