-- States that are kept under those to which a turn leads from them, and a search that finds whatever is under a state that it found.
use Rattle.std.proofs.Common.{◌≡◌, ◌⊎◌, inl, inr, ⊎_elim, ℕ, suc, ◌+◌, ◌<◌, ◌≤◌, Bool, true, false, true≢false, cond, is_some, Ordering, Less, Equal, Greater, is_eq, nat_cmp, Option, Some, None, BTreeMap, List, [], ◌∷◌, ◌++◌, Contains, IsSome, length, length-append, get_or, slice_index, take, take-suc, take_all, refl, sym, ap, subst, ◌∙◌, arith}
use Rattle.std.specs.Global.{Vec}
use Rattle.std.specs.Option.{option_map, unwrap_or}
use Rattle.std.specs.Cmp.{nat_cmp_total}
use Rattle.std.specs.List.{sum_by}
use Rattle.std.specs.Map.{lookup, remove_entry, values_of}
use Rattle.std.specs.BTreeMap.{keys, get, is_at, ContainsKey, UpdatesBy, Updates}
use Rattle.std.proofs.lemmas.Bool.{cases_eq}
use Rattle.std.proofs.lemmas.List.Elements.{Contains-append_left, Contains-push, Contains-push_cases}
use Rattle.std.proofs.lemmas.Map.Entries.{sum_by-remove_entry}
use Rattle.std.proofs.lemmas.Map.Views.{btree_map_contains_key_iff}
use Rattle.std.proofs.lemmas.Map.Lookups.{exact_unsigned}
use Rattle.visit_finder.specs.Exact.{Turn, AreClosed}
use Rattle.visit_finder.specs.Sources.{Sources, sources_of, HaveTurns, AreClosedUnder}

-- a look-up of s passes another number by
not_at : (s q : ℕ) → (q ≡ s → ⊥) → is_at (nat_cmp s) q ≡ false
not_at s q other = by (nat_cmp s q) refl
  where
    by : (o : Ordering) → nat_cmp s q ≡ o → is_eq o ≡ false
    by Less e = refl
    by Equal e = absurd (other (sym (exact_unsigned s q e)))
    by Greater e = refl

-- nothing is in an empty list
pub none_in : {X : Type 0} (x : X) → Contains [] x → ⊥
none_in x c = omega (arith, c.1)

take_more : {X : Type 0} (xs : List X) (i : ℕ) (d : X) → i < length xs → take (i + 1) xs ≡ take i xs ++ get_or xs i d ∷ []
take_more xs i d within = let more : suc i ≡ i + 1 = omega arith in subst (λ k. take k xs ≡ take i xs ++ get_or xs i d ∷ []) more (take-suc xs i d within)

-- ---- turns

-- under s stands t beside what stood there, and under each other state what stood there
pub record Puts (old new : Sources) (s t : ℕ) : Type 0 where
  pub here : sources_of new s ≡ sources_of old s ++ t ∷ []
  pub apart : (q : ℕ) → (q ≡ s → ⊥) → sources_of new q ≡ sources_of old q

-- what a look-up finds, as a list
abbrev pub found_items : Option (Vec ℕ) → List ℕ
found_items o = unwrap_or (option_map (λ v. v.items) o) []

pub puts : (s t : ℕ) (old without new : BTreeMap ℕ (Vec ℕ)) (before after : Vec ℕ) → before.items ≡ sources_of old.entries s → after.items ≡ before.items ++ t ∷ [] →
    UpdatesBy nat_cmp (nat_cmp s) old without None → Updates nat_cmp without new s (Some after) → Puts old.entries new.entries s t
puts s t old without new before after was more removed inserted = record {
  here = ap found_items inserted.1 ∙ more ∙ ap (λ xs. xs ++ t ∷ []) was;
  apart = λ q other. let past = not_at s q other in ap found_items (inserted.2 q past ∙ removed.2 q past);
}

pub have_more : (turns : List Turn) (i : ℕ) (turn : Turn) (old new : Sources) → i < length turns → turn ≡ get_or turns i turn → Puts old new turn.1 turn.0 →
    HaveTurns old (take i turns) → HaveTurns new (take (i + 1) turns)
have_more turns i turn old new within is put before = λ t s f c.
    ⊎_elim (λ earlier. by t s (cases_eq s turn.1) (before t s f earlier))
    (λ (same : get_or turns i turn ≡ (t, s, f)).
    let e : turn ≡ (t, s, f) = is ∙ same in
    subst (λ (e : Turn). Contains (sources_of new e.1) e.0) e (subst (λ xs. Contains xs turn.0) (sym put.here) (Contains-push (sources_of old turn.1) turn.0)))
    (Contains-push_cases (take i turns) (get_or turns i turn) (t, s, f)
    (subst (λ xs. Contains xs (t, s, f)) (take_more turns i turn within) c))
  where
    by : (t s : ℕ) → (s ≡ turn.1) ⊎ (s ≡ turn.1 → ⊥) → Contains (sources_of old s) t → Contains (sources_of new s) t
    by t s (inl e) c = subst (λ s. Contains (sources_of new s) t) (sym e)
        (subst (λ xs. Contains xs t) (sym put.here) (Contains-append_left (sources_of old turn.1) (turn.0 ∷ []) t (subst (λ s. Contains (sources_of old s) t) e c)))
    by t s (inr other) c = subst (λ xs. Contains xs t) (sym (put.apart s other)) c

-- states that are closed under what has the turns
pub closed_by : (states : List ℕ) (sources : Sources) (turns : List Turn) → HaveTurns sources turns → AreClosedUnder states sources → AreClosed states turns
closed_by states sources turns have closed t s f turn among = closed t s (have t s f turn) among

-- ---- a search

-- what is under s is as it was, and waits where s was found; or all of it was found
abbrev pub IsSettled : (ℕ → Type 0) → List ℕ → (ℕ → List ℕ) → (ℕ → List ℕ) → ℕ → Type 0
IsSettled Found waiting now first s = ((now s ≡ first s) × (Found s → Contains waiting s)) ⊎ ((t : ℕ) → Contains (first s) t → Found t)

abbrev pub AreSettled : (ℕ → Type 0) → List ℕ → (ℕ → List ℕ) → (ℕ → List ℕ) → Type 0
AreSettled Found waiting now first = (s : ℕ) → IsSettled Found waiting now first s

-- likewise while a list that was under some states is gone through, of which the first i were found
pub record AreSettling (Found : ℕ → Type 0) (waiting : List ℕ) (now first : ℕ → List ℕ) (list : List ℕ) (i : ℕ) : Type 0 where
  pub each : (s : ℕ) → IsSettled Found waiting now first s ⊎ (first s ≡ list)
  pub found : (t : ℕ) → Contains (take i list) t → Found t

-- one more was found, if it was not found before
pub record FindsOne (Old New : ℕ → Type 0) (t : ℕ) : Type 0 where
  pub kept : (s : ℕ) → Old s → New s
  pub here : New t
  pub only : (s : ℕ) → New s → Old s ⊎ (s ≡ t)

module _ (Found : ℕ → Type 0) (waiting : List ℕ) (now first : ℕ → List ℕ) where
  -- the last of those that wait is taken, with what is under it
  pub settling_begins : (to : ℕ) (rest list : List ℕ) (left : ℕ → List ℕ) → waiting ≡ rest ++ to ∷ [] → list ≡ now to → ((q : ℕ) → (q ≡ to → ⊥) → left q ≡ now q) →
      AreSettled Found waiting now first → AreSettling Found rest left first list 0
  settling_begins to rest list left popped is apart h = record {
    each = λ s. by s (cases_eq s to) (h s);
    found = λ t c. absurd (none_in t c);
  }
    where
      by : (s : ℕ) → (s ≡ to) ⊎ (s ≡ to → ⊥) → IsSettled Found waiting now first s → IsSettled Found rest left first s ⊎ (first s ≡ list)
      by s any (inr all) = inl (inr all)
      by s (inl e) (inl was) = inr (sym was.0 ∙ ap now e ∙ sym is)
      by s (inr other) (inl was) = inl (inl (
        apart s other ∙ was.0,
        λ found.
            ⊎_elim (λ c. c) (λ e. absurd (other (sym e))) (Contains-push_cases rest to s (subst (λ xs. Contains xs s) popped (was.1 found))),
      ))

  found_more : (list : List ℕ) (i : ℕ) → i < length list → ((u : ℕ) → Contains (take i list) u → Found u) → Found (slice_index list i) → (u : ℕ) → Contains (take (i + 1) list) u → Found u
  found_more list i within before here u c =
      ⊎_elim (before u) (λ (e : slice_index list i ≡ u). subst Found e here)
      (Contains-push_cases (take i list) (slice_index list i) u (subst (λ xs. Contains xs u) (take_more list i 0 within) c))

  -- the next was found before
  pub settling_passes : (list : List ℕ) (i : ℕ) → i < length list → Found (slice_index list i) →
      AreSettling Found waiting now first list i → AreSettling Found waiting now first list (i + 1)
  settling_passes list i within here h = record { each = h.each; found = found_more list i within h.found here }

  pub settling_ends : (list : List ℕ) (i : ℕ) → length list ≤ i → AreSettling Found waiting now first list i → AreSettled Found waiting now first
  settling_ends list i past h = λ s. ⊎_elim (λ is. is) (λ (e : first s ≡ list). inr (λ t c. h.found t (subst (λ xs. Contains xs t) (e ∙ sym (take_all i list past)) c))) (h.each s)

module _ (Old New : ℕ → Type 0) (t : ℕ) (one : FindsOne Old New t) (waiting : List ℕ) where
  -- where s was found it waits
  pub waits_more : (s : ℕ) → (Old s → Contains waiting s) → New s → Contains (waiting ++ t ∷ []) s
  waits_more s wait found =
      ⊎_elim (λ old. Contains-append_left waiting (t ∷ []) s (wait old)) (λ e. subst (λ s. Contains (waiting ++ t ∷ []) s) (sym e) (Contains-push waiting t)) (one.only s found)

  -- the next is found, and waits
  pub settling_finds : (now first : ℕ → List ℕ) (list : List ℕ) (i : ℕ) → i < length list → t ≡ slice_index list i →
      AreSettling Old waiting now first list i → AreSettling New (waiting ++ t ∷ []) now first list (i + 1)
  settling_finds now first list i within is h = record {
    each = λ s. by s (h.each s);
    found = found_more New waiting now first list i within (λ u c. one.kept u (h.found u c)) (subst New is one.here);
  }
    where
      by : (s : ℕ) → IsSettled Old waiting now first s ⊎ (first s ≡ list) → IsSettled New (waiting ++ t ∷ []) now first s ⊎ (first s ≡ list)
      by s (inr e) = inr e
      by s (inl (inr all)) = inl (inr (λ u c. one.kept u (all u c)))
      by s (inl (inl was)) = inl (inl (was.0, waits_more s was.1))

-- ---- a search that keeps what it found as the keys of a map

module _ (old new : BTreeMap ℕ Bool) (t : ℕ) (v : Bool) (inserted : Updates nat_cmp old new t (Some v)) where
  pub finds_one : FindsOne (ContainsKey nat_cmp old) (ContainsKey nat_cmp new) t
  finds_one = record {
    kept = λ s found. by_kept s (is_at (nat_cmp t) s) (inserted.0 s) found;
    here = ap is_some inserted.1;
    only = λ s found. by_only s (nat_cmp t s) refl (inserted.0 s) found;
  }
    where
      by_kept : (s : ℕ) (b : Bool) → get nat_cmp new s ≡ cond b (Some v) (get nat_cmp old s) → ContainsKey nat_cmp old s → ContainsKey nat_cmp new s
      by_kept s true e found = ap is_some e
      by_kept s false e found = subst IsSome (sym e) found

      by_only : (s : ℕ) (o : Ordering) → nat_cmp t s ≡ o → get nat_cmp new s ≡ cond (is_eq o) (Some v) (get nat_cmp old s) → ContainsKey nat_cmp new s → ContainsKey nat_cmp old s ⊎ (s ≡ t)
      by_only s Less e at found = inl (subst IsSome at found)
      by_only s Equal e at found = inr (sym (exact_unsigned t s e))
      by_only s Greater e at found = inl (subst IsSome at found)

pub none_found : (m : BTreeMap ℕ Bool) → m.entries ≡ [] → (s : ℕ) → ContainsKey nat_cmp m s → ⊥
none_found m empty s found = true≢false (sym found ∙ ap (λ (es : List (ℕ × Bool)). is_some (lookup (is_at (nat_cmp s)) es)) empty)

pub apart_from_removed : (to : ℕ) (old new : BTreeMap ℕ (Vec ℕ)) → UpdatesBy nat_cmp (nat_cmp to) old new None → (q : ℕ) → (q ≡ to → ⊥) → sources_of new.entries q ≡ sources_of old.entries q
apart_from_removed to old new removed q other = ap found_items (removed.2 q (not_at to q other))

-- at the end none waits
pub none_waits : (leaving : BTreeMap ℕ Bool) (waiting : List ℕ) (now : ℕ → List ℕ) (first : Sources) → length waiting ≡ 0 → AreSettled (ContainsKey nat_cmp leaving) waiting now (sources_of first) →
    AreClosedUnder (keys leaving) first
none_waits leaving waiting now first none h t s under among =
    let of_keys = btree_map_contains_key_iff nat_cmp_total exact_unsigned leaving in
    (of_keys t).0 (by (h s) ((of_keys s).1 among))
  where
    by : IsSettled (ContainsKey nat_cmp leaving) waiting now (sources_of first) s → ContainsKey nat_cmp leaving s → ContainsKey nat_cmp leaving t
    by (inl was) found = let c = was.1 found in absurd (omega (arith, none, c.1))
    by (inr all) found = all t under

-- ---- a search comes to its end

-- how many states stand under states
abbrev pub count_under : Sources → ℕ
count_under sources = sum_by (λ v. length v.items) (values_of sources)

pub count_removed : (to : ℕ) (old new : Sources) (list : Vec ℕ) → lookup (is_at (nat_cmp to)) old ≡ Some list → new ≡ remove_entry (is_at (nat_cmp to)) old → count_under new + length list.items ≡ count_under old
count_removed to old new list is removed =
    let all = sum_by-remove_entry (λ (v : Vec ℕ). length v.items) (is_at (nat_cmp to)) old in
    let here = ap (λ (o : Option (Vec ℕ)). unwrap_or (option_map (λ v. length v.items) o) 0) is in
    let left = ap count_under removed in
    omega (arith, all, here, left)

pub one_popped : (waiting rest : List ℕ) (to : ℕ) → waiting ≡ rest ++ to ∷ [] → length waiting ≡ length rest + 1
one_popped waiting rest to popped = ap length popped ∙ length-append rest (to ∷ [])
