-- A uniform draw of one state: its numbers, and the value of its bound.
use Rattle.std.proofs.Common.{◌≡◌, ◌∙◌, ℕ, zero, suc, ◌+◌, ◌-◌, ◌*◌, ◌≤◌, ◌<◌, ℤ, pos, negsuc, ◌≤ℤ◌, Ok, Err, Option, [], ◌∷◌, ◌++◌, slice_set, refl, sym, ap, subst, arith}
use Rattle.std.proofs.lemmas.Int.{ints}
use Rattle.numbers.specs.declared.units.TheConstants.{ALL}
use Rattle.gcl_core.specs.declared.answers.Fault.{Fault}
use Rattle.gcl_core.specs.declared.answers.Fault.TheVariants.{BadBound}
use Rattle.gcl_core.specs.declared.answers.Limit.TheVariants.{Attempts}
use Rattle.gcl_core.specs.meaning.Value.{State, Value}
use Rattle.gcl_core.specs.meaning.Blocks.{End, fault, limit}
use Rattle.mass_fold.proofs.Bounds.{unsigned, IsBound}
use Rattle.units_law.specs.Down.{share_of, rest_of, down}
use Rattle.units_law.specs.Merged.{merged, IsMerged}
use Rattle.units_law.specs.Units.{Units, held, total}
use Rattle.units_law.specs.Rounding.{units_kind}
use Rattle.units_law.proofs.UnitWords.{below_units}
use Rattle.units_law.proofs.Held.{held_append}
use Rattle.units_law.proofs.Merging.{merged_same}
use Rattle.enclose_fold.specs.declared.error.EncloseError.{EncloseError}
use Rattle.enclose_fold.specs.declared.ended.Ended.{Ended}
use Rattle.enclose_fold.specs.inner.Ended.{EndsWith}
use Rattle.enclose_fold.specs.inner.Refusals.{RefusedAt}
use Rattle.enclose_fold.proofs.Putting.{is_merged, refused_in}
use Rattle.enclose_fold.proofs.Within.{drawn_within}
use Rattle.table_flow.specs.Tables.{number_go}

-- ---- the numbers from i on

-- those after i
pub record NumbersAfter (x i m : ℕ) (s : State) (h : ℕ) : Type 0 where
  pub rest : Units State
  pub is : (G : State → ℕ) → held G (below_units x i s h) + h * G (slice_set s x (pos i)) + held G rest ≡ held G (below_units x m s h)

module _ (x : ℕ) (s : State) (h : ℕ) where
  after : (i k : ℕ) → NumbersAfter x i (k + suc i) s h
  after i zero =
      let e : zero + suc i ≡ suc i = omega arith in
      subst (λ m. NumbersAfter x i m s h) (sym e)
      (record { rest = []; is = λ G. let a = held_append G (below_units x i s h) ((slice_set s x (pos i), h) ∷ []) in omega arith })
  after i (suc k) =
      let r = after i k in
      let m = k + suc i in
      let e : suc k + suc i ≡ suc m = omega arith in
      subst (λ m. NumbersAfter x i m s h) (sym e)
      (record {
        rest = r.rest ++ (slice_set s x (pos m), h) ∷ [];
        is = λ G. let a = held_append G (below_units x m s h) ((slice_set s x (pos m), h) ∷ []) in let b = held_append G r.rest ((slice_set s x (pos m), h) ∷ []) in let d = r.is G in omega arith;
      })

  pub numbers_after : (i m : ℕ) → i < m → NumbersAfter x i m s h
  numbers_after i m p = let e : m - suc i + suc i ≡ m = omega (arith, p) in subst (λ m. NumbersAfter x i m s h) e (after i (m - suc i))

-- one number more
pub number_more : (x i : ℕ) (s t : State) (h : ℕ) (bs fs fs' : Units State) → t ≡ slice_set s x (pos i) → ((G : State → ℕ) → held G fs ≡ held G bs + held G (below_units x i s h)) →
    ((G : State → ℕ) → held G fs' ≡ held G fs + h * G t) → (G : State → ℕ) → held G fs' ≡ held G bs + held G (below_units x (i + 1) s h)
number_more x i s t h bs fs fs' q p r G =
    let n : i + 1 ≡ suc i = omega arith in
    let e = ap (λ k. held G (below_units x k s h)) n in
    let a = held_append G (below_units x i s h) ((slice_set s x (pos i), h) ∷ []) in
    let b = p G in
    let d = r G in
    let f = ap (λ t. h * G t) q in
    omega arith

pub numbers_refused : (e : EncloseError) (x i m : ℕ) (s t : State) (h : ℕ) (bs fs : Units State) → i < m → t ≡ slice_set s x (pos i) →
    ((G : State → ℕ) → held G fs ≡ held G bs + held G (below_units x i s h)) → RefusedAt (fs ++ (t, h) ∷ []) e → RefusedAt (bs ++ below_units x m s h) e
numbers_refused e x i m s t h bs fs l q p r =
    let n = numbers_after x s h i m l in
    refused_in e (fs ++ (t, h) ∷ []) n.rest (bs ++ below_units x m s h)
    (λ G. let a = held_append G fs ((t, h) ∷ []) in let b = held_append G bs (below_units x m s h) in let d = p G in let f = n.is G in let g = ap (λ t. h * G t) q in omega arith) r

-- what is left of room
pub numbers_room : (x i m : ℕ) (s : State) (h : ℕ) (bs fs : Units State) → i < m → ((G : State → ℕ) → held G fs ≡ held G bs + held G (below_units x i s h)) →
    total fs + h ≤ total bs + total (below_units x m s h)
numbers_room x i m s h bs fs l p = let n = numbers_after x s h i m l in let a = n.is (λ s. 1) in let b = p (λ s. 1) in omega arith

-- of 0 units nothing comes
pub numbers_none : (x m : ℕ) (s : State) (h : ℕ) → h ≡ 0 → (G : State → ℕ) → held G (below_units x m s h) ≡ 0
numbers_none x zero s h e G = refl
numbers_none x (suc m) s h e G =
    let i = numbers_none x m s h e G in
    let a = held_append G (below_units x m s h) ((slice_set s x (pos m), h) ∷ []) in
    let b = ap (λ h. h * G (slice_set s x (pos m))) e in
    omega arith

-- the units of one state are enough
pub state_within : (x : ℕ) (r : Option ℕ) (m : ℕ) (s : State) (w : ℕ) → 1 ≤ m → w ≤ ALL → total (below_units x m s (share_of m r 1 w)) + rest_of m r w ≤ w
state_within x r zero s w p l = absurd (omega (arith, p))
state_within x r (suc k) s w p l =
    let a = drawn_within r ((s, w) ∷ []) (omega (arith, l)) x (λ s. Ok (pos (suc k))) in
    let b = held_append (λ s. 1) (below_units x (suc k) s (share_of (suc k) r 1 w)) [] in
    omega (arith, a, b)

-- ---- what the value of a bound gives

module _ (x : ℕ) (r : Option ℕ) (s : State) (w : ℕ) where
  abbrev pub drawn_at : Value → Units State
  drawn_at o = (number_go (units_kind down) r x o (s, w)).next ++ []

  abbrev pub undrawn_at : Value → Units End
  undrawn_at o = (number_go (units_kind down) r x o (s, w)).ended ++ []

  abbrev pub AddedAt : Value → Units State → Units State → Type 0
  AddedAt o fs fs' = fs' ≡ merged (fs ++ drawn_at o)

  abbrev pub StoppedAt : Value → Ended → Ended → Type 0
  StoppedAt o F F' = EndsWith F (undrawn_at o) F'

  none_added : (fs : Units State) → IsMerged fs → fs ≡ merged (fs ++ [])
  none_added fs m = is_merged fs (fs ++ []) m (λ G. let a = held_append G fs [] in omega arith)

  pub fault_added : (o : Value) (f : Fault) (fs : Units State) → o ≡ Err f → IsMerged fs → AddedAt o fs fs
  fault_added o f fs e m = subst (λ o. AddedAt o fs fs) (sym e) (none_added fs m)

  pub fault_stopped : (o : Value) (f : Fault) (F F' : Ended) → o ≡ Err f → EndsWith F ((fault f, w) ∷ []) F' → StoppedAt o F F'
  fault_stopped o f F F' e h = subst (λ o. StoppedAt o F F') (sym e) h

  bad : (z : ℤ) → (pos 1 ≤ℤ z → ⊥) → (P : ℤ → Type 0) → P (pos 0) → ((m : ℕ) → P (negsuc m)) → P z
  bad (pos zero) h P p q = p
  bad (pos (suc m)) h P p q = absurd (h (omega (arith, ints)))
  bad (negsuc m) h P p q = q m

  pub bad_added : (o : Value) (z : ℤ) (fs : Units State) → o ≡ Ok z → (pos 1 ≤ℤ z → ⊥) → IsMerged fs → AddedAt o fs fs
  bad_added o z fs e h m = subst (λ o. AddedAt o fs fs) (sym e) (bad z h (λ z. AddedAt (Ok z) fs fs) (none_added fs m) (λ k. none_added fs m))

  pub bad_stopped : (o : Value) (z : ℤ) (F F' : Ended) → o ≡ Ok z → (pos 1 ≤ℤ z → ⊥) → EndsWith F ((fault BadBound, w) ∷ []) F' → StoppedAt o F F'
  bad_stopped o z F F' e h g = subst (λ o. StoppedAt o F F') (sym e) (bad z h (λ z. StoppedAt (Ok z) F F') g (λ k. g))

  module _ (o : Value) (z : ℤ) (e : o ≡ Ok z) (b : IsBound z) where
    is_value : Ok (pos (suc b.less)) ≡ o
    is_value = sym (e ∙ ap Ok b.is)

    same_numbers : (fs : Units State) (G : State → ℕ) → held G (fs ++ below_units x (suc b.less) s (share_of (suc b.less) r 1 w)) ≡ held G (fs ++ drawn_at (Ok (pos (suc b.less))))
    same_numbers fs G =
        let J = below_units x (suc b.less) s (share_of (suc b.less) r 1 w) in
        let p = held_append G fs J in
        let q = held_append G fs (J ++ []) in
        let t = held_append G J [] in
        omega arith

    pub draw_added : (fs fs' : Units State) → fs' ≡ merged (fs ++ below_units x (unsigned z) s (share_of (unsigned z) r 1 w)) → AddedAt o fs fs'
    draw_added fs fs' a =
        let k : fs' ≡ merged (fs ++ below_units x (suc b.less) s (share_of (suc b.less) r 1 w)) = subst (λ n. fs' ≡ merged (fs ++ below_units x n s (share_of n r 1 w))) b.cast a in
        subst (λ o. AddedAt o fs fs') is_value (k ∙ merged_same _ _ (same_numbers fs))

    pub draw_stopped : (F F' : Ended) → EndsWith F ((limit Attempts, rest_of (unsigned z) r w) ∷ []) F' → StoppedAt o F F'
    draw_stopped F F' a =
        let k : EndsWith F ((limit Attempts, rest_of (suc b.less) r w) ∷ []) F' = subst (λ n. EndsWith F ((limit Attempts, rest_of n r w) ∷ []) F') b.cast a in
        subst (λ o. StoppedAt o F F') is_value k

    pub draw_refused : (fs : Units State) (error : EncloseError) → RefusedAt (fs ++ below_units x (unsigned z) s (share_of (unsigned z) r 1 w)) error → RefusedAt (fs ++ drawn_at o) error
    draw_refused fs error a =
        let k : RefusedAt (fs ++ below_units x (suc b.less) s (share_of (suc b.less) r 1 w)) error = subst (λ n. RefusedAt (fs ++ below_units x n s (share_of n r 1 w)) error) b.cast a in
        subst (λ o. RefusedAt (fs ++ drawn_at o) error) is_value
        (refused_in error (fs ++ below_units x (suc b.less) s (share_of (suc b.less) r 1 w)) [] (fs ++ drawn_at (Ok (pos (suc b.less)))) (λ G. let t = same_numbers fs G in omega arith) k)
