-- A uniform draw of one state, by the value of its bound.
use Rattle.std.proofs.Common.{◌≡◌, ℕ, zero, suc, ◌+◌, ℤ, pos, negsuc, ◌≤ℤ◌, Ok, Err, Option, [], ◌∷◌, ◌++◌, slice_set, append_assoc, refl, sym, ap, ◌∙◌, subst, arith}
use Rattle.std.proofs.lemmas.Int.{ints}
use Rattle.gcl_core.specs.declared.answers.Fault.{Fault}
use Rattle.gcl_core.specs.declared.answers.Fault.TheVariants.{BadBound}
use Rattle.gcl_core.specs.declared.answers.Limit.TheVariants.{Attempts}
use Rattle.gcl_core.specs.meaning.Blocks.{End, fault, limit}
use Rattle.gcl_core.specs.meaning.Value.{State, Value}
use Rattle.table_flow.specs.Tables.{below_go, number_go}
use Rattle.scaled_fold.proofs.DrawnPairs.{drawn_pairs, undrawn_pairs}
use Rattle.mass_fold.proofs.Bounds.{unsigned, IsBound}
use Rattle.units_law.specs.Down.{down, share_of, rest_of}
use Rattle.scaled_law.specs.Pairs.{Pair, Pairs, counted_pairs, pairs_kind, put_pair, put_pairs}
use Rattle.scaled_law.specs.Up.{up, share_up, rest_up}
use Rattle.scaled_fold.specs.declared.ended.Ended.{Ended}
use Rattle.scaled_fold.specs.inner.Ended.{EndsWith}
use Rattle.scaled_fold.proofs.Merged.{put_further}

-- the first entry's, before those of the rest
pub drawn_first : (x : ℕ) (v : State → Value) (r : Option ℕ) (s : State) (w : Pair) (J : Pairs State) →
    drawn_pairs x v r ((s, w) ∷ J) ≡ drawn_pairs x v r ((s, w) ∷ []) ++ drawn_pairs x v r J
drawn_first x v r s w J = sym (append_assoc _ [] (drawn_pairs x v r J))

pub undrawn_first : (x : ℕ) (v : State → Value) (r : Option ℕ) (s : State) (w : Pair) (J : Pairs State) →
    undrawn_pairs x v r ((s, w) ∷ J) ≡ undrawn_pairs x v r ((s, w) ∷ []) ++ undrawn_pairs x v r J
undrawn_first x v r s w J = sym (append_assoc _ [] (undrawn_pairs x v r J))

-- one number more
pub number_more : (x i : ℕ) (s t : State) (w : Pair) (es fs fs' : Pairs State) → t ≡ slice_set s x (pos i) → fs ≡ put_pairs es (below_go counted_pairs x i ((s, w) ∷ [])) → fs' ≡ put_pair fs t w.0 w.1 →
    fs' ≡ put_pairs es (below_go counted_pairs x (i + 1) ((s, w) ∷ []))
number_more x i s t w es fs fs' q p r =
    let n : i + 1 ≡ suc i = omega arith in
    let J = below_go counted_pairs x i ((s, w) ∷ []) in
    r ∙ ap (λ t. put_pair fs t w.0 w.1) q ∙ ap (λ fs. put_pair fs (slice_set s x (pos i)) w.0 w.1) p ∙ sym (put_further es J ((slice_set s x (pos i), w) ∷ []))
    ∙ sym (ap (λ n. put_pairs es (below_go counted_pairs x n ((s, w) ∷ []))) n)

module _ (x : ℕ) (r : Option ℕ) (s : State) (w : Pair) where
  -- what each number gets
  abbrev pub each : ℕ → Pair
  each m = (share_of m r 1 w.0, share_up m r 1 w.1)

  -- and what none gets
  abbrev pub none_of : ℕ → Pair
  none_of m = (rest_of m r w.0, rest_up m r w.1)

  abbrev pub drawn_at : Value → Pairs State
  drawn_at o = (number_go (pairs_kind down up) r x o (s, w)).next ++ []

  abbrev pub undrawn_at : Value → Pairs End
  undrawn_at o = (number_go (pairs_kind down up) r x o (s, w)).ended ++ []

  abbrev pub AddedAt : Value → Pairs State → Pairs State → Type 0
  AddedAt o es fs = fs ≡ put_pairs es (drawn_at o)

  abbrev pub StoppedAt : Value → Ended → Ended → Type 0
  StoppedAt o E F = EndsWith E (undrawn_at o) F

  pub fault_added : (o : Value) (f : Fault) (es : Pairs State) → o ≡ Err f → AddedAt o es es
  fault_added o f es e = subst (λ o. AddedAt o es es) (sym e) refl

  pub fault_stopped : (o : Value) (f : Fault) (E F : Ended) → o ≡ Err f → EndsWith E ((fault f, w) ∷ []) F → StoppedAt o E F
  fault_stopped o f E F e h = subst (λ o. StoppedAt o E F) (sym e) h

  bad : (z : ℤ) → (pos 1 ≤ℤ z → ⊥) → (P : ℤ → Type 0) → P (pos 0) → ((m : ℕ) → P (negsuc m)) → P z
  bad (pos zero) h P p q = p
  bad (pos (suc m)) h P p q = absurd (h (omega (arith, ints)))
  bad (negsuc m) h P p q = q m

  pub bad_added : (o : Value) (z : ℤ) (es : Pairs State) → o ≡ Ok z → (pos 1 ≤ℤ z → ⊥) → AddedAt o es es
  bad_added o z es e h = subst (λ o. AddedAt o es es) (sym e) (bad z h (λ z. AddedAt (Ok z) es es) refl (λ k. refl))

  pub bad_stopped : (o : Value) (z : ℤ) (E F : Ended) → o ≡ Ok z → (pos 1 ≤ℤ z → ⊥) → EndsWith E ((fault BadBound, w) ∷ []) F → StoppedAt o E F
  bad_stopped o z E F e h g = subst (λ o. StoppedAt o E F) (sym e) (bad z h (λ z. StoppedAt (Ok z) E F) g (λ k. g))

  module _ (o : Value) (z : ℤ) (e : o ≡ Ok z) (b : IsBound z) where
    is_value : Ok (pos (suc b.less)) ≡ o
    is_value = sym (e ∙ ap Ok b.is)

    pub draw_added : (es fs : Pairs State) → fs ≡ put_pairs es (below_go counted_pairs x (unsigned z) ((s, each (unsigned z)) ∷ [])) → AddedAt o es fs
    draw_added es fs a =
        let k : fs ≡ put_pairs es (below_go counted_pairs x (suc b.less) ((s, each (suc b.less)) ∷ [])) = subst (λ n. fs ≡ put_pairs es (below_go counted_pairs x n ((s, each n) ∷ []))) b.cast a in
        subst (λ o. AddedAt o es fs) is_value (k ∙ sym (put_further es (below_go counted_pairs x (suc b.less) ((s, each (suc b.less)) ∷ [])) []))

    -- by a draw among m numbers, of which no attempt of s decides u
    pub draw_stopped : (E F : Ended) (m : ℕ) (s : Option ℕ) (u : Pair) → m ≡ unsigned z → s ≡ r → u ≡ (rest_of m s w.0, rest_up m s w.1) → EndsWith E ((limit Attempts, u) ∷ []) F → StoppedAt o E F
    draw_stopped E F m s u bound attempts rest h =
        let k = subst (λ u. EndsWith E ((limit Attempts, u) ∷ []) F) rest h in
        let l = subst (λ s. EndsWith E ((limit Attempts, (rest_of m s w.0, rest_up m s w.1)) ∷ []) F) attempts k in
        subst (λ o. StoppedAt o E F) is_value (subst (λ n. EndsWith E ((limit Attempts, none_of n) ∷ []) F) (bound ∙ b.cast) l)
