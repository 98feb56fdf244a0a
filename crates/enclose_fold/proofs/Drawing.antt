-- A loop of uniform draws over the entries of a table.
use Rattle.std.proofs.Common.{◌≡◌, ℕ, ◌+◌, ◌≤◌, Option, [], ◌∷◌, ◌++◌, ap, arith}
use Rattle.numbers.specs.declared.units.TheConstants.{ALL}
use Rattle.gcl_core.specs.meaning.Value.{State, Value}
use Rattle.units_law.specs.Down.{down}
use Rattle.units_law.specs.Merged.{merged, IsMerged}
use Rattle.units_law.specs.Units.{Units, held, total}
use Rattle.units_law.proofs.UnitWords.{drawn_units, undrawn_units}
use Rattle.units_law.proofs.Held.{held_append}
use Rattle.units_law.proofs.Merging.{held_merged}
use Rattle.enclose_fold.specs.declared.error.EncloseError.{EncloseError}
use Rattle.enclose_fold.specs.declared.ended.Ended.{Ended}
use Rattle.enclose_fold.specs.inner.Ended.{units_of, EndsWith}
use Rattle.enclose_fold.specs.inner.Refusals.{RefusedAt}
use Rattle.enclose_fold.proofs.EachEntry.{each_drawn}
use Rattle.enclose_fold.proofs.Putting.{is_merged, refused_in}
use Rattle.enclose_fold.proofs.Within.{drawn_within}

-- a merged list of two
pub both_hold : (fs J fs' : Units State) → fs' ≡ merged (fs ++ J) → (G : State → ℕ) → held G fs' ≡ held G fs + held G J
both_hold fs J fs' p G = let a = ap (held G) p in let b = held_merged (fs ++ J) G in let d = held_append G fs J in omega arith

module _ (x : ℕ) (v : State → Value) (r : Option ℕ) (es : Units State) where
  abbrev drawn : Units State → Units State
  drawn = drawn_units down x v r

  abbrev pub DrawsOn : Units State → Units State → Type 0
  DrawsOn fs rest = (G : State → ℕ) → held G fs + held G (drawn rest) ≡ held G (drawn es)

  pub draws_start : (fs rest : Units State) → fs ≡ [] → rest ≡ es → DrawsOn fs rest
  draws_start fs rest p q G = let a = ap (held G) p in let b = ap (λ J. held G (drawn J)) q in omega arith

  module _ (fs now rest : Units State) (s : State) (w : ℕ) (q : now ≡ (s, w) ∷ rest) (h : DrawsOn fs now) where
    pub draws_next : (fs' : Units State) → fs' ≡ merged (fs ++ drawn ((s, w) ∷ [])) → DrawsOn fs' rest
    draws_next fs' p G =
        let a = h G in
        let b = ap (λ J. held G (drawn J)) q in
        let d = (each_drawn x v r).more (s, w) rest G in
        let f = both_hold fs (drawn ((s, w) ∷ [])) fs' p G in
        omega arith

    pub draws_refused : (e : EncloseError) → RefusedAt (fs ++ drawn ((s, w) ∷ [])) e → RefusedAt (drawn es) e
    draws_refused e = refused_in e (fs ++ drawn ((s, w) ∷ [])) (drawn rest) (drawn es)
        (λ G. let a = h G in let b = ap (λ J. held G (drawn J)) q in let d = (each_drawn x v r).more (s, w) rest G in let f = held_append G fs (drawn ((s, w) ∷ [])) in omega arith)

  pub draws_end : (fs now : Units State) → now ≡ [] → IsMerged fs → DrawsOn fs now → fs ≡ merged (drawn es)
  draws_end fs now q m h = is_merged fs (drawn es) m (λ G. let a = h G in let b = ap (λ J. held G (drawn J)) q in omega arith)

-- no units are made
pub draws_within : (x : ℕ) (v : State → Value) (r : Option ℕ) (fs fs' now rest : Units State) (s : State) (w T : ℕ) (F F' : Ended) → now ≡ (s, w) ∷ rest → w ≤ ALL →
    fs' ≡ merged (fs ++ drawn_units down x v r ((s, w) ∷ [])) → EndsWith F (undrawn_units down x v r ((s, w) ∷ [])) F' →
    total fs + (total (units_of F) + total now) ≤ T → total fs' + (total (units_of F') + total rest) ≤ T
draws_within x v r fs fs' now rest s w T F F' q l p g h =
    let a = both_hold fs (drawn_units down x v r ((s, w) ∷ [])) fs' p (λ s. 1) in
    let b = g (λ x. 1) in
    let d = ap total q in
    let f = drawn_within r ((s, w) ∷ []) (omega (arith, l)) x v in
    omega (arith, h, a, b, d, f)
