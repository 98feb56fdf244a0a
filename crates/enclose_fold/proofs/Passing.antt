-- A loop over the entries of a table: what it has put and what has ended make up, with what the entries that are left give, for what
-- all of them give.
use Rattle.std.proofs.Common.{◌≡◌, ℕ, ◌+◌, ◌*◌, ◌≤◌, [], ◌∷◌, length, refl, ap, subst, arith}
use Rattle.gcl_core.specs.meaning.Value.{State}
use Rattle.gcl_core.specs.meaning.Blocks.{End}
use Rattle.units_law.specs.Merged.{merged, IsMerged}
use Rattle.units_law.specs.Units.{Units, held, total}
use Rattle.enclose_fold.specs.declared.ended.Ended.{Ended}
use Rattle.enclose_fold.specs.inner.Ended.{units_of, EndsWith}
use Rattle.enclose_fold.proofs.Putting.{is_merged}

-- what is given of each entry by itself
pub record IsEach {A : Type 0} (step : Units State → Units A) : Type 0 where
  pub none : step [] ≡ []
  pub more : (e : State × ℕ) (J : Units State) (G : A → ℕ) → held G (step (e ∷ J)) ≡ held G (step (e ∷ [])) + held G (step J)

-- of the entries es, with some left, in a table that began as bs
pub record Passes (step : Units State → Units State) (bs es fs rest : Units State) : Type 0 where
  pub going : (G : State → ℕ) → held G fs + held G (step rest) ≡ held G bs + held G (step es)
  pub few : length fs + length rest ≤ length bs + length es

pub record Stops (stop : Units State → Units End) (es : Units State) (E F : Ended) (rest : Units State) : Type 0 where
  pub stopping : (G : End → ℕ) → held G (units_of F) + held G (stop rest) ≡ held G (units_of E) + held G (stop es)

module _ (step : Units State → Units State) (each : IsEach step) (bs es : Units State) where
  pub pass_start : (fs rest : Units State) → fs ≡ bs → rest ≡ es → Passes step bs es fs rest
  pass_start fs rest p q = rw (p, q) (record { going = λ G. refl; few = omega arith })

  pub pass_along : (fs rest rest' : Units State) → rest ≡ rest' → Passes step bs es fs rest → Passes step bs es fs rest'
  pass_along fs rest rest' p h = subst (Passes step bs es fs) p h

  module _ (fs rest : Units State) (s : State) (w : ℕ) (h : Passes step bs es fs ((s, w) ∷ rest)) where
    pub pass_go : (fs' : Units State) → ((G : State → ℕ) → held G fs' ≡ held G fs + held G (step ((s, w) ∷ []))) → length fs' ≤ length fs + 1 → Passes step bs es fs' rest
    pass_go fs' p l = record {
      going = λ G. let a = h.going G in let b = p G in let c = each.more (s, w) rest G in omega arith;
      few = let a = h.few in omega (arith, l);
    }

    pub pass_skip : ((G : State → ℕ) → held G (step ((s, w) ∷ [])) ≡ 0) → Passes step bs es fs rest
    pass_skip p = record {
      going = λ G. let a = h.going G in let b = p G in let c = each.more (s, w) rest G in omega arith;
      few = let a = h.few in omega arith;
    }

    -- what is left of room
    pub pass_room : total fs + total (step ((s, w) ∷ [])) ≤ total bs + total (step es)
    pass_room = let a = h.going (λ s. 1) in let c = each.more (s, w) rest (λ s. 1) in omega arith

  pub pass_end : (fs : Units State) → Passes step bs es fs [] → (G : State → ℕ) → held G fs ≡ held G bs + held G (step es)
  pass_end fs h G = let a = h.going G in let b = ap (held G) each.none in omega arith

-- where the table began empty
pub pass_all : (step : Units State → Units State) → IsEach step → (es fs : Units State) → IsMerged fs → Passes step [] es fs [] → fs ≡ merged (step es)
pass_all step each es fs m h = is_merged fs (step es) m (λ G. let a = pass_end step each [] es fs h G in omega arith)

module _ (stop : Units State → Units End) (each : IsEach stop) (es : Units State) (E : Ended) where
  pub stop_start : (rest : Units State) → rest ≡ es → Stops stop es E E rest
  stop_start rest q = rw q (record { stopping = λ G. refl })

  pub stop_along : (F : Ended) (rest rest' : Units State) → rest ≡ rest' → Stops stop es E F rest → Stops stop es E F rest'
  stop_along F rest rest' p h = subst (Stops stop es E F) p h

  module _ (F : Ended) (s : State) (w : ℕ) (rest : Units State) (h : Stops stop es E F ((s, w) ∷ rest)) where
    pub stop_go : (F' : Ended) → ((G : End → ℕ) → held G (units_of F') ≡ held G (units_of F) + held G (stop ((s, w) ∷ []))) → Stops stop es E F' rest
    stop_go F' p = record { stopping = λ G. let a = h.stopping G in let b = p G in let c = each.more (s, w) rest G in omega arith }

    pub stop_skip : ((G : End → ℕ) → held G (stop ((s, w) ∷ [])) ≡ 0) → Stops stop es E F rest
    stop_skip p = record { stopping = λ G. let a = h.stopping G in let b = p G in let c = each.more (s, w) rest G in omega arith }

    pub stop_room : total (units_of F) + total (stop ((s, w) ∷ [])) ≤ total (units_of E) + total (stop es)
    stop_room = let a = h.stopping (λ x. 1) in let c = each.more (s, w) rest (λ x. 1) in omega arith

  pub stop_all : (F : Ended) → Stops stop es E F [] → EndsWith E (stop es) F
  stop_all F h G = let a = h.stopping G in let b = ap (held G) each.none in omega arith

-- what ended besides, where that is one way alone
pub one_ended : (E F : Ended) (x : End) (w : ℕ) → EndsWith E ((x, w) ∷ []) F → (G : End → ℕ) (k : ℕ) → k ≡ w * G x → held G (units_of F) ≡ held G (units_of E) + k
one_ended E F x w h G k e = let a = h G in omega arith
