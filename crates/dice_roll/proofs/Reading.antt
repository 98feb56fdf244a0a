-- What a roll has read so far of a source of bits, whatever it makes of them. The words for a source are parameters.
use Rattle.std.proofs.Common.{◌≡◌, ◌∙◌, ℕ, Bool, Option, Some, None, Result, Ok, List, [], refl}
use Rattle.std.specs.Prelude.{IsTrue}
use Rattle.zar_io.specs.declared.outside.Failed.{Failed}
use Rattle.zar_io.specs.declared.trace.Event.{Event}
use Rattle.zar_io.specs.GoesOn.{GoesOn}
use Rattle.zar_io.specs.Trace.{failures}
use Rattle.zar_io.proofs.TraceLemmas.{goes_on-none, goes_on-more}

-- what has ended answers nothing more
pub still_there : {A : Type 0} {a : A} (o : Option A) → ◌≡◌ {A = Result (Option A) Failed} (Ok o) (Ok None) → o ≡ Some a → ⊥
still_there o e f = cc

module _ {B : Type 0} (answered : B → List Event) (ended broken : B → Bool) (source : B → ℕ) where
  -- so many bits were taken, and none was missing
  pub record HasRead (first now : B) (read : ℕ) : Type 0 where
    pub alive : IsTrue (ended first) → read ≡ 0
    pub fails : failures (answered now) ≡ failures (answered first)
    pub goes_on : GoesOn [] (answered first) (answered now)
    pub same_end : ended now ≡ ended first
    pub same_break : broken now ≡ broken first
    pub same_source : source now ≡ source first

  pub none_read : (bits : B) → HasRead bits bits 0
  none_read bits = record {
    alive = λ had_ended. refl;
    fails = refl;
    goes_on = goes_on-none (answered bits) (answered bits) refl;
    same_end = refl;
    same_break = refl;
    same_source = refl;
  }

  -- some more are taken
  pub read_on : (first now next : B) (read after : ℕ) → HasRead first now read → ¬ (IsTrue (ended now))
      → failures (answered next) ≡ failures (answered now) → GoesOn [] (answered now) (answered next)
      → ended next ≡ ended now → broken next ≡ broken now → source next ≡ source now → HasRead first next after
  read_on first now next read after so_far not_ended fails on end break same = record {
    alive = λ had_ended. absurd (not_ended (so_far.same_end ∙ had_ended));
    fails = fails ∙ so_far.fails;
    goes_on = goes_on-more [] (answered first) (answered now) (answered next) so_far.goes_on on;
    same_end = end ∙ so_far.same_end;
    same_break = break ∙ so_far.same_break;
    same_source = same ∙ so_far.same_source;
  }
