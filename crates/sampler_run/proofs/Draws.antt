-- A draw below a bound, from registers to registers.
use Rattle.std.proofs.Common.{◌≡◌, ℕ, ◌<◌, ◌≤◌, pos, List, length, refl, sym, ap, ◌∙◌, subst, arith}
use Rattle.std.specs.Prelude.{◌^◌, slice_get, Some}
use Rattle.gcl_core.specs.declared.answers.Limits.{Limits}
use Rattle.gcl_core.specs.declared.answers.Outcome.{Outcome}
use Rattle.gcl_core.specs.meaning.Draw.{bits_for}
use Rattle.gcl_core.specs.meaning.Syntax.{Expression}
use Rattle.gcl_core.specs.meaning.Value.{value_of}
use Rattle.zar_io.specs.FileBits.{low_bits}
use Rattle.sampler_code.specs.Depths.{greatest_depth}
use Rattle.sampler_code.specs.Instruction.{Instruction, Range}
use Rattle.sampler_code.specs.Machine.{Drawing, idle, below, Machine, goes, ends, act, step, stored, first_attempt, ranges, on_bound}
use Rattle.sampler_code.specs.Sound.{Sound}
use Rattle.sampler_code.specs.inner.Bounded.{rest_of, Answered}
use Rattle.sampler_run.specs.declared.drawing.Attempt.{Attempt}
use Rattle.sampler_run.specs.declared.drawing.Drawing.TheVariants.{Below}
use Rattle.sampler_run.specs.declared.machine.Registers.{Registers}
use Rattle.sampler_run.specs.declared.trials.Came.TheVariants as came
use Rattle.sampler_run.specs.declared.trials.Trial.{Trial}
use Rattle.sampler_run.specs.Views.{drawing_of, machine_of}
use Rattle.sampler_run.specs.declared.machine.Pace.{Pace}
use Rattle.sampler_run.specs.declared.machine.Pace.TheVariants as pace
use Rattle.sampler_run.specs.inner.Ran.{CanRun, HasMoved, MovedTo}
use Rattle.sampler_run.specs.inner.Shape.{SameShape}
use Rattle.sampler_run.specs.inner.Taken.{Takes}
use Rattle.sampler_run.specs.inner.Tried.{at_trial, CameTo, HasTried, HasBegun, Went}
use Rattle.sampler_run.proofs.Settle.{falls, step_same}
use Rattle.sampler_run.proofs.Trying.{step_went, trial_stores, went_answered, both_went}
use Rattle.sampler_run.proofs.Takes.{takes_none, takes_join}

-- ---- registers that stand for the same machine

module _ (code : List Instruction) (l : Limits) (old new : Registers) where
  pub can_same : (count : ℕ) → machine_of new ≡ machine_of old → new.stack ≡ old.stack → CanRun code l old count → CanRun code l new count
  can_same count same stack can = record {
    room = subst (λ n. greatest_depth code ≤ n) (sym stack) can.room;
    sound = subst (λ (m : Machine). Sound code (length m.turns) (length m.vars)) (sym same) can.sound;
    answered = subst (λ m. Answered code l m) (sym same) can.answered;
    bits = can.bits;
  }

-- the machine of a draw that is at an attempt
pub stands_at : (m : Machine) (b : ℕ) (t : Trial) (d : Drawing) → d ≡ below b t.need t.low → (let n : Machine = record m { tries = t.tries; used = t.used; drawing = d } in n) ≡ at_trial m b t
stands_at m b t d is = ap (λ (d : Drawing). let n : Machine = record m { tries = t.tries; used = t.used; drawing = d } in n) is

-- ---- the attempt at which it begins

module _ (code : List Instruction) (l : Limits) (x : ℕ) (e : Expression) (m : Machine) (at : slice_get code m.index ≡ Some (Range x e)) (idles : m.drawing ≡ idle) where
  -- the step of a draw that is not under way
  step_idle : step code l m ≡ on_bound (value_of e m.vars) (λ b. goes (first_attempt l m b))
  step_idle = ap (λ o. act l o m) at ∙ ap (λ d. ranges l x e m d) idles

  pub idle_ends : (o : Outcome) → on_bound (value_of e m.vars) (λ b. goes (first_attempt l m b)) ≡ ends o → step code l m ≡ ends o
  idle_ends o none = step_idle ∙ none

  pub idle_begins : (word left b need : ℕ) → Answered code l m → on_bound (value_of e m.vars) (λ b. goes (first_attempt l m b)) ≡ goes (first_attempt l m b) →
      (b < 2 ^ 63) × (0 < b) → need < 64 → need ≡ bits_for b → HasBegun code l m word left b (record { need = need; low = 0; tries = l.attempts; used = m.used; left = left })
  idle_begins word left b need h some small few is =
      let first : first_attempt l m b ≡ at_trial m b (record { need = need; low = 0; tries = l.attempts; used = m.used; left = left }) =
      ap (λ (need : ℕ). record m { tries = l.attempts; drawing = below b need 0 }) (sym is) in
      record { went = step_went code l m _ word left h (step_idle ∙ some ∙ ap goes first); bound = small; need = few; within = omega arith }

-- ---- or the one that is under way

-- an attempt as a plain value
abbrev trial_of : Registers → Attempt → ℕ → Trial
trial_of m a left = record { need = a.need; low = a.low; tries = m.tries; used = m.used; left = left }

pub begun_pending : (code : List Instruction) (l : Limits) (m : Registers) (a : Attempt) (word left : ℕ) → m.drawing ≡ Below a → HasBegun code l (machine_of m) word left a.bound (trial_of m a left)
begun_pending code l m a word left is =
    let n : Machine = machine_of m in
    let here : n ≡ at_trial n a.bound (trial_of m a left) = ap (λ (d : Drawing). record n { drawing = d }) (ap drawing_of is) in
    record {
      went = subst (λ o. Went code l n o word left left) here (record { takes = takes_none _ _ _ (λ v. refl); less = omega arith });
      bound = (a.small, a.some);
      need = a.few;
      within = omega arith;
    }

-- ---- from there on

module _ (code : List Instruction) (l : Limits) (x : ℕ) (e : Expression) (b : ℕ) (old new : Registers) (word left : ℕ) (t u : Trial) (at : slice_get code (machine_of old).index ≡ Some (Range x e))
    (a : Answered code l (machine_of old)) (h : HasBegun code l (machine_of old) word left b t) (tried : HasTried b word t u) (shape : SameShape old new) where
  begun_went : Went code l (machine_of old) (at_trial (machine_of old) b u) word left u.left
  begun_went =
      let m = machine_of old in
      let there = went_answered code l m (at_trial m b t) word left t.left a h.went in
      both_went code l m (at_trial m b t) (at_trial m b u) word left t.left u.left h.went (tried code l x e m at there)

  -- to a number that is drawn and stored
  pub drawn : (v : ℕ) → CameTo b u (came.Number v) → machine_of new ≡ stored (at_trial (machine_of old) b u) x (pos v) → HasMoved code l old new word left u.left pace.On
  drawn v came is =
      let m = machine_of old in
      let n = at_trial m b u in
      let w = begun_went in
      let there = went_answered code l m n word left u.left a w in
      let goes_on : step code l n ≡ goes (machine_of new) =
      trial_stores code l x e b m u at came.0 (subst (λ v. v < b) (sym came.1) came.2) ∙ ap (λ v. goes (stored n x (pos v))) came.1 ∙ ap goes (sym is) in
      record {
        takes = takes_join _ _ _ _ _ _ w.takes (takes_none _ _ _ (step_same code l n (machine_of new) there goes_on));
        moved = let less = w.less in let f = falls code l n (machine_of new) there goes_on in omega (arith, less, f);
        shape = shape;
      }

  -- to rest
  pub rests : (p : Pace) → machine_of new ≡ at_trial (machine_of old) b u → MovedTo code l old new left u.left p → HasMoved code l old new word left u.left p
  rests p is moved = record {
    takes = subst (λ n. Takes (rest_of code l (machine_of old)) (rest_of code l n) (low_bits left word) (low_bits u.left word)) (sym is) begun_went.takes;
    moved = moved;
    shape = shape;
  }
