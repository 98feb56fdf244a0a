-- Runs that take some of the bits at hand.
use Rattle.std.proofs.Common.{◌≡◌, ℕ, zero, suc, ◌<◌, Bool, List, [], ◌∷◌, ◌++◌, length, take, Option, Some, refl, sym, ap, ◌∙◌, subst, arith, append_assoc}
use Rattle.std.proofs.lemmas.List.{append-nil}
use Rattle.gcl_core.specs.declared.answers.Limits.{Limits}
use Rattle.gcl_core.specs.declared.answers.Answer.{Answer}
use Rattle.gcl_core.specs.declared.answers.Answer.TheVariants.{Ended, MoreBits}
use Rattle.sampler_code.specs.Instruction.{Instruction}
use Rattle.sampler_code.specs.Machine.{Machine}
use Rattle.sampler_code.specs.Running.{Reached}
use Rattle.sampler_code.specs.inner.Bounded.{most_steps, rest_of, Answered}
use Rattle.sampler_run.specs.declared.machine.Progress.TheVariants as progress
use Rattle.sampler_run.specs.Sampled.{NeedsBit, WentOn}
use Rattle.sampler_run.specs.Telling.{progress_in}
use Rattle.sampler_run.specs.inner.Taken.{NeedsMore, Needs, Takes}
use Rattle.sampler_run.proofs.Standing.{stands}

needs_more : (run : List Bool → Option Reached) (u : List Bool) (b : Bool) → Needs run u → NeedsMore (run u) → Needs run (u ++ b ∷ [])
needs_more run [] b h n = (n, tt)
needs_more run (x ∷ u) b h n = (h.0, needs_more (λ v. run (x ∷ v)) u b h.1 n)

pub takes_none : (run rest : List Bool → Option Reached) (w : List Bool) → ((v : List Bool) → rest v ≡ run v) → Takes run rest w w
takes_none run rest w e = record { taken = []; split = refl; same = e; needed = tt }

-- one bit more
pub takes_more : (run rest next : List Bool → Option Reached) (b : Bool) (old w new : List Bool) → Takes run rest old w → w ≡ b ∷ new → NeedsMore (rest []) →
    ((v : List Bool) → next v ≡ rest (b ∷ v)) → Takes run next old new
takes_more run rest next b old w new h e n fed = record {
  taken = h.taken ++ b ∷ [];
  split = h.split ∙ ap (λ v. h.taken ++ v) e ∙ sym (append_assoc h.taken (b ∷ []) new);
  same = λ v. fed v ∙ h.same (b ∷ v) ∙ ap run (sym (append_assoc h.taken (b ∷ []) v));
  needed = needs_more run h.taken b h.needed (subst NeedsMore (h.same [] ∙ ap run (append-nil h.taken)) n);
}

-- the rest is the same after a step that takes no bit
pub takes_on : (run rest next : List Bool → Option Reached) (old new : List Bool) → Takes run rest old new → ((v : List Bool) → next v ≡ rest v) →
    Takes run next old new
takes_on run rest next old new h e = record { taken = h.taken; split = h.split; same = λ v. e v ∙ h.same v; needed = h.needed }

needs_join : (run : List Bool → Option Reached) (u v : List Bool) → Needs run u → Needs (λ w. run (u ++ w)) v → Needs run (u ++ v)
needs_join run [] v h i = i
needs_join run (x ∷ u) v h i = (h.0, needs_join (λ w. run (x ∷ w)) u v h.1 i)

needs_same : (f g : List Bool → Option Reached) (u : List Bool) → ((v : List Bool) → f v ≡ g v) → Needs f u → Needs g u
needs_same f g [] e h = tt
needs_same f g (x ∷ u) e h = (subst NeedsMore (e []) h.0, needs_same (λ v. f (x ∷ v)) (λ v. g (x ∷ v)) u (λ v. e (x ∷ v)) h.1)

-- some bits and then some more
pub takes_join : (run rest next : List Bool → Option Reached) (old mid new : List Bool) → Takes run rest old mid → Takes rest next mid new → Takes run next old new
takes_join run rest next old mid new h i = record {
  taken = h.taken ++ i.taken;
  split = h.split ∙ ap (λ v. h.taken ++ v) i.split ∙ sym (append_assoc h.taken i.taken new);
  same = λ v. i.same v ∙ h.same (i.taken ++ v) ∙ ap run (sym (append_assoc h.taken i.taken v));
  needed = needs_join run h.taken i.taken h.needed (needs_same rest (λ w. run (h.taken ++ w)) i.taken h.same i.needed);
}

-- ---- as states see it

needs_at : (run : List Bool → Option Reached) (u : List Bool) (k : ℕ) → Needs run u → k < length u → NeedsMore (run (take k u))
needs_at run [] k h lt = absurd (omega arith)
needs_at run (b ∷ u) zero h lt = h.0
needs_at run (b ∷ u) (suc k) h lt = needs_at (λ v. run (b ∷ v)) u k h.1 (omega arith)

more_bits : (a : Answer) → progress.NeedBit ≡ progress_in a → (n : ℕ) × (a ≡ MoreBits n)
more_bits (MoreBits n) e = (n, refl)
more_bits (Ended x n) e = absurd (cc)

module _ (code : List Instruction) (l : Limits) where
  needs_bit : (m : Machine) (u : List Bool) → Answered code l m → NeedsMore (rest_of code l m u) → NeedsBit (record { code = code; limits = l; machine = m }) u
  needs_bit m u h n =
      let a = h u in
      let more = more_bits a.0.answer (subst NeedsMore a.1 n) in
      (more.0, (a.0.place, (most_steps code l, a.1 ∙ ap (λ x. Some (record { answer = x; place = a.0.place })) more.1)))

  pub went_taken : (m n : Machine) (old new : List Bool) → Answered code l m → Answered code l n → Takes (rest_of code l m) (rest_of code l n) old new →
      WentOn (record { code = code; limits = l; machine = m }) (record { code = code; limits = l; machine = n }) old new
  went_taken m n old new h i t = record {
    asked = record {
      taken = t.taken;
      split = t.split;
      needed = λ k lt. needs_bit m (take k t.taken) h (needs_at (rest_of code l m) t.taken k t.needed lt);
    };
    stands = stands code l m n t.taken h i t.same;
  }
