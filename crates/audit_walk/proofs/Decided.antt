-- Where nothing is undecided, no string of that length needs more.
use Rattle.std.proofs.Common.{◌≡◌, ℕ, zero, suc, Bool, true, false, List, [], ◌∷◌, length, refl, ap, arith}
use Rattle.std.specs.Prelude.{if◌then◌else◌}
use Rattle.gcl_core.specs.declared.answers.Answer.{Answer}
use Rattle.weighing_law.specs.Counting.{strings_that}
use Rattle.weighing_law.specs.Prefixes.{needs_more}
use Rattle.weighing_law.specs.Weighing.{Suffices}
use Rattle.audit_walk.specs.Audited.{undecided_by}

fails_by : (t : Bool) → ◌≡◌ {A = ℕ} (if t then 1 else 0) 0 → t ≡ false
fails_by true e = absurd (omega arith)
fails_by false e = refl

none_passes : (test : List Bool → Bool) (h : ℕ) → strings_that test h ≡ 0 → (w : List Bool) → length w ≡ h → test w ≡ false
none_passes test zero e [] l = fails_by (test []) e
none_passes test zero e (b ∷ w) l = absurd (omega arith)
none_passes test (suc h) e [] l = absurd (omega arith)
none_passes test (suc h) e (false ∷ w) l = none_passes (λ v. test (false ∷ v)) h (omega arith) w (omega arith)
none_passes test (suc h) e (true ∷ w) l = none_passes (λ v. test (true ∷ v)) h (omega arith) w (omega arith)

pub suffices : (run : List Bool → Answer) (h : ℕ) → undecided_by run h ≡ 0 → Suffices run h
suffices run h e w l read is =
    let f = none_passes (λ v. needs_more (run v)) h e w l in
    let g : needs_more (run w) ≡ true = ap needs_more is in
    absurd (cc)
