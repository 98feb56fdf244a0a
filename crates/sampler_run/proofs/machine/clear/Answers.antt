use Rattle.std.proofs.Common.{◌≡◌, ℤ, pos, List, [], ◌∷◌, length, refl, arith}
use Rattle.std.specs.Prelude.{slice_set}
use Rattle.gcl_core.specs.meaning.Outcomes.{zeros}
use Rattle.sampler_run.proofs.machine.clear.Goals as goal

one : (vars : List ℤ) → length vars ≡ 1 → slice_set vars 0 (pos 0) ≡ zeros (length vars)
one (_ ∷ []) _ = refl
one [] few = absurd (omega (arith, few))
one (_ ∷ _ ∷ _) few = absurd (omega (arith, few))

two : (vars : List ℤ) → length vars ≡ 2 → slice_set (slice_set vars 0 (pos 0)) 1 (pos 0) ≡ zeros (length vars)
two (_ ∷ _ ∷ []) _ = refl
two [] few = absurd (omega (arith, few))
two (_ ∷ []) few = absurd (omega (arith, few))
two (_ ∷ _ ∷ _ ∷ _) few = absurd (omega (arith, few))

three : (vars : List ℤ) → length vars ≡ 3 → slice_set (slice_set (slice_set vars 0 (pos 0)) 1 (pos 0)) 2 (pos 0) ≡ zeros (length vars)
three (_ ∷ _ ∷ _ ∷ []) _ = refl
three [] few = absurd (omega (arith, few))
three (_ ∷ []) few = absurd (omega (arith, few))
three (_ ∷ _ ∷ []) few = absurd (omega (arith, few))
three (_ ∷ _ ∷ _ ∷ _ ∷ _) few = absurd (omega (arith, few))

pub returns-in-1 : goal.returns-in-1
returns-in-1 c = one c.args.vars.now (omega arith)

pub returns-in-2 : goal.returns-in-2
returns-in-2 c = two c.args.vars.now (omega arith)

pub returns-in-3 : goal.returns-in-3
returns-in-3 c = three c.args.vars.now (omega arith)
