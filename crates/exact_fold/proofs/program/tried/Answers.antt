use Rattle.std.proofs.Common.{◌≡◌, ℕ, zero, suc, ◌<◌, None, refl, subst, arith}
use Rattle.numbers.specs.Fraction.{lowest}
use Rattle.gcl_core.specs.declared.answers.Limit.TheVariants.{Turns}
use Rattle.gcl_core.specs.declared.answers.Outcome.TheVariants as outcome
use Rattle.gcl_core.specs.meaning.Views.{source_of}
use Rattle.gcl_core.specs.weighing.Mass.{mass_of}
use Rattle.mass_fold.specs.Refused.{MassRefused}
use Rattle.exact_fold.specs.Refused.{runs_on}
use Rattle.exact_fold.specs.declared.program.TheConstants.{TURNS_TRIED}
use Rattle.exact_fold.proofs.EndedMasses.{no_mass_suffices, all_fail_suffices, ended_exact, ended_fails}
use Rattle.exact_fold.proofs.InTheLimit.{is_exact_in_the_limit, fails_in_the_limit}
use Rattle.exact_fold.proofs.program.tried.Goals as goal

nothing : (n : ℕ) → (0 < n → ⊥) → n ≡ 0
nothing zero h = refl
nothing (suc n) h = absurd (h (omega arith))

pub returns-in-Some-clause-refused : goal.returns-in-Some-clause-refused
returns-in-Some-clause-refused c = c.requires (runs_on (c.in-Ok.ensures.rows.each (outcome.Limit Turns) c.in-Some.field-0 c.in-Some.ensures.found).0)

pub returns-in-None-clause-masses : goal.returns-in-None-clause-masses
returns-in-None-clause-masses c =
    let program = source_of c.args.program.now in
    let answered = c.in-Ok.ensures in
    let out_of_turns = outcome.Limit Turns in
    let mass = mass_of program TURNS_TRIED None None out_of_turns in
    let suffice = no_mass_suffices program c.is_kept.ensures.kept TURNS_TRIED (omega arith) (nothing mass.0 (λ some. c.in-None.ensures.none (lowest mass) (answered.rows.all out_of_turns some))) in
    ended_exact program c.is_kept.ensures.kept TURNS_TRIED (omega arith) suffice answered.passes c.in-Ok.rows c.of.result answered.rows c.of.ensures.lowest (omega (arith, c.of.ensures.equal))

pub returns-in-None-clause-limits : goal.returns-in-None-clause-limits
returns-in-None-clause-limits c = is_exact_in_the_limit (source_of c.args.program.now) c.is_kept.ensures.kept c.in-Ok.rows c.of.result (returns-in-None-clause-masses c)

pub returns-in-Err-AllFailed-clause-refused : goal.returns-in-Err-AllFailed-clause-refused
returns-in-Err-AllFailed-clause-refused c =
    let program = source_of c.args.program.now in
    let one = (subst (λ e. MassRefused e program TURNS_TRIED None None) c.in-Err-AllFailed.field-0-is c.in-Err-AllFailed.ensures.refused).1 in
    fails_in_the_limit program c.is_kept.ensures.kept (ended_fails program c.is_kept.ensures.kept TURNS_TRIED (omega arith) (all_fail_suffices program c.is_kept.ensures.kept TURNS_TRIED (omega arith) one) one)
