use Rattle.std.proofs.Common.{◌≡◌, ◌∙◌, ap, subst, arith, to_z, of_z, w64}
use Rattle.std.proofs.lemmas.Int.{to_z-of_z}
use Rattle.gcl_core.specs.declared.answers.Limits.{Limits}
use Rattle.gcl_core.specs.declared.answers.TallyKey.{TallyKey}
use Rattle.gcl_core.specs.meaning.Syntax.{SourceProgram}
use Rattle.gcl_core.specs.meaning.Views.{source_of}
use Rattle.zar_c.specs.Counts.{range_by}
use Rattle.zar_c.specs.Draws.{limits_of}
use Rattle.zar_c.specs.Hunts.{IsFound, key_by}
use Rattle.zar_c.proofs.hunts.zar_hunt.Goals as goal

-- the text spells one program
pub returns-in-Ok-found_of-clause-found : goal.returns-in-Ok-found_of-clause-found
returns-in-Ok-found_of-clause-found c = λ done p spells.
    let limits = c.args.limits.now in
    let range = range_by c.args.seed c.args.from c.args.to limits.budget in
    let want = key_by c.args.value c.args.end in
    let it = c.in-Ok-found_of.it in
    let q = source_of c.in-Ok.program in
    let same = (c.one_reading.ensures.checked c.args.text.now).one_program q p c.in-Ok.ensures.spelled spells in
    let kept : to_z w64 (of_z w64 c.args.value) ≡ c.args.value = grind (arith, to_z-of_z) in
    let keyed = subst (λ (k : TallyKey). IsFound q c.run_limits.result range k it) (c.key_by.ensures ∙ ap (λ v. key_by v c.args.end) kept) c.in-Ok-found_of.ensures in
    let found = subst (λ (l : Limits). IsFound q l range want it) c.run_limits.ensures keyed in
    subst (λ (r : SourceProgram). IsFound r (limits_of limits) range want it) same found
