use Rattle.std.proofs.Common.{subst}
use Rattle.gcl_core.specs.text.Texts.{SpellsNone}
use Rattle.gcl_text.specs.Readings.{NoneInText}
use Rattle.library_user.proofs.reading.program.Goals as goal

-- no text is both refused and read
pub returns-in-Err-Coded-clause-none : goal.returns-in-Err-Coded-clause-none
returns-in-Err-Coded-clause-none c = λ refused p spells.
    let text = c.args.text.now in
    let none = subst (NoneInText (SpellsNone text)) c.in-Err-Coded.field-0-is c.in-Err-Coded.ensures.spelled in
    (c.one_reading.ensures.checked text).apart p _ _ spells none
