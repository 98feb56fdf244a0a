use Rattle.std.proofs.Common.{refl}
use Rattle.gcl_core.specs.meaning.Draw.{choice_ends}
use Rattle.mass_fold.proofs.Prices.{draw_wide, draw_adds}
use Rattle.mass_fold.proofs.meter.count_choice.Goals as goal

pub returns-in-None : goal.returns-in-None
returns-in-None c =
    draw_wide (choice_ends c.args.p) c.args.p.den refl c.args.attempts.most c.choice_bits.result c.choice_bits.ensures.value c.args.meter c.in-Bits.field-0 c.args.table.now.states.entries c.requires.table c.in-Bits.is c.in-None.ensures.cause

pub returns-in-Some : goal.returns-in-Some
returns-in-Some c =
    draw_adds (choice_ends c.args.p) c.args.p.den refl c.args.attempts.most c.choice_bits.result c.choice_bits.ensures.value c.in-Some.bits c.args.table.now.states.entries c.args.meter c.add_each.result c.in-Some.ensures.value c.add_each.ensures
