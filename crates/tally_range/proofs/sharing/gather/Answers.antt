use Rattle.std.proofs.Common.{◌≡◌, Ok, rules}
use Rattle.passes.proofs.Elements.{all_push}
use Rattle.tally_range.specs.declared.share.Entry.{Entry}
use Rattle.tally_range.specs.inner.Worked.{entry_pass, entry_table}
use Rattle.tally_range.proofs.Backwards.{moved}
use Rattle.tally_range.proofs.sharing.gather.Goals as goal

pub loop-entry-preserved : goal.loop-entry-preserved
loop-entry-preserved c = let i = c.loop-entry.invariant in let e : Entry = c.in-Some.entry in (
  moved entry_pass c.loop-entry.entries.items c.pop.new.self.items e c.loop-entry.passes.items c.push.new.self.items _ _ c.in-Some.ensures.items c.in_ok-push.ensures.items c.parts-pass.ensures.pass i.0,
  moved entry_table c.loop-entry.entries.items c.pop.new.self.items e c.loop-entry.tables.items c.push-in-Some.new.self.items _ _ c.in-Some.ensures.items c.in_ok-push-2.ensures.items c.parts-pass.ensures.table i.1,
  λ rest. i.2 (all_push (λ (e : Entry). e.done ≡ Ok tt) c.pop.new.self.items c.loop-entry.entries.items e c.in-Some.ensures.items rest (search rules)),
)
