use Rattle.std.proofs.Common.{rules, ◌≡◌, ◌∙◌, None, sym, arith}
use Rattle.mass_fold.specs.inner.Amounts.{found, order}
use Rattle.mass_fold.proofs.Entries.{put_many}
use Rattle.mass_fold.proofs.Insertion.{put_wide}
use Rattle.mass_fold.proofs.table.put.Goals as goal

pub returns-in-None-clause-cause : goal.returns-in-None-clause-cause
returns-in-None-clause-cause c =
    let there = sym (rw c.in-Occupied.is at c.in_ok-at.ensures.value) ∙ c.get-old.ensures in
    λ N L I pos k p w within most few. put_wide _ c.args.f _ c.args.states.now.entries N there c.is_lowest-in-Occupied.ensures c.is_lowest.ensures (sym c.add.ensures ∙ c.in-None.is) pos k w (let m = within (λ s. 1) in omega (arith, most))

pub returns-then-is_none-clause-cause : goal.returns-then-is_none-clause-cause
returns-then-is_none-clause-cause c =
    let none : found order c.args.s c.args.states.now.entries ≡ None = search rules in
    λ N L I pos k p w within most few. let m = put_many c.args.s c.args.f c.args.states.now.entries N I c.len.ensures.ordered none (omega arith) pos k p w within in omega arith
