use Rattle.std.proofs.Common.{◌≡◌, ◌++◌, Ok, List, All, length, map, take, drop, sym, subst, ap, ◌∙◌, rules}
use Rattle.std.specs.List.{AllZip}
use Rattle.tally_range.specs.declared.share.Entry.{Entry}
use Rattle.tally_range.specs.Shares.{IsReady}
use Rattle.tally_range.specs.inner.Worked.{entry_pass, entry_table, IsWorked}
use Rattle.tally_range.proofs.Shares.{shares_ready, shares_numbers, shares_done, left_in, gathered_passes, gathered_ended, gathered_counts, Done}
use Rattle.tally_range.proofs.tallying.count_in_threads.Given.{Over}
use Rattle.tally_range.proofs.tallying.count_in_threads.Goals as goal

pub run_workers-requires-clause-ready : goal.run_workers-requires-clause-ready
run_workers-requires-clause-ready g c κs within = let e = c.in_ok-entries.ensures in
    subst (λ (l : List Entry). All (λ (e : Entry). IsReady c.args.board.now c.args.job.now.range.now e.share) l) (sym c.as_mut_slice.ensures.value)
    (shares_ready c.args.board.now c.args.job.now.range.now c.in_ok-entries.entries.items c.args.passes.items c.requires.blocks e.passes c.requires.passes c.requires.new e.empty)

-- what the threads left is what is gathered
left : (g : Over) (c : goal.In_ok-passes g) → take c.in_ok-entries.entries.len (c.run_workers.new.entries ++ drop (length c.run_workers.new.entries) c.in_ok-entries.entries.items) ≡ c.run_workers.new.entries
left g c = let worked : AllZip (IsWorked c.args.job.now.sampler.now c.args.job.now.limits.now c.args.job.now.range.now) c.in_ok-entries.entries.items c.run_workers.new.entries =
    subst (λ (l : List Entry). AllZip (IsWorked c.args.job.now.sampler.now c.args.job.now.limits.now c.args.job.now.range.now) l c.run_workers.new.entries) c.as_mut_slice.ensures.value c.run_workers.ensures in
    left_in c.args.job.now.sampler.now c.args.job.now.limits.now c.args.job.now.range.now c.in_ok-entries.entries.len c.in_ok-entries.entries.items c.run_workers.new.entries worked (search rules)

done : (g : Over) (c : goal.In_ok-passes g) → Done c.args.board.now c.args.job.now.sampler.now c.args.job.now.limits.now c.args.job.now.range.now c.in_ok-entries.entries.items c.run_workers.new.entries
done g c = let e = c.in_ok-entries.ensures in
    shares_done c.args.board.now c.args.job.now.sampler.now c.args.job.now.limits.now c.args.job.now.range.now c.in_ok-entries.entries.items c.run_workers.new.entries
    (shares_ready c.args.board.now c.args.job.now.range.now c.in_ok-entries.entries.items c.args.passes.items c.requires.blocks e.passes c.requires.passes c.requires.new e.empty)
    (subst (λ (l : List Entry). AllZip (IsWorked c.args.job.now.sampler.now c.args.job.now.limits.now c.args.job.now.range.now) l c.run_workers.new.entries) c.as_mut_slice.ensures.value c.run_workers.ensures)
    (subst (λ (l : List Entry). All (λ (f : Entry). f.done ≡ Ok tt) l) (left g c) c.in_ok-passes.ensures.worked)

pub returns-clause-passes : goal.returns-clause-passes
returns-clause-passes g c = gathered_passes c.args.board.now c.args.job.now.sampler.now c.args.job.now.limits.now c.args.job.now.range.now c.in_ok-entries.entries.items c.run_workers.new.entries (done g c) c.in_ok-passes.passes.items c.in_ok-passes.tables.items
    (c.in_ok-passes.ensures.passes ∙ ap (map entry_pass) (left g c)) (c.in_ok-passes.ensures.tables ∙ ap (map entry_table) (left g c))
    (shares_numbers c.args.board.now c.in_ok-entries.entries.items c.args.passes.items c.in_ok-entries.ensures.passes c.requires.passes)

pub returns-clause-ended : goal.returns-clause-ended
returns-clause-ended g c = gathered_ended c.args.board.now c.args.job.now.sampler.now c.args.job.now.limits.now c.args.job.now.range.now c.in_ok-entries.entries.items c.run_workers.new.entries (done g c) c.in_ok-passes.passes.items c.in_ok-passes.tables.items
    (c.in_ok-passes.ensures.passes ∙ ap (map entry_pass) (left g c)) (c.in_ok-passes.ensures.tables ∙ ap (map entry_table) (left g c))

pub returns-clause-counts : goal.returns-clause-counts
returns-clause-counts g c = gathered_counts c.args.board.now c.args.job.now.sampler.now c.args.job.now.limits.now c.args.job.now.range.now c.in_ok-entries.entries.items c.run_workers.new.entries (done g c) c.in_ok-passes.passes.items c.in_ok-passes.tables.items
    (c.in_ok-passes.ensures.passes ∙ ap (map entry_pass) (left g c)) (c.in_ok-passes.ensures.tables ∙ ap (map entry_table) (left g c))
