use Rattle.std.proofs.Common.{◌≡◌, ◌∙◌, ℕ, zero, suc, ◌+◌, ◌-◌, ◌<◌, ◌≤◌, List, length, get_or, ap, subst, arith}
use Rattle.std.proofs.Math.Nat.{suc-mul}
use Rattle.stream_lines.specs.declared.worker.Worker.{Worker}
use Rattle.stream_lines.specs.inner.Rounds.{batch_start, lines_in, told_by, HasBatch}
use Rattle.stream_lines.specs.Lines.{line_on, lines_over}
use Rattle.stream_lines.proofs.Batches.{follow}
use Rattle.stream_lines.proofs.Fronts.{texts_from}
use Rattle.stream_lines.proofs.filling.fill_round.Goals as goal

-- each worker, as its call left it
pub returns : goal.returns
returns g c =
    let home = c.args.home.now in
    let r = c.args.job.now.range.now in
    let first : ℕ = c.args.first in
    let to : ℕ = r.to in
    let size : ℕ = c.args.size in
    let order : first ≤ to = c.requires.order in
    let new : List Worker = c.for_each_mut.new.s in
    let count : length new ≡ length c.args.workers.now = c.for_each_mut.auto.s in
    let each : (i : ℕ) (d : Worker) → i < length new → HasBatch home r first size i (told_by (get_or c.args.workers.now i d)) (get_or new i d) =
    λ i d below. let at = (c.for_each_mut.ensures i d (omega (arith, below, count))).1 in
    subst (λ (w : Worker). HasBatch home r first size i (told_by w) (get_or new i d)) at.argument_is (subst (HasBatch home r first size i (told_by at.argument.now)) at.left at.call) in
    let up : (i : ℕ) → batch_start first to size i ≤ batch_start first to size (suc i) = λ i. omega (arith, suc-mul i size) in
    let none : batch_start first to size zero ≡ first = omega (arith, order) in record {
      count = count;
      workers = λ i d below. (each i d below).worker;
      lines = λ run is.
          let text = line_on run r.seed r.budget in
          (follow text lines_in (batch_start first to size) new up (λ i d below. let next : i + 1 ≡ suc i = omega arith in (each i d below).lines run is ∙ ap (λ k. texts_from text (batch_start first to size i) (batch_start first to size k - batch_start first to size i)) next)).1
          ∙ ap (λ start. lines_over run r.seed r.budget start (batch_start first to size (length new))) none ∙ ap (λ k. lines_over run r.seed r.budget first (batch_start first to size k)) count;
      entered = λ i d below. (each i d (omega (arith, below, count))).entered;
    }
