use Rattle.std.proofs.Common.{◌∙◌, ◌++◌, sym, ap, subst}
use Rattle.sampler_run.specs.Held.{Held, IsRestOf}
use Rattle.stream_lines.specs.Lines.{lines_over}
use Rattle.stream_lines.specs.inner.Rounds.{batch_start, told_by}
use Rattle.stream_lines.specs.inner.Begun.{blocks_begun}
use Rattle.stream_lines.proofs.filling.fill_batch.Goals as goal

pub returns : goal.returns
returns g c =
    let r = c.args.job.now.range.now in record {
      worker = record { stands = c.requires.worker.stands; same = c.fill.ensures.same_start ∙ c.requires.worker.same };
      lines = λ run is. c.fill.ensures.lines run (subst (λ (s : Held). IsRestOf s run) (sym c.requires.worker.same) is)
          ∙ ap (λ start. lines_over run r.seed r.budget start c.batch_start-end.result) c.batch_start-start.ensures
          ∙ ap (lines_over run r.seed r.budget (batch_start c.args.first r.to c.args.size c.args.number)) c.batch_start-end.ensures;
      entered = c.fill.ensures.entered ∙ ap (λ start. told_by c.args.worker.now ++ blocks_begun r.from start c.batch_start-end.result) c.batch_start-start.ensures
          ∙ ap (λ end. told_by c.args.worker.now ++ blocks_begun r.from (batch_start c.args.first r.to c.args.size c.args.number) end) c.batch_start-end.ensures;
    }
