use Rattle.wide_fold.proofs.Weights.{adds_from}
use Rattle.wide_fold.proofs.ended.WideEnded.add_times.Goals as goal

pub returns : goal.returns
returns c =
    adds_from _ _ _ _ _ c.self.view_is
    (record {
      failed = c.in_ok-self-inside.ensures;
      overflow = c.in_ok-self-inside-2.ensures;
      divisor = c.in_ok-self-inside-3.ensures;
      bound = c.in_ok-self-inside-4.ensures;
      turns = c.in_ok-self-inside-5.ensures;
      attempts = c.in_ok-self-inside-6.ensures;
    })
