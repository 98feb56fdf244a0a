use Rattle.wide_fold.proofs.Parted.{end_gives}
use Rattle.wide_fold.proofs.ended.WideEnded.add.Goals as goal

pub returns : goal.returns
returns c = end_gives c.args.self.now c.replace.new.self c.args.x c.args.f.now _ _ c.weight.ensures c.in_ok-weight.ensures c.replace.ensures
