use Rattle.exact_fold.proofs.Turns.{put_alone}
use Rattle.exact_fold.proofs.turning.alone.Goals as goal

pub returns-clause-one : goal.returns-clause-one
returns-clause-one c = put_alone c.args.state.now _ _ _ _ c.new-one.ensures.empty c.in_ok-copy.ensures c.of.ensures.equal c.of.ensures.lowest.positive c.in_ok-put.ensures.ok
