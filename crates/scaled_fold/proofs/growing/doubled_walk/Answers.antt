use Rattle.std.proofs.Common.{◌^◌, le_refl}
use Rattle.scaled_fold.proofs.Grown.{doubled_follow}
use Rattle.scaled_fold.proofs.Powers.{small}
use Rattle.scaled_fold.proofs.growing.doubled_walk.Goals as goal

pub pow-k-requires : goal.pow-k-requires
pow-k-requires c = small c.args.more (2 ^ c.args.more) c.requires (le_refl (2 ^ c.args.more))

pub returns : goal.returns
returns c =
    doubled_follow c.pow-k.result c.args.more c.args.walk _ c.pow-k.ensures c.in_ok-multiplied.ensures.ok c.in_ok-multiplied-2.ensures.ok c.in_ok-times.ensures c.in_ok-times-2.ensures c.in_ok-counted.ensures
    c.in_ok-multiplied.ensures.vars
