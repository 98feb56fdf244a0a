use Rattle.std.proofs.Common.{◌<◌, arith}
use Rattle.std.proofs.lemmas.Nat.{one_shl}
use Rattle.weighted_roll.proofs.sharing.strings_of.Goals as goal

pub returns : goal.returns
returns c = one_shl c.args.flips 128 (let lt : c.args.flips < 128 = omega arith in lt)
