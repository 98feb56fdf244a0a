use Rattle.std.proofs.Common.{◌^◌}
use Rattle.std.proofs.lemmas.Nat.{pow_pos}
use Rattle.sampler_run.proofs.Below.{below_quotient}
use Rattle.sampler_run.proofs.trials.is_below.Goals as goal

pub returns : goal.returns
returns c = below_quotient c.args.bound (2 ^ c.args.need) c.args.low c.requires.some (pow_pos c.args.need)
