use Rattle.std.proofs.Common.{◌≡◌, ◌+◌, ◌*◌, ◌^◌, ◌%◌, ◌∙◌, ap, arith}
use Rattle.sampler_run.proofs.Reading.{spelled_fits}
use Rattle.sampler_run.proofs.trials.behind.Goals as goal

pub overflow_add-result : goal.overflow_add-result
overflow_add-result c =
    let fits = spelled_fits c.args.low c.args.bits c.args.ready c.args.missing c.requires.bits c.requires.few c.requires.low in
    let small = fits.0 in
    let less = fits.1 in
    omega (arith, small, less)

pub returns : goal.returns
returns c =
    let fits = spelled_fits c.args.low c.args.bits c.args.ready c.args.missing c.requires.bits c.requires.few c.requires.low in
    let small = fits.0 in
    let same : c.args.low * 2 ^ c.args.ready % 2 ^ 64 ≡ c.args.low * 2 ^ c.args.ready = omega (arith, small) in
    let all = fits.2 in
    ap (λ n. (n + c.args.bits) * 2 ^ c.args.missing % 2 ^ 64) same ∙ (omega (arith, all))
