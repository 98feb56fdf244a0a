use Rattle.std.proofs.Common.{[], ◌∷◌}
use Rattle.zar_io.proofs.SourceLemmas.{fronts_opened}
use Rattle.zar_io.proofs.TraceLemmas.{goes_on-open, goes_on-more}
use Rattle.zar_io.proofs.source.read_source.Goals as goal
use Rattle.zar_io.specs.declared.source.TheConstants.{MOST_BYTES}

pub returns-in-Ok-clause-bytes : goal.returns-in-Ok-clause-bytes
returns-in-Ok-clause-bytes g c = fronts_opened MOST_BYTES c.args.name.now c.read_front.result (g.F.Files.answered c.args.files.now)
    (g.F.Files.answered c.open.new.self) (g.F.Files.answered c.read_front.new.files) c.in-Ok.ensures c.read_front.ensures.goes_on c.read_front.ensures.bytes

pub returns-in-Ok-clause-goes_on : goal.returns-in-Ok-clause-goes_on
returns-in-Ok-clause-goes_on g c =
    let before = g.F.Files.answered c.args.files.now in
    let opened = g.F.Files.answered c.open.new.self in
    goes_on-more (c.args.name.now ∷ []) before opened (g.F.Files.answered c.read_front.new.files)
    (goes_on-open c.open.result c.args.name.now before opened c.open.ensures) c.read_front.ensures.goes_on
