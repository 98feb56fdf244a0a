use Rattle.std.proofs.Common.{◌≡◌, ◌∷◌, Err, subst}
use Rattle.zar_io.specs.Trace.{opening}
use Rattle.zar_cli.proofs.Opening.{opened, missed, unopened}
use Rattle.zar_cli.proofs.source.open_bits.Goals as goal

pub returns-in-Ok-clause-stage : goal.returns-in-Ok-clause-stage
returns-in-Ok-clause-stage g c = opened _ _ _ c.in-Ok.ensures

pub returns-in-Err-Missing-clause-stage : goal.returns-in-Err-Missing-clause-stage
returns-in-Err-Missing-clause-stage g c = missed _ _ _
    (subst (λ e. g.F.Files.answered c.open.new.self ≡ opening {A = Unit {0}} (Err e) c.args.name.now ∷ g.F.Files.answered c.args.files.now) c.in-Err-Missing.field-0-is c.in-Err-Missing.ensures)

pub returns-in-Err-Failed-clause-stage : goal.returns-in-Err-Failed-clause-stage
returns-in-Err-Failed-clause-stage g c = unopened _ _ _
    (subst (λ e. g.F.Files.answered c.open.new.self ≡ opening {A = Unit {0}} (Err e) c.args.name.now ∷ g.F.Files.answered c.args.files.now) c.in-Err-Failed.field-0-is c.in-Err-Failed.ensures)
