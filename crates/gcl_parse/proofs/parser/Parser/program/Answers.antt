use Rattle.std.proofs.Common.{◌<◌, length, arith}
use Rattle.gcl_parse.proofs.Refuses.{extra_stops}
use Rattle.gcl_parse.proofs.parser.Parser.program.Goals as goal

pub returns-then-left-gt0 : goal.returns-then-left-gt0
returns-then-left-gt0 c =
    let some : 0 < length c.whole.new.self = omega arith in
    record { here = λ h. extra_stops _ c.in_ok-found.ensures.1 some }
