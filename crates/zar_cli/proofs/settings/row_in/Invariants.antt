use Rattle.std.proofs.Common.{◌≡◌, length, map}
use Rattle.zar_cli.specs.Words.{Row}
use Rattle.gcl_core.specs.text.Names.{value_named}
use Rattle.zar_cli.proofs.settings.row_in.Given as goal

abbrev pub invariant-loop-table : goal.invariant-loop-table
invariant-loop-table l =
    value_named {A = Row} (map (λ r. (r.0.now, (r.1.0, r.1.1, map (λ s. (s.0.now, s.1)) r.1.2.now, map (λ s. (s.0.now, s.1)) r.1.3.now))) l.table) l.word
    ≡ value_named {A = Row} (map (λ r. (r.0.now, (r.1.0, r.1.1, map (λ s. (s.0.now, s.1)) r.1.2.now, map (λ s. (s.0.now, s.1)) r.1.3.now))) l.initial.table) l.word

abbrev pub decreases-loop-table : goal.decreases-loop-table
decreases-loop-table l = length l.table
