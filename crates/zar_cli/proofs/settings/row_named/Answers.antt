use Rattle.std.proofs.Common.{map}
use Rattle.zar_cli.specs.Words.{row_named}
use Rattle.zar_cli.proofs.RowForms.{first_by_row}
use Rattle.zar_cli.proofs.settings.row_named.Goals as goal

pub returns-clause-first : goal.returns-clause-first
unfolding row_named
returns-clause-first c = first_by_row (λ r. (r.0, r.1, map (λ s. (s.0.now, s.1)) r.2.now, map (λ s. (s.0.now, s.1)) r.3.now)) c.args.word.now c.row_in.result c.row_in.ensures
