use Rattle.std.proofs.Common.{sym, ap}
use Rattle.zar_cli.specs.Help.{command_page, page_text}
use Rattle.zar_cli.proofs.help.command_page.Goals as goal

pub returns-in-Cost : goal.returns-in-Cost
returns-in-Cost c = ap (λ v. page_text (command_page v)) (sym c.in-Cost.is)
