use Rattle.std.proofs.Common.{◌∙◌, sym, ap}
use Rattle.zar_cli.specs.Help.{topic_text}
use Rattle.zar_cli.proofs.help.page_of.Goals as goal

pub returns-in-Everything : goal.returns-in-Everything
returns-in-Everything c = ap topic_text (sym c.in-Everything.is)

pub returns-in-One : goal.returns-in-One
returns-in-One c = c.command_page.ensures ∙ ap topic_text (sym c.in-One.is)
