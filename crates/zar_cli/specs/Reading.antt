-- A call whose words were read.
use Rattle.std.specs.Prelude.{map, string_bytes, IfOk}
use Rattle.zar_cli.specs.declared.call.Call.{Call}
use Rattle.zar_cli.specs.Range.{HasRange}
use Rattle.zar_cli.specs.Spelling.{IsSpelled}
use Rattle.zar_cli.specs.Words.{command_of}

-- its command is what its words spell, or it has why they spell none, or that memory ran out; the numbers of a command are in range
pub record IsRead (call : Call) : Type 0 where
  pub spelled : IsSpelled (command_of (map string_bytes call.words.now)) call.command
  pub range : IfOk call.command HasRange
