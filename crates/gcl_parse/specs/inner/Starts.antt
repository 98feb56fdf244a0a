-- The words that begin a statement.
use Rattle.std.specs.Prelude.{Option, Some, None}
use Rattle.gcl_core.specs.declared.tokens.Key.TheVariants as k
use Rattle.gcl_core.specs.declared.words.Word.{Word}
use Rattle.gcl_core.specs.declared.words.Word.TheVariants as w
use Rattle.gcl_parse.specs.declared.starts.Start.{Start}
use Rattle.gcl_parse.specs.declared.starts.Start.TheVariants as b

-- which statement begins with this word
abbrev pub begins_with : Word → Option Start
begins_with (w.Key k.Skip) = Some b.Skip
begins_with (w.Key k.Observe) = Some b.Observe
begins_with (w.Key k.If) = Some b.If
begins_with (w.Key k.While) = Some b.While
begins_with (w.Key k.Choice) = Some b.Choice
begins_with (w.Key k.Choose) = Some b.Choose
begins_with (w.Name x) = Some (b.Name x)
begins_with _ = None

abbrev pub begun : Start → Word
begun b.Skip = w.Key k.Skip
begun b.Observe = w.Key k.Observe
begun b.If = w.Key k.If
begun b.While = w.Key k.While
begun b.Choice = w.Key k.Choice
begun b.Choose = w.Key k.Choose
begun (b.Name x) = w.Name x
