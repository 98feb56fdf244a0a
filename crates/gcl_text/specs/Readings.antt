-- What the readers of a text answer: its program, or why it has none.
use Rattle.std.specs.Prelude.{ℕ, List, Option, Result, Ok, Err}
use Rattle.gcl_core.specs.declared.syntax.Program.{Program}
use Rattle.gcl_core.specs.meaning.Views.{source_of}
use Rattle.gcl_core.specs.text.Texts.{IsWrittenIn, IsRefusedText, Spells, SpellsNone}
use Rattle.gcl_parse.specs.declared.parsing.Parsed.{Parsed}
use Rattle.gcl_text.specs.declared.refusing.TextRefusal.{TextRefusal}
use Rattle.gcl_text.specs.declared.refusing.TextRefusal.TheVariants.{Coded, OutOfMemory}

-- the text has none for the reason of this code, at this place
abbrev pub NoneInText : (ℕ → Option ℕ → Type 0) → TextRefusal → Type 0
NoneInText Refuses (Coded code at) = Refuses code at
NoneInText Refuses OutOfMemory = Unit {0}

-- as it is written
abbrev pub Writes : List ℕ → Result Parsed TextRefusal → Type 0
Writes text (Ok p) = IsWrittenIn text (source_of p.program) p.places
Writes text (Err refusal) = NoneInText (IsRefusedText text) refusal

-- as it is checked
abbrev pub Checks : List ℕ → Result Program TextRefusal → Type 0
Checks text (Ok p) = Spells text (source_of p)
Checks text (Err refusal) = NoneInText (SpellsNone text) refusal
