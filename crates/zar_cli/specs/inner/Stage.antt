-- What a stage that reads files owes, and by what it may refuse.
use Rattle.std.specs.Prelude.{List, reverse, Option}
use Rattle.report_text.specs.declared.refusals.Refusal.{Refusal}
use Rattle.report_text.specs.declared.refusals.Refusal.TheVariants.{Coded, Read, Write, Memory, NoFile}
use Rattle.zar_io.specs.declared.trace.Event.{Event}
use Rattle.zar_io.specs.GoesOn.{GoesOn}
use Rattle.zar_cli.specs.Forms.{CallWord}
use Rattle.zar_cli.specs.Stages.{Leaves}

-- a stage that seeks the files of these names
pub record IsStage (names : List CallWord) (before now : List Event) (refusal : Option Refusal) : Type 0 where
  pub leaves : Leaves names refusal before now
  pub goes : GoesOn (reverse names) before now

-- a failed read, a missing file, or want of memory
abbrev pub OfOutside : Refusal → Type 0
OfOutside (Coded code at) = ⊥
OfOutside Read = Unit {0}
OfOutside Write = ⊥
OfOutside Memory = Unit {0}
OfOutside NoFile = Unit {0}
