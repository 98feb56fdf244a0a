-- The event that a note records.
use Rattle.zar_io.specs.declared.trace.Event.{Event}
use Rattle.zar_io.specs.declared.trace.Event.TheVariants.{Opened, Missed, OpenFailed, Read, Wrote, Failed}
use Rattle.zar_io.specs.declared.trace.Note.{Note}
use Rattle.zar_io.specs.declared.trace.Note.TheVariants as note

abbrev pub noted : Note → Event
noted (note.Opened name) = Opened name.now
noted (note.Missed name) = Missed name.now
noted (note.OpenFailed name) = OpenFailed name.now
noted (note.Read bytes) = Read bytes.now
noted (note.Wrote bytes) = Wrote bytes.now
noted note.Failed = Failed
