-- Why each status comes. It follows from the answer of a call (`answers_have_causes`), so nobody has to believe more for it.
use Rattle.std.specs.Prelude.{◌≡◌, ℕ, ◌<◌, false, List, IsTrue, ◌⊎◌, Bool, true, Result, Ok, Err}
use Rattle.zar_io.specs.declared.trace.Event.{Event}
use Rattle.zar_io.specs.Trace.{failures, is_open}
use Rattle.zar_cli.specs.declared.statuses.TheConstants.{WORDS_REFUSED, READ_FAULT, WRITE_FAULT, NO_FILE}
use Rattle.zar_cli.specs.Forms.{CallWord}
use Rattle.zar_cli.specs.Spelling.{names_of}
use Rattle.zar_cli.specs.Stages.{Misses}
use Rattle.zar_cli.specs.Words.{command_of}

-- the words are wrong
abbrev pub is_bad : {A : Type 0} → Result A ℕ → Bool
is_bad (Ok c) = false
is_bad (Err at) = true

-- a failure was recorded
abbrev pub Failed : List Event → List Event → Type 0
Failed before now = failures before < failures now

-- none was recorded on either sink
pub record NoneFailed (out out_now err err_now : List Event) : Type 0 where
  pub on_out : failures out_now ≡ failures out
  pub on_err : failures err_now ≡ failures err

-- The statuses have their causes. A write fault comes exactly where a write failed; else a read fault exactly where a read
-- failed; else the refusal of words exactly where they are no command. The status of a missing file comes only where the last
-- answer was that a file which the words name did not open. After a failed read none is open.
pub record HasCause (words : List CallWord) (status : ℕ) (files files_now out out_now err err_now : List Event) : Type 0 where
  pub write_fault : status ≡ WRITE_FAULT → Failed out out_now ⊎ Failed err err_now
  pub failed_write : Failed out out_now ⊎ Failed err err_now → status ≡ WRITE_FAULT
  pub read_fault : status ≡ READ_FAULT → Failed files files_now
  pub failed_read : NoneFailed out out_now err err_now → Failed files files_now → status ≡ READ_FAULT
  pub bad_words : status ≡ WORDS_REFUSED → IsTrue (is_bad (command_of words))
  pub refused_words : NoneFailed out out_now err err_now → IsTrue (is_bad (command_of words)) → status ≡ WORDS_REFUSED
  pub missing : status ≡ NO_FILE → Misses (names_of (command_of words)) files_now
  pub closed_by_a_fault : Failed files files_now → is_open files_now ≡ false
