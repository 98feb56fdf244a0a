-- Why each status comes, from what is said and how it is shown.
use Rattle.std.proofs.Common.{◌≡◌, ◌≢◌, ℕ, ◌<◌, ◌==◌, nat_lt, Bool, true, false, ◌||◌, IsTrue, List, [], Option, Some, Result, Ok, Err, ◌⊎◌, inl, inr, refl, sym, ◌∙◌, ap, subst, arith, if◌then◌else◌}
use Rattle.std.proofs.lemmas.Bool.Decides.{nat_tests}
use Rattle.dice_roll.specs.declared.answers.Roll.{Roll}
use Rattle.dice_roll.specs.declared.answers.Roll.TheVariants as rolled
use Rattle.gcl_core.specs.declared.answers.Answer.{Answer}
use Rattle.gcl_core.specs.declared.answers.Answer.TheVariants.{Ended, MoreBits}
use Rattle.gcl_core.specs.declared.answers.Outcome.TheVariants as outcome
use Rattle.gcl_core.specs.declared.refusals.TheConstants.{TOO_FINE, BAD_WORDS}
use Rattle.report_text.specs.declared.refusals.Refusal.TheVariants.{Coded, Read, Write, Memory, NoFile}
use Rattle.zar_io.specs.declared.trace.Event.{Event}
use Rattle.zar_io.specs.Trace.{failures, is_open}
use Rattle.zar_io.specs.Written.{IsWritten}
use Rattle.zar_cli.specs.declared.command.Command.{Command}
use Rattle.zar_cli.specs.declared.said.Said.{Said}
use Rattle.zar_cli.specs.declared.said.Said.TheVariants.{Answered, Accepted, Shown, Drawn, Rolled, Helped}
use Rattle.zar_cli.specs.declared.statuses.TheConstants.{DONE, WORDS_REFUSED, READ_FAULT, WRITE_FAULT, MASS_REFUSED, LIMIT_REACHED, NO_FILE}
use Rattle.zar_cli.specs.declared.statuses.TheConstants as status
use Rattle.zar_cli.specs.Answer.{IsSaid, IsAnswer}
use Rattle.zar_cli.specs.Cause.{NoneFailed, HasCause, is_bad}
use Rattle.zar_cli.specs.Delivery.{answer_status, roll_status, said_status, status_of}
use Rattle.zar_cli.specs.inner.Said.{Fits}
use Rattle.zar_cli.specs.ByStages.{Output}
use Rattle.zar_cli.specs.Spelling.{names_of}
use Rattle.zar_cli.specs.Stages.{refusal_in, Misses, Leaves}
use Rattle.zar_cli.specs.Forms.{CallWord}
use Rattle.zar_cli.specs.Words.{command_of}
use Rattle.zar_cli.proofs.Codes.{output_codes}

-- ---- the statuses of what is said

-- what is said has the status 0, 7 or 8
data IsSaidStatus : ℕ → Type 0 where
  done : IsSaidStatus DONE
  more_bits : IsSaidStatus status.MORE_BITS
  limit : IsSaidStatus LIMIT_REACHED

answer_statuses : (a : Answer) → IsSaidStatus (answer_status a)
answer_statuses (Ended (outcome.Value v) n) = done
answer_statuses (Ended (outcome.Fault f) n) = done
answer_statuses (Ended (outcome.Limit l) n) = limit
answer_statuses (MoreBits n) = more_bits

roll_statuses : (r : Roll) → IsSaidStatus (roll_status r)
roll_statuses (rolled.Label c flips) = done
roll_statuses (rolled.Limit flips) = limit
roll_statuses (rolled.MoreBits flips) = more_bits

said_statuses : (s : Said) → IsSaidStatus (said_status s)
said_statuses (Answered a) = answer_statuses a
said_statuses (Accepted statements names) = done
said_statuses (Shown text) = done
said_statuses (Drawn text) = done
said_statuses (Rolled roll) = roll_statuses roll
said_statuses (Helped topic) = done

said_apart : (n : ℕ) → IsSaidStatus n → (n ≡ WORDS_REFUSED) ⊎ (n ≡ READ_FAULT) ⊎ (n ≡ WRITE_FAULT) ⊎ (n ≡ NO_FILE) → ⊥
said_apart _ done h = grind arith
said_apart _ more_bits h = grind arith
said_apart _ limit h = grind arith

-- ---- the statuses of refusals

-- by two tests: that a code is that of words, and that it is one of masses
abbrev coded_status : Bool → Bool → ℕ
coded_status words masses = if words then WORDS_REFUSED else (if masses then MASS_REFUSED else status.TEXT_REFUSED)

-- none is a fault of the outside, or that of a missing file
coded_apart : (a b : Bool) → (coded_status a b ≡ READ_FAULT) ⊎ (coded_status a b ≡ WRITE_FAULT) ⊎ (coded_status a b ≡ NO_FILE) → ⊥
coded_apart true b h = grind arith
coded_apart false true h = grind arith
coded_apart false false h = grind arith

coded_words : (a b : Bool) → coded_status a b ≡ WORDS_REFUSED → a ≡ true
coded_words true b e = refl
coded_words false true e = absurd (omega arith)
coded_words false false e = absurd (omega arith)

-- a code of a command is none of words, and none of its refusals a failed write
never_written : (c : Command) → Fits c (Err Write) → ⊥
never_written c (inl may) = may
never_written c (inr is) = output_codes Write is.0 c is.1

other_codes : (c : Command) (code : ℕ) (at : Option ℕ) → Fits c (Err (Coded code at)) → code ≢ BAD_WORDS
other_codes c code at (inl may) = absurd may
other_codes c code at (inr is) = output_codes (Coded code at) is.0 c is.1

-- ---- outputs

-- the output is one of the command, or the refusal of words
abbrev FitsWords : Result Command ℕ → Output → Type 0
FitsWords (Ok command) output = Fits command output
FitsWords (Err at) output = output ≡ Err (Coded BAD_WORDS (Some at))

fits_words : (c : Result Command ℕ) (before now : List Event) (o : Output) → IsSaid c before now o → FitsWords c o
fits_words (Ok c) before now o said = said.fits
fits_words (Err at) before now o said = said.0

leaves_words : (c : Result Command ℕ) (before now : List Event) (o : Output) → IsSaid c before now o → Leaves (names_of c) (refusal_in o) before now
leaves_words (Ok c) before now o said = said.leaves
leaves_words (Err at) before now o said = subst (λ x. Leaves [] (refusal_in x) before now) (sym said.0) (ap failures said.1)

module _ (names : List CallWord) (before now : List Event) where
  read_status : (o : Output) → Leaves names (refusal_in o) before now → status_of o ≡ READ_FAULT → failures before < failures now
  read_status (Ok s) leaves e = absurd (said_apart (said_status s) (said_statuses s) (inr (inl e)))
  read_status (Err (Coded code at)) leaves e = absurd (coded_apart (code == BAD_WORDS) (nat_lt TOO_FINE code) (inl e))
  read_status (Err Read) leaves e = omega (arith, leaves.0)
  read_status (Err Write) leaves e = absurd (omega arith)
  read_status (Err Memory) leaves e = absurd (omega arith)
  read_status (Err NoFile) leaves e = absurd (omega arith)

  read_counts : (o : Output) → Leaves names (refusal_in o) before now → failures before < failures now → o ≡ Err Read
  read_counts (Ok s) leaves h = absurd (omega (arith, leaves))
  read_counts (Err (Coded code at)) leaves h = absurd (omega (arith, leaves))
  read_counts (Err Read) leaves h = refl
  read_counts (Err Write) leaves h = absurd (omega (arith, leaves))
  read_counts (Err Memory) leaves h = absurd (omega (arith, leaves))
  read_counts (Err NoFile) leaves h = absurd (omega (arith, leaves.0))

  closed_by_read : (o : Output) → Leaves names (refusal_in o) before now → o ≡ Err Read → is_open now ≡ false
  closed_by_read o leaves e = (subst (λ x. Leaves names (refusal_in x) before now) e leaves).1

  missed : (o : Output) → Leaves names (refusal_in o) before now → o ≡ Err NoFile → Misses names now
  missed o leaves e = (subst (λ x. Leaves names (refusal_in x) before now) e leaves).1

missing_output : (o : Output) → status_of o ≡ NO_FILE → o ≡ Err NoFile
missing_output (Ok s) e = absurd (said_apart (said_status s) (said_statuses s) (inr (inr (inr e))))
missing_output (Err (Coded code at)) e = absurd (coded_apart (code == BAD_WORDS) (nat_lt TOO_FINE code) (inr (inr e)))
missing_output (Err Read) e = absurd (omega arith)
missing_output (Err Write) e = absurd (omega arith)
missing_output (Err Memory) e = absurd (omega arith)
missing_output (Err NoFile) e = refl

never_writes : (c : Result Command ℕ) (o : Output) → FitsWords c o → status_of o ≡ WRITE_FAULT → ⊥
never_writes c (Ok s) fits e = said_apart (said_status s) (said_statuses s) (inr (inr (inl e)))
never_writes c (Err (Coded code at)) fits e = coded_apart (code == BAD_WORDS) (nat_lt TOO_FINE code) (inr (inl e))
never_writes c (Err Read) fits e = omega arith
never_writes (Ok c) (Err Write) fits e = never_written c fits
never_writes (Err at) (Err Write) fits e = cc
never_writes c (Err Memory) fits e = omega arith
never_writes c (Err NoFile) fits e = omega arith

words_status : (c : Result Command ℕ) (o : Output) → FitsWords c o → status_of o ≡ WORDS_REFUSED → IsTrue (is_bad c)
words_status (Err at) o fits e = refl
words_status (Ok c) (Ok s) fits e = absurd (said_apart (said_status s) (said_statuses s) (inl e))
words_status (Ok c) (Err (Coded code at)) fits e =
    let is = coded_words (code == BAD_WORDS) (nat_lt TOO_FINE code) e in
    let other = other_codes c code at fits in
    absurd (grind (arith, nat_tests))
words_status (Ok c) (Err Read) fits e = absurd (omega arith)
words_status (Ok c) (Err Write) fits e = absurd (never_written c fits)
words_status (Ok c) (Err Memory) fits e = absurd (omega arith)
words_status (Ok c) (Err NoFile) fits e = absurd (omega arith)

words_output : (c : Result Command ℕ) (o : Output) → FitsWords c o → IsTrue (is_bad c) → status_of o ≡ WORDS_REFUSED
words_output (Ok c) o fits bad = absurd (cc)
words_output (Err at) o fits bad = ap status_of fits

-- ---- delivery

rose : (before now : List Event) (text : List ℕ) → IsWritten true before now text → failures before < failures now
rose before now text is = omega (arith, is.0)

stood : (before now : List Event) (text : List ℕ) → IsWritten false before now text → failures now ≡ failures before
stood before now text is = is.0

module _ (out out_now err err_now : List Event) (s t : List ℕ) (said shown : ℕ) where
  counts_write : (o e : Bool) → IsWritten o out out_now s → IsWritten e err err_now t → shown ≡ (if o || e then WRITE_FAULT else said) → (said ≡ WRITE_FAULT → ⊥) → shown ≡ WRITE_FAULT
      → (failures out < failures out_now) ⊎ (failures err < failures err_now)
  counts_write true e x y is never fault = inl (rose out out_now s x)
  counts_write false true x y is never fault = inr (rose err err_now t y)
  counts_write false false x y is never fault = absurd (never (sym is ∙ fault))

  is_write : (o e : Bool) → IsWritten o out out_now s → IsWritten e err err_now t → shown ≡ (if o || e then WRITE_FAULT else said)
      → (failures out < failures out_now) ⊎ (failures err < failures err_now) → shown ≡ WRITE_FAULT
  is_write true e x y is h = is
  is_write false true x y is h = is
  is_write false false x y is (inl h) = absurd (omega (arith, stood out out_now s x))
  is_write false false x y is (inr h) = absurd (omega (arith, stood err err_now t y))

  -- no write failed
  is_said : (o e : Bool) → IsWritten o out out_now s → IsWritten e err err_now t → shown ≡ (if o || e then WRITE_FAULT else said)
      → failures out_now ≡ failures out → failures err_now ≡ failures err → shown ≡ said
  is_said true e x y is q r = absurd (omega (arith, rose out out_now s x))
  is_said false true x y is q r = absurd (omega (arith, rose err err_now t y))
  is_said false false x y is q r = is

module _ (said shown : ℕ) where
  -- another status than that of a write fault is what is said
  is_other : (out err : Bool) → shown ≡ (if out || err then WRITE_FAULT else said) → (n : ℕ) → shown ≡ n → (n ≡ WRITE_FAULT → ⊥) → said ≡ n
  is_other true err is n e ne = absurd (ne (sym e ∙ is))
  is_other false true is n e ne = absurd (ne (sym e ∙ is))
  is_other false false is n e ne = sym is ∙ e

-- one of both writes failed
pub some_failed : (out err : Bool) (said : ℕ) → (out ≡ true) ⊎ (err ≡ true) → WRITE_FAULT ≡ (if out || err then WRITE_FAULT else said)
some_failed true err said failed = refl
some_failed false true said failed = refl
some_failed false false said (inl failed) = absurd (cc)
some_failed false false said (inr failed) = absurd (cc)

-- neither write failed
pub none_failed : (out err : Bool) (said shown : ℕ) → out ≡ false → err ≡ false → shown ≡ said → shown ≡ (if out || err then WRITE_FAULT else said)
none_failed true err said shown o e is = absurd (cc)
none_failed false true said shown o e is = absurd (cc)
none_failed false false said shown o e is = is

-- ---- the causes

module _ (words : List CallWord) (status : ℕ) (files files_now out out_now err err_now : List Event) (a : IsAnswer words status files files_now out out_now err err_now) where
  other : (n : ℕ) → status ≡ n → (n ≡ WRITE_FAULT → ⊥) → status_of a.output ≡ n
  other n e ne = is_other (status_of a.output) status a.delivered.out_failed a.delivered.err_failed a.delivered.status_is n e ne

  unfailed : NoneFailed out out_now err err_now → status ≡ status_of a.output
  unfailed none = is_said out out_now err err_now _ _ (status_of a.output) status a.delivered.out_failed a.delivered.err_failed
      a.delivered.on_out a.delivered.on_err a.delivered.status_is none.on_out none.on_err

  abbrev names : List CallWord
  names = names_of (command_of words)

  pub has_cause : HasCause words status files files_now out out_now err err_now
  has_cause = record {
    write_fault = counts_write out out_now err err_now _ _ (status_of a.output) status a.delivered.out_failed a.delivered.err_failed
        a.delivered.on_out a.delivered.on_err a.delivered.status_is (never_writes (command_of words) a.output (fits_words (command_of words) files files_now a.output a.said));
    failed_write = is_write out out_now err err_now _ _ (status_of a.output) status a.delivered.out_failed a.delivered.err_failed
        a.delivered.on_out a.delivered.on_err a.delivered.status_is;
    read_fault = λ e. read_status names files files_now a.output (leaves_words (command_of words) files files_now a.output a.said) (other READ_FAULT e (λ w. omega arith));
    failed_read = λ none rose. unfailed none ∙ ap status_of (read_counts names files files_now a.output (leaves_words (command_of words) files files_now a.output a.said) rose);
    bad_words = λ e. words_status (command_of words) a.output (fits_words (command_of words) files files_now a.output a.said) (other WORDS_REFUSED e (λ w. omega arith));
    refused_words = λ none bad. unfailed none ∙ words_output (command_of words) a.output (fits_words (command_of words) files files_now a.output a.said) bad;
    missing = λ e. missed names files files_now a.output (leaves_words (command_of words) files files_now a.output a.said) (missing_output a.output (other NO_FILE e (λ w. omega arith)));
    closed_by_a_fault = λ rose. closed_by_read names files files_now a.output (leaves_words (command_of words) files files_now a.output a.said) (read_counts names files files_now a.output (leaves_words (command_of words) files files_now a.output a.said) rose);
  }
