-- What is said where memory runs out before the first byte of what was to be said.
use Rattle.std.proofs.Common.{◌≡◌, ℕ, Bool, true, false, List, [], Some, None, Result, Ok, Err, inl, inr, refl, ◌∙◌, sym, ap, subst, if◌then◌else◌}
use Rattle.std.proofs.lemmas.List.{append-nil}
use Rattle.report_text.specs.declared.refusals.Refusal.TheVariants.{Memory}
use Rattle.report_text.specs.Lines.{refusal_text}
use Rattle.zar_cli.specs.declared.command.Command.{Command}
use Rattle.zar_cli.specs.declared.command.Command.TheVariants.{Checked, Show, Gen, Fast, Roll, Help}
use Rattle.zar_cli.specs.declared.command.Source.TheVariants.{File, Stream}
use Rattle.zar_cli.specs.declared.said.Said.TheVariants.{Answered, Accepted, Shown, Drawn, Rolled, Helped}
use Rattle.zar_cli.specs.declared.statuses.TheConstants.{WRITE_FAULT, OUT_OF_MEMORY}
use Rattle.zar_cli.specs.Answer.{IsSaid, IsAnswer}
use Rattle.zar_cli.specs.ByStages.{Output}
use Rattle.zar_io.specs.declared.trace.Event.{Event}
use Rattle.zar_io.specs.Trace.{failures, written}
use Rattle.zar_io.specs.Written.{IsWritten}
use Rattle.zar_cli.specs.inner.Said.{Fits}
use Rattle.zar_cli.specs.Forms.{CallWord}
use Rattle.zar_cli.specs.Needs.{takes_memory}
use Rattle.zar_cli.specs.Words.{command_of}
use Rattle.zar_cli.specs.inner.AsWritten.{IsDrawn}

-- a command that says lines of runs takes memory
takes_for_drawn : (c : Command) (text : List ℕ) → Fits c (Ok (Drawn text)) → takes_memory c ≡ true
takes_for_drawn (Checked program work) text fits = refl
takes_for_drawn (Show program) text fits = refl
takes_for_drawn (Gen k) text fits = refl
takes_for_drawn (Fast labels flips None d) text fits = refl
takes_for_drawn (Roll weights flips source d) text fits = refl
takes_for_drawn (Fast labels flips (Some (File bits)) d) text fits = refl
takes_for_drawn (Fast labels flips (Some (Stream seed stream budget)) d) text (inl may) = absurd may
takes_for_drawn (Fast labels flips (Some (Stream seed stream budget)) d) text (inr is) = let wrong = is.1 in absurd (cc)
takes_for_drawn (Help topic) text (inl may) = absurd may
takes_for_drawn (Help topic) text (inr is) = let wrong = is.1 in absurd (cc)

drawn_memory : (c : Command) (before now : List Event) (output : Output) → IsDrawn output → IsSaid (Ok c) before now output → IsSaid (Ok c) before now (Err Memory)
drawn_memory c before now (Ok (Drawn text)) drawn is =
    record { fits = inl (takes_for_drawn c text is.fits); leaves = is.leaves; asks = is.asks; tells = λ quiet file agrees. inl refl; some = is.some }
drawn_memory c before now (Ok (Answered answer)) drawn is = absurd (cc)
drawn_memory c before now (Ok (Accepted statements names)) drawn is = absurd (cc)
drawn_memory c before now (Ok (Shown text)) drawn is = absurd (cc)
drawn_memory c before now (Ok (Rolled roll)) drawn is = absurd (cc)
drawn_memory c before now (Ok (Helped topic)) drawn is = absurd (cc)
drawn_memory c before now (Err refusal) drawn is = absurd drawn

-- in the place of lines of runs, memory may have run out
memory_said : (command : Result Command ℕ) (before now : List Event) (output : Output) → IsDrawn output → IsSaid command before now output → IsSaid command before now (Err Memory)
memory_said (Ok command) before now output drawn is = drawn_memory command before now output drawn is
memory_said (Err at) before now (Ok said) drawn is = let wrong = is.0 in absurd (cc)
memory_said (Err at) before now (Err refusal) drawn is = absurd drawn

module _ {S : Type 0} (answered : S → List Event) where
  -- on a sink that was left alone nothing was written
  pub none_written : (old new : S) → new ≡ old → IsWritten false (answered old) (answered new) []
  none_written old new same = (ap (λ s. failures (answered s)) same, ap (λ s. written (answered s)) same ∙ sym (append-nil (written (answered old))))

  -- on one that was left alone before
  pub written_after : (failed : Bool) (old now new : S) (text : List ℕ) → now ≡ old → IsWritten failed (answered now) (answered new) text
      → IsWritten failed (answered old) (answered new) text
  written_after failed old now new text same is = subst (λ (s : S). IsWritten failed (answered s) (answered new) text) same is

pub then_status : (r failed : Bool) → r ≡ failed → r ≡ true → WRITE_FAULT ≡ (if failed then WRITE_FAULT else OUT_OF_MEMORY)
then_status r true same is = refl
then_status r false same is = absurd (cc)

pub else_status : (r failed : Bool) → r ≡ failed → r ≡ false → OUT_OF_MEMORY ≡ (if failed then WRITE_FAULT else OUT_OF_MEMORY)
else_status r true same is = absurd (cc)
else_status r false same is = refl

-- a call that ran out of memory before the first byte of what was to be said
pub memory_answer : (words : List CallWord) (status : ℕ) (files files_now out out_now err err_now : List Event) (output : Output) (failed : Bool) → IsDrawn output
    → IsSaid (command_of words) files files_now output → status ≡ (if failed then WRITE_FAULT else OUT_OF_MEMORY) → IsWritten false out out_now [] → IsWritten failed err err_now (refusal_text Memory)
    → IsAnswer words status files files_now out out_now err err_now
memory_answer words status files files_now out out_now err err_now output failed drawn said is on_out on_err = record {
  output = Err Memory;
  said = memory_said (command_of words) files files_now output drawn said;
  delivered = record { out_failed = false; err_failed = failed; status_is = is; on_out = on_out; on_err = on_err };
}
