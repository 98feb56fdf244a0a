-- By which refusals a command may end: a code of texts or of work, or the outside, and never a failed write.
use Rattle.std.proofs.Common.{◌≡◌, ◌≢◌, ℕ, ◌<◌, Bool, List, Option, Some, None, Ok, Err, ◌⊎◌, inl, inr, sym, subst, arith}
use Rattle.bits_fold.specs.declared.error.BitsError.{BitsError}
use Rattle.bits_fold.specs.declared.error.BitsError.TheVariants as bits
use Rattle.cost_fold.specs.declared.error.CostError.{CostError}
use Rattle.cost_fold.specs.declared.error.CostError.TheVariants as cost
use Rattle.dice_roll.specs.FastRoll.{fast_roll}
use Rattle.enclose_fold.specs.declared.error.EncloseError.{EncloseError}
use Rattle.enclose_fold.specs.declared.error.EncloseError.TheVariants as enclose
use Rattle.exact_fold.specs.declared.error.ExactError.{ExactError}
use Rattle.exact_fold.specs.declared.error.ExactError.TheVariants as exact
use Rattle.gcl_core.specs.declared.refusals.TheConstants.{BAD_WORDS}
use Rattle.gcl_core.specs.meaning.Runs.{run_on}
use Rattle.gcl_core.specs.meaning.Syntax.{SourceProgram}
use Rattle.gcl_core.specs.text.Acceptance.{Flaw, kind_mismatch, unknown_name, zero_denominator, weight_above_one, too_fine}
use Rattle.gcl_core.specs.text.Texts.{IsRefusedText, too_long, no_piece, wide_number, long_name, unexpected, too_deep, flaw_code, IsRefusedProgram, many_names, has_flaw, SpellsNone, as_text, as_program}
use Rattle.mass_fold.specs.declared.error.MassError.{MassError}
use Rattle.mass_fold.specs.declared.error.MassError.TheVariants as mass
use Rattle.mass_lines.specs.Reasons.{IsCause, mass_reason, cost_reason, expected_reason, enclose_reason, exact_reason}
use Rattle.mass_lines.specs.declared.reasons.Reason.{Reason}
use Rattle.mass_lines.specs.declared.reasons.Reason.TheVariants as reasons
use Rattle.report_text.specs.declared.refusals.Refusal.{Refusal}
use Rattle.report_text.specs.declared.refusals.Refusal.TheVariants.{Coded, Read, Write, Memory, NoFile}
use Rattle.zar_cli.specs.declared.command.Command.{Command}
use Rattle.zar_cli.specs.declared.command.Command.TheVariants.{Checked, Show, Gen, Fast, Roll, Help}
use Rattle.zar_cli.specs.declared.command.Source.TheVariants.{File, Stream}
use Rattle.zar_cli.specs.declared.command.Work.{Work}
use Rattle.zar_cli.specs.declared.command.Work.TheVariants.{Sample, Mass, Cost, HowLong, Posterior, Exact, Enclose, Audit, Tally, Runs, Hunt, Check, Code, Forgetful}
use Rattle.zar_cli.specs.declared.said.Said.{Said}
use Rattle.zar_cli.specs.declared.said.Said.TheVariants.{Answered, Rolled}
use Rattle.zar_cli.specs.Counts.{ShowsText, ShowsBehind}
use Rattle.zar_cli.specs.Forms.{CallWord}
use Rattle.zar_cli.specs.ByStages.{Output, says, reading, on_bits, HasOrRefuses, if_spelled, if_written}
use Rattle.zar_cli.specs.Output.{IsWorkedOut, IsOutput}
use Rattle.weighted_roll.specs.WeightedRoll.{weighted_roll}
use Rattle.zar_cli.specs.Rolls.{weights_text, weights_said}
use Rattle.zar_cli.specs.Weighed.{ShowsOrRefuses, refused}
use Rattle.zar_cli.specs.WeightedRolls.{labels_text}

abbrev pub IsRefusal : Refusal → Type 0
IsRefusal (Coded code at) = code ≢ BAD_WORDS
IsRefusal Read = Unit {0}
IsRefusal Write = ⊥
IsRefusal Memory = Unit {0}
IsRefusal NoFile = Unit {0}

-- ---- texts

text_codes : (text : List ℕ) (code : ℕ) (at : Option ℕ) → IsRefusedText text code at → code < BAD_WORDS
text_codes text _ _ (too_long h) = omega arith
text_codes text _ _ (no_piece h) = omega arith
text_codes text _ _ (wide_number h) = omega arith
text_codes text _ _ (long_name h) = omega arith
text_codes text _ _ (unexpected lexed nested h) = omega arith
text_codes text _ _ (too_deep lexed h) = omega arith

flaw_codes : (flaw : Flaw) → flaw_code flaw < BAD_WORDS
flaw_codes kind_mismatch = omega arith
flaw_codes unknown_name = omega arith
flaw_codes zero_denominator = omega arith
flaw_codes weight_above_one = omega arith
flaw_codes too_fine = omega arith

program_codes : (p : SourceProgram) (places : List ℕ) (code : ℕ) (at : Option ℕ) → IsRefusedProgram p places code at → code < BAD_WORDS
program_codes p places _ _ (many_names h) = omega arith
program_codes p places _ _ (has_flaw {flaw = flaw} h there) = flaw_codes flaw

spelled_codes : (text : List ℕ) (code : ℕ) (at : Option ℕ) → SpellsNone text code at → code < BAD_WORDS
spelled_codes text code at (as_text h) = text_codes text code at h
spelled_codes text code at (as_program {p = p} {places = places} written h) = program_codes p places code at h

-- these stand below that of words
apart : (code : ℕ) → code < BAD_WORDS → code ≢ BAD_WORDS
apart code below = λ same. omega (arith, below, same)

-- ---- work

abbrev IsApart : Reason → Type 0
IsApart (reasons.Coded code) = code ≢ BAD_WORDS
IsApart reasons.Memory = Unit {0}

mass_codes : (e : MassError) → IsApart (mass_reason e)
mass_codes mass.TooWide = omega arith
mass_codes mass.TooManyStates = omega arith
mass_codes mass.AllFailed = omega arith
mass_codes mass.OutOfMemory = tt

cost_codes : (e : CostError) → IsApart (cost_reason e)
cost_codes cost.TooWide = omega arith
cost_codes cost.TooManyStates = omega arith
cost_codes cost.OutOfMemory = tt

expected_codes : (e : BitsError) → IsApart (expected_reason e)
expected_codes bits.TooWide = omega arith
expected_codes bits.NotFound = omega arith
expected_codes bits.TooManyStates = omega arith
expected_codes bits.OutOfMemory = tt

enclose_codes : (e : EncloseError) → IsApart (enclose_reason e)
enclose_codes enclose.TooManyStates = omega arith
enclose_codes enclose.AllFailed = omega arith
enclose_codes enclose.TooUnlikely = omega arith
enclose_codes enclose.OutOfMemory = tt

exact_codes : (e : ExactError) → IsApart (exact_reason e)
exact_codes exact.TooWide = omega arith
exact_codes exact.TooManyStates = omega arith
exact_codes exact.AllFailed = omega arith
exact_codes exact.OutOfMemory = tt

module _ {E : Type 0} (reason_of : E → Reason) (Holds : E → Type 0) (codes : (e : E) → IsApart (reason_of e)) where
  cause_codes : (code : ℕ) → IsCause reason_of Holds code → code ≢ BAD_WORDS
  cause_codes code cause = subst IsApart cause.coded (codes cause.error)

  lines_codes : (Are : List ℕ → Type 0) (e : Refusal) → ShowsOrRefuses Are (IsCause reason_of Holds) (Err e) → IsRefusal e
  lines_codes Are _ (refused code cause) = cause_codes code cause

-- ---- commands

module _ (e : Refusal) where
  is_refusal : (other : Refusal) → ◌≡◌ {A = Output} (Err e) (Err other) → IsRefusal other → IsRefusal e
  is_refusal other same is = let equal : e ≡ other = cc in subst IsRefusal (sym equal) is

  of_said : (said : Said) → says said (Err e) → IsRefusal e
  of_said said is = let same : ◌≡◌ {A = Output} (Err e) (Ok said) = is in absurd (cc)

  of_shown : (Is : List ℕ → Type 0) → ShowsText Is (Err e) → IsRefusal e
  of_shown Is is = let same = is.2 in absurd (cc)

  of_behind : (front : List ℕ) (Is : List ℕ → Type 0) → ShowsBehind front Is (Err e) → IsRefusal e
  of_behind front Is is = let same = is.2 in absurd (cc)

  of_weights : (weights : Option (List ℕ)) → ◌≡◌ {A = Output} (Err e) (weights_said weights) → IsRefusal e
  of_weights (Some text) is = absurd (cc)
  of_weights None is = is_refusal _ is (omega arith)

  of_reading : (file : Option (List ℕ)) (go : List ℕ → Output → Type 0) → ((text : List ℕ) → go text (Err e) → IsRefusal e) → reading file go (Err e) → IsRefusal e
  of_reading (Some text) go h is = h text is
  of_reading None go h is = is_refusal NoFile is tt

  of_bits : (file : Option (List ℕ)) (say : List Bool → Said) → on_bits file say (Err e) → IsRefusal e
  of_bits file say is = of_reading file _ (λ text said. of_said _ said) is

  module _ (Has : SourceProgram → Type 0) (Refuses : ℕ → Option ℕ → Type 0) (go : SourceProgram → Output → Type 0) (codes : (code : ℕ) (at : Option ℕ) → Refuses code at → code < BAD_WORDS)
      (h : (p : SourceProgram) → go p (Err e) → IsRefusal e) where
    of_either : ((p : SourceProgram) × Has p × go p (Err e)) ⊎ ((code : ℕ) × (at : Option ℕ) × Refuses code at × (◌≡◌ {A = Output} (Err e) (Err (Coded code at)))) → IsRefusal e
    of_either (inl is) = h is.0 is.2
    of_either (inr is) = is_refusal (Coded is.0 is.1) is.3 (apart is.0 (codes is.0 is.1 is.2))

    of_program : HasOrRefuses Has Refuses go (Err e) → IsRefusal e
    of_program is = of_either is.right

  of_spelled : (file : Option (List ℕ)) (go : SourceProgram → Output → Type 0) → reading file (if_spelled go) (Err e) → ((p : SourceProgram) → go p (Err e) → IsRefusal e) → IsRefusal e
  of_spelled file go is h = of_reading file (if_spelled go) (λ text there. of_program _ _ go (spelled_codes text) h there) is

  of_written : (file : Option (List ℕ)) (go : SourceProgram → Output → Type 0) → reading file (if_written go) (Err e) → ((p : SourceProgram) → go p (Err e) → IsRefusal e) → IsRefusal e
  of_written file go is h = of_reading file (if_written go) (λ text there. of_program _ _ go (text_codes text) h there) is

  work_codes : (file : CallWord → Option (List ℕ)) (p : SourceProgram) (work : Work) → IsWorkedOut file p work (Err e) → IsRefusal e
  work_codes file p (Sample (File bits) limits) is = of_bits (file bits) (λ w. Answered (run_on p limits w)) is
  work_codes file p (Sample (Stream seed stream budget) limits) is = of_said _ is
  work_codes file p (Mass turns attempts rounds d) is = lines_codes mass_reason _ mass_codes _ e is
  work_codes file p (Cost (Some limits) d) is = lines_codes cost_reason _ cost_codes _ e is
  work_codes file p (Cost None d) is = lines_codes expected_reason _ expected_codes _ e is
  work_codes file p (HowLong d) is = lines_codes expected_reason _ expected_codes _ e is
  work_codes file p (Posterior turns d) is = lines_codes mass_reason _ mass_codes _ e is
  work_codes file p (Exact d) is = lines_codes exact_reason _ exact_codes _ e is
  work_codes file p (Enclose turns attempts rounds all_turns d) is = lines_codes enclose_reason _ enclose_codes _ e is
  work_codes file p (Audit depth limits d) is = of_shown _ is
  work_codes file p (Tally range limits named) is = of_behind _ _ is
  work_codes file p (Runs range limits named) is = of_said _ is
  work_codes file p (Hunt range limits want named) is = of_behind _ _ is
  work_codes file p Check is = of_said _ is
  work_codes file p Code is = of_said _ is
  work_codes file p Forgetful is = of_said _ is

  pub output_codes : (file : CallWord → Option (List ℕ)) (c : Command) → IsOutput file c (Err e) → IsRefusal e
  output_codes file (Checked program work) is = of_spelled (file program) (λ p. IsWorkedOut file p work) is (λ p there. work_codes file p work there)
  output_codes file (Show program) is = of_written _ _ is (λ p there. of_said _ there)
  output_codes file (Gen k) is = of_shown _ is
  output_codes file (Fast labels flips (Some (File bits)) d) is = of_bits (file bits) (λ w. Rolled (fast_roll labels flips w)) is
  output_codes file (Fast labels flips (Some (Stream seed stream budget)) d) is = of_said _ is
  output_codes file (Fast labels flips None d) is = of_weights (weights_text labels flips d) is
  output_codes file (Roll weights flips (Some (File bits)) d) is = of_bits (file bits) (λ w. Rolled (weighted_roll weights flips w)) is
  output_codes file (Roll weights flips (Some (Stream seed stream budget)) d) is = of_said _ is
  output_codes file (Roll weights flips None d) is = of_weights (labels_text weights flips d) is
  output_codes file (Help topic) is = of_said _ is
