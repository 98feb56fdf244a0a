-- Why lines are refused: each code has a cause, which holds of the program.
use Rattle.std.specs.Prelude.{◌≡◌, ℕ, Option, None}
use Rattle.bits_fold.specs.Refused.{BitsRefused}
use Rattle.bits_fold.specs.declared.error.BitsError.{BitsError}
use Rattle.bits_fold.specs.declared.error.BitsError.TheVariants as bits
use Rattle.cost_fold.specs.Refused.{CostRefused}
use Rattle.cost_fold.specs.declared.error.CostError.{CostError}
use Rattle.cost_fold.specs.declared.error.CostError.TheVariants as cost
use Rattle.enclose_fold.specs.Refused.{EncloseRefused}
use Rattle.enclose_fold.specs.declared.error.EncloseError.{EncloseError}
use Rattle.enclose_fold.specs.declared.error.EncloseError.TheVariants as enclose
use Rattle.exact_fold.specs.Refused.{WhyRefused}
use Rattle.exact_fold.specs.declared.error.ExactError.{ExactError}
use Rattle.exact_fold.specs.declared.error.ExactError.TheVariants as exact
use Rattle.gcl_core.specs.declared.answers.Limits.{Limits}
use Rattle.gcl_core.specs.declared.refusals.TheConstants.{TOO_WIDE, TOO_MANY_STATES, ALL_FAILED, TOO_UNLIKELY}
use Rattle.gcl_core.specs.meaning.Syntax.{SourceProgram}
use Rattle.mass_fold.specs.Refused.{MassRefused}
use Rattle.mass_fold.specs.declared.error.MassError.{MassError}
use Rattle.mass_fold.specs.declared.error.MassError.TheVariants as mass
use Rattle.mass_lines.specs.declared.reasons.Reason.{Reason}
use Rattle.mass_lines.specs.declared.reasons.Reason.TheVariants.{Coded, Memory}

-- ---- the code of each error

abbrev pub mass_reason : MassError → Reason
mass_reason mass.TooWide = Coded TOO_WIDE
mass_reason mass.TooManyStates = Coded TOO_MANY_STATES
mass_reason mass.AllFailed = Coded ALL_FAILED
mass_reason mass.OutOfMemory = Memory

abbrev pub cost_reason : CostError → Reason
cost_reason cost.TooWide = Coded TOO_WIDE
cost_reason cost.TooManyStates = Coded TOO_MANY_STATES
cost_reason cost.OutOfMemory = Memory

-- what is not found is too wide, as it is for masses
abbrev pub expected_reason : BitsError → Reason
expected_reason bits.TooWide = Coded TOO_WIDE
expected_reason bits.NotFound = Coded TOO_WIDE
expected_reason bits.TooManyStates = Coded TOO_MANY_STATES
expected_reason bits.OutOfMemory = Memory

abbrev pub enclose_reason : EncloseError → Reason
enclose_reason enclose.TooManyStates = Coded TOO_MANY_STATES
enclose_reason enclose.AllFailed = Coded ALL_FAILED
enclose_reason enclose.TooUnlikely = Coded TOO_UNLIKELY
enclose_reason enclose.OutOfMemory = Memory

abbrev pub exact_reason : ExactError → Reason
exact_reason exact.TooWide = Coded TOO_WIDE
exact_reason exact.TooManyStates = Coded TOO_MANY_STATES
exact_reason exact.AllFailed = Coded ALL_FAILED
exact_reason exact.OutOfMemory = Memory

-- ---- causes

-- an error of this code, whose cause holds
pub record IsCause {E : Type 0} (reason_of : E → Reason) (Holds : E → Type 0) (code : ℕ) : Type 0 where
  pub error : E
  pub coded : reason_of error ≡ Coded code
  pub holds : Holds error

abbrev pub WhyNoMasses : SourceProgram → ℕ → Option ℕ → Option ℕ → ℕ → Type 0
WhyNoMasses p turns attempts rounds = IsCause mass_reason (λ e. MassRefused e p turns attempts rounds)

abbrev pub WhyNoBounds : SourceProgram → ℕ → ℕ → Type 0
WhyNoBounds p turns = WhyNoMasses p turns None None

abbrev pub WhyNoBits : SourceProgram → Limits → ℕ → Type 0
WhyNoBits p l = IsCause cost_reason (λ e. CostRefused e p l)

abbrev pub WhyNotExpected : SourceProgram → ℕ → Type 0
WhyNotExpected p = IsCause expected_reason (BitsRefused p)

abbrev pub WhyNotEnclosed : SourceProgram → ℕ → Option ℕ → Option ℕ → ℕ → Type 0
WhyNotEnclosed p turns attempts rounds = IsCause enclose_reason (λ e. EncloseRefused e p turns attempts rounds)

abbrev pub WhyNotExact : SourceProgram → ℕ → Type 0
WhyNotExact p = IsCause exact_reason (WhyRefused p)

-- lines that no code refuses
abbrev pub NoCode : ℕ → Type 0
NoCode code = ⊥

-- lines are refused for such a cause of their code, or where memory runs out
abbrev pub IsReason : (ℕ → Type 0) → Reason → Type 0
IsReason Cause (Coded code) = Cause code
IsReason Cause Memory = Unit {0}
