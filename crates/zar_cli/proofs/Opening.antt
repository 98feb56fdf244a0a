-- What is left of the record where a file is opened, and where it is read behind that.
use Rattle.std.proofs.Common.{◌≡◌, ◌+◌, List, [], ◌∷◌, Option, Some, None, Ok, Err, refl, sym, ◌∙◌, ap, subst, arith}
use Rattle.report_text.specs.declared.refusals.Refusal.{Refusal}
use Rattle.report_text.specs.declared.refusals.Refusal.TheVariants.{Coded, Read, Write, Memory, NoFile}
use Rattle.zar_io.specs.declared.outside.OpenError.TheVariants as error
use Rattle.zar_io.specs.declared.trace.Event.{Event}
use Rattle.zar_io.specs.declared.trace.Event.TheVariants.{Opened, Missed, OpenFailed}
use Rattle.zar_io.specs.GoesOn.{GoesOn}
use Rattle.zar_io.specs.Trace.{World, Agrees, failures, is_open}
use Rattle.zar_io.proofs.TraceLemmas.{goes_on-open, goes_on-more}
use Rattle.zar_cli.specs.Forms.{CallWord}
use Rattle.zar_cli.specs.Stages.{Leaves}
use Rattle.zar_cli.specs.inner.Stage.{IsStage}

module _ (name : CallWord) (before now : List Event) where
  pub opened : now ≡ Opened name ∷ before → IsStage (name ∷ []) before now None
  opened is = record { leaves = ap failures is; goes = goes_on-open {A = Unit {0}} (Ok tt) name before now is }

  pub missed : now ≡ Missed name ∷ before → IsStage (name ∷ []) before now (Some NoFile)
  missed is = record {
    leaves = (ap failures is, (name, (0, omega arith, refl), before, is));
    goes = goes_on-open {A = Unit {0}} (Err error.Missing) name before now is;
  }

  pub unopened : now ≡ OpenFailed name ∷ before → IsStage (name ∷ []) before now (Some Read)
  unopened is = record { leaves = (ap failures is, ap is_open is); goes = goes_on-open {A = Unit {0}} (Err error.Failed) name before now is }

  pub not_there : now ≡ Missed name ∷ before → (file : World) → Agrees file now → file name ≡ None
  not_there is file agrees = (subst (Agrees file) is agrees).0

-- no failure was recorded before a stage
pub leaves_since : (names : List CallWord) (before mid now : List Event) (r : Option Refusal) → failures mid ≡ failures before → Leaves names r mid now → Leaves names r before now
leaves_since names before mid now (Some Read) read leaves = (leaves.0 ∙ ap (λ n. n + 1) read, leaves.1)
leaves_since names before mid now (Some NoFile) read leaves = (leaves.0 ∙ read, leaves.1)
leaves_since names before mid now (Some (Coded code at)) read leaves = leaves ∙ read
leaves_since names before mid now (Some Write) read leaves = leaves ∙ read
leaves_since names before mid now (Some Memory) read leaves = leaves ∙ read
leaves_since names before mid now None read leaves = leaves ∙ read

-- behind an opening
pub read_behind : (name : CallWord) (before mid now : List Event) (r : Option Refusal) → IsStage (name ∷ []) before mid None → GoesOn [] mid now → Leaves (name ∷ []) r mid now
    → IsStage (name ∷ []) before now r
read_behind name before mid now r begun goes leaves =
    record { leaves = leaves_since (name ∷ []) before mid now r begun.leaves leaves; goes = goes_on-more (name ∷ []) before mid now begun.goes goes }

-- behind an opening, by a reader of the bits that the file has
pub bits_behind : (name : CallWord) (before opening begun read now : List Event) (r : Option Refusal) → IsStage (name ∷ []) before opening None → begun ≡ opening → GoesOn [] begun read → now ≡ read
    → Leaves (name ∷ []) r begun read → IsStage (name ∷ []) before now r
bits_behind name before opening begun read now r stage begins goes ends leaves =
    subst (λ events. IsStage (name ∷ []) before events r) (sym ends)
    (read_behind name before begun read r (subst (λ events. IsStage (name ∷ []) before events None) (sym begins) stage) goes leaves)
