-- A program has a loop where it has one when it forgets, so it is refused as that is.
use Rattle.std.proofs.Common.{◌≡◌, Bool, ◌∙◌}
use Rattle.gcl_core.specs.meaning.Syntax.{SourceProgram}
use Rattle.forgetting.specs.Forgetful.{forgetful_of}
use Rattle.exact_fold.specs.Loops.{any_loops}
use Rattle.exact_fold.proofs.SameLimits.{same_loops}
use Rattle.bits_fold.specs.Refused.{BitsRefused}
use Rattle.exact_fold.specs.Refused.{HasNoLoop}
use Rattle.bits_fold.specs.inner.AsWritten.{RefusedAsWritten, RefusedAt}
use Rattle.bits_fold.specs.declared.error.BitsError.{BitsError}
use Rattle.bits_fold.specs.declared.error.BitsError.TheVariants.{TooWide, TooManyStates, NotFound, OutOfMemory}

still : (p : SourceProgram) (b : Bool) → any_loops p.body ≡ b → any_loops (forgetful_of p).body ≡ b
still p b h = same_loops p ∙ h

-- ---- why they are refused
pub refused_holds : (p : SourceProgram) (e : BitsError) → RefusedAsWritten (forgetful_of p) e → BitsRefused p e
refused_holds p TooWide h = (λ none. h.0 (still p _ none), λ some. h.1 (still p _ some))
refused_holds p TooManyStates h = (λ none. h.0 (still p _ none), λ some. h.1 (still p _ some))
refused_holds p NotFound h = (λ none. h.0 (still p _ none), λ some. h.1 (still p _ some))
refused_holds p OutOfMemory h = tt

-- without a loop as at one turn
pub refused_at_once : (p : SourceProgram) → HasNoLoop p → (e : BitsError) → RefusedAt p 1 e → RefusedAsWritten p e
refused_at_once p none TooWide h = (λ _. h, λ some. absurd (cc))
refused_at_once p none TooManyStates h = (λ _. h, λ some. absurd (cc))
refused_at_once p none NotFound h = absurd h
refused_at_once p none OutOfMemory h = tt
