-- What is written one behind the other.
use Rattle.std.proofs.Common.{◌≡◌, ℕ, ◌+◌, Bool, true, false, List, ◌++◌, length, take, append_assoc, length-append, ◌∙◌, ap, arith}
use Rattle.std.proofs.Math.Seq.{take-append-add}
use Rattle.std.proofs.lemmas.List.{take-append-le}
use Rattle.zar_io.specs.declared.trace.Event.{Event}
use Rattle.zar_io.specs.Trace.{written}
use Rattle.zar_io.specs.Written.{IsWritten}

module _ (before now : List Event) where
  -- a part of the front of a text is one of the text with more behind it
  pub cut_short : (s t : List ℕ) → IsWritten true before now s → IsWritten true before now (s ++ t)
  cut_short s t is = (is.0, (is.1.0, omega (arith, is.1.1, length-append s t), rw (take-append-le is.1.0 s t (omega (arith, is.1.1))) is.1.2))

  -- one text behind another
  pub one_behind : (mid : List Event) (failed : Bool) (s t : List ℕ) → IsWritten false before mid s → IsWritten failed mid now t → IsWritten failed before now (s ++ t)
  one_behind mid true s t first second =
      let n = second.1.0 in (
        second.0 ∙ ap (λ k. k + 1) first.0,
        (
          length s + n,
          omega (arith, second.1.1, length-append s t),
          rw (take-append-add s t n) (second.1.2 ∙ ap (λ w. w ++ take n t) first.1 ∙ append_assoc (written before) s (take n t)),
        ),
      )
  one_behind mid false s t first second = (second.0 ∙ first.0, second.1 ∙ ap (λ w. w ++ t) first.1 ∙ append_assoc (written before) s t)
