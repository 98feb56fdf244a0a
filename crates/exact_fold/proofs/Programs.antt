-- Programs.
use Rattle.std.proofs.Common.{◌≡◌, [], ◌∷◌, ◌++◌, length, refl, subst, arith}
use Rattle.gcl_core.specs.meaning.Outcomes.{zeros}
use Rattle.gcl_core.specs.meaning.Syntax.{SourceProgram}
use Rattle.mass_fold.specs.declared.ended.Ended.{Ended}
use Rattle.mass_fold.specs.inner.Amounts.{Entries}
use Rattle.mass_fold.specs.inner.Ended.{rows_of, IsNone}
use Rattle.unlimited_law.specs.Alike.{Alike}
use Rattle.unlimited_law.specs.Settling.{BlockSettles}
use Rattle.unlimited_law.proofs.Numbers.{same_refl, same_trans, add_same, nought_add}
use Rattle.unlimited_law.proofs.Integrals.{integral, integral_append}
use Rattle.unlimited_law.proofs.SameWeights.{alike_integral}
use Rattle.exact_fold.specs.inner.Settled.{as_table, SettlesFrom, ProgramSettlesTo}
use Rattle.exact_fold.specs.inner.Turning.{NothingIn}
use Rattle.unlimited_law.proofs.BlockLimits.{behind_fractions}
use Rattle.exact_fold.proofs.SameLists.{alike_of}
use Rattle.exact_fold.proofs.Turns.{nothing_counts, none_fractions}

none_nothing : (E : Ended) → IsNone E → NothingIn (rows_of E)
none_nothing E h = ((h.failed).0, ((h.overflow).0, ((h.divisor).0, ((h.bound).0, ((h.turns).0, ((h.attempts).0, tt))))))

pub program_settles : (p : SourceProgram) (es : Entries) (E : Ended) → es ≡ (zeros (length p.names), (1, 1)) ∷ [] → IsNone E → (fs : Entries) (F : Ended) → SettlesFrom (BlockSettles Alike Alike p.body) es E fs F → ProgramSettlesTo p fs F
program_settles p es E e none fs F s = by (subst (λ z. SettlesFrom (BlockSettles Alike Alike p.body) z E fs F) e s)
  where
    by : SettlesFrom (BlockSettles Alike Alike p.body) ((zeros (length p.names), (1, 1)) ∷ []) E fs F → ProgramSettlesTo p fs F
    by s =
        let o = s (omega arith, omega arith, tt) (none_fractions E none) in
        record {
          outflow = record { next = as_table fs; ended = o.ended; turns = o.turns };
          settles = o.settles;
          next = refl;
          ends = alike_of (rows_of F) o.ended o.adds.first (behind_fractions (rows_of E) o.ended o.adds.second)
              (λ G. same_trans (alike_integral (rows_of F) (rows_of E ++ o.ended) o.adds G)
              (same_trans (integral_append G (rows_of E) o.ended)
              (same_trans (add_same (nothing_counts G (rows_of E) (none_nothing E none)) (same_refl (integral G o.ended))) (nought_add (integral G o.ended)))));
          above = o.above;
          unlimited = o.unlimited;
        }
