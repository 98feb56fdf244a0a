-- What is answered of whatever a run costs where nothing is limited: of the bits that it reads, of the rounds that it begins, and of the draws
-- and turns of loops that it makes. This project's own rule.
use Rattle.numbers.specs.Arithmetic.{InLowest}
use Rattle.gcl_core.specs.declared.answers.Limits.{Limits}
use Rattle.gcl_core.specs.weighing.Fractions.{Fraction}
use Rattle.bits_law.specs.InTheLimit.{ComesTo, HasNoBound}
use Rattle.bits_fold.specs.declared.counts.Count.{Count}
use Rattle.bits_fold.specs.declared.counts.Count.TheVariants.{Expected, Unbounded}

-- the fraction to which what is expected under limits comes, in lowest terms, or that there is no bound
abbrev pub IsCount : (Limits → Fraction) → Count → Type 0
IsCount under (Expected f) = ComesTo under f × InLowest f
IsCount under Unbounded = HasNoBound under
