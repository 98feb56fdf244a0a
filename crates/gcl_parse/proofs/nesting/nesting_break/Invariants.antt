use Rattle.std.proofs.Common.{◌≡◌, ◌+◌, ◌≤◌, drop, option_map}
use Rattle.gcl_core.specs.text.Nesting.{breaks_from, nesting_break}
use Rattle.gcl_core.specs.text.Words.{kinds_of}
use Rattle.gcl_core.specs.declared.rules.TheConstants.{DEEPEST_NESTING, MOST_OPERATORS}
use Rattle.gcl_parse.proofs.nesting.nesting_break.Given as goal

abbrev pub invariant-loop-i : goal.invariant-loop-i
invariant-loop-i l = (l.level ≤ DEEPEST_NESTING) × (l.count ≤ MOST_OPERATORS) × (nesting_break (kinds_of l.tokens) ≡ option_map (λ j. j + l.i) (breaks_from l.level l.count (kinds_of (drop l.i l.tokens))))
