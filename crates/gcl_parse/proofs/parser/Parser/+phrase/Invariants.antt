use Rattle.std.proofs.Common.{◌≡◌, ◌<◌, ◌+◌, ◌-◌, ◌*◌, List, ◌∷◌, length}
use Rattle.gcl_core.specs.declared.words.Word.{Word}
use Rattle.gcl_core.specs.meaning.Syntax.{Expression}
use Rattle.gcl_core.specs.meaning.Views.{expression_of}
use Rattle.gcl_core.specs.text.Grammar.{ReadsPhrase, ReadsMore}
use Rattle.gcl_core.specs.text.Levels.{rank}
use Rattle.gcl_parse.specs.inner.Pushdown.{Symbol, phrase, more, run}
use Rattle.gcl_parse.proofs.parser.Parser.+phrase.Given as goal

abbrev pub decreases-phrase : goal.decreases-phrase
decreases-phrase l = 40 * length l.self.now + 4 * (9 - rank l.level) + 2

abbrev pub decreases-row : goal.decreases-row
decreases-row l = 40 * length l.self.now + 4 * (9 - rank l.level) + 1

abbrev pub decreases-not : goal.decreases-not
decreases-not l = 40 * length l.self.now + 25

abbrev pub decreases-compare : goal.decreases-compare
decreases-compare l = 40 * length l.self.now + 21

abbrev pub decreases-sign : goal.decreases-sign
decreases-sign l = 40 * length l.self.now + 9

abbrev pub decreases-atom : goal.decreases-atom
decreases-atom l = 40 * length l.self.now + 5

abbrev pub invariant-row-loop-op : goal.invariant-row-loop-op
invariant-row-loop-op l =
    (length l.self < length l.fn.self)
    × ((e : Expression) (rest : List Word) → ReadsMore l.level (expression_of l.found) l.self e rest → ReadsPhrase l.level l.fn.self e rest)
    × ((s : List Symbol) → run l.fn.self (phrase l.level ∷ s) ≡ run l.self (more l.level ∷ s))

abbrev pub decreases-row-loop-op : goal.decreases-row-loop-op
decreases-row-loop-op l = length l.self
