use Rattle.std.proofs.Common.{◌≡◌, ◌≤◌, ◌+◌, ◌*◌, List, ◌∷◌, length}
use Rattle.gcl_core.specs.declared.words.Word.{Word}
use Rattle.gcl_core.specs.meaning.Syntax.{Statements}
use Rattle.gcl_core.specs.text.Grammar.{ReadsStatements}
use Rattle.gcl_parse.specs.inner.Pushdown.{Symbol, stmts, run}
use Rattle.gcl_parse.proofs.Blocks.{before}
use Rattle.gcl_parse.proofs.parser.Parser.+statements.Given as goal

abbrev pub decreases-statements : goal.decreases-statements
decreases-statements l = 20 * length l.self.now

abbrev pub decreases-statement : goal.decreases-statement
decreases-statement l = 20 * length l.self.now + 10

abbrev pub decreases-branch : goal.decreases-branch
decreases-branch l = 20 * length l.self.now + 8

abbrev pub decreases-repeat : goal.decreases-repeat
decreases-repeat l = 20 * length l.self.now + 8

abbrev pub decreases-choice : goal.decreases-choice
decreases-choice l = 20 * length l.self.now + 8

abbrev pub decreases-choice_among : goal.decreases-choice_among
decreases-choice_among l = 20 * length l.self.now + 8

abbrev pub decreases-arms : goal.decreases-arms
decreases-arms l = 20 * length l.self.now + 8

abbrev pub decreases-arm : goal.decreases-arm
decreases-arm l = 20 * length l.self.now + 7

abbrev pub decreases-block : goal.decreases-block
decreases-block l = 20 * length l.self.now + 5

abbrev pub decreases-otherwise : goal.decreases-otherwise
decreases-otherwise l = 20 * length l.self.now + 6

abbrev pub invariant-statements-loop-start : goal.invariant-statements-loop-start
invariant-statements-loop-start l =
    (length l.self ≤ length l.fn.self)
    × ((xs : Statements) (rest : List Word) → ReadsStatements l.self xs rest → ReadsStatements l.fn.self (before l.found.items xs) rest)
    × ((s : List Symbol) → run l.fn.self (stmts ∷ s) ≡ run l.self (stmts ∷ s))

abbrev pub decreases-statements-loop-start : goal.decreases-statements-loop-start
decreases-statements-loop-start l = length l.self
