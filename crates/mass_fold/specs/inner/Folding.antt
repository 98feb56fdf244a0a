-- What the clauses of a fold say of a block, a statement, a loop and the arms of a choice among several: the table and the ends
-- after it, why it is refused, and what the meter counts.
use Rattle.std.specs.List.{sum}
use Rattle.gcl_core.specs.meaning.Arms.{parts_of}
use Rattle.gcl_core.specs.meaning.Parts.{partial_sums}
use Rattle.gcl_core.specs.meaning.Syntax.{Choose, Expression, Statement, Statements, ArmList}
use Rattle.table_flow.specs.Tables.{statement_flow, block_flow}
use Rattle.mass_fold.specs.declared.error.MassError.{MassError}
use Rattle.mass_fold.specs.declared.ended.Ended.{Ended}
use Rattle.mass_fold.specs.declared.fold.Fold.{Fold}
use Rattle.mass_fold.specs.declared.meter.Meter.{Meter}
use Rattle.mass_fold.specs.declared.table.Table.{Table}
use Rattle.mass_fold.specs.inner.Fold.{FoldsTo, FoldBlames, FoldsOne, OneBlames, turns_flow, AfterUndecided}
use Rattle.mass_fold.specs.inner.Metering.{Meters, MetersOne, turns_draws, CountsDraws}

-- ---- a block

abbrev pub BlockFolds : Fold → Statements → Table → Ended → Table → Ended → Type 0
BlockFolds f b t E t' E' = FoldsTo (block_flow f.turns f.attempts.most b) t.states.entries E t'.states.entries E'

abbrev pub BlockBlames : Fold → Statements → Table → Ended → MassError → Type 0
BlockBlames f b t E = FoldBlames (block_flow f.turns f.attempts.most b) t.states.entries E

abbrev pub BlockMeters : Fold → Statements → Table → Ended → Meter → Meter → Type 0
BlockMeters f b t E = let n = f.turns in let r = f.attempts.most in
    Meters r (block_flow n r b) (λ I. (block_flow n r b I).reached) t.states.entries E

-- ---- a statement

abbrev pub StatementFolds : Fold → Statement → Table → Ended → Table → Ended → Type 0
StatementFolds f s t E t' E' = FoldsOne (statement_flow f.turns f.attempts.most s) t.states.entries E t'.states.entries E'

abbrev pub StatementBlames : Fold → Statement → Table → Ended → MassError → Type 0
StatementBlames f s t E = OneBlames (statement_flow f.turns f.attempts.most s) t.states.entries E

abbrev pub StatementMeters : Fold → Statement → Table → Ended → Meter → Meter → Type 0
StatementMeters f s t E = let n = f.turns in let r = f.attempts.most in
    MetersOne r (statement_flow n r s) (λ I. (statement_flow n r s I).reached) t.states.entries E

-- ---- a loop

abbrev pub LoopFolds : Fold → Expression → Statements → Table → Ended → Table → Ended → Type 0
LoopFolds f e b t E t' E' = FoldsOne (turns_flow f.turns f.attempts.most e b) t.states.entries E t'.states.entries E'

abbrev pub LoopBlames : Fold → Expression → Statements → Table → Ended → MassError → Type 0
LoopBlames f e b t E = OneBlames (turns_flow f.turns f.attempts.most e b) t.states.entries E

abbrev pub LoopMeters : Fold → Expression → Statements → Table → Ended → Meter → Meter → Type 0
LoopMeters f e b t E = let n = f.turns in let r = f.attempts.most in
    MetersOne r (turns_flow n r e b) (turns_draws n r e b) t.states.entries E

-- ---- the arms of a choice among several, after what none of its attempts decides, and where their draws were counted before

abbrev pub AfterDraws : Fold → ArmList → Table → Ended → (Ended → Type 0) → Type 0
AfterDraws f arms t E = AfterUndecided (sum (parts_of arms)) f.attempts.most t.states.entries E

abbrev pub ArmsFold : Fold → ArmList → Table → Ended → Table → Ended → Type 0
ArmsFold f arms t E t' E' = AfterDraws f arms t E (λ E. StatementFolds f (Choose arms) t E t' E')

abbrev pub ArmsBlame : Fold → ArmList → Table → Ended → MassError → Type 0
ArmsBlame f arms t E e = AfterDraws f arms t E (λ E. StatementBlames f (Choose arms) t E e)

abbrev pub ArmsMeter : Fold → ArmList → Table → Ended → Meter → Meter → Type 0
ArmsMeter f arms t E now m' = AfterDraws f arms t E (λ E. (m : Meter) →
    CountsDraws f.attempts.most (sum (parts_of arms)) (partial_sums (parts_of arms)) t.states.entries m now →
    StatementMeters f (Choose arms) t E m m')
