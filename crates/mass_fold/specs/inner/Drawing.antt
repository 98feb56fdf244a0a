-- What the clauses of a fold say of a part of a table, and of a uniform draw.
use Rattle.std.specs.Prelude.{ℕ, []}
use Rattle.gcl_core.specs.declared.answers.Limit.TheVariants.{Attempts}
use Rattle.gcl_core.specs.meaning.Blocks.{limit}
use Rattle.gcl_core.specs.meaning.Syntax.{Expression}
use Rattle.gcl_core.specs.meaning.Value.{State, value_of}
use Rattle.gcl_core.specs.weighing.Fractions.{Fraction}
use Rattle.gcl_core.specs.weighing.WeightedEnds.{class_weight, no_class_weight}
use Rattle.table_flow.specs.Counts.{part_at, rest_at, drawn, undrawn, all_kept, none_kept, all_stopped, none_stopped}
use Rattle.mass_fold.specs.declared.error.MassError.{MassError}
use Rattle.mass_fold.specs.declared.ended.Ended.{Ended}
use Rattle.mass_fold.specs.declared.ended.Gone.{Gone}
use Rattle.mass_fold.specs.declared.fold.Fold.{Fold}
use Rattle.mass_fold.specs.declared.table.Table.{Table}
use Rattle.mass_fold.specs.inner.Ended.{end_of}
use Rattle.mass_fold.specs.inner.Steps.{DrawsTo, DrawBlames, AddedBy, StoppedBy, BlamedBy, UniformTo, UniformBlames, at_numbers}

-- ---- each weight times w: kept, or ended in one way

abbrev pub ScaledTo : Fraction → Table → Ended → Table → Type 0
ScaledTo w t E t' = DrawsTo (λ s. w) (λ s. w) all_kept none_stopped t.states.entries E t'.states.entries E

abbrev pub ScaleRefused : Fraction → Table → Ended → MassError → Type 0
ScaleRefused w t E = DrawBlames (λ s. w) (λ s. w) all_kept none_stopped t.states.entries E

abbrev pub PartEnds : Gone → Fraction → Table → Ended → Ended → Type 0
PartEnds x w t E E' = DrawsTo (λ s. w) (λ s. w) none_kept (all_stopped (end_of x)) t.states.entries E [] E'

abbrev pub PartRefused : Gone → Fraction → Table → Ended → MassError → Type 0
PartRefused x w t E = DrawBlames (λ s. w) (λ s. w) none_kept (all_stopped (end_of x)) t.states.entries E

-- ---- one state of weight w, with b numbers

abbrev pub BoundAdds : Fold → ℕ → ℕ → Table → Table → State → Fraction → Type 0
BoundAdds f x b t t' s w = AddedBy (class_weight b f.attempts.most 1) t.states.entries t'.states.entries w (at_numbers x b s)

abbrev pub BoundStops : Fold → ℕ → Ended → Ended → Fraction → Type 0
BoundStops f b E E' w = StoppedBy (no_class_weight b f.attempts.most) E E' w (λ G. G (limit Attempts))

abbrev pub BoundBlames : Fold → ℕ → ℕ → Table → Ended → State → Fraction → MassError → Type 0
BoundBlames f x b t E s w = let r = f.attempts.most in
    BlamedBy (class_weight b r 1) (no_class_weight b r) t.states.entries E w (at_numbers x b s) (λ G. G (limit Attempts))

-- ---- one state of weight w, with as many numbers as an expression says

abbrev pub EntryAdds : Fold → ℕ → Expression → Table → Table → State → Fraction → Type 0
EntryAdds f x e t t' s w = let v = value_of e in
    AddedBy (part_at v f.attempts.most s) t.states.entries t'.states.entries w (λ G. drawn x v G s)

abbrev pub EntryStops : Fold → Expression → Ended → Ended → State → Fraction → Type 0
EntryStops f e E E' s w = let v = value_of e in StoppedBy (rest_at v f.attempts.most s) E E' w (λ G. undrawn v G s)

abbrev pub EntryBlames : Fold → ℕ → Expression → Table → Ended → State → Fraction → MassError → Type 0
EntryBlames f x e t E s w = let v = value_of e in let r = f.attempts.most in
    BlamedBy (part_at v r s) (rest_at v r s) t.states.entries E w (λ G. drawn x v G s) (λ G. undrawn v G s)

-- ---- each state of a table, with as many numbers as an expression says

abbrev pub UniformFolds : Fold → ℕ → Expression → Table → Ended → Table → Ended → Type 0
UniformFolds f x e t E t' E' = UniformTo x (value_of e) f.attempts.most t.states.entries E t'.states.entries E'

abbrev pub UniformRefused : Fold → ℕ → Expression → Table → Ended → MassError → Type 0
UniformRefused f x e t E = UniformBlames x (value_of e) f.attempts.most t.states.entries E
