-- Tables of units keep their states: merged, and in draws.
use Rattle.std.proofs.Common.{◌≡◌, ℕ, zero, suc, ◌+◌, Ordering, true, [], ◌∷◌, Option, refl}
use Rattle.std.specs.declared.cmp.Ordering.TheVariants.{Less, Equal, Greater}
use Rattle.std.specs.BTreeMap.{insert_entry}
use Rattle.gcl_core.specs.meaning.Fitting.{state_fits}
use Rattle.gcl_core.specs.meaning.Value.{State}
use Rattle.table_flow.proofs.FittingTables.{AllFit, KeepsStates}
use Rattle.units_law.specs.Merged.{order, units_at, put, put_all, merged}
use Rattle.units_law.specs.Rounding.{Rounding, class_units, units_kind}
use Rattle.units_law.specs.Units.{Units, counted_units}

-- all states of a table have numbers of 64 bits
abbrev pub UnitsFit : Units State → Type 0
UnitsFit = AllFit counted_units

fit_insert : (s : State) (w : ℕ) (es : Units State) → state_fits s ≡ true → UnitsFit es → UnitsFit (insert_entry order es s w)
fit_insert s w [] f h = (f, tt)
fit_insert s w (e ∷ es) f h = at_head (order s e.0) refl (fit_insert s w es f h.1)
  where
    at_head : (o : Ordering) → order s e.0 ≡ o → UnitsFit (insert_entry order es s w) → UnitsFit (insert_entry order (e ∷ es) s w)
    at_head Less p i = rw p (f, h)
    at_head Equal p i = rw p h
    at_head Greater p i = rw p (h.0, i)

fit_put : (es : Units State) (s : State) (w : ℕ) → state_fits s ≡ true → UnitsFit es → UnitsFit (put es s w)
fit_put es s zero f h = h
fit_put es s (suc w) f h = fit_insert s (units_at es s + suc w) es f h

fit_put_all : (es J : Units State) → UnitsFit es → UnitsFit J → UnitsFit (put_all es J)
fit_put_all es [] h i = h
fit_put_all es (e ∷ J) h i = fit_put_all (put es e.0 e.1) J (fit_put es e.0 e.1 i.0 h) i.1

pub fit_merged : (J : Units State) → UnitsFit J → UnitsFit (merged J)
fit_merged J h = fit_put_all [] J tt h

pub fit_class : (cut : Rounding) (b : ℕ) (r : Option ℕ) (c : ℕ) (J : Units State) → UnitsFit J → UnitsFit (class_units cut b r c J)
fit_class cut b r c [] h = tt
fit_class cut b r c (e ∷ J) h = (h.0, fit_class cut b r c J h.1)

pub units_keep_states : (cut : Rounding) → KeepsStates (units_kind cut)
units_keep_states cut = record { moved = λ s e. refl; tidy = fit_merged; at_loop = λ J h. tt; class = fit_class cut }
