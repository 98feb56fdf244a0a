-- Tables whose weights are whole numbers of units, of which so many make one whole, and parts of such tables. This project's own rule.
use Rattle.std.specs.Prelude.{ℕ, ◌+◌, ◌*◌, Bool, List, [], ◌∷◌}
use Rattle.gcl_core.specs.meaning.Value.{State, Value}
use Rattle.gcl_core.specs.meaning.Blocks.{End}
use Rattle.table_flow.specs.Tables.{Entries, only_go, faults_go, end_go, set_go}

-- a list of members, each with its units; a member may stand in it more than once
abbrev pub Units : Type 0 → Type 0
Units A = List (A × ℕ)

-- the units, each times what G gives its member, added
abbrev pub held : {A : Type 0} → (A → ℕ) → Units A → ℕ
held G [] = 0
held G (e ∷ J) = e.1 * G e.0 + held G J

-- all units
abbrev pub total : {A : Type 0} → Units A → ℕ
total J = held (λ x. 1) J

-- ---- parts of a table

abbrev pub counted_units : Entries (State × ℕ) (End × ℕ)
counted_units = record { state = λ e. e.0; moved_to = λ s e. (s, e.1); as_end = λ x e. (x, e.1) }

-- the states that pass a test
abbrev pub only_units : (State → Bool) → Units State → Units State
only_units = only_go counted_units

-- the faults of an expression
abbrev pub fault_units : (State → Value) → Units State → Units End
fault_units = faults_go counted_units

-- all states end in this way
abbrev pub end_units : End → Units State → Units End
end_units = end_go counted_units

-- x set to the value of an expression, but for the faults
abbrev pub set_units : ℕ → (State → Value) → Units State → Units State
set_units = set_go counted_units
