-- A round over pairs of units whose size changes: after each statement all numbers of units may be multiplied by one fraction, those of
-- tables that stand aside with them, and how many units make one whole. A loop may be left before its end; what stands in it then belongs
-- to no state any more, and is loose. This project's own rule.
use Rattle.std.specs.Prelude.{ℕ, zero, suc, ◌-◌, ◌*◌, ◌/◌, ◌<◌, if◌then◌else◌, Bool, List, [], ◌∷◌, ◌++◌, map, Option, length}
use Rattle.std.specs.Int.{div_ceil}
use Rattle.numbers.specs.declared.units.TheConstants.{ALL}
use Rattle.gcl_core.specs.declared.answers.Limit.TheVariants.{Turns, Attempts}
use Rattle.std.specs.List.{sum}
use Rattle.gcl_core.specs.meaning.Arms.{parts_of}
use Rattle.gcl_core.specs.meaning.Syntax.{Statement, Skip, Set, If, While, Choice, Choose, Uniform, Observe, Statements, done, ◌▸◌, ArmList, no_arm, arm, SourceProgram}
use Rattle.gcl_core.specs.meaning.Outcomes.{zeros}
use Rattle.gcl_core.specs.meaning.Value.{State, Value, value_of}
use Rattle.gcl_core.specs.meaning.Blocks.{End, limit}
use Rattle.gcl_core.specs.weighing.Fractions.{Fraction}
use Rattle.table_flow.specs.Tables.{FlowOf, holds, fails, only_go, faults_go, end_go, statement_go}
use Rattle.units_law.specs.Rounding.{Rounding}
use Rattle.units_law.specs.Units.{total}
use Rattle.scaled_law.specs.Pairs.{Pair, Pairs, added, at_least, at_most, counted_pairs, merged_pairs, class_pairs, rest_pairs, pairs_kind}

-- the table, the tables that stand aside meanwhile, what has ended, what is loose, how many units make one whole, and the tables on the way
pub record Scaled : Type 0 where
  pub next : Pairs State
  pub aside : List (Pairs State)
  pub ended : Pairs End
  pub loose : Pair
  pub scale : Fraction
  pub tables : List (Pairs State)

-- ---- what stands aside

abbrev pub top : List (Pairs State) → Pairs State
top [] = []
top (K ∷ Ks) = K

abbrev pub below : List (Pairs State) → List (Pairs State)
below [] = []
below (K ∷ Ks) = Ks

-- with these tables in place of those
abbrev pub with_tables : Pairs State → List (Pairs State) → Scaled → Scaled
with_tables J Ks f = record { next = J; aside = Ks; ended = f.ended; loose = f.loose; scale = f.scale; tables = f.tables }

-- the other table goes on
abbrev pub swapped : Scaled → Scaled
swapped f = with_tables (top f.aside) (f.next ∷ below f.aside) f

-- behind the table that stood aside
abbrev pub taken_back : Scaled → Scaled
taken_back f = with_tables (top f.aside ++ f.next) (below f.aside) f

-- ---- other units

-- k times as many, rounded down where they are least, and up where they are most
abbrev pub times_pair : Fraction → Pair → Pair
times_pair k w = (w.0 * k.0 / k.1, div_ceil (w.1 * k.0) k.1)

abbrev pub times_pairs : {A : Type 0} → Fraction → Pairs A → Pairs A
times_pairs k J = map (λ e. (e.0, times_pair k e.1)) J

abbrev pub times_all : Fraction → Scaled → Scaled
times_all k f = record {
  next = times_pairs k f.next;
  aside = map (λ J. times_pairs k J) f.aside;
  ended = times_pairs k f.ended;
  loose = times_pair k f.loose;
  scale = (k.0 * f.scale.0, k.1 * f.scale.1);
  tables = f.tables;
}

-- How many times as many units are taken, and when a loop is left before its end.
pub record Steering : Type 0 where
  pub factor : Scaled → Fraction
  pub leaves : Pairs State → Bool

pub record IsPositive (steer : Steering) : Type 0 where
  pub some : (f : Scaled) → 0 < (steer.factor f).0
  pub fraction : (f : Scaled) → 0 < (steer.factor f).1

-- ---- a round

-- some states have ended, and a statement without a block is passed
abbrev pub ends_more : Pairs End → Scaled → Scaled
ends_more Z f = record { next = f.next; aside = f.aside; ended = f.ended ++ Z; loose = f.loose; scale = f.scale; tables = f.tables }

abbrev pub gone_on : FlowOf (State × Pair) (End × Pair) → Scaled → Scaled
gone_on g f = record { next = g.next; aside = f.aside; ended = f.ended ++ g.ended; loose = f.loose; scale = f.scale; tables = f.tables ++ g.tables }

abbrev pub tidied : Scaled → Scaled
tidied f = record { next = merged_pairs f.next; aside = f.aside; ended = f.ended; loose = f.loose; scale = f.scale; tables = f.tables ++ (merged_pairs f.next ∷ []) }

-- one block from one table, and one from another, which stands aside meanwhile
abbrev pub two_blocks : (Scaled → Scaled) → (Scaled → Scaled) → Pairs State → Pairs State → Scaled → Scaled
two_blocks a b A B f = taken_back (b (swapped (a (with_tables A (B ∷ f.aside) f))))

-- where a loop is left: what had left it stays, and all else is loose
abbrev pub left_loop : Scaled → Scaled
left_loop f = record {
  next = top f.aside;
  aside = below f.aside;
  ended = f.ended;
  loose = added f.loose (total (at_least f.next), total (at_most f.next));
  scale = f.scale;
  tables = f.tables;
}

-- a turn begins where the guard holds; what leaves the loop stands aside, behind what had left it
abbrev pub enters : (State → Value) → Scaled → Scaled
enters guard f =
    ends_more (faults_go counted_pairs guard f.next)
    (with_tables (only_go counted_pairs (holds guard) f.next) ((top f.aside ++ only_go counted_pairs (fails guard) f.next) ∷ below f.aside) f)

abbrev pub loop_scaled : Steering → (State → Value) → (Scaled → Scaled) → ℕ → Scaled → Scaled
loop_scaled steer guard body zero f =
    taken_back (with_tables (only_go counted_pairs (fails guard) f.next) f.aside
    (ends_more (faults_go counted_pairs guard f.next ++ end_go counted_pairs (limit Turns) (only_go counted_pairs (holds guard) f.next)) f))
loop_scaled steer guard body (suc t) f = if steer.leaves f.next then left_loop f else loop_scaled steer guard body t (body (enters guard f))

module _ (low high : Rounding) (steer : Steering) (n : ℕ) (r : Option ℕ) where
  abbrev mutual
    pub statement_scaled : Statement → Scaled → Scaled
    statement_scaled Skip f = f
    statement_scaled (Set x e) f = gone_on (statement_go (pairs_kind low high) n r (Set x e) f.next) f
    statement_scaled (Observe e) f = gone_on (statement_go (pairs_kind low high) n r (Observe e) f.next) f
    statement_scaled (Uniform x e) f = gone_on (statement_go (pairs_kind low high) n r (Uniform x e) f.next) f
    statement_scaled (If e a c) f =
        two_blocks (block_scaled a) (block_scaled c) (only_go counted_pairs (holds (value_of e)) f.next) (only_go counted_pairs (fails (value_of e)) f.next)
        (ends_more (faults_go counted_pairs (value_of e) f.next) f)
    statement_scaled (Choice p a c) f =
        two_blocks (block_scaled a) (block_scaled c) (class_pairs low high p.den r p.num f.next) (class_pairs low high p.den r (p.den - p.num) f.next)
        (ends_more (end_go counted_pairs (limit Attempts) (rest_pairs low high p.den r f.next)) f)
    statement_scaled (Choose arms) f =
        let b = sum (parts_of arms) in
        arms_scaled b arms (with_tables f.next ([] ∷ f.aside) (ends_more (end_go counted_pairs (limit Attempts) (rest_pairs low high b r f.next)) f))
    statement_scaled (While e a) f = loop_scaled steer (value_of e) (block_scaled a) n (with_tables f.next ([] ∷ f.aside) f)

    pub block_scaled : Statements → Scaled → Scaled
    block_scaled done f = tidied f
    block_scaled (st ▸ b) f =
        let g = statement_scaled st (tidied f) in
        block_scaled b (times_all (steer.factor g) g)

    -- the arms of a draw with b parts; what came of those before stands aside
    pub arms_scaled : ℕ → ArmList → Scaled → Scaled
    arms_scaled b no_arm f = with_tables (top f.aside) (below f.aside) f
    arms_scaled b (arm p a arms) f =
        let g = swapped (block_scaled a (with_tables (class_pairs low high b r p f.next) (f.next ∷ f.aside) f)) in
        arms_scaled b arms (with_tables g.next ((top (below g.aside) ++ top g.aside) ∷ below (below g.aside)) g)

-- the state of zeros, with all units
abbrev pub begun : SourceProgram → Scaled
begun p = record { next = (zeros (length p.names), (ALL, ALL)) ∷ []; aside = []; ended = []; loose = (0, 0); scale = (ALL, 1); tables = [] }

abbrev pub round_scaled : Rounding → Rounding → Steering → SourceProgram → ℕ → Option ℕ → Scaled
round_scaled low high steer p n r = block_scaled low high steer n r p.body (begun p)
