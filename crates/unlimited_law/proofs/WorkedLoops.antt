-- What loops settle to, worked at programs.
use Rattle.std.proofs.Common.{◌≡◌, ◌*◌, pos, Bool, true, false, [], ◌∷◌, ◌++◌, None, inl, cond, refl, arith}
use Rattle.numbers.specs.Fraction.{IsEqual}
use Rattle.gcl_core.specs.declared.answers.Outcome.TheVariants as outcome
use Rattle.gcl_core.specs.declared.syntax.BinOp.TheVariants as op
use Rattle.gcl_core.specs.meaning.Outcomes.{same_outcome}
use Rattle.gcl_core.specs.meaning.Syntax.{Expression, Num, Var, Bin, Skip, Set, While, Choice, Uniform, Statements, done, ◌▸◌, SourceProgram}
use Rattle.gcl_core.specs.meaning.Value.{State, value_of}
use Rattle.gcl_core.specs.meaning.Blocks.{End}
use Rattle.gcl_core.specs.weighing.Fractions.{Fraction, plus, zero_share}
use Rattle.table_flow.specs.Tables.{Table, holds, only, statement_flow}
use Rattle.unlimited_law.specs.Alike.{AreFractions, Alike}
use Rattle.unlimited_law.specs.Settling.{Outflow, IsOutflow}
use Rattle.unlimited_law.specs.SettledMasses.{Settles, ProgramSettles, settled_failed, settled_mass, gap, endless_mass}

-- ---- while x = 0 { x ~ uniform(2); } return x;
abbrev guard : Expression
guard = Bin op.Eq (Var 0) (Num (pos 0))

abbrev body : Statements
body = Uniform 0 (Num (pos 2)) ▸ done

abbrev pub geometric : SourceProgram
geometric = record { names = [] ∷ []; body = While guard body ▸ done; result = Var 0 }

abbrev s0 : State
s0 = pos 0 ∷ []

abbrev s1 : State
s1 = pos 1 ∷ []

-- the guard is evaluated twice at 0 and once at 1
abbrev visits : Table
visits = ((2, 1), s0) ∷ ((1, 1), s1) ∷ []

-- one turn from the visits at 0
abbrev back : Table
back = ((1, 1), s0) ∷ ((1, 1), s1) ∷ []

abbrev turn : Outflow
turn = record { next = back; ended = []; turns = zero_share }

abbrev pub settled : Outflow
settled = record { next = ((1, 1), s1) ∷ []; ended = []; turns = (2, 1) }

-- by whether an event has the two states
by_two : (P : Bool → Bool → Type 0) → P true true → P true false → P false true → P false false → (b c : Bool) → P b c
by_two P a b c d true true = a
by_two P a b c d true false = b
by_two P a b c d false true = c
by_two P a b c d false false = d

abbrev two : Bool → Bool → Fraction → Fraction → Fraction
two b c u v = cond b (plus u (cond c (plus v zero_share) zero_share)) (cond c (plus v zero_share) zero_share)

turn_alike : Alike back (statement_flow 0 None (Uniform 0 (Num (pos 2))) (only (holds (value_of guard)) visits)).next
turn_alike = record {
  each = λ event. by_two (λ b c. IsEqual (two b c (1, 1) (1, 1)) (two b c (2, 2) (2, 2))) refl refl refl refl (event s0) (event s1);
  first = (omega arith, (omega arith, tt));
  second = (omega arith, (omega arith, tt));
}

none_alike : Alike {A = End} [] []
none_alike = record { each = λ event. refl; first = tt; second = tt }

itself : (I : Table) → AreFractions I → Alike I I
itself I f = record { each = λ event. refl; first = f; second = f }

balance : Alike (visits ++ []) (((1, 1), s0) ∷ [] ++ back)
balance = record {
  each = λ event. by_two (λ b c. IsEqual (two b c (2, 1) (1, 1)) (cond b (plus (1, 1) (two b c (1, 1) (1, 1))) (two b c (1, 1) (1, 1)))) refl refl refl refl (event s0) (event s1);
  first = (omega arith, (omega arith, tt));
  second = (omega arith, (omega arith, (omega arith, tt)));
}

abbrev drawn : Outflow
drawn = record { next = back; ended = []; turns = zero_share }

abbrev nothing : Outflow
nothing = record { next = back; ended = []; turns = zero_share }

abbrev exit : Table
exit = ((1, 1), s1) ∷ []

abbrev looped : Outflow
looped = record { next = exit; ended = []; turns = (2, 1) }

abbrev after : Outflow
after = record { next = exit; ended = []; turns = zero_share }

back_fractions : AreFractions back
back_fractions = (omega arith, (omega arith, tt))

exit_fractions : AreFractions exit
exit_fractions = (omega arith, tt)

turn_settles : Settles body (only (holds (value_of guard)) visits) turn
turn_settles = (
  drawn,
  nothing,
  record { next = turn_alike; ended = none_alike; turns = refl; fraction = omega arith },
  record { next = itself back back_fractions; ended = none_alike; turns = refl; fraction = omega arith },
  record { next = itself back back_fractions; ended = none_alike; turns = refl; fraction = omega arith },
)

pub geometric_settles : ProgramSettles geometric settled
geometric_settles = (
  looped,
  after,
  (visits, [], [], turn, turn_settles, balance, tt, tt, record { next = itself exit exit_fractions; ended = none_alike; turns = refl; fraction = omega arith }),
  record { next = itself exit exit_fractions; ended = none_alike; turns = refl; fraction = omega arith },
  record { next = itself exit exit_fractions; ended = none_alike; turns = refl; fraction = omega arith },
)

-- it ends with 1, and its guard is found true twice: n turns leave at most 2 / n
geometric_failed : (settled_failed geometric settled).0 ≡ 0
geometric_failed = refl

geometric_one : let m = settled_mass geometric settled (same_outcome (outcome.Value (pos 1))) in m.0 ≡ m.1
geometric_one = refl

geometric_turns : settled.turns.0 ≡ 2 * settled.turns.1
geometric_turns = refl

geometric_gap : (gap geometric settled 10).0 * 10 ≡ 2 * (gap geometric settled 10).1
geometric_gap = refl

-- ---- choice 1/3 { x := 1; } or { } while x = 0 { skip; } return x;
abbrev idle : Statements
idle = Skip ▸ done

abbrev pub waiting : SourceProgram
waiting = record { names = [] ∷ []; body = Choice (record { num = 1; den = 3 }) (Set 0 (Num (pos 1)) ▸ done) done ▸ While guard idle ▸ done; result = Var 0 }

-- a table that no loop made
abbrev out : Table → Outflow
out I = record { next = I; ended = []; turns = zero_share }

abbrev Plain : Outflow → Table → Type 0
Plain f I = IsOutflow Alike Alike f I [] zero_share

plain : (I : Table) → AreFractions I → Plain (out I) I
plain I h = record { next = itself I h; ended = none_alike; turns = refl; fraction = omega arith }

joined : (I : Table) → AreFractions I → IsOutflow Alike Alike (out I) I [] (plus zero_share zero_share)
joined I h = record { next = itself I h; ended = none_alike; turns = refl; fraction = omega arith }

abbrev third : Table
third = ((1, 3), s1) ∷ []

abbrev thirds : Table
thirds = ((2, 3), s0) ∷ []

abbrev start : Table
start = ((1, 1), s0) ∷ []

third_fractions : AreFractions third
third_fractions = (omega arith, tt)

thirds_fractions : AreFractions thirds
thirds_fractions = (omega arith, tt)

start_fractions : AreFractions start
start_fractions = (omega arith, tt)

both_fractions : AreFractions (third ++ thirds)
both_fractions = (omega arith, (omega arith, tt))

-- a state stays where it is
idle_settles : (I : Table) → AreFractions I → Settles idle I (out I)
idle_settles I f = (out I, out I, plain I f, plain I f, joined I f)

-- with 2/3 it never ends: x stays 0
pub waiting_settles : ProgramSettles waiting (out third)
waiting_settles = (
  out (third ++ thirds),
  out third,
  (out third, out thirds, (out third, out third, plain third third_fractions, plain third third_fractions, joined third third_fractions), plain thirds thirds_fractions, joined (third ++ thirds) both_fractions),
  (
    out third,
    out third,
    (
      third,
      thirds,
      s0 ∷ [],
      out [],
      idle_settles [] tt,
      itself (third ++ thirds) both_fractions,
      ((refl, out start, idle_settles start start_fractions, none_alike, (inl refl, tt)), tt),
      (inl refl, tt),
      joined third third_fractions,
    ),
    plain third third_fractions,
    joined third third_fractions,
  ),
  joined third third_fractions,
)

waiting_one : let m = settled_mass waiting (out third) (same_outcome (outcome.Value (pos 1))) in m.0 * 3 ≡ m.1
waiting_one = refl

waiting_endless : let m = endless_mass waiting (out third) in m.0 * 3 ≡ 2 * m.1
waiting_endless = refl

waiting_gap : (gap waiting (out third) 1).0 ≡ 0
waiting_gap = refl
