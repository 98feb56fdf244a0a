-- What loops read, worked at programs.
use Rattle.std.proofs.Common.{◌≡◌, ◌*◌, ◌≤◌, pos, Bool, true, false, [], ◌∷◌, ◌++◌, None, inl, cond, refl, arith}
use Rattle.numbers.specs.Fraction.{IsEqual}
use Rattle.gcl_core.specs.declared.syntax.BinOp.TheVariants as op
use Rattle.gcl_core.specs.meaning.Syntax.{Expression, Num, Var, Bin, Skip, While, Uniform, Statements, done, ◌▸◌, SourceProgram}
use Rattle.gcl_core.specs.meaning.Value.{State, value_of}
use Rattle.gcl_core.specs.weighing.Fractions.{Fraction, plus, zero_share}
use Rattle.table_flow.specs.Tables.{Table, holds, only, statement_flow}
use Rattle.unlimited_law.specs.Alike.{AreFractions, Alike}
use Rattle.unlimited_law.proofs.WorkedLoops.{geometric, settled}
use Rattle.bits_law.specs.Reading.{Comes, BlockReads, StatementReads}
use Rattle.bits_law.specs.InTheLimit.{RoundReads, bits_in_the_limit}
use Rattle.bits_law.specs.Forever.{ReadsForever}

-- by whether an event has the two states
by_two : (P : Bool → Bool → Type 0) → P true true → P true false → P false true → P false false → (b c : Bool) → P b c
by_two P a b c d true true = a
by_two P a b c d true false = b
by_two P a b c d false true = c
by_two P a b c d false false = d

abbrev more : Bool → Fraction → Fraction → Fraction
more b u v = cond b (plus u v) v

abbrev two : Bool → Bool → Fraction → Fraction → Fraction
two b c u v = more b u (more c v zero_share)

itself : (I : Table) → AreFractions I → Alike I I
itself I f = record { each = λ event. refl; first = f; second = f }

-- it is so as it stands
exactly : (I : Table) (bits : Fraction) → AreFractions I → 1 ≤ bits.1 → Comes I bits I bits
exactly I bits f h = record { next = itself I f; equal = refl; fraction = h }

-- ---- while x = 0 { x ~ uniform(2); } return x;
abbrev guard : Expression
guard = Bin op.Eq (Var 0) (Num (pos 0))

abbrev drawing : Statements
drawing = Uniform 0 (Num (pos 2)) ▸ done

abbrev s0 : State
s0 = pos 0 ∷ []

abbrev s1 : State
s1 = pos 1 ∷ []

-- the guard is evaluated twice at 0 and once at 1
abbrev visits : Table
visits = ((2, 1), s0) ∷ ((1, 1), s1) ∷ []

abbrev back : Table
back = ((1, 1), s0) ∷ ((1, 1), s1) ∷ []

-- and begun with the visits 4 times and 3 times
abbrev again : Table
again = ((4, 1), s0) ∷ ((3, 1), s1) ∷ []

abbrev twice : Table
twice = ((2, 1), s0) ∷ ((2, 1), s1) ∷ []

abbrev turned : Table → Table
turned I = (statement_flow 0 None (Uniform 0 (Num (pos 2))) (only (holds (value_of guard)) I)).next

turn_alike : Alike back (turned visits)
turn_alike = record {
  each = λ event. by_two (λ b c. IsEqual (two b c (1, 1) (1, 1)) (two b c (2, 2) (2, 2))) refl refl refl refl (event s0) (event s1);
  first = (omega arith, (omega arith, tt));
  second = (omega arith, (omega arith, tt));
}

again_alike : Alike twice (turned again)
again_alike = record {
  each = λ event. by_two (λ b c. IsEqual (two b c (2, 1) (2, 1)) (two b c (4, 2) (4, 2))) refl refl refl refl (event s0) (event s1);
  first = (omega arith, (omega arith, tt));
  second = (omega arith, (omega arith, tt));
}

balance : Alike (visits ++ []) (((1, 1), s0) ∷ [] ++ back)
balance = record {
  each = λ event. by_two (λ b c. IsEqual (two b c (2, 1) (1, 1)) (more b (1, 1) (two b c (1, 1) (1, 1)))) refl refl refl refl (event s0) (event s1);
  first = (omega arith, (omega arith, tt));
  second = (omega arith, (omega arith, (omega arith, tt)));
}

again_balance : Alike (again ++ []) (visits ++ [] ++ twice)
again_balance = record {
  each = λ event. by_two (λ b c. IsEqual (two b c (4, 1) (3, 1)) (more b (2, 1) (more c (1, 1) (two b c (2, 1) (2, 1))))) refl refl refl refl (event s0) (event s1);
  first = (omega arith, (omega arith, tt));
  second = (omega arith, (omega arith, (omega arith, (omega arith, tt))));
}

two_fractions : (u v : Fraction) (s t : State) → 1 ≤ u.1 → 1 ≤ v.1 → AreFractions ((u, s) ∷ (v, t) ∷ [])
two_fractions u v s t h k = (h, (k, tt))

-- two draws of one bit
turn_reads : BlockReads drawing (only (holds (value_of guard)) visits) back (2, 1)
turn_reads = (
  back,
  back,
  (2, 1),
  zero_share,
  record { next = turn_alike; equal = refl; fraction = omega arith },
  exactly back zero_share (two_fractions (1, 1) (1, 1) s0 s1 (omega arith) (omega arith)) (omega arith),
  record { next = itself back (two_fractions (1, 1) (1, 1) s0 s1 (omega arith) (omega arith)); equal = refl; fraction = omega arith },
)

again_reads : BlockReads drawing (only (holds (value_of guard)) again) twice (4, 1)
again_reads = (
  twice,
  twice,
  (4, 1),
  zero_share,
  record { next = again_alike; equal = refl; fraction = omega arith },
  exactly twice zero_share (two_fractions (2, 1) (2, 1) s0 s1 (omega arith) (omega arith)) (omega arith),
  record { next = itself twice (two_fractions (2, 1) (2, 1) s0 s1 (omega arith) (omega arith)); equal = refl; fraction = omega arith },
)

abbrev exit : Table
exit = ((1, 1), s1) ∷ []

exit_fractions : AreFractions exit
exit_fractions = (omega arith, tt)

geometric_reads : RoundReads geometric exit (2, 1)
geometric_reads = (
  exit,
  exit,
  (2, 1),
  zero_share,
  ([], visits, (2, 1), tt, (back, [], turn_reads, balance, tt), ([], again, (4, 1), (twice, [], again_reads, again_balance, tt)), exactly exit (2, 1) exit_fractions (omega arith)),
  exactly exit zero_share exit_fractions (omega arith),
  record { next = itself exit exit_fractions; equal = refl; fraction = omega arith },
)

-- 2 bits are expected
geometric_bits : let m = bits_in_the_limit geometric settled (2, 1) in m.0 ≡ 2 * m.1
geometric_bits = refl

-- ---- while x = 0 { skip; } return x; goes round for ever, and reads nothing
abbrev idle : SourceProgram
idle = record { names = [] ∷ []; body = While guard (Skip ▸ done) ▸ done; result = Var 0 }

abbrev stays : Table
stays = ((1, 1), s0) ∷ []

none_fractions : AreFractions {A = State} []
none_fractions = tt

stays_fractions : AreFractions stays
stays_fractions = (omega arith, tt)

idle_turn : (I : Table) → AreFractions I → BlockReads (Skip ▸ done) I I zero_share
idle_turn I f = (
  I,
  I,
  zero_share,
  zero_share,
  exactly I zero_share f (omega arith),
  exactly I zero_share f (omega arith),
  record { next = itself I f; equal = refl; fraction = omega arith },
)

idle_reads : RoundReads idle [] zero_share
idle_reads = (
  [],
  [],
  zero_share,
  zero_share,
  (
    s0 ∷ [],
    [],
    zero_share,
    ((refl, stays, zero_share, idle_turn stays stays_fractions, refl, (inl refl, tt)), tt),
    ([], stays, idle_turn [] none_fractions, itself stays stays_fractions, (inl refl, tt)),
    ([], [], zero_share, ([], [], idle_turn [] none_fractions, itself [] none_fractions, tt)),
    exactly [] zero_share none_fractions (omega arith),
  ),
  exactly [] zero_share none_fractions (omega arith),
  record { next = itself [] none_fractions; equal = refl; fraction = omega arith },
)

-- ---- while x = 0 { y ~ uniform(2); } return x; goes round for ever, and reads a bit each time
abbrev restless : SourceProgram
restless = record { names = [] ∷ [] ∷ []; body = While guard (Uniform 1 (Num (pos 2)) ▸ done) ▸ done; result = Var 0 }

abbrev t0 : State
t0 = pos 0 ∷ pos 0 ∷ []

abbrev t1 : State
t1 = pos 0 ∷ pos 1 ∷ []

abbrev begun : Table
begun = ((1, 1), t0) ∷ []

abbrev half : Table
half = ((1, 2), t0) ∷ ((1, 2), t1) ∷ []

half_fractions : AreFractions half
half_fractions = (omega arith, (omega arith, tt))

abbrev drawn : Table → Table
drawn I = (statement_flow 0 None (Uniform 1 (Num (pos 2))) (only (holds (value_of guard)) I)).next

first_alike : Alike half (drawn begun)
first_alike = record {
  each = λ event. by_two (λ b c. IsEqual (two b c (1, 2) (1, 2)) (two b c (1, 2) (1, 2))) refl refl refl refl (event t0) (event t1);
  first = half_fractions;
  second = (omega arith, (omega arith, tt));
}

round_alike : Alike half (drawn half)
round_alike = record {
  each = λ event. by_two (λ b c. IsEqual (two b c (1, 2) (1, 2)) (more b (1, 4) (more c (1, 4) (two b c (1, 4) (1, 4))))) refl refl refl refl (event t0) (event t1);
  first = half_fractions;
  second = (omega arith, (omega arith, (omega arith, (omega arith, tt))));
}

restless_turn : (I : Table) → Alike half (drawn I) → StatementReads (Uniform 1 (Num (pos 2))) (only (holds (value_of guard)) I) half (1, 1) →
    BlockReads (Uniform 1 (Num (pos 2)) ▸ done) (only (holds (value_of guard)) I) half (1, 1)
restless_turn I h r = (
  half,
  half,
  (1, 1),
  zero_share,
  r,
  exactly half zero_share half_fractions (omega arith),
  record { next = itself half half_fractions; equal = refl; fraction = omega arith },
)

all_alike : Alike (half ++ begun) (begun ++ half)
all_alike = record {
  each = λ event.
      by_two (λ b c. IsEqual (more b (1, 2) (more c (1, 2) (more b (1, 1) zero_share))) (more b (1, 1) (two b c (1, 2) (1, 2)))) refl refl refl refl (event t0) (event t1);
  first = (omega arith, (omega arith, (omega arith, tt)));
  second = (omega arith, (omega arith, (omega arith, tt)));
}

restless_forever : ReadsForever restless
restless_forever =
    inl (
      1,
      half ++ begun,
      half,
      begun,
      (half, half, (1, 1), restless_turn begun first_alike (record { next = first_alike; equal = refl; fraction = omega arith }), itself half half_fractions, all_alike),
      itself (half ++ begun) (omega arith, (omega arith, (omega arith, tt))),
      inl (half, [], (1, 1), restless_turn half round_alike (record { next = round_alike; equal = refl; fraction = omega arith }), itself half half_fractions, omega arith),
    )
