-- The law at five programs, worked: what the strings weigh, and the masses.
use Rattle.std.proofs.Common.{◌≡◌, ℕ, ◌*◌, ◌^◌, pos, true, false, [], ◌∷◌, refl}
use Rattle.gcl_core.specs.declared.answers.Limit.TheVariants.{Turns, Attempts, Rounds}
use Rattle.gcl_core.specs.declared.answers.Limits.{Limits}
use Rattle.gcl_core.specs.declared.answers.Outcome.{Outcome}
use Rattle.gcl_core.specs.declared.answers.Outcome.TheVariants as outcome
use Rattle.gcl_core.specs.declared.syntax.BinOp.TheVariants as op
use Rattle.gcl_core.specs.declared.syntax.Weight.{Weight}
use Rattle.gcl_core.specs.weighing.Fractions.{IsShare}
use Rattle.gcl_core.specs.weighing.LongestReading.{longest}
use Rattle.gcl_core.specs.meaning.Runs.{run_on}
use Rattle.gcl_core.specs.weighing.StringWeight.{outcome_weight}
use Rattle.gcl_core.specs.meaning.Syntax.{Num, Var, Bin, Set, While, Choice, Choose, Uniform, Observe, done, ◌▸◌, no_arm, arm, SourceProgram}
use Rattle.weighing_law.specs.Weighing.{limited_mass}
use Rattle.weighing_law.specs.LimitsCost.{stated_mass, cut_off}
use Rattle.weighing_law.specs.Prefixes.{is_just_read}
use Rattle.weighing_law.specs.Counting.{ended_in}
use Rattle.weighing_law.specs.JustRead.{just_read_weight}

abbrev pub limits : ℕ → ℕ → ℕ → Limits
limits n r R = record { turns = n; attempts = r; rounds = R }

abbrev pub weight : ℕ → ℕ → Weight
weight a b = record { num = a; den = b }

-- so many strings are read to the outcome, and so many it has of all by its mass
abbrev Weighs : SourceProgram → Limits → ℕ → Outcome → ℕ → Type 0
Weighs p l L x many = (outcome_weight (run_on p l) x L ≡ many) × IsShare many (2 ^ L) (limited_mass p l x)

-- ---- choice 2/3 { x := 1; } or { x := 2; } return x;
abbrev pub two_thirds : SourceProgram
two_thirds = record { names = [] ∷ []; body = Choice (weight 2 3) (Set 0 (Num (pos 1)) ▸ done) (Set 0 (Num (pos 2)) ▸ done) ▸ done; result = Var 0 }

two_thirds_1 : Weighs two_thirds (limits 0 1 1) 2 (outcome.Value (pos 1)) 2
two_thirds_1 = (refl, refl)

two_thirds_2 : Weighs two_thirds (limits 0 1 1) 2 (outcome.Value (pos 2)) 1
two_thirds_2 = (refl, refl)

two_thirds_limit : Weighs two_thirds (limits 0 1 1) 2 (outcome.Limit Attempts) 1
two_thirds_limit = (refl, refl)

two_attempts_1 : Weighs two_thirds (limits 0 2 1) 4 (outcome.Value (pos 1)) 10
two_attempts_1 = (refl, refl)

two_attempts_2 : Weighs two_thirds (limits 0 2 1) 4 (outcome.Value (pos 2)) 5
two_attempts_2 = (refl, refl)

two_attempts_limit : Weighs two_thirds (limits 0 2 1) 4 (outcome.Limit Attempts) 1
two_attempts_limit = (refl, refl)

two_attempts_longest : longest 0 2 two_thirds.body ≡ 4
two_attempts_longest = refl

-- the string 0 is just read to 1, and 00 and 01 end in it
short_just_read : is_just_read (run_on two_thirds (limits 0 1 1)) (outcome.Value (pos 1)) (false ∷ []) ≡ true
short_just_read = refl

longer_not : is_just_read (run_on two_thirds (limits 0 1 1)) (outcome.Value (pos 1)) (false ∷ true ∷ []) ≡ false
longer_not = refl

two_end : ended_in (run_on two_thirds (limits 0 1 1)) (outcome.Value (pos 1)) 2 ≡ 2
two_end = refl

one_counts_two : just_read_weight (run_on two_thirds (limits 0 1 1)) (outcome.Value (pos 1)) 2 ≡ 2
one_counts_two = refl

-- 2/3 is stated, and 1/16 is cut off
two_thirds_stated : let m = stated_mass two_thirds (limits 0 2 1) (outcome.Value (pos 1)) in m.0 * 3 ≡ 2 * m.1
two_thirds_stated = refl

two_thirds_cut : let m = cut_off two_thirds (limits 0 2 1) in m.0 * 16 ≡ m.1
two_thirds_cut = refl

-- ---- choose { 2: { x := 1; } | 0: { x := 2; } | 3: { x := 3; } } return x;
abbrev pub two_none_three : SourceProgram
two_none_three = record {
  names = [] ∷ [];
  body = Choose (arm 2 (Set 0 (Num (pos 1)) ▸ done) (arm 0 (Set 0 (Num (pos 2)) ▸ done) (arm 3 (Set 0 (Num (pos 3)) ▸ done) no_arm))) ▸ done;
  result = Var 0;
}

-- of the eight numbers 0 and 1 go to the first arm, 2 to 4 to the third, and 5 to 7 are rejected
two_none_three_1 : Weighs two_none_three (limits 0 1 1) 3 (outcome.Value (pos 1)) 2
two_none_three_1 = (refl, refl)

two_none_three_2 : Weighs two_none_three (limits 0 1 1) 3 (outcome.Value (pos 2)) 0
two_none_three_2 = (refl, refl)

two_none_three_3 : Weighs two_none_three (limits 0 1 1) 3 (outcome.Value (pos 3)) 3
two_none_three_3 = (refl, refl)

two_none_three_limit : Weighs two_none_three (limits 0 1 1) 3 (outcome.Limit Attempts) 3
two_none_three_limit = (refl, refl)

arms_twice_1 : Weighs two_none_three (limits 0 2 1) 6 (outcome.Value (pos 1)) 22
arms_twice_1 = (refl, refl)

arms_twice_3 : Weighs two_none_three (limits 0 2 1) 6 (outcome.Value (pos 3)) 33
arms_twice_3 = (refl, refl)

arms_twice_limit : Weighs two_none_three (limits 0 2 1) 6 (outcome.Limit Attempts) 9
arms_twice_limit = (refl, refl)

arms_twice_longest : longest 0 2 two_none_three.body ≡ 6
arms_twice_longest = refl

three_fifths_stated : let m = stated_mass two_none_three (limits 0 2 1) (outcome.Value (pos 3)) in m.0 * 5 ≡ 3 * m.1
three_fifths_stated = refl

-- ---- x ~ uniform(2); y ~ uniform(2); observe x = 1 or y = 1; return x + y;
abbrev pub one_of_two_coins : SourceProgram
one_of_two_coins = record {
  names = [] ∷ [] ∷ [];
  body = Uniform 0 (Num (pos 2)) ▸ Uniform 1 (Num (pos 2)) ▸ Observe (Bin op.Or (Bin op.Eq (Var 0) (Num (pos 1))) (Bin op.Eq (Var 1) (Num (pos 1)))) ▸ done;
  result = Bin op.Add (Var 0) (Var 1);
}

two_rounds_1 : Weighs one_of_two_coins (limits 0 1 2) 4 (outcome.Value (pos 1)) 10
two_rounds_1 = (refl, refl)

two_rounds_2 : Weighs one_of_two_coins (limits 0 1 2) 4 (outcome.Value (pos 2)) 5
two_rounds_2 = (refl, refl)

two_rounds_limit : Weighs one_of_two_coins (limits 0 1 2) 4 (outcome.Limit Rounds) 1
two_rounds_limit = (refl, refl)

-- ---- go := 1; while go = 1 { choice 1/2 { x := x + 1; } or { go := 0; } } return x;
abbrev pub geometric : SourceProgram
geometric = record {
  names = [] ∷ [] ∷ [];
  body = Set 0 (Num (pos 1))
      ▸ While (Bin op.Eq (Var 0) (Num (pos 1))) (Choice (weight 1 2) (Set 1 (Bin op.Add (Var 1) (Num (pos 1))) ▸ done) (Set 0 (Num (pos 0)) ▸ done) ▸ done)
      ▸ done;
  result = Var 1;
}

two_turns_0 : Weighs geometric (limits 2 1 1) 2 (outcome.Value (pos 0)) 2
two_turns_0 = (refl, refl)

two_turns_1 : Weighs geometric (limits 2 1 1) 2 (outcome.Value (pos 1)) 1
two_turns_1 = (refl, refl)

two_turns_limit : Weighs geometric (limits 2 1 1) 2 (outcome.Limit Turns) 1
two_turns_limit = (refl, refl)

-- ---- return 7;
abbrev pub seven : SourceProgram
seven = record { names = []; body = done; result = Num (pos 7) }

seven_7 : Weighs seven (limits 0 1 1) 0 (outcome.Value (pos 7)) 1
seven_7 = (refl, refl)
