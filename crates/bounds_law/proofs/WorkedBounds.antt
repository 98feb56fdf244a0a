-- The bounds of five programs, worked.
use Rattle.std.proofs.Common.{◌≡◌, ℕ, ◌*◌, pos, [], ◌∷◌, refl}
use Rattle.gcl_core.specs.declared.answers.Outcome.{Outcome}
use Rattle.gcl_core.specs.declared.answers.Outcome.TheVariants as outcome
use Rattle.gcl_core.specs.declared.syntax.BinOp.TheVariants as op
use Rattle.gcl_core.specs.weighing.Fractions.{Fraction, IsOne}
use Rattle.gcl_core.specs.meaning.Syntax.{Num, Var, Bin, Set, While, Choice, Uniform, Observe, done, ◌▸◌, SourceProgram}
use Rattle.weighing_law.proofs.WorkedPrograms.{one_of_two_coins, geometric, weight}
use Rattle.bounds_law.specs.PosteriorBounds.{fails, lower_of, upper_of, upper_of_others}

abbrev Is : Fraction → ℕ → ℕ → Type 0
Is m a b = m.0 * b ≡ a * m.1

-- from a/b to c/d
abbrev IsFrom : SourceProgram → ℕ → Outcome → ℕ → ℕ → ℕ → ℕ → Type 0
IsFrom p n x a b c d = Is (lower_of p n x) a b × Is (upper_of p n x) c d

-- ---- go := 1; while go = 1 { choice 1/2 { x := x + 1; } or { go := 0; } } return x;
geometric_0 : IsFrom geometric 2 (outcome.Value (pos 0)) 1 2 3 4
geometric_0 = (refl, refl)

geometric_1 : IsFrom geometric 2 (outcome.Value (pos 1)) 1 4 1 2
geometric_1 = (refl, refl)

geometric_2 : IsFrom geometric 2 (outcome.Value (pos 2)) 0 1 1 4
geometric_2 = (refl, refl)

geometric_others : Is (upper_of_others geometric 2) 1 4
geometric_others = refl

-- ---- x ~ uniform(2); y ~ uniform(2); observe x = 1 or y = 1; return x + y;
coins_1 : IsFrom one_of_two_coins 30 (outcome.Value (pos 1)) 2 3 2 3
coins_1 = (refl, refl)

coins_2 : IsFrom one_of_two_coins 30 (outcome.Value (pos 2)) 1 3 1 3
coins_2 = (refl, refl)

coins_others : Is (upper_of_others one_of_two_coins 30) 0 1
coins_others = refl

-- ---- a ~ uniform(6); b ~ uniform(6); observe a + b = 8; heads := 0; while heads = 0 { heads ~ uniform(2); } return a;
abbrev dice : SourceProgram
dice = record {
  names = [] ∷ [] ∷ [] ∷ [];
  body = Uniform 0 (Num (pos 6))
      ▸ Uniform 1 (Num (pos 6))
      ▸ Observe (Bin op.Eq (Bin op.Add (Var 0) (Var 1)) (Num (pos 8)))
      ▸ Set 2 (Num (pos 0))
      ▸ While (Bin op.Eq (Var 2) (Num (pos 0))) (Uniform 2 (Num (pos 2)) ▸ done)
      ▸ done;
  result = Var 0;
}

dice_3 : IsFrom dice 1 (outcome.Value (pos 3)) 1 6 2 3
dice_3 = (refl, refl)

dice_4 : IsFrom dice 1 (outcome.Value (pos 4)) 1 6 2 3
dice_4 = (refl, refl)

dice_5 : IsFrom dice 1 (outcome.Value (pos 5)) 1 6 2 3
dice_5 = (refl, refl)

dice_others : Is (upper_of_others dice 1) 1 2
dice_others = refl

dice_none : Is (upper_of_others dice 0) 1 1
dice_none = refl

-- ---- the geometric loop, and then observe x < 2; at three turns one eighth fails
abbrev observed : SourceProgram
observed = record {
  names = [] ∷ [] ∷ [];
  body = Set 0 (Num (pos 1))
      ▸ While (Bin op.Eq (Var 0) (Num (pos 1))) (Choice (weight 1 2) (Set 1 (Bin op.Add (Var 1) (Num (pos 1))) ▸ done) (Set 0 (Num (pos 0)) ▸ done) ▸ done)
      ▸ Observe (Bin op.Lt (Var 1) (Num (pos 2)))
      ▸ done;
  result = Var 1;
}

observed_before : IsFrom observed 2 (outcome.Value (pos 0)) 1 2 3 4
observed_before = (refl, refl)

observed_0 : IsFrom observed 3 (outcome.Value (pos 0)) 4 7 5 7
observed_0 = (refl, refl)

observed_1 : IsFrom observed 3 (outcome.Value (pos 1)) 2 7 3 7
observed_1 = (refl, refl)

observed_others : Is (upper_of_others observed 3) 1 7
observed_others = refl

-- ---- observe 1 = 2; return 0;
abbrev impossible : SourceProgram
impossible = record { names = []; body = Observe (Bin op.Eq (Num (pos 1)) (Num (pos 2))) ▸ done; result = Num (pos 0) }

impossible_fails : IsOne (fails impossible 30)
impossible_fails = refl
