-- The longest reading is that by one attempt for each draw, times the limit of attempts.
use Rattle.std.proofs.Common.{◌≡◌, ◌⊎◌, inl, inr, ℕ, ◌+◌, ◌*◌, ◌≤◌, ◌<◌, max, ap, ◌∙◌, arith}
use Rattle.std.specs.List.{sum}
use Rattle.std.proofs.lemmas.Bool.{cases_lt}
use Rattle.std.proofs.Math.Nat.{mul-le-mul_left}
use Rattle.gcl_core.specs.meaning.Arms.{parts_of}
use Rattle.gcl_core.specs.meaning.Draw.{bits_for}
use Rattle.gcl_core.specs.meaning.Syntax.{Statement, Skip, Set, If, While, Choice, Choose, Uniform, Observe, Statements, done, ◌▸◌, ArmList, no_arm, arm}
use Rattle.gcl_core.specs.weighing.LongestReading.{longest_statement, longest, longest_arm}

max_times : (r a b : ℕ) → max (r * a) (r * b) ≡ r * max a b
max_times r a b = by_order (cases_lt a b)
  where
    by_order : (a < b) ⊎ (b ≤ a) → max (r * a) (r * b) ≡ r * max a b
    by_order (inl h) = let x = mul-le-mul_left r (let le : a ≤ b = omega arith in le) in let e : max a b ≡ b = omega arith in rw e (omega arith)
    by_order (inr h) = let x = mul-le-mul_left r h in let e : max a b ≡ a = omega arith in rw e (omega arith)

max_is : (r a b a' b' : ℕ) → a ≡ r * a' → b ≡ r * b' → max a b ≡ r * max a' b'
max_is r a b a' b' e f = ap (λ a. max a b) e ∙ ap (max (r * a')) f ∙ max_times r a' b'

draw_is : (r k a a' : ℕ) → a ≡ r * a' → k * r + a ≡ r * (k * 1 + a')
draw_is r k a a' e = rw e (omega arith)

turns_is : (r n a a' : ℕ) → a ≡ r * a' → n * a ≡ r * (n * a')
turns_is r n a a' e = rw e (omega arith)

module _ (n r : ℕ) where
  mutual
    statement_reading : (st : Statement) → longest_statement n r st ≡ r * longest_statement n 1 st
    statement_reading Skip = omega arith
    statement_reading (Set x e) = omega arith
    statement_reading (Observe e) = omega arith
    statement_reading (If e a c) = max_is r (longest n r a) (longest n r c) (longest n 1 a) (longest n 1 c) (reading a) (reading c)
    statement_reading (Choice p a c) =
        draw_is r (bits_for p.den) (max (longest n r a) (longest n r c)) (max (longest n 1 a) (longest n 1 c))
        (max_is r (longest n r a) (longest n r c) (longest n 1 a) (longest n 1 c) (reading a) (reading c))
    statement_reading (Choose arms) = draw_is r (bits_for (sum (parts_of arms))) (longest_arm n r arms) (longest_arm n 1 arms) (arm_reading arms)
    statement_reading (Uniform x e) = omega arith
    statement_reading (While e a) = turns_is r n (longest n r a) (longest n 1 a) (reading a)

    pub reading : (b : Statements) → longest n r b ≡ r * longest n 1 b
    reading done = omega arith
    reading (st ▸ b) = let a = statement_reading st in let c = reading b in rw (a, c) (omega arith)

    arm_reading : (arms : ArmList) → longest_arm n r arms ≡ r * longest_arm n 1 arms
    arm_reading no_arm = omega arith
    arm_reading (arm p b arms) = max_is r (longest n r b) (longest_arm n r arms) (longest n 1 b) (longest_arm n 1 arms) (reading b) (arm_reading arms)
