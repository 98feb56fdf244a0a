-- What blocks, statements and arms read at most, by one attempt for each draw.
use Rattle.std.proofs.Common.{◌≡◌, ℕ, ◌+◌, ◌*◌, ◌≤◌, sym, ap, ◌∙◌, subst, arith}
use Rattle.std.specs.Prelude.{max}
use Rattle.std.specs.List.{sum}
use Rattle.std.proofs.Math.Nat.{max-le, mul-le-mul_left}
use Rattle.gcl_core.specs.declared.rules.TheConstants.{GREATEST_DENOMINATOR}
use Rattle.gcl_core.specs.declared.syntax.Weight.{Weight}
use Rattle.gcl_core.specs.meaning.Arms.{parts_of}
use Rattle.gcl_core.specs.meaning.Bounds.{BlockIsWeighed, ArmsAreWeighed}
use Rattle.gcl_core.specs.meaning.Draw.{bits_for}
use Rattle.gcl_core.specs.meaning.Syntax.{Expression, Statement, Skip, Set, If, While, Choice, Choose, Uniform, Observe, Statements, ArmList}
use Rattle.gcl_core.specs.weighing.LongestReading.{longest_statement, longest, longest_arm}
use Rattle.gcl_core.proofs.Classes.{bits_le}
use Rattle.scaled_fold.specs.inner.Longest.{BlockReads, StatementReads, ArmsRead}

-- an attempt among so many numbers
few_flips : (b : ℕ) → b ≤ GREATEST_DENOMINATOR → bits_for b ≤ 63
few_flips b h = bits_le b 63 (omega (arith, h))

-- the greater of two is no more than both together
greater_within : (a c d e : ℕ) → a ≤ d → c ≤ e → max a c ≤ d + e
greater_within a c d e h k = max-le {a = a} {b = c} (omega (arith, h)) (omega (arith, k))

draw_within : (f m d : ℕ) → f ≤ 63 → m ≤ d → f * 1 + m ≤ 63 + d
draw_within f m d h k = omega (arith, h, k)

module _ (n : ℕ) where
  pub reads_as : (st st' : Statement) (d : ℕ) → st ≡ st' → StatementReads n st' d → StatementReads n st d
  reads_as st st' d e h = subst (λ st. StatementReads n st d) (sym e) h

  pub skip_reads : StatementReads n Skip 0
  skip_reads w = omega arith

  pub set_reads : (x : ℕ) (e : Expression) → StatementReads n (Set x e) 0
  set_reads x e w = omega arith

  pub observe_reads : (e : Expression) → StatementReads n (Observe e) 0
  observe_reads e w = omega arith

  pub uniform_reads : (x : ℕ) (e : Expression) → StatementReads n (Uniform x e) 63
  uniform_reads x e w = omega arith

  pub if_reads : (e : Expression) (a c : Statements) (d k all : ℕ) → BlockReads n a d → BlockReads n c k → all ≡ d + k → StatementReads n (If e a c) all
  if_reads e a c d k all x y is w = subst (λ m. longest_statement n 1 (If e a c) ≤ m) (sym is) (greater_within (longest n 1 a) (longest n 1 c) d k (x w.0) (y w.1))

  pub choice_reads : (p : Weight) (a c : Statements) (d k both all : ℕ) → BlockReads n a d → BlockReads n c k → both ≡ d + k → all ≡ 63 + both → StatementReads n (Choice p a c) all
  choice_reads p a c d k both all x y is total w =
      subst (λ m. longest_statement n 1 (Choice p a c) ≤ m) (sym (total ∙ ap (λ m. 63 + m) is))
      (draw_within (bits_for p.den) (max (longest n 1 a) (longest n 1 c)) (d + k) (few_flips p.den w.0.coarse) (greater_within (longest n 1 a) (longest n 1 c) d k (x w.1) (y w.2)))

  pub choose_reads : (arms : ArmList) (d all : ℕ) → ArmsRead n arms d → all ≡ 63 + d → StatementReads n (Choose arms) all
  choose_reads arms d all x is w =
      subst (λ m. longest_statement n 1 (Choose arms) ≤ m) (sym is) (draw_within (bits_for (sum (parts_of arms))) (longest_arm n 1 arms) d (few_flips (sum (parts_of arms)) w.0.coarse) (x w.1))

  pub while_reads : (e : Expression) (b : Statements) (d all : ℕ) → BlockReads n b d → all ≡ d * n → StatementReads n (While e b) all
  while_reads e b d all x is w =
      let h = mul-le-mul_left n (x w) in
      let k : d * n ≡ n * d = omega arith in
      subst (λ m. n * longest n 1 b ≤ m) (sym (is ∙ k)) h

  -- ---- a loop: so much was read so far, and the rest is left

  abbrev pub BlockLeft : Statements → Statements → ℕ → Type 0
  BlockLeft b rest all = BlockIsWeighed b → BlockIsWeighed rest × (longest n 1 b ≤ all + longest n 1 rest)

  abbrev pub ArmsLeft : ArmList → ArmList → ℕ → Type 0
  ArmsLeft arms rest all = ArmsAreWeighed arms → ArmsAreWeighed rest × (longest_arm n 1 arms ≤ all + longest_arm n 1 rest)
