use Rattle.std.proofs.Common.{◌≡◌, List, [], ◌∷◌, length, get_or, refl, arith}
use Rattle.std.specs.Prelude.{slice_set}
use Rattle.sampler_run.proofs.machine.copy_few.Goals as goal

module _ {X : Type 0} where
  none : (to from : List X) → length to ≡ 0 → length to ≡ length from → to ≡ from
  none [] [] few same = refl
  none [] (_ ∷ _) few same = absurd (omega (arith, same))
  none (_ ∷ _) _ few same = absurd (omega (arith, few))

  one : (to from : List X) (a : X) → length to ≡ 1 → length to ≡ length from → a ≡ get_or from 0 a → slice_set to 0 a ≡ from
  one (_ ∷ to) (_ ∷ from) a few same e = let rest = none to from (omega (arith, few)) (omega (arith, same)) in cc
  one [] _ a few same e = absurd (omega (arith, few))
  one (_ ∷ _) [] a few same e = absurd (omega (arith, same))

  two : (to from : List X) (a b : X) → length to ≡ 2 → length to ≡ length from → a ≡ get_or from 0 a → b ≡ get_or from 1 b →
      slice_set (slice_set to 0 a) 1 b ≡ from
  two (_ ∷ to) (_ ∷ from) a b few same e f = let rest = one to from b (omega (arith, few)) (omega (arith, same)) f in cc
  two [] _ a b few same e f = absurd (omega (arith, few))
  two (_ ∷ _) [] a b few same e f = absurd (omega (arith, same))

  three : (to from : List X) (a b d : X) → length to ≡ 3 → length to ≡ length from → a ≡ get_or from 0 a → b ≡ get_or from 1 b → d ≡ get_or from 2 d →
      slice_set (slice_set (slice_set to 0 a) 1 b) 2 d ≡ from
  three (_ ∷ to) (_ ∷ from) a b d few same e f g = let rest = two to from b d (omega (arith, few)) (omega (arith, same)) f g in cc
  three [] _ a b d few same e f g = absurd (omega (arith, few))
  three (_ ∷ _) [] a b d few same e f g = absurd (omega (arith, same))

pub returns-in-1 : goal.returns-in-1
returns-in-1 g c = one c.args.to.now c.args.from.now c.index-from-0.result (omega arith) c.requires c.index-from-0.is

pub returns-in-2 : goal.returns-in-2
returns-in-2 g c =
    two c.args.to.now c.args.from.now c.index-from-0-in-2.result c.index-from-1.result (omega arith) c.requires c.index-from-0-in-2.is c.index-from-1.is

pub returns-in-3 : goal.returns-in-3
returns-in-3 g c =
    three c.args.to.now c.args.from.now c.index-from-0-in-3.result c.index-from-1-in-3.result c.index-from-2.result (omega arith) c.requires
    c.index-from-0-in-3.is c.index-from-1-in-3.is c.index-from-2.is
