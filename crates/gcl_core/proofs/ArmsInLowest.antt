-- The arms of a choice among several with its parts in lowest terms: the parts alone change.
use Rattle.std.proofs.Common.{◌≡◌, ◌∙◌, ℕ, ◌/◌, map, refl, ap}
use Rattle.std.proofs.Math.Nat.{div-one}
use Rattle.std.specs.Prelude.{List, ◌++◌}
use Rattle.gcl_core.specs.declared.syntax.Weight.{Weight}
use Rattle.gcl_core.specs.meaning.Arms.{parts_of}
use Rattle.gcl_core.specs.meaning.Bounds.{ArmsBelow, ArmsFit, ArmsWeights}
use Rattle.gcl_core.specs.text.ReadingOrder.{listed, arms_listed}
use Rattle.gcl_core.specs.meaning.Divisor.{common_divisor}
use Rattle.gcl_core.specs.meaning.Lowest.{lowest_parts, divided, lowest_arms, arms_in_lowest, block_in_lowest}
use Rattle.gcl_core.specs.meaning.Syntax.{ArmList, no_arm, arm}

-- ---- the parts
pub parts_divided : (g : ℕ) (arms : ArmList) → parts_of (divided g arms) ≡ map (λ p. p / g) (parts_of arms)
parts_divided g no_arm = refl
parts_divided g (arm p b arms) = rw (parts_divided g arms) refl

pub parts_same : (arms : ArmList) → parts_of (arms_in_lowest arms) ≡ parts_of arms
parts_same no_arm = refl
parts_same (arm p b arms) = rw (parts_same arms) refl

pub parts_lowest : (arms : ArmList) → parts_of (lowest_arms (arms_in_lowest arms)) ≡ lowest_parts (parts_of arms)
parts_lowest arms = parts_divided (common_divisor (parts_of (arms_in_lowest arms))) (arms_in_lowest arms) ∙ ap lowest_parts (parts_same arms)

pub divided_by_one : (arms : ArmList) → divided 1 arms ≡ arms
divided_by_one no_arm = refl
divided_by_one (arm p b arms) = ap (λ q. arm q b (divided 1 arms)) (div-one p) ∙ ap (arm p b) (divided_by_one arms)

-- ---- the rest
module _ (g : ℕ) where
  pub listed_divided : (arms : ArmList) → arms_listed (divided g arms) ≡ arms_listed arms
  listed_divided no_arm = refl
  listed_divided (arm p b arms) = ap (λ ss. listed b ++ ss) (listed_divided arms)

  pub lowest_divided : (arms : ArmList) → arms_in_lowest (divided g arms) ≡ divided g (arms_in_lowest arms)
  lowest_divided no_arm = refl
  lowest_divided (arm p b arms) = ap (arm (p / g) (block_in_lowest b)) (lowest_divided arms)

  pub below_divided : (count : ℕ) (arms : ArmList) → ArmsBelow count arms → ArmsBelow count (divided g arms)
  below_divided count no_arm p = tt
  below_divided count (arm n b arms) p = (p.0, below_divided count arms p.1)

  pub fit_divided : (arms : ArmList) → ArmsFit arms → ArmsFit (divided g arms)
  fit_divided no_arm p = tt
  fit_divided (arm n b arms) p = (p.0, fit_divided arms p.1)

  pub weights_divided : (Fact : Weight → Type 0) (PartsFact : List ℕ → Type 0) (arms : ArmList) → ArmsWeights Fact PartsFact arms → ArmsWeights Fact PartsFact (divided g arms)
  weights_divided Fact PartsFact no_arm p = tt
  weights_divided Fact PartsFact (arm n b arms) p = (p.0, weights_divided Fact PartsFact arms p.1)
