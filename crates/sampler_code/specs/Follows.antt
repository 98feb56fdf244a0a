-- What the code of a tied tree keeps of it. The code is this project's own.
use Rattle.std.specs.Prelude.{◌≡◌}
use Rattle.gcl_core.specs.declared.answers.Limits.{Limits}
use Rattle.gcl_core.specs.meaning.LimitRange.{InRange}
use Rattle.bit_tree.specs.Tree.{TiedTree}
use Rattle.bit_tree.specs.Meaning.{tied_on}
use Rattle.bit_tree.specs.Sampleable.{TiedIsSampleable}
use Rattle.sampler_code.specs.Assembled.{Assembled, IsRunOf, ReachesOne}
use Rattle.sampler_code.specs.TreeCode.{assembled}
use Rattle.sampler_code.specs.Fits.{TiedFits}

-- The code does what the tied tree does: under all limits in range the tree's run is the code's, and nothing else is reached.
pub record Follows (t : TiedTree) (c : Assembled) : Type 0 where
  pub answers : (l : Limits) → InRange l → IsRunOf c l (tied_on t l)
  pub only : ReachesOne c

-- it is the code of some tied tree, in which each draw is coalesced, each label has its arm, variables are in place and numbers
-- have 64 bits
pub record IsCode (c : Assembled) : Type 0 where
  pub tree : TiedTree
  pub sampleable : TiedIsSampleable tree
  pub numbers : TiedFits tree
  pub same : c ≡ assembled tree
