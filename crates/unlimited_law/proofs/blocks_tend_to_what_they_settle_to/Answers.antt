use Rattle.std.proofs.Common.{arith}
use Rattle.unlimited_law.proofs.BlockLimits.{table_near}
use Rattle.unlimited_law.proofs.OneLimit.{one_limit}
use Rattle.unlimited_law.proofs.blocks_tend_to_what_they_settle_to.Goals as goal

pub returns-clause-near : goal.returns-clause-near
returns-clause-near c = λ b I f w fractions o n some event spared. table_near b I f w o n (omega arith) event spared fractions

pub returns-clause-one_limit : goal.returns-clause-one_limit
returns-clause-one_limit c = λ b I f g w fractions o q event spared. one_limit b I w fractions event spared f g o q
