use Rattle.narrow_fractions.proofs.WorkedLoop.{covered, balanced, found}
use Rattle.narrow_fractions.proofs.Refusal.{nothing_narrow, one_narrow}
use Rattle.narrow_fractions.proofs.refusing.nothing_narrow_is_left.Goals as goal

pub returns-clause-none : goal.returns-clause-none
returns-clause-none c = λ n whole parts ks s number ms covers apart found i bound high low before now h w r v p x num den some short low_num e.
    nothing_narrow n whole parts ks s number ms covers apart found v p x i bound num den some short low_num e high low before now h w r

pub returns-clause-no_other : goal.returns-clause-no_other
returns-clause-no_other c = λ n whole parts ks s number ms covers apart found i bound high low before now w l h r v p x num den some short low_num e.
    one_narrow n whole parts ks s number ms covers apart found v p x i bound num den some short low_num e high low before now w l h r

pub returns-clause-met : goal.returns-clause-met
returns-clause-met c = (covered, balanced, found)
