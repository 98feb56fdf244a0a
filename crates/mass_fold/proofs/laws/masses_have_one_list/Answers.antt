use Rattle.mass_fold.proofs.OneList.{one_list_of_masses}
use Rattle.mass_fold.proofs.laws.masses_have_one_list.Goals as goal

pub returns : goal.returns
returns c = one_list_of_masses
