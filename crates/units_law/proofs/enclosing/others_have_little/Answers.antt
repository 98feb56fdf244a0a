use Rattle.units_law.proofs.FewOthers.{few_others, have_little, nearly_fails}
use Rattle.units_law.proofs.Widest.{block_widest}
use Rattle.units_law.proofs.enclosing.others_have_little.Goals as goal

pub returns-clause-by_roundings : goal.returns-clause-by_roundings
returns-clause-by_roundings c p n k units r R all_turns ok ends loses many = few_others p ok n r k loses units many R ends all_turns

pub returns-clause-by_tables : goal.returns-clause-by_tables
returns-clause-by_tables c p n r R all_turns ok ends = have_little p ok n r R ends all_turns

pub returns-clause-widest : goal.returns-clause-widest
returns-clause-widest c p ok = block_widest p.body ok.numbers.body

pub returns-clause-none : goal.returns-clause-none
returns-clause-none c p n r ok none = nearly_fails p ok n r none
