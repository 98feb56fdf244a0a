use Rattle.string_bounds.proofs.StringBounds.{lies_between, are_near}
use Rattle.string_bounds.proofs.strings_lie_between_the_bounds.Goals as goal

pub returns-clause-between : goal.returns-clause-between
returns-clause-between c = λ p l run n ok same passes le. lies_between p l run ok same passes n le

pub returns-clause-near : goal.returns-clause-near
returns-clause-near c = λ p l l' run other n ok same same' passes passes' le le'. are_near p l l' run other ok same same' passes passes' n le le'
