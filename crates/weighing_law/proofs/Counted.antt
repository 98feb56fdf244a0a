-- The weighing law as counts of strings.
use Rattle.std.proofs.Common.{◌^◌, Bool, List, [], refl, subst}
use Rattle.gcl_core.specs.declared.answers.Answer.{Answer}
use Rattle.gcl_core.specs.declared.answers.Limits.{Limits}
use Rattle.gcl_core.specs.weighing.Fractions.{IsShare, IsWithinShare}
use Rattle.gcl_core.specs.meaning.Syntax.{SourceProgram}
use Rattle.weighing_law.specs.Counting.{CountsMasses}
use Rattle.weighing_law.specs.JustRead.{CountsStrings}
use Rattle.weighing_law.specs.Prefixes.{ReadsInOrder}
use Rattle.weighing_law.specs.Weighing.{limited_mass, WeighsExactly}
use Rattle.weighing_law.proofs.EndedStrings.{weight_counts}
use Rattle.weighing_law.proofs.JustReadStrings.{weight_sums}

pub counts_strings : (answers : List Bool → Answer) → ReadsInOrder answers → CountsStrings answers
counts_strings answers order = record {
  just_read = λ x L. weight_sums x L answers (answers []) refl;
  ended = λ x L. weight_counts x answers order L [] (answers []) refl;
}

pub counts_masses : (p : SourceProgram) (l : Limits) (answers : List Bool → Answer) → CountsStrings answers → WeighsExactly answers p l → CountsMasses answers p l
counts_masses p l answers counts weighs = record {
  within = λ x L. subst (λ n. IsWithinShare n (2 ^ L) (limited_mass p l x)) (counts.ended x L) (weighs.within x L);
  exact = λ x L suffices. subst (λ n. IsShare n (2 ^ L) (limited_mass p l x)) (counts.ended x L) (weighs.exact x L suffices);
}
