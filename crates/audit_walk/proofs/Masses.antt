-- An audit shows masses.
use Rattle.std.proofs.Common.{ℕ, ◌^◌, Bool, List, sym, subst, ◌∙◌}
use Rattle.gcl_core.specs.declared.answers.Answer.{Answer}
use Rattle.gcl_core.specs.declared.answers.Limits.{Limits}
use Rattle.gcl_core.specs.weighing.Fractions.{IsShare, IsWithinShare}
use Rattle.gcl_core.specs.meaning.Syntax.{SourceProgram}
use Rattle.weighing_law.specs.Weighing.{WeighsExactly, limited_mass}
use Rattle.audit_walk.specs.Audited.{IsAuditOf}
use Rattle.audit_walk.specs.Laws.{ShowsMasses}
use Rattle.audit_walk.specs.Rows.{Rows}
use Rattle.audit_walk.proofs.Decided.{suffices}
use Rattle.audit_walk.proofs.Exact.{weight_of}

pub shows_masses : (p : SourceProgram) (l : Limits) (run : List Bool → Answer) (depth : ℕ) (rows : Rows) (undecided : ℕ) → WeighsExactly run p l →
    IsAuditOf run depth rows undecided →
    ShowsMasses p l depth rows undecided
shows_masses p l run depth rows undecided w a = record {
  within = λ x. subst (λ n. IsWithinShare n (2 ^ depth) (limited_mass p l x)) (sym (weight_of run depth rows undecided a x)) (w.within x depth);
  exact = λ none x. subst (λ n. IsShare n (2 ^ depth) (limited_mass p l x)) (sym (weight_of run depth rows undecided a x))
      (w.exact x depth (suffices run depth (sym a.undecided_is ∙ none)));
}
