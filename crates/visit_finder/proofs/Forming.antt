-- Residues of a list that are below the moduli.
use Rattle.std.proofs.Common.{◌≡◌, ◌⊎◌, inl, inr, List, [], ◌∷◌, Contains, subst}
use Rattle.visit_finder.specs.declared.residues.Moduli.{Moduli}
use Rattle.visit_finder.specs.declared.residues.Residues.{Residues}
use Rattle.visit_finder.specs.Equations.{AllForms}
use Rattle.visit_finder.specs.Places.{AreForms}
use Rattle.visit_finder.proofs.Entries.{first_or_later, none_in}

module _ {K : Type 0} (moduli : Moduli) where
  pub no_forms_at : AllForms {K = K} moduli []
  no_forms_at k r h = absurd (none_in (k, r) h)

  pub first_forms : (k : K) (r : Residues) (rest : List (K × Residues)) → AreForms moduli r → AllForms {K = K} moduli rest → AllForms {K = K} moduli ((k, r) ∷ rest)
  first_forms k r rest first others q s h = by (first_or_later (k, r) rest (q, s) h)
    where
      by : (◌≡◌ {A = K × Residues} (k, r) (q, s)) ⊎ Contains {X = K × Residues} rest (q, s) → AreForms moduli s
      by (inl same) = subst (λ (e : K × Residues). AreForms moduli e.1) same first
      by (inr there) = others q s there
