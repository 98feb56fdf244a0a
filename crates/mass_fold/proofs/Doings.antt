-- A loop over a table's entries.
use Rattle.std.proofs.Common.{◌≡◌, ℕ, ◌*◌, ◌≤◌, [], ◌∷◌, refl, sym, ap, subst, arith}
use Rattle.std.proofs.Math.Nat.{mul-le-mul_left}
use Rattle.gcl_core.specs.meaning.Value.{State}
use Rattle.gcl_core.specs.meaning.Blocks.{End}
use Rattle.gcl_core.specs.weighing.Fractions.{Fraction}
use Rattle.table_flow.specs.Scale.{whole}
use Rattle.mass_fold.specs.declared.error.MassError.{MassError}
use Rattle.mass_fold.specs.declared.ended.Gone.{Gone}
use Rattle.mass_fold.specs.declared.ended.Ended.{Ended}
use Rattle.mass_fold.specs.Amounts.{held}
use Rattle.mass_fold.specs.inner.Amounts.{Entries, Blames, PutGives, PutBlames}
use Rattle.mass_fold.specs.inner.Ended.{end_of, EndGives, EndBlames}
use Rattle.table_flow.specs.Counts.{all_kept}
use Rattle.mass_fold.specs.inner.Steps.{StepsTo, StepsOn, StepBlames}

module _ (go : (State → ℕ) → State → ℕ) (stop : (End → ℕ) → State → ℕ) (bs es : Entries) (E : Ended) where
  pub doing_none : StepsOn go stop bs es E bs E es
  doing_none N pos b h w = record { kept = b; ended = w; left = h; going = λ G. omega arith; stopping = λ G. refl }

  pub doing_all : (fs : Entries) (F : Ended) → StepsOn go stop bs es E fs F [] → StepsTo go stop bs es E fs F
  doing_all fs F d N pos b h w = let r = d N pos b h w in record { kept = r.kept; ended = r.ended; going = λ G. let z = r.going G in omega arith; stopping = λ G. let z = r.stopping G in omega arith }

  module _ (fs : Entries) (F : Ended) (s : State) (f : Fraction) (rest : Entries) (d : StepsOn go stop bs es E fs F ((s, f) ∷ rest)) where
    pub doing_go : (fs' : Entries) (t : State) → PutGives fs fs' t f → ((G : State → ℕ) → go G s ≡ G t) → ((G : End → ℕ) → stop G s ≡ 0) → StepsOn go stop bs es E fs' F rest
    doing_go fs' t p e n N pos b h w =
        let r = d N pos b h w in
        let q = p N pos r.kept r.left.0 r.left.1 in
        record {
          kept = q.0;
          ended = r.ended;
          left = r.left.2;
          going = λ G. let z = r.going G in let y = q.1 G in let x = ap (λ u. whole N f * u) (e G) in omega arith;
          stopping = λ G. let z = r.stopping G in let x = ap (λ u. whole N f * u) (n G) in omega arith;
        }

    pub doing_stop : (F' : Ended) (x : Gone) → EndGives F F' x f → ((G : State → ℕ) → go G s ≡ 0) → ((G : End → ℕ) → stop G s ≡ G (end_of x)) → StepsOn go stop bs es E fs F' rest
    doing_stop F' x p n e N pos b h w =
        let r = d N pos b h w in
        let q = p N r.ended r.left.1 in
        record {
          kept = r.kept;
          ended = q.0;
          left = r.left.2;
          going = λ G. let z = r.going G in let x = ap (λ u. whole N f * u) (n G) in omega arith;
          stopping = λ G. let z = r.stopping G in let y = q.1 G in let x = ap (λ u. whole N f * u) (e G) in omega arith;
        }

    pub doing_skip : ((G : State → ℕ) → go G s ≡ 0) → ((G : End → ℕ) → stop G s ≡ 0) → StepsOn go stop bs es E fs F rest
    doing_skip n m N pos b h w =
        let r = d N pos b h w in
        record {
          kept = r.kept;
          ended = r.ended;
          left = r.left.2;
          going = λ G. let z = r.going G in let x = ap (λ u. whole N f * u) (n G) in omega arith;
          stopping = λ G. let z = r.stopping G in let x = ap (λ u. whole N f * u) (m G) in omega arith;
        }

    pub blame_go : (e : MassError) (t : State) → PutBlames e fs t f → ((G : State → ℕ) → go G s ≡ G t) → StepBlames go stop bs es E e
    blame_go e t p q N L I pos b h w part most few most' =
        let r = d N pos b h w in
        p N L I pos r.kept r.left.0 r.left.1 (λ G. let z = r.going G in let y = part G in let x = ap (λ u. whole N f * u) (q G) in omega arith) most few

    pub blame_stop : (e : MassError) (x : Gone) → EndBlames e F x f → ((G : End → ℕ) → stop G s ≡ G (end_of x)) → StepBlames go stop bs es E e
    blame_stop e x p q N L I pos b h w part most few most' =
        let r = d N pos b h w in
        subst (λ e. Blames e N L) (sym p.0) (p.1 N pos r.ended r.left.1 (let z = r.stopping (λ x. 1) in let x = ap (λ u. whole N f * u) (q (λ x. 1)) in omega arith))

pub doing_start : (go : (State → ℕ) → State → ℕ) (stop : (End → ℕ) → State → ℕ) (bs es : Entries) (E : Ended) (fs rest : Entries) → fs ≡ bs → rest ≡ es → StepsOn go stop bs es E fs E rest
doing_start go stop bs es E fs rest p q = subst (λ fs. StepsOn go stop bs es E fs E rest) (sym p) (subst (λ rest. StepsOn go stop bs es E bs E rest) (sym q) (doing_none go stop bs es E))

pub doing_along : (go : (State → ℕ) → State → ℕ) (stop : (End → ℕ) → State → ℕ) (bs es : Entries) (E : Ended) (fs : Entries) (F : Ended) (rest rest' : Entries) → rest ≡ rest' → StepsOn go stop bs es E fs F rest → StepsOn go stop bs es E fs F rest'
doing_along go stop bs es E fs F rest rest' p d = subst (StepsOn go stop bs es E fs F) p d

held_less : (N : ℕ) (G H : State → ℕ) (es : Entries) → ((s : State) → G s ≤ H s) → held N G es ≤ held N H es
held_less N G H [] q = omega arith
held_less N G H (e ∷ es) q = let a = held_less N G H es q in let b = mul-le-mul_left (whole N e.1) (q e.0) in omega arith

-- a part of a table is blamed on the whole of it
pub blame_within : (go : (State → ℕ) → State → ℕ) (stop : (End → ℕ) → State → ℕ) (bs es : Entries) (E : Ended) (e : MassError) → ((G : State → ℕ) (s : State) → go G s ≤ G s) → StepBlames go stop bs es E e → StepBlames all_kept stop bs es E e
blame_within go stop bs es E e q p N L I pos b h w part most few most' = p N L I pos b h w (λ G. let z = held_less N (go G) G es (q G) in let y = part G in omega arith) most few most'
