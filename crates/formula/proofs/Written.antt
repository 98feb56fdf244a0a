-- Steps that are appended, and written again where a target is known.
use Rattle.std.proofs.Common.{◌≡◌, ℕ, ◌+◌, ◌≤◌, max, List, [], ◌∷◌, ◌++◌, length, refl, sym, ap, ◌∙◌, arith, append_assoc, length-append}
use Rattle.std.specs.Prelude.{slice_set}
use Rattle.std.proofs.Math.Seq.{set-append_seam}
use Rattle.gcl_core.specs.declared.syntax.BinOp.{BinOp}
use Rattle.gcl_core.specs.declared.syntax.BinOp.TheVariants.{And, Or}
use Rattle.gcl_core.specs.meaning.Syntax.{Expression}
use Rattle.gcl_core.specs.meaning.Syntax as source
use Rattle.formula.specs.declared.op.Op.{Op}
use Rattle.formula.specs.declared.op.Op.TheVariants.{Bin, Settle}
use Rattle.formula.specs.Steps.{settling, steps_between, kept, joining, step_count, steps_at, depth}
use Rattle.formula.proofs.Lists.{steps_length}

-- an operator that is neither `and` nor `or`
pub record Plain (op : BinOp) : Type 0 where
  pub steps_between : steps_between op ≡ 0
  pub kept : kept op ≡ 1
  pub joining : joining op ≡ Bin op
  pub settling : (t : ℕ) → settling op t ≡ []

pub plain : (op : BinOp) → (op ≡ And → ⊥) → (op ≡ Or → ⊥) → Plain op
plain And h i = absurd (h refl)
plain Or h i = absurd (i refl)
plain _ h i = record { steps_between = refl; kept = refl; joining = refl; settling = λ t. refl }

pub plain_by : (op : BinOp) → settling op 0 ≡ [] → Plain op
plain_by And h = absurd (cc)
plain_by Or h = absurd (cc)
plain_by _ h = record { steps_between = refl; kept = refl; joining = refl; settling = λ t. refl }

pub written_plain : (op : BinOp) (a b : Expression) (s0 s1 s2 s3 : List Op) → Plain op → s1 ≡ s0 ++ steps_at a (length s0) →
    s2 ≡ s1 ++ steps_at b (length s1) → s3 ≡ s2 ++ Bin op ∷ [] → s3 ≡ s0 ++ steps_at (source.Bin op a b) (length s0)
written_plain op a b s0 s1 s2 s3 p e1 e2 e3 =
    let i = length s0 in
    let A = steps_at a i in
    let j = i + (step_count a + steps_between op) in
    let t = i + (step_count a + steps_between op + step_count b + 1) in
    let n1 : length s1 ≡ j = let g = p.steps_between in omega (arith, ap length e1, length-append s0 A, steps_length a i) in
    let B = steps_at b j in
    e3
    ∙ ap (λ l. l ++ Bin op ∷ []) (e2 ∙ ap (λ n. s1 ++ steps_at b n) n1 ∙ ap (λ l. l ++ B) e1)
    ∙ (let flat : ((s0 ++ A) ++ B) ++ Bin op ∷ [] ≡ s0 ++ (A ++ (B ++ Bin op ∷ [])) = simp append_assoc in flat)
    ∙ ap (λ o. s0 ++ (A ++ (B ++ o ∷ []))) (sym p.joining)
    ∙ ap (λ m. s0 ++ (A ++ (m ++ (B ++ joining op ∷ [])))) (sym (p.settling t))

pub written_skip : (op : BinOp) (skip : ℕ → Op) (a b : Expression) (s0 s1 s2 s3 s4 s5 : List Op) (at end : ℕ) → steps_between op ≡ 1 →
    joining op ≡ Settle → ((t : ℕ) → settling op t ≡ skip t ∷ []) → s1 ≡ s0 ++ steps_at a (length s0) → at ≡ length s1 →
    s2 ≡ s1 ++ skip 0 ∷ [] → s3 ≡ s2 ++ steps_at b (length s2) → s4 ≡ s3 ++ Settle ∷ [] → end ≡ length s4 →
    s5 ≡ slice_set s4 at (skip end) → s5 ≡ s0 ++ steps_at (source.Bin op a b) (length s0)
written_skip op skip a b s0 s1 s2 s3 s4 s5 at end g q m e1 ea e2 e3 e4 ee e5 =
    let i = length s0 in
    let A = steps_at a i in
    let j = i + (step_count a + steps_between op) in
    let t = i + (step_count a + steps_between op + step_count b + 1) in
    let n1 : length s1 ≡ i + step_count a = omega (arith, ap length e1, length-append s0 A, steps_length a i) in
    let n2 : length s2 ≡ j = omega (arith, ap length e2, length-append s1 (skip 0 ∷ [])) in
    let B = steps_at b j in
    let e3' : s3 ≡ s2 ++ B = e3 ∙ ap (λ n. s2 ++ steps_at b n) n2 in
    let n4 : length s4 ≡ t = omega (arith, ap length e4, length-append s3 (Settle ∷ []), ap length e3', length-append s2 B, steps_length b j) in
    let flat : ((s1 ++ skip 0 ∷ []) ++ B) ++ Settle ∷ [] ≡ s1 ++ skip 0 ∷ (B ++ Settle ∷ []) = simp append_assoc in
    let all : s4 ≡ s1 ++ skip 0 ∷ (B ++ Settle ∷ []) = e4 ∙ ap (λ l. l ++ Settle ∷ []) (e3' ∙ ap (λ l. l ++ B) e2) ∙ flat in
    e5
    ∙ ap (λ l. slice_set l at (skip end)) all
    ∙ ap (λ n. slice_set (s1 ++ skip 0 ∷ (B ++ Settle ∷ [])) n (skip end)) ea
    ∙ set-append_seam s1 (skip 0) (B ++ Settle ∷ []) (skip end)
    ∙ ap (λ n. s1 ++ skip n ∷ (B ++ Settle ∷ [])) (ee ∙ n4)
    ∙ ap (λ l. l ++ skip t ∷ (B ++ Settle ∷ [])) e1
    ∙ append_assoc s0 A (skip t ∷ (B ++ Settle ∷ []))
    ∙ ap (λ o. s0 ++ (A ++ (skip t ∷ (B ++ o ∷ [])))) (sym q)
    ∙ ap (λ l. s0 ++ (A ++ (l ++ (B ++ joining op ∷ [])))) (sym (m t))

pub depth_plain : (op : BinOp) (a b : Expression) (l r m : ℕ) → Plain op → l ≡ depth a → r ≡ depth b → m ≡ max l (r + 1) →
    m ≡ depth (source.Bin op a b)
depth_plain op a b l r m p el er em =
    em ∙ ap (λ l. max l (r + 1)) el ∙ ap (λ r. max (depth a) (r + 1)) er ∙ ap (λ k. max (depth a) (depth b + k)) (sym p.kept)

pub small_plain : (s0 B s1 s2 s3 : List Op) (op : BinOp) (l r m : ℕ) → l ≤ length s1 → r ≤ length s2 → s2 ≡ s1 ++ B → s3 ≡ s2 ++ Bin op ∷ [] →
    m ≡ max l (r + 1) → m ≤ length s3
small_plain s0 B s1 s2 s3 op l r m hl hr e2 e3 em =
    omega (arith, ap length e2, length-append s1 B, ap length e3, length-append s2 (Bin op ∷ []))
