-- What the walk counts from a state.
use Rattle.std.proofs.Common.{◌≡◌, ℕ, suc, ◌+◌, ◌<◌, ◌≤◌, ◌^◌, Bool, true, false, List, [], ◌∷◌, sym, subst, arith}
use Rattle.std.specs.Prelude.{◌↔◌}
use Rattle.std.proofs.Math.Pow.{pow_mono}
use Rattle.gcl_core.specs.declared.answers.Outcome.{Outcome}
use Rattle.sampler_code.specs.Running.{Reached}
use Rattle.sampler_run.specs.declared.machine.Progress.TheVariants as progress
use Rattle.sampler_run.specs.Held.{Held, Ahead, StandsAfter}
use Rattle.sampler_run.specs.Telling.{Tells}
use Rattle.audit_walk.specs.declared.auditing.TheConstants.{MOST_DEPTH}
use Rattle.audit_walk.specs.Rows.{Rows, sum_of_counts}
use Rattle.audit_walk.specs.inner.Sums.{AddsUp}
use Rattle.audit_walk.specs.inner.Counts.{IsCountFrom}
use Rattle.audit_walk.proofs.Rests.{rest_here, rest_behind, ends_on, needs_on}
use Rattle.audit_walk.proofs.Weights.{counts_ended, counts_none, adding_adds_weights}

pub ended_counts : (s : Held) (x : Outcome) (h : ℕ) (rows : Rows) (n : ℕ) → Tells s (progress.Ended x) →
    ((v : List Bool) (a : Reached) → Ahead s v a ↔ Ahead s [] a) → rows ≡ (x, 2 ^ h) ∷ [] → n ≡ 0 → IsCountFrom s h rows n
ended_counts s x h rows n told stays e f =
    subst (λ r. IsCountFrom s h r n) (sym e) (subst (λ n. IsCountFrom s h ((x, 2 ^ h) ∷ []) n) (sym f)
    (record { rest = λ run r. counts_ended run h x (ends_on s run x r told stays); all = omega arith }))

pub none_counts : (s : Held) (h : ℕ) (rows : Rows) (n : ℕ) → Tells s progress.NeedBit → h ≡ 0 → rows ≡ [] → n ≡ 1 → IsCountFrom s h rows n
none_counts s h rows n told z e f =
    subst (λ h. IsCountFrom s h rows n) (sym z) (subst (λ r. IsCountFrom s 0 r n) (sym e) (subst (λ n. IsCountFrom s 0 [] n) (sym f)
    (record { rest = λ run r. let d = needs_on s run r told in counts_none run d.0 d.1; all = omega arith })))

-- a state that stands where another does
pub fork_counts : (s t : Held) (h : ℕ) (rows : Rows) (n : ℕ) → StandsAfter [] s t → IsCountFrom t h rows n → IsCountFrom s h rows n
fork_counts s t h rows n stands c = record { rest = λ run r. c.rest run (rest_here s t run stands r); all = c.all }

-- a state that needs a bit, by the states behind a 0 and behind a 1
more_counts : (s z o : Held) (h : ℕ) (a b c : Rows) (m n : ℕ) → Tells s progress.NeedBit → StandsAfter (false ∷ []) s z →
    StandsAfter (true ∷ []) s o → IsCountFrom z h a m → IsCountFrom o h b n → AddsUp a b c → IsCountFrom s (suc h) c (m + n)
more_counts s z o h a b c m n told f g p q sums = record {
  rest = λ run r.
      let d = needs_on s run r told in
      adding_adds_weights run h d.0 a b c m n d.1 (p.rest (λ v. run (false ∷ v)) (rest_behind false s z run f r))
      (q.rest (λ v. run (true ∷ v)) (rest_behind true s o run g r)) sums;
  all = let i = p.all in let j = q.all in let k = sums.all in omega arith;
}

pub sides_count : (s z o : Held) (h k : ℕ) (a b c : Rows) (m n u : ℕ) → Tells s progress.NeedBit → h ≡ suc k →
    StandsAfter (false ∷ []) s z →
    StandsAfter (true ∷ []) s o → IsCountFrom z k a m → IsCountFrom o k b n → AddsUp a b c × (u ≡ m + n) → IsCountFrom s h c u
sides_count s z o h k a b c m n u told e f g p q sums =
    subst (λ h. IsCountFrom s h c u) (sym e) (subst (λ u. IsCountFrom s (suc k) c u) (sym sums.1) (more_counts s z o k a b c m n told f g p q sums.0))

-- the counts of both sides fit
pub both_fit : (s t : Held) (h : ℕ) (a b : Rows) (m n : ℕ) → h ≤ MOST_DEPTH → IsCountFrom s h a m → IsCountFrom t h b n →
    sum_of_counts a + m + (sum_of_counts b + n) < 2 ^ 64
both_fit s t h a b m n le c d =
    let e = pow_mono {i = h} {j = MOST_DEPTH} le in
    let p = c.all in
    let q = d.all in
    omega arith
