-- The law of the dealing, by going through the events.
use Rattle.std.proofs.Common.{◌≡◌, ℕ, zero, suc, ◌+◌, ◌<◌, ◌≤◌, Bool, true, false, cond, ltb, min, List, [], ◌∷◌, ◌++◌, length, replicate, set, sym, refl, ap, subst, arith, length-set, get_or-set_same, get_or-set_other}
use mathlib.Core.Logic.{dite}
use native.Mathlib.Decide.{dec_le, ℕ_discrete}
use Rattle.std.proofs.lemmas.Bool.Decides.{nat_tests}
use Rattle.passes.specs.Total.{total}
use Rattle.passes.specs.Numbers.{times, once_below, ascends}
use Rattle.claim_board.specs.Deal.{Worker, Deal, fresh, start, worker_at, after_draw, Claims, Runs, AreDealt, DealsFairly}
use Rattle.passes.proofs.Totals.{total_put, total_get}
use Rattle.passes.proofs.Times.{times-append, once_more, once_inside, once_outside, above_all, ascends-snoc}

abbrev WorkerFair : ℕ → ℕ → Worker → Type 0
WorkerFair blocks next k = (ascends k.dealt ≡ true) × (k.ended ≡ true → blocks ≤ next)

abbrev Fair : ℕ → Deal → Type 0
Fair blocks d = AreDealt (min d.next blocks) d.workers × ((w : ℕ) → w < length d.workers → WorkerFair blocks d.next (worker_at d.workers w))

dealt_in : (x n : ℕ) (ws : List Worker) (w : ℕ) → AreDealt n ws → w < length ws → 0 < times x (worker_at ws w).dealt → x < n
dealt_in x n ws w all h p = let e = all x in let le = total_get (λ (k : Worker). times x k.dealt) ws w fresh h in once_inside x n (omega arith)

test_true : (n m : ℕ) → n < m → ltb n m ≡ true
test_true n m h = grind (arith, nat_tests)

test_false : (n m : ℕ) → m ≤ n → ltb n m ≡ false
test_false n m h = grind (arith, nat_tests)

pub min_inside : (n m : ℕ) → n < m → (min n m ≡ n) × (min (n + 1) m ≡ n + 1)
min_inside n m h = (omega arith, omega arith)

pub min_outside : (n m : ℕ) → m ≤ n → (min n m ≡ m) × (min (n + 1) m ≡ m)
min_outside n m h = (omega arith, omega arith)

pub draws_inside : (blocks n : ℕ) (k : Worker) → n < blocks → after_draw blocks n k ≡ record { dealt = k.dealt ++ n ∷ []; ended = k.ended }
draws_inside blocks n k h = ap (λ (b : Bool). cond b (record { dealt = k.dealt ++ n ∷ []; ended = k.ended }) (record { dealt = k.dealt; ended = true })) (test_true n blocks h)

pub draws_outside : (blocks n : ℕ) (k : Worker) → blocks ≤ n → after_draw blocks n k ≡ record { dealt = k.dealt; ended = true }
draws_outside blocks n k h = ap (λ (b : Bool). cond b (record { dealt = k.dealt ++ n ∷ []; ended = k.ended }) (record { dealt = k.dealt; ended = true })) (test_false n blocks h)

-- a list of which each number was drawn before n
drawn : (blocks n : ℕ) (k : Worker) (x : ℕ) → times x (after_draw blocks n k).dealt + once_below x (min n blocks) ≡ times x k.dealt + once_below x (min (n + 1) blocks)
drawn blocks n k x = dite (dec_le blocks n)
    (λ out. let e = min_outside n blocks out in let d : (after_draw blocks n k).dealt ≡ k.dealt = ap (λ (z : Worker). z.dealt) (draws_outside blocks n k out) in
    rw (d, e.0, e.1) refl)
    (λ not. let inside : n < blocks = omega arith in let e = min_inside n blocks inside in let d : (after_draw blocks n k).dealt ≡ k.dealt ++ n ∷ [] = ap (λ (z : Worker). z.dealt) (draws_inside blocks n k inside) in
    rw (d, e.0, e.1) (omega (arith, times-append x k.dealt (n ∷ []), once_more x n)))

draws_fair : (blocks n : ℕ) (k : Worker) → WorkerFair blocks n k → ((x : ℕ) → 0 < times x k.dealt → x < n) → WorkerFair blocks (n + 1) (after_draw blocks n k)
draws_fair blocks n k f below = dite (dec_le blocks n)
    (λ out. subst (λ (z : Worker). WorkerFair blocks (n + 1) z) (sym (draws_outside blocks n k out)) (f.0, λ _. omega arith))
    (λ not. subst (λ (z : Worker). WorkerFair blocks (n + 1) z) (sym (draws_inside blocks n k (omega arith))) (ascends-snoc k.dealt n f.0 (above_all k.dealt n below), λ q. let le = f.1 q in omega arith))

worker_later : (blocks n : ℕ) (k : Worker) → WorkerFair blocks n k → WorkerFair blocks (n + 1) k
worker_later blocks n k f = (f.0, λ q. let le = f.1 q in omega arith)

fair_claim : (blocks : ℕ) (d : Deal) (w : ℕ) → Fair blocks d → w < length d.workers → Fair blocks (record { next = d.next + 1; workers = set d.workers w (after_draw blocks d.next (worker_at d.workers w)) })
fair_claim blocks d w f h = let k : Worker = worker_at d.workers w in let k' : Worker = after_draw blocks d.next k in (
  (λ x. let sum = total_put (λ (z : Worker). times x z.dealt) d.workers w fresh k' h in let was = f.0 x in let one = drawn blocks d.next k x in omega arith),
  (λ v q. let here : v < length d.workers = subst (λ (n : ℕ). v < n) (length-set d.workers w k') q in dite (ℕ_discrete v w)
      (λ same. subst (λ (u : ℕ). WorkerFair blocks (d.next + 1) (worker_at (set d.workers w k') u)) (sym same)
      (subst (λ (z : Worker). WorkerFair blocks (d.next + 1) z) (sym (get_or-set_same d.workers w k' fresh h))
      (draws_fair blocks d.next k (f.1 w h) (λ x p. let in_all = dealt_in x (min d.next blocks) d.workers w f.0 h p in omega arith))))
      (λ ne. subst (λ (z : Worker). WorkerFair blocks (d.next + 1) z) (sym (get_or-set_other d.workers w v k' fresh ne)) (worker_later blocks d.next (worker_at d.workers v) (f.1 v here)))),
)

pub fresh_at : (n w : ℕ) → worker_at (replicate n fresh) w ≡ fresh
fresh_at zero w = refl
fresh_at (suc n) zero = refl
fresh_at (suc n) (suc w) = fresh_at n w

fair_start : (blocks count : ℕ) → Fair blocks (start count)
fair_start blocks count = ((λ x. nothing x count), λ w h. subst (λ (z : Worker). WorkerFair blocks 0 z) (sym (fresh_at count w)) (refl, λ (q : false ≡ true). absurd (cc)))
  where
    nothing : (x n : ℕ) → total (λ (k : Worker). times x k.dealt) (replicate n fresh) ≡ once_below x (min 0 blocks)
    nothing x zero = sym (once_outside x (min 0 blocks) (omega arith))
    nothing x (suc n) = let r = nothing x n in omega arith

fair_runs : (blocks : ℕ) (d : Deal) (events : List ℕ) (e : Deal) → Fair blocks d → Runs blocks d events e → Fair blocks e × (e.next ≡ d.next + length events)
fair_runs blocks d [] e f r = subst (λ (z : Deal). Fair blocks z × (z.next ≡ d.next + 0)) r (f, omega arith)
fair_runs blocks d (w ∷ ws) e f r = let c = r.1 in let m : Deal = r.0 in
    let fm : Fair blocks m = subst (λ (z : Deal). Fair blocks z) (sym c.2) (fair_claim blocks d w f c.0) in
    let rest = fair_runs blocks m ws e fm r.2 in let up : m.next ≡ d.next + 1 = ap (λ (z : Deal). z.next) c.2 in let add = rest.1 in
    (rest.0, omega arith)

pub deals : DealsFairly
deals blocks count events d r = let f = fair_runs blocks (start count) events d (fair_start blocks count) r in (
  omega (arith, f.1),
  f.0.0,
  (λ w h. (f.0.1 w h).0),
  (λ w h q. let le : blocks ≤ d.next = (f.0.1 w h).1 q in subst (λ (n : ℕ). AreDealt n d.workers) ((min_outside d.next blocks le).0) f.0.0),
)

pub runs_snoc : (blocks : ℕ) (d : Deal) (events : List ℕ) (m : Deal) (w : ℕ) (e : Deal) → Runs blocks d events m → Claims blocks m w e → Runs blocks d (events ++ w ∷ []) e
runs_snoc blocks d [] m w e r c = (e, subst (λ (z : Deal). Claims blocks z w e) (sym r) c, refl)
runs_snoc blocks d (x ∷ xs) m w e r c = (r.0, r.1, runs_snoc blocks r.0 xs m w e r.2 c)
