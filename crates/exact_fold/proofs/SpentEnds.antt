-- What ended in a flow whose turns suffice: faults, failed observations, and limits without weight, which may be left out.
use Rattle.std.proofs.Common.{◌≡◌, ℕ, ◌+◌, ◌*◌, ◌≤◌, Bool, true, cond, [], ◌∷◌, None, refl, ap, ◌∙◌, arith}
use Rattle.gcl_core.specs.declared.answers.Limit.TheVariants.{Turns, Attempts, Rounds}
use Rattle.gcl_core.specs.meaning.Blocks.{End, on, failed, fault, limit}
use Rattle.gcl_core.specs.meaning.Syntax.{Expression, Statements}
use Rattle.gcl_core.specs.weighing.Fractions.{Fraction}
use Rattle.gcl_core.specs.weighing.Mass.{ends_in, is_failed}
use Rattle.gcl_core.specs.weighing.WeightedEnds.{Weighted, scaled, class_weight}
use Rattle.gcl_core.proofs.TreeWeights.{chi}
use Rattle.table_flow.specs.Scale.{whole, Wholes, amount, weight}
use Rattle.table_flow.specs.Tables.{Table, fractions_kind, draw_weights, draws_each, block_flow}
use Rattle.table_flow.proofs.Amounts.{whole_zero}
use Rattle.table_flow.proofs.EachMember.{Each, Anything, each_anything}
use Rattle.table_flow.proofs.KeptEntries.{KeepsEntries, nothing_asked, block_kept}
use Rattle.table_flow.proofs.Spreads.{sum_of_all, Zero}
use Rattle.unlimited_law.specs.Alike.{AreFractions}
use Rattle.unlimited_law.specs.Ended.{is_out_of_turns}
use Rattle.unlimited_law.specs.SettledMasses.{over}
use Rattle.unlimited_law.proofs.EndedLoops.{Suffice}
use Rattle.exact_fold.proofs.FreeFlows.{AreStopped}

-- ---- no limit but that of turns
abbrev IsTurned : Fraction × End → Type 0
IsTurned (w, on s) = ⊥
IsTurned (w, failed) = Unit {0}
IsTurned (w, fault f) = Unit {0}
IsTurned (w, limit Turns) = Unit {0}
IsTurned (w, limit Attempts) = ⊥
IsTurned (w, limit Rounds) = ⊥

abbrev pub AreTurned : Weighted End → Type 0
AreTurned = Each IsTurned

all_turn : KeepsEntries fractions_kind None Anything Anything Anything Anything Anything IsTurned Anything Anything
all_turn = record {
  asked = nothing_asked;
  tidy = λ I h. h;
  at_loop = λ I h. (h, tt);
  faulty = λ f e h. tt;
  failing = λ e h. tt;
  turns = λ v a s e h. tt;
  set = λ i v s e h z q. tt;
  drawn = λ i v s e h b q m le d g. tt;
  number = λ m. tt;
  choice = λ p a c s. tt;
  choose = λ arms s. tt;
  class = λ b d c I h. each_anything (scaled (class_weight b None c) I);
  rest = λ b d I h. tt;
  shown = λ b d I h. each_anything (draws_each (draw_weights b None) I);
  reached = λ ends d I h. each_anything (fractions_kind.reached ends I);
}

pub only_turns : (n : ℕ) (b : Statements) (I : Table) → AreTurned (block_flow n None b I).ended
only_turns n b I = (block_kept all_turn n b tt I (each_anything I)).ended

-- ---- limits without weight
abbrev IsSpent : Fraction × End → Type 0
IsSpent (w, on s) = ⊥
IsSpent (w, failed) = Unit {0}
IsSpent (w, fault f) = Unit {0}
IsSpent (w, limit l) = w.0 ≡ 0

abbrev pub AreSpent : Weighted End → Type 0
AreSpent = Each IsSpent

pub are_spent : (m : Weighted End) → Suffice m → AreTurned m → AreSpent m
are_spent [] h t = tt
are_spent ((w, on s) ∷ m) h t = absurd t.0
are_spent ((w, failed) ∷ m) h t = (tt, are_spent m (omega arith) t.1)
are_spent ((w, fault f) ∷ m) h t = (tt, are_spent m (omega arith) t.1)
are_spent ((w, limit Turns) ∷ m) h t = (omega arith, are_spent m (omega arith) t.1)
are_spent ((w, limit Attempts) ∷ m) h t = absurd t.0
are_spent ((w, limit Rounds) ∷ m) h t = absurd t.0

-- without the limits
abbrev pub stopped : Weighted End → Weighted End
stopped [] = []
stopped ((w, on s) ∷ m) = (w, on s) ∷ stopped m
stopped ((w, failed) ∷ m) = (w, failed) ∷ stopped m
stopped ((w, fault f) ∷ m) = (w, fault f) ∷ stopped m
stopped ((w, limit l) ∷ m) = stopped m

pub are_stopped : (m : Weighted End) → AreSpent m → AreStopped (stopped m)
are_stopped [] h = tt
are_stopped ((w, on s) ∷ m) h = absurd h.0
are_stopped ((w, failed) ∷ m) h = (tt, are_stopped m h.1)
are_stopped ((w, fault f) ∷ m) h = (tt, are_stopped m h.1)
are_stopped ((w, limit l) ∷ m) h = are_stopped m h.1

pub stopped_sum : (F : Fraction → End → ℕ) → Zero F → (m : Weighted End) → AreSpent m → sum_of_all F (stopped m) ≡ sum_of_all F m
stopped_sum F z [] h = refl
stopped_sum F z ((w, on s) ∷ m) h = absurd h.0
stopped_sum F z ((w, failed) ∷ m) h = ap (λ x. F w failed + x) (stopped_sum F z m h.1)
stopped_sum F z ((w, fault f) ∷ m) h = ap (λ x. F w (fault f) + x) (stopped_sum F z m h.1)
stopped_sum F z ((w, limit l) ∷ m) h = let i = stopped_sum F z m h.1 in let a = ap (λ x. F (x, w.1) (limit l)) h.0 ∙ z w.1 (limit l) in omega arith

pub stopped_fractions : (m : Weighted End) → AreFractions m → AreFractions (stopped m)
stopped_fractions [] h = tt
stopped_fractions ((w, on s) ∷ m) h = (h.0, stopped_fractions m h.1)
stopped_fractions ((w, failed) ∷ m) h = (h.0, stopped_fractions m h.1)
stopped_fractions ((w, fault f) ∷ m) h = (h.0, stopped_fractions m h.1)
stopped_fractions ((w, limit l) ∷ m) h = stopped_fractions m h.1

module _ (N : ℕ) where
  pub stopped_wholes : (m : Weighted End) → Wholes N m → Wholes N (stopped m)
  stopped_wholes [] h = tt
  stopped_wholes ((w, on s) ∷ m) h = (h.0, stopped_wholes m h.1)
  stopped_wholes ((w, failed) ∷ m) h = (h.0, stopped_wholes m h.1)
  stopped_wholes ((w, fault f) ∷ m) h = (h.0, stopped_wholes m h.1)
  stopped_wholes ((w, limit l) ∷ m) h = stopped_wholes m h.1

  pub stopped_amount : (event : End → Bool) (m : Weighted End) → AreSpent m → amount N (chi (over event)) (stopped m) ≡ amount N (chi event) m
  stopped_amount event [] h = refl
  stopped_amount event ((w, on s) ∷ m) h = absurd h.0
  stopped_amount event ((w, failed) ∷ m) h = ap (λ x. whole N w * chi event failed + x) (stopped_amount event m h.1)
  stopped_amount event ((w, fault f) ∷ m) h = ap (λ x. whole N w * chi event (fault f) + x) (stopped_amount event m h.1)
  stopped_amount event ((w, limit l) ∷ m) h =
      let i = stopped_amount event m h.1 in
      let a : whole N w * chi event (limit l) ≡ 0 * chi event (limit l) = ap (λ x. whole N (x, w.1) * chi event (limit l)) h.0 ∙ ap (λ x. x * chi event (limit l)) (whole_zero N w.1) in
      omega arith

  -- ---- all that ended, by parts
  pub out_below : (meant : End → Bool) → meant (limit Turns) ≡ true → (m : Weighted End) → amount N (chi is_out_of_turns) m ≤ amount N (chi meant) m
  out_below meant h [] = omega arith
  out_below meant h ((w, on s) ∷ m) = let i = out_below meant h m in omega arith
  out_below meant h ((w, failed) ∷ m) = let i = out_below meant h m in omega arith
  out_below meant h ((w, fault f) ∷ m) = let i = out_below meant h m in omega arith
  out_below meant h ((w, limit Turns) ∷ m) = let i = out_below meant h m in let a = ap (λ b. whole N w * cond b 1 0) h in omega arith
  out_below meant h ((w, limit Attempts) ∷ m) = let i = out_below meant h m in omega arith
  out_below meant h ((w, limit Rounds) ∷ m) = let i = out_below meant h m in omega arith

  pub out_or_failed : (m : Weighted End) → amount N (chi is_out_of_turns) m + amount N (chi is_failed) m ≤ weight N m
  out_or_failed [] = omega arith
  out_or_failed ((w, on s) ∷ m) = let i = out_or_failed m in omega arith
  out_or_failed ((w, failed) ∷ m) = let i = out_or_failed m in omega arith
  out_or_failed ((w, fault f) ∷ m) = let i = out_or_failed m in omega arith
  out_or_failed ((w, limit Turns) ∷ m) = let i = out_or_failed m in omega arith
  out_or_failed ((w, limit Attempts) ∷ m) = let i = out_or_failed m in omega arith
  out_or_failed ((w, limit Rounds) ∷ m) = let i = out_or_failed m in omega arith

  pub all_or_failed : (result : Expression) (m : Weighted End) → amount N (chi (ends_in result (λ x. true))) m + amount N (chi is_failed) m ≡ weight N m
  all_or_failed result [] = refl
  all_or_failed result ((w, on s) ∷ m) = let i = all_or_failed result m in omega arith
  all_or_failed result ((w, failed) ∷ m) = let i = all_or_failed result m in omega arith
  all_or_failed result ((w, fault f) ∷ m) = let i = all_or_failed result m in omega arith
  all_or_failed result ((w, limit l) ∷ m) = let i = all_or_failed result m in omega arith
