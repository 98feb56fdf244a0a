-- A table of no weight reaches draws of no weight.
use Rattle.std.proofs.Common.{◌≡◌, ℕ, zero, suc, ◌*◌, ◌/◌, ◌<◌, List, [], ◌∷◌, Ok, Err, ℤ, pos, negsuc, Option, refl, ap, ◌∙◌, arith}
use native.Mathlib.Nat.{zero-div}
use Rattle.gcl_core.specs.declared.answers.Limit.TheVariants.{Attempts}
use Rattle.gcl_core.specs.meaning.Syntax.{Statement, Statements}
use Rattle.gcl_core.specs.meaning.Value.{State, Value}
use Rattle.gcl_core.specs.meaning.Blocks.{limit, by_value, by_bound}
use Rattle.gcl_core.specs.meaning.Draw.{uniform_ends}
use Rattle.gcl_core.specs.weighing.Fractions.{Fraction}
use Rattle.gcl_core.specs.weighing.WeightedEnds.{Weighted, scaled, class_weight, no_class_weight}
use Rattle.table_flow.specs.Tables.{Table, ReachedDraws, fractions_kind, all_end, draws_each, draw_weights, block_flow}
use Rattle.table_flow.specs.Scale.{whole, amount, weight, Wholes, Within}
use Rattle.table_flow.proofs.FlowWords.{loop_flow, drawn_each, drawn_bound, loop_draws, statement_draws}
use Rattle.table_flow.proofs.Amounts.{amount_append}
use Rattle.table_flow.proofs.EachMember.{Each, Anything, each_anything}
use Rattle.table_flow.proofs.KeptEntries.{KeepsEntries, nothing_asked, loop_kept, statement_kept, block_kept}

-- ---- what draws count, by the states that they are made from
pub amount_drawn_each : (N : ℕ) (H : List ℕ → ℕ) (ends : List ℕ) (I : Table) → amount N H (drawn_each ends I) ≡ amount N (λ s. H ends) I
amount_drawn_each N H ends [] = refl
amount_drawn_each N H ends (e ∷ I) = let i = amount_drawn_each N H ends I in omega arith

abbrev pub at_bound : (State → Value) → (List ℕ → ℕ) → State → ℕ
at_bound v H s = by_value (v s) (λ f. 0) (λ z. by_bound z 0 (λ m. H (uniform_ends m)))

pub amount_drawn_bound : (N : ℕ) (H : List ℕ → ℕ) (v : State → Value) (I : Table) → amount N H (drawn_bound v I) ≡ amount N (at_bound v H) I
amount_drawn_bound N H v [] = refl
amount_drawn_bound N H v (e ∷ I) =
    let i = amount_drawn_bound N H v I in
    let a = amount_append N H (by_value (v e.1) (λ f. []) (λ z. by_bound z [] (λ m. (e.0, uniform_ends m) ∷ []))) (drawn_bound v I) in
    let b = by_state (v e.1) in
    omega arith
  where
    by_sign : (z : ℤ) → amount N H (by_bound z [] (λ m. (e.0, uniform_ends m) ∷ [])) ≡ whole N e.0 * by_bound z 0 (λ m. H (uniform_ends m))
    by_sign (pos zero) = omega arith
    by_sign (pos (suc m)) = omega arith
    by_sign (negsuc m) = omega arith

    by_state : (o : Value) → amount N H (by_value o (λ f. []) (λ z. by_bound z [] (λ m. (e.0, uniform_ends m) ∷ []))) ≡ whole N e.0 * by_value o (λ f. 0) (λ z. by_bound z 0 (λ m. H (uniform_ends m)))
    by_state (Ok z) = by_sign z
    by_state (Err f) = omega arith

-- what weighs nothing counts nothing
pub none_counts : {A : Type 0} (N : ℕ) (G : A → ℕ) (m : Weighted A) → weight N m ≡ 0 → amount N G m ≡ 0
none_counts N G [] h = refl
none_counts N G (e ∷ m) h =
    let z : whole N e.0 ≡ 0 = omega arith in
    let i = none_counts N G m (omega arith) in
    let y = ap (λ u. u * G e.1) z in
    omega arith

-- ---- numerators of 0
abbrev IsNothing : {A : Type 0} → Fraction × A → Type 0
IsNothing e = e.0.0 ≡ 0

nothing_scaled : (w : Fraction) (I : Table) → Each IsNothing I → Each IsNothing (scaled w I)
nothing_scaled (zero, d) I h = tt
nothing_scaled (suc n, d) [] h = tt
nothing_scaled (suc n, d) (e ∷ I) h = (let z = ap (λ x. suc n * x) h.0 in omega arith, nothing_scaled (suc n, d) I h.1)

nothing_drawn : (ends : List ℕ) (I : Table) → Each IsNothing I → Each IsNothing (drawn_each ends I)
nothing_drawn ends [] h = tt
nothing_drawn ends (e ∷ I) h = (h.0, nothing_drawn ends I h.1)

nothing_kept : (r : Option ℕ) → KeepsEntries fractions_kind r Anything Anything Anything Anything IsNothing Anything Anything IsNothing
nothing_kept r = record {
  asked = nothing_asked;
  tidy = λ I h. h;
  at_loop = λ I h. (h, tt);
  faulty = λ f e h. tt;
  failing = λ e h. tt;
  turns = λ v a s e h. tt;
  set = λ i v s e h z q. h;
  drawn = λ i v s e h b q m le d g. g;
  number = λ m. tt;
  choice = λ p a c s. tt;
  choose = λ arms s. tt;
  class = λ b d c I h. nothing_scaled (class_weight b r c) I h;
  rest = λ b d I h. each_anything (all_end (limit Attempts) (scaled (no_class_weight b r) I));
  shown = λ b d I h. each_anything (draws_each (draw_weights b r) I);
  reached = λ ends d I h. nothing_drawn ends I h;
}

module _ (N : ℕ) (some : 0 < N) where
  nothing_in : (I : Table) → Wholes N I → weight N I ≡ 0 → Each IsNothing I
  nothing_in [] w h = tt
  nothing_in (e ∷ I) w h =
      let z : whole N e.0 ≡ 0 = omega arith in
      (no_parts e.0.0 N some (let x = w.0.exact in let y = ap (λ u. e.0.1 * u) z in omega arith), nothing_in I w.1 (omega arith))
    where
      no_parts : (a N : ℕ) → 0 < N → a * N ≡ 0 → a ≡ 0
      no_parts zero N p e = refl
      no_parts (suc a) N p e = absurd (omega arith)

  nothing_counts : (H : List ℕ → ℕ) (ds : ReachedDraws) → Each IsNothing ds → amount N H ds ≡ 0
  nothing_counts H [] h = refl
  nothing_counts H (d ∷ ds) h =
      let i = nothing_counts H ds h.1 in
      let e : d.0.0 * N ≡ 0 = let x = ap (λ x. x * N) h.0 in omega arith in
      let z : whole N d.0 ≡ 0 = ap (λ x. x / d.0.1) e ∙ zero-div d.0.1 in
      let y = ap (λ u. u * H d.1) z in
      omega arith

  module _ (n : ℕ) (r : Option ℕ) (L : ℕ) (H : List ℕ → ℕ) where
    pub none_turns : (v : State → Value) (b : Statements) (t : ℕ) (J : Table) → Within N L (loop_flow v (block_flow n r b) t J) → weight N J ≡ 0 →
        amount N H (loop_draws v (block_flow n r b) t J) ≡ 0
    none_turns v b t J s z =
        nothing_counts H _ (loop_kept (nothing_kept r) v (block_flow n r b) (λ e h. tt) (block_kept (nothing_kept r) n b tt) t J (nothing_in J (entered t s) z)).reached
      where
        entered : (t : ℕ) → Within N L (loop_flow v (block_flow n r b) t J) → Wholes N J
        entered zero s = s.tables.0
        entered (suc t) s = s.tables.0

    pub none_one : (st : Statement) (I : Table) → Wholes N I → weight N I ≡ 0 → amount N H (statement_draws n r st I) ≡ 0
    none_one st I w z = nothing_counts H _ (statement_kept (nothing_kept r) n st tt I (nothing_in I w z)).reached
