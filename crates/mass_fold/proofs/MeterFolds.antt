-- What a meter counts in a block, statement by statement.
use Rattle.std.proofs.Common.{◌≡◌, ℕ, zero, suc, ◌*◌, ◌≤◌, ◌<◌, ℤ, pos, negsuc, List, [], ◌∷◌, ◌++◌, Ok, Err, Option, length, drop, refl, sym, ap, ◌∙◌, subst}
use Rattle.std.proofs.Math.ListN.{drop_of_length-le}
use Rattle.gcl_core.specs.declared.syntax.Stmt.{Stmt}
use Rattle.gcl_core.specs.declared.syntax.Weight.{Weight}
use Rattle.gcl_core.specs.meaning.Views.{list_of}
use Rattle.gcl_core.specs.meaning.Syntax.{Expression, Statement, If, Choice, Uniform, Statements, done, ◌▸◌}
use Rattle.gcl_core.specs.meaning.Bounds.{IsWeight, StatementIsWeighed}
use Rattle.gcl_core.specs.meaning.Value.{State, Value, value_of}
use Rattle.gcl_core.specs.meaning.Blocks.{by_value, by_bound}
use Rattle.gcl_core.specs.meaning.Draw.{last_end, choice_ends, uniform_ends}
use Rattle.gcl_core.proofs.EqualClasses.{last_of_equal}
use Rattle.table_flow.specs.Tables.{Table, Flow, holds, fails, only, faults, statement_flow, block_flow, ReachedDraws, fractions_kind}
use Rattle.table_flow.specs.Scale.{amount, weight}
use Rattle.table_flow.specs.Counts.{stopped, kept_if}
use Rattle.table_flow.proofs.FlowWords.{drawn_each, drawn_bound, statement_draws, block_draws}
use Rattle.table_flow.proofs.Amounts.{amount_append, both_first, both_second}
use Rattle.table_flow.proofs.InsideFlows.{side_first, side_second}
use Rattle.table_flow.proofs.NoneReached.{amount_drawn_each, amount_drawn_bound, none_one}
use Rattle.table_flow.proofs.UniformLists.{reached_by_list}
use Rattle.mass_fold.specs.declared.ended.Ended.{Ended}
use Rattle.mass_fold.specs.declared.meter.Meter.{Meter}
use Rattle.mass_fold.specs.Amounts.{held}
use Rattle.mass_fold.specs.inner.Amounts.{Entries}
use Rattle.mass_fold.specs.inner.Steps.{StepsTo}
use Rattle.mass_fold.specs.inner.Fold.{Stands, FoldsTo, FoldsOne, SidesTo}
use Rattle.mass_fold.specs.Metering.{IsPriced, Priced, price}
use Rattle.mass_fold.specs.inner.Metering.{Counted, bound_price, IsValuePriced, IsBoundPriced, CountsAll, CountsDraws, Meters, MetersOne}
use Rattle.mass_fold.proofs.Folds.{first_of, looked_first, looked_second}
use Rattle.mass_fold.proofs.Meters.{counted_none, counted_then, counted_as}
use Rattle.mass_fold.proofs.Shares.{EachIn, each_state}
use Rattle.mass_fold.proofs.Sides as choices

-- ---- draws one after the other
pub priced_first : (r : Option ℕ) (M : ℕ) (a b : ReachedDraws) → Priced r M (a ++ b) → Priced r M a
priced_first r M [] b k = tt
priced_first r M (e ∷ a) b k = (k.0, priced_first r M a b k.1)

pub priced_second : (r : Option ℕ) (M : ℕ) (a b : ReachedDraws) → Priced r M (a ++ b) → Priced r M b
priced_second r M [] b k = k
priced_second r M (e ∷ a) b k = priced_second r M a b k.1

pub both_counted : (N X : ℕ) (H : List ℕ → ℕ) (a b : ReachedDraws) (m now m' : Meter) → Counted X (amount N H a) m now → Counted X (amount N H b) now m' → Counted X (amount N H (a ++ b)) m m'
both_counted N X H a b m now m' x y = counted_as X _ _ m m' (sym (amount_append N H a b)) (counted_then X (amount N H a) (amount N H b) m now m' x y)

-- ---- the draws of one statement
each_priced : (r : Option ℕ) (M b : ℕ) (ends : List ℕ) (I : Table) → last_end ends ≡ b → Priced r M (drawn_each ends I) → EachIn (λ s. IsPriced r M b) I
each_priced r M b ends [] e k = tt
each_priced r M b ends (d ∷ I) e k = (subst (IsPriced r M) e k.0, each_priced r M b ends I e k.1)

-- a draw with the same ends for each entry
pub draw_counts : (r : Option ℕ) (ends : List ℕ) (b : ℕ) → last_end ends ≡ b → (es : Entries) (m m' : Meter) (N M : ℕ) (I : Table) → 0 < N → 0 < M → Stands N es I → Priced r M (drawn_each ends I) →
    CountsDraws r b ends es m m' → Counted (N * M) (amount N (price r M) (drawn_each ends I)) m m'
draw_counts r ends b l es m m' N M I Np Mp s k x =
    counted_as (N * M) _ _ m m' (s.same (λ s. price r M ends) ∙ sym (amount_drawn_each N (price r M) ends I))
    (x N M Np Mp s.kept (each_state (λ s. IsPriced r M b) N es I Np s (each_priced r M b ends I l k)))

bound_priced : (r : Option ℕ) (M : ℕ) (v : State → Value) (I : Table) → Priced r M (drawn_bound v I) → EachIn (IsBoundPriced v r M) I
bound_priced r M v [] k = tt
bound_priced r M v (e ∷ I) k =
    (by_state (v e.1) (priced_first r M _ (drawn_bound v I) k), bound_priced r M v I (priced_second r M (by_value (v e.1) (λ f. []) (λ v. by_bound v [] (λ m. (e.0, uniform_ends m) ∷ []))) (drawn_bound v I) k))
  where
    by_sign : (z : ℤ) → Priced r M (by_bound z [] (λ m. (e.0, uniform_ends m) ∷ [])) → IsValuePriced r M (Ok z)
    by_sign (pos zero) k = tt
    by_sign (pos (suc m)) k = subst (IsPriced r M) (last_of_equal (suc m)) k.0
    by_sign (negsuc m) k = tt

    by_state : (o : Value) → Priced r M (by_value o (λ f. []) (λ v. by_bound v [] (λ m. (e.0, uniform_ends m) ∷ []))) → IsValuePriced r M o
    by_state (Ok z) k = by_sign z k
    by_state (Err f) k = tt

module _ (n : ℕ) (r : Option ℕ) where
  -- a uniform draw
  pub uniform_meters : (x : ℕ) (e : Expression) (es : Entries) (E : Ended) (m m' : Meter) → CountsAll (IsBoundPriced (value_of e) r) (bound_price (value_of e) r) es m m' →
      MetersOne r (statement_flow n r (Uniform x e)) (statement_draws n r (Uniform x e)) es E m m'
  uniform_meters x e es E m m' c N M L I J Np Mp s t w k =
      let v = value_of e in
      let q = reached_by_list fractions_kind r x v I in
      counted_as (N * M) _ _ m m' (s.same (bound_price v r M) ∙ sym (ap (amount N (price r M)) q ∙ amount_drawn_bound N (price r M) v I))
      (c N M Np Mp s.kept (each_state (IsBoundPriced v r M) N es I Np s (bound_priced r M v I (subst (Priced r M) q k))))

  pub meters_empty : (st : Statement) (es : Entries) (E : Ended) (m : Meter) → StatementIsWeighed st → es ≡ [] → MetersOne r (statement_flow n r st) (statement_draws n r st) es E m m
  meters_empty st es E m ws e N M L I J Np Mp s t w k =
      let z : weight N I ≡ 0 = sym (s.same (λ s. 1)) ∙ ap (held N (λ s. 1)) e in
      counted_as (N * M) 0 _ m m (sym (none_one N Np n r L (price r M) st I w.before z)) (counted_none (N * M) m)

  -- ---- sequences, by what is left of them
  abbrev pub MetersOn : (Table → Flow) → (Table → ReachedDraws) → Statements → Entries → Ended → Meter → Entries → Ended → Meter → Type 0
  MetersOn all draws b es E m now F mid = (m' : Meter) → Meters r (block_flow n r b) (block_draws n r b) now F mid m' → Meters r all draws es E m m'

  meters_seq : (st : Statement) (b : Statements) (es gs : Entries) (E F : Ended) (m mid m' : Meter) → FoldsOne (statement_flow n r st) es E gs F → MetersOne r (statement_flow n r st) (statement_draws n r st) es E m mid →
      Meters r (block_flow n r b) (block_draws n r b) gs F mid m' → Meters r (block_flow n r (st ▸ b)) (block_draws n r (st ▸ b)) es E m m'
  meters_seq st b es gs E F m mid m' x c y N M L I J Np Mp s t w k =
      let p = first_of n r N L st b I w in
      let f = statement_flow n r st I in
      let u = x N L I J Np s t p.0 in
      both_counted N (N * M) (price r M) (statement_draws n r st I) (block_draws n r b f.next) m mid m'
      (c N M L I J Np Mp s t p.0 (priced_first r M (statement_draws n r st I) (block_draws n r b f.next) k))
      (y N M L f.next (J ++ f.ended) Np Mp u.0 u.1 p.1 (priced_second r M (statement_draws n r st I) (block_draws n r b f.next) k))

  pub meters_next : (all : Table → Flow) (draws : Table → ReachedDraws) (b rest : Statements) (st : Statement) (es now gs : Entries) (E F G : Ended) (m mid mid' : Meter) → b ≡ st ▸ rest → MetersOn all draws b es E m now F mid →
      FoldsOne (statement_flow n r st) now F gs G → MetersOne r (statement_flow n r st) (statement_draws n r st) now F mid mid' → MetersOn all draws rest es E m gs G mid'
  meters_next all draws b rest st es now gs E F G m mid mid' p a x c m' d =
      subst (λ b. MetersOn all draws b es E m now F mid) p a m' (meters_seq st rest now gs F G mid mid' m' x c d)

  pub meters_done : (es : Entries) (E : Ended) (m : Meter) → Meters r (block_flow n r done) (block_draws n r done) es E m m
  meters_done es E m N M L I J Np Mp s t w k = counted_none (N * M) m

  pub meters_end : (xs ys : List Stmt) (i : ℕ) (es now : Entries) (E F : Ended) (m mid : Meter) → length xs ≤ i → xs ≡ ys → MetersOn (block_flow n r (list_of xs)) (block_draws n r (list_of xs)) (list_of (drop i xs)) es E m now F mid →
      Meters r (block_flow n r (list_of ys)) (block_draws n r (list_of ys)) es E m mid
  meters_end xs ys i es now E F m mid h p a =
      let q : drop i xs ≡ [] = drop_of_length-le xs h in
      let b : MetersOn (block_flow n r (list_of xs)) (block_draws n r (list_of xs)) done es E m now F mid = subst (λ z. MetersOn (block_flow n r (list_of xs)) (block_draws n r (list_of xs)) (list_of z) es E m now F mid) q a in
      subst (λ z. Meters r (block_flow n r (list_of z)) (block_draws n r (list_of z)) es E m mid) p (b mid (meters_done now F mid))

  -- ---- both sides of a branch, and of a choice
  pub branch_meters : (e : Expression) (a c : Statements) (es first second : Entries) (E F : Ended) → StepsTo (kept_if (holds (value_of e))) (stopped (value_of e)) [] es E first F →
      StepsTo (kept_if (fails (value_of e))) (stopped (value_of e)) [] es E second F → (ls : Entries) (G : Ended) (m now m' : Meter) → FoldsTo (block_flow n r a) first F ls G →
      Meters r (block_flow n r a) (block_draws n r a) first F m now → Meters r (block_flow n r c) (block_draws n r c) second G now m' → MetersOne r (statement_flow n r (If e a c)) (statement_draws n r (If e a c)) es E m m'
  branch_meters e a c es first second E F d k ls G m now m' x y z N M L I J Np Mp s t w pr =
      let v = value_of e in
      let A = only (holds v) I in
      let C = only (fails v) I in
      let fa = block_flow n r a A in
      let fc = block_flow n r c C in
      let p = looked_first n r v es first second E F d k N I J Np s t in
      let q = looked_second n r v es first second E F d k N I J Np s t in
      let wa = both_first N L (faults v I) fa fc w.inside in
      let u = x N L A (J ++ faults v I) Np p.0 p.1 wa in
      both_counted N (N * M) (price r M) (block_draws n r a A) (block_draws n r c C) m now m'
      (y N M L A (J ++ faults v I) Np Mp p.0 p.1 wa (priced_first r M (block_draws n r a A) (block_draws n r c C) pr))
      (z N M L C ((J ++ faults v I) ++ fa.ended) Np Mp q.0 u.1 (both_second N L (faults v I) fa fc w.inside) (priced_second r M (block_draws n r a A) (block_draws n r c C) pr))

  pub choice_meters : (p : Weight) (a c : Statements) (w : IsWeight p) (es : Entries) (E : Ended) (first second : Entries) (F : Ended) → SidesTo p r es E first second F → (ls : Entries) (G : Ended) (m mid now m' : Meter) →
      CountsDraws r p.den (choice_ends p) es m mid → FoldsTo (block_flow n r a) first F ls G →
      Meters r (block_flow n r a) (block_draws n r a) first F mid now → Meters r (block_flow n r c) (block_draws n r c) second G now m' → MetersOne r (statement_flow n r (Choice p a c)) (statement_draws n r (Choice p a c)) es E m m'
  choice_meters p a c w es E first second F d ls G m mid now m' h x y z N M L I J Np Mp s t wi pr =
      let A = choices.A n r p a c w es E I in
      let C = choices.C n r p a c w es E I in
      let Z = choices.Z n r p a c w es E I in
      let fa = block_flow n r a A in
      let q = d N L I J Np s t (choices.sides_within n r p a c w es E N L I wi) in
      let wa = side_first n r N L p a c I wi.inside in
      let u = x N L A (J ++ Z) Np q.0 q.2 wa in
      let D = drawn_each (choice_ends p) I in
      let rest = priced_second r M D (block_draws n r a A ++ block_draws n r c C) pr in
      both_counted N (N * M) (price r M) D (block_draws n r a A ++ block_draws n r c C) m mid m'
      (draw_counts r (choice_ends p) p.den refl es m mid N M I Np Mp s (priced_first r M D (block_draws n r a A ++ block_draws n r c C) pr) h)
      (both_counted N (N * M) (price r M) (block_draws n r a A) (block_draws n r c C) mid now m'
      (y N M L A (J ++ Z) Np Mp q.0 q.2 wa (priced_first r M (block_draws n r a A) (block_draws n r c C) rest))
      (z N M L C ((J ++ Z) ++ fa.ended) Np Mp q.1 u.1 (side_second n r N L p a c I wi.inside) (priced_second r M (block_draws n r a A) (block_draws n r c C) rest)))

  pub meters_as : (st st' : Statement) (es : Entries) (E : Ended) (m m' : Meter) → st ≡ st' → MetersOne r (statement_flow n r st') (statement_draws n r st') es E m m' → MetersOne r (statement_flow n r st) (statement_draws n r st) es E m m'
  meters_as st st' es E m m' p h = subst (λ st. MetersOne r (statement_flow n r st) (statement_draws n r st) es E m m') (sym p) h
