-- A table is walked in parts, and what it comes to is put together. A list of statements is walked in parts, one after the other.
use Rattle.std.proofs.Common.{◌≡◌, ℕ, zero, suc, ◌+◌, ◌-◌, ◌≤◌, ◌<◌, List, [], ◌∷◌, ◌++◌, take, drop, get_or, drop-cons, length, refl, sym, ap, ◌∙◌, subst, append_assoc, append-nil, arith}
use Rattle.std.proofs.lemmas.List.{take-append-drop, drop-drop}
use Rattle.numbers.specs.Fraction.{IsEqual}
use Rattle.gcl_core.specs.declared.syntax.Stmt.{Stmt}
use Rattle.gcl_core.specs.meaning.Bounds.{StatementIsWeighed, BlockIsWeighed}
use Rattle.gcl_core.specs.meaning.Blocks.{End}
use Rattle.gcl_core.specs.meaning.Syntax.{Statements, done, ◌▸◌}
use Rattle.gcl_core.specs.meaning.Value.{State}
use Rattle.gcl_core.specs.meaning.Views.{statement_of, list_of}
use Rattle.gcl_core.specs.weighing.Fractions.{Fraction, one, zero_share, plus, times}
use Rattle.gcl_core.specs.weighing.WeightedEnds.{Weighted, scaled}
use Rattle.table_flow.specs.Tables.{Table}
use Rattle.table_flow.specs.Width.{weights}
use Rattle.table_flow.proofs.Denominators.{weights_whole}
use Rattle.table_flow.specs.Counts.{all_kept, none_stopped}
use Rattle.table_flow.proofs.EqualFractions.{equal_plus}
use Rattle.mass_fold.specs.declared.ended.Ended.{Ended}
use Rattle.mass_fold.specs.inner.Amounts.{Entries, PutGives}
use Rattle.mass_fold.specs.inner.Ended.{rows_of}
use Rattle.mass_fold.specs.inner.Steps.{StepsTo}
use Rattle.linear_settling.specs.Mixed.{mixed}
use Rattle.linear_settling.proofs.Mixtures.{Mixes}
use Rattle.linear_settling.proofs.MixedBlocks.{block_mixes}
use Rattle.linear_settling.proofs.NoTable.{settles_together}
use Rattle.unlimited_law.specs.Alike.{AreFractions, Alike}
use Rattle.unlimited_law.specs.Settling.{Outflow, BlockSettles}
use Rattle.unlimited_law.proofs.Numbers.{Rational, ◌⊗◌, ◌≃◌, same_refl, same_sym, same_trans, add_same, factor_same, unit_times}
use Rattle.unlimited_law.proofs.FractionNumbers.{of, of_one}
use Rattle.unlimited_law.proofs.Integrals.{integral, integral_append, integral_scaled}
use Rattle.unlimited_law.proofs.Likeness.{settles_like}
use Rattle.unlimited_law.proofs.BlockLimits.{behind_fractions}
use Rattle.unlimited_law.proofs.ByState.{append_fractions}
use Rattle.exact_fold.specs.inner.Between.{part, between}
use Rattle.exact_fold.specs.inner.Settled.{as_table, AreAbove, AreUnlimited, SettlesFrom}
use Rattle.exact_fold.proofs.SameLists.{alike_of, alike_refl, alike_append, alike_chain, product_some, fractions_scaled}
use Rattle.exact_fold.proofs.SameInputs.{block_from}
use Rattle.exact_fold.proofs.FreeFlows.{unlimited_append}
use Rattle.exact_fold.proofs.Steps.{SettlesRest, done_settles, above_fractions, at_scale, held_above, stands_alike, merged_alike}

-- ---- statements, one after the other
three : (f a b k : Fraction) → IsEqual (plus f k) (plus (plus a b) k) → IsEqual (plus f k) (plus a (plus b k))
three f a b k d = omega arith

nothing_first : (t k : Fraction) → IsEqual (plus t k) (plus zero_share k) → IsEqual (plus t k) k
nothing_first t k d = omega arith

pub run_on : (xs ys : List Stmt) → BlockIsWeighed (list_of ys) → (I : Table) (f k : Outflow) → AreFractions k.next → AreFractions k.ended → 1 ≤ k.turns.1 →
    BlockSettles Alike Alike (list_of xs) I f → BlockSettles Alike Alike (list_of ys) f.next k →
    BlockSettles Alike Alike (list_of (xs ++ ys)) I (record { next = k.next; ended = f.ended ++ k.ended; turns = plus f.turns k.turns })
run_on [] ys w I f k n e t o q =
    settles_like (list_of ys) I _ k (record {
      next = alike_refl k.next n;
      ended = alike_append o.ended (alike_refl k.ended e);
      turns = nothing_first f.turns k.turns (equal_plus f.turns zero_share k.turns k.turns o.turns refl);
      fraction = product_some f.turns.1 k.turns.1 o.fraction t;
    }) (block_from (list_of ys) w f.next I k o.next q)
run_on (x ∷ xs) ys w I f k n e t o q =
    let g = o.0 in
    let h = o.1 in
    let out = o.4 in
    let rest = run_on xs ys w g.next h k n e t o.3 (block_from (list_of ys) w f.next h.next k out.next q) in (
      g,
      record { next = k.next; ended = h.ended ++ k.ended; turns = plus h.turns k.turns },
      o.2,
      rest,
      record {
        next = alike_refl k.next n;
        ended = subst (Alike (f.ended ++ k.ended)) (append_assoc g.ended h.ended k.ended) (alike_append out.ended (alike_refl k.ended e));
        turns = three f.turns g.turns h.turns k.turns (equal_plus f.turns (plus g.turns h.turns) k.turns k.turns out.turns refl);
        fraction = product_some f.turns.1 k.turns.1 out.fraction t;
      },
    )

pub settles_on : (xs ys : List Stmt) (es gs hs : Entries) (E G H : Ended) → BlockIsWeighed (list_of ys) → SettlesFrom (BlockSettles Alike Alike (list_of xs)) es E gs G → SettlesFrom (BlockSettles Alike Alike (list_of ys)) gs G hs H →
    SettlesFrom (BlockSettles Alike Alike (list_of (xs ++ ys))) es E hs H
settles_on xs ys es gs hs E G H w x y h u =
    let p = x h u in
    let q = y p.above p.adds.first in
    let f : Outflow = record { next = as_table gs; ended = p.ended; turns = p.turns } in
    let k : Outflow = record { next = as_table hs; ended = q.ended; turns = q.turns } in
    record {
      above = q.above;
      ended = p.ended ++ q.ended;
      turns = plus p.turns q.turns;
      some = product_some p.turns.1 q.turns.1 p.some q.some;
      settles = run_on xs ys w (as_table es) f k (above_fractions hs q.above) (behind_fractions (rows_of G) q.ended q.adds.second) q.some p.settles q.settles;
      adds = alike_chain (rows_of E) p.ended q.ended p.adds q.adds;
      unlimited = unlimited_append p.ended q.ended p.unlimited q.unlimited;
    }

-- ---- statements between two places
pub part_behind : (from to : ℕ) (xs : List Stmt) → from ≤ to → part from to xs ++ drop to xs ≡ drop from xs
part_behind from to xs h =
    let e : from + (to - from) ≡ to = omega arith in
    ap (λ z. part from to xs ++ z) (ap (λ n. drop n xs) (sym e) ∙ sym (drop-drop (to - from) from xs)) ∙ take-append-drop (to - from) (drop from xs)

pub part_step : (xs : List Stmt) (at to : ℕ) (d : Stmt) → at < length xs → at < to → d ≡ get_or xs at d → list_of (part at to xs) ≡ statement_of d ▸ list_of (part (at + 1) to xs)
part_step xs at to d h l e =
    let p : drop at xs ≡ get_or xs at d ∷ drop (suc at) xs = drop-cons xs at d h in
    let q : to - at ≡ suc (to - (at + 1)) = omega arith in
    let r : suc at ≡ at + 1 = omega arith in
    ap list_of (ap (λ n. take n (drop at xs)) q ∙ ap (take (suc (to - (at + 1)))) p)
    ∙ ap (λ x. statement_of x ▸ list_of (take (to - (at + 1)) (drop (suc at) xs))) (sym e)
    ∙ ap (λ k. statement_of d ▸ list_of (take (to - (at + 1)) (drop k xs))) r

weighed_behind : (n : ℕ) (xs : List Stmt) → BlockIsWeighed (list_of xs) → BlockIsWeighed (list_of (drop n xs))
weighed_behind zero xs h = h
weighed_behind (suc n) [] h = h
weighed_behind (suc n) (x ∷ xs) h = weighed_behind n xs h.1

weighed_front : (n : ℕ) (xs : List Stmt) → BlockIsWeighed (list_of xs) → BlockIsWeighed (list_of (take n xs))
weighed_front zero xs h = tt
weighed_front (suc n) [] h = h
weighed_front (suc n) (x ∷ xs) h = (h.0, weighed_front n xs h.1)

pub weighed_between : (from to : ℕ) (xs : List Stmt) → BlockIsWeighed (list_of xs) → BlockIsWeighed (between from to xs)
weighed_between from to xs h = weighed_front (to - from) (drop from xs) (weighed_behind from xs h)

pub weighed_at : (xs : List Stmt) (k : ℕ) (d : Stmt) → k < length xs → BlockIsWeighed (list_of xs) → StatementIsWeighed (statement_of (get_or xs k d))
weighed_at [] k d lt h = absurd (omega arith)
weighed_at (x ∷ xs) zero d lt h = h.0
weighed_at (x ∷ xs) (suc k) d lt h = weighed_at xs k d (omega arith) h.1

-- what is left of a list of statements, behind those up to a place
pub rest_behind : (Whole : Table → Outflow → Type 0) (xs : List Stmt) (from to : ℕ) (es now gs : Entries) (E F G : Ended) → from ≤ to → BlockIsWeighed (list_of xs) → SettlesRest Whole (list_of (drop from xs)) es E now F →
    SettlesFrom (BlockSettles Alike Alike (between from to xs)) now F gs G → SettlesRest Whole (list_of (drop to xs)) es E gs G
rest_behind Whole xs from to es now gs E F G h w a d hs H k =
    a hs H (subst (λ z. SettlesFrom (BlockSettles Alike Alike (list_of z)) now F hs H) (part_behind from to xs h) (settles_on (part from to xs) (drop to xs) now gs hs F G H (weighed_behind to xs w) d k))

pub none_between : (from at to : ℕ) (xs : List Stmt) (es now : Entries) (E F : Ended) → to ≤ at → SettlesRest (BlockSettles Alike Alike (between from to xs)) (between at to xs) es E now F → SettlesFrom (BlockSettles Alike Alike (between from to xs)) es E now F
none_between from at to xs es now E F h a =
    let q : to - at ≡ 0 = omega arith in
    let b : SettlesRest (BlockSettles Alike Alike (between from to xs)) done es E now F = subst (λ n. SettlesRest (BlockSettles Alike Alike (between from to xs)) (list_of (take n (drop at xs))) es E now F) q a in
    b now F (done_settles now F)

-- ---- a table in parts
one_times : (x : Rational) → of one ⊗ x ≃ x
one_times x = same_trans (factor_same x of_one) (unit_times x)

two_parts : {A : Type 0} (m o : Weighted A) → AreFractions m → AreFractions o → Mixes one m o (m ++ o)
two_parts m o h k = record {
  first = h;
  second = k;
  fractions = append_fractions m o h k;
  each = λ F. same_trans (integral_append F m o) (add_same (same_sym (one_times (integral F m))) (same_refl (integral F o)));
}

as_it_is : {A : Type 0} (m : Weighted A) → AreFractions m → Alike m (scaled one m)
as_it_is m h = alike_of m (scaled one m) h (fractions_scaled one m (omega arith) h) (λ F. same_sym (same_trans (integral_scaled one F m) (one_times (integral F m))))

once_more : (s t : Fraction) → IsEqual (plus s t) (plus (times one s) t)
once_more s t = omega arith

pub parts_settle : (b : Statements) → BlockIsWeighed b → (I J : Table) (f g : Outflow) → AreFractions I → AreFractions J → AreFractions f.next → AreFractions f.ended → 1 ≤ f.turns.1 → AreFractions g.next → AreFractions g.ended → 1 ≤ g.turns.1 →
    BlockSettles Alike Alike b I f → BlockSettles Alike Alike b J g →
    BlockSettles Alike Alike b (I ++ J) (record { next = f.next ++ g.next; ended = f.ended ++ g.ended; turns = plus f.turns g.turns })
parts_settle b w I J f g hi hj fn fe ft gn ge gt o q =
    settles_like b (I ++ J) _ (mixed one f g) (record {
      next = alike_append (as_it_is f.next fn) (alike_refl g.next gn);
      ended = alike_append (as_it_is f.ended fe) (alike_refl g.ended ge);
      turns = once_more f.turns g.turns;
      fraction = product_some f.turns.1 g.turns.1 ft gt;
    }) (block_mixes one (omega arith) b w I J (I ++ J) f g (two_parts I J hi hj) o q)

-- ---- in the midst of a table
pub record StatesSoFar (b : Statements) (all rest : Entries) (E : Ended) (out : Entries) (F : Ended) : Type 0 where
  pub above : AreAbove out
  pub left : AreAbove rest
  pub front : Table
  pub fractions : AreFractions front
  pub whole : as_table all ≡ front ++ as_table rest
  pub ended : Weighted End
  pub turns : Fraction
  pub some : 1 ≤ turns.1
  pub settles : BlockSettles Alike Alike b front (record { next = as_table out; ended = ended; turns = turns })
  pub adds : Alike (rows_of F) (rows_of E ++ ended)
  pub unlimited : AreUnlimited ended

abbrev pub StatesFrom : Statements → Entries → Entries → Ended → Entries → Ended → Type 0
StatesFrom b all rest E out F = AreAbove all → AreFractions (rows_of E) → StatesSoFar b all rest E out F

pub states_start : (b : Statements) (all rest : Entries) (E : Ended) (out : Entries) → BlockIsWeighed b → out ≡ [] → rest ≡ all → StatesFrom b all rest E out E
states_start b all rest E out w e d = subst (λ out. StatesFrom b all rest E out E) (sym e) (subst (λ rest. StatesFrom b all rest E [] E) (sym d) by)
  where
    by : StatesFrom b all all E [] E
    by h u = record {
      above = tt;
      left = h;
      front = [];
      fractions = tt;
      whole = refl;
      ended = [];
      turns = zero_share;
      some = omega arith;
      settles = settles_together b w [] tt tt;
      adds = subst (Alike (rows_of E)) (sym (append-nil (rows_of E))) (alike_refl (rows_of E) u);
      unlimited = tt;
    }

pub states_as : (b : Statements) (all rest rest' : Entries) (E : Ended) (out : Entries) (F : Ended) → rest ≡ rest' → StatesFrom b all rest E out F → StatesFrom b all rest' E out F
states_as b all rest rest' E out F p s = subst (λ rest. StatesFrom b all rest E out F) p s

-- a table of one state
pub record OneState (s : State) (f : Fraction) (es : Entries) : Type 0 where
  pub above : AreAbove es
  pub alike : Alike (as_table es) ((f, s) ∷ [])

pub one_alike : (s : State) (f : Fraction) (es : Entries) → PutGives [] es s f → 0 < f.0 → 0 < f.1 → OneState s f es
one_alike s f es d h k =
    let single : Table = (f, s) ∷ [] in
    let t = at_scale (weights single) (k, tt) in
    let N = t.scale in
    let v = weights_whole N single t.whole in
    let r = d N t.some tt h v.0 in
    record { above = held_above N es r.0; alike = stands_alike N es single t.some v (record { kept = r.0; same = λ G. let z = r.1 G in omega arith }) }

pub state_turn : (b : Statements) (all rest : Entries) (s : State) (f : Fraction) (one_state out left out' : Entries) (E F G : Ended) → BlockIsWeighed b → StatesFrom b all ((s, f) ∷ rest) E out F → PutGives [] one_state s f →
    SettlesFrom (BlockSettles Alike Alike b) one_state F left G → ((E : Ended) → StepsTo all_kept none_stopped out left E out' E) → StatesFrom b all rest E out' G
state_turn b all rest s f one_state out left out' E F G w so_far d x m h u =
    let p = so_far h u in
    let i = one_alike s f one_state d p.left.0 p.left.1 in
    let q = x i.above p.adds.first in
    let g = merged_alike out left out' G m p.above q.above q.adds.first in
    let fe = behind_fractions (rows_of E) p.ended p.adds.second in
    let qe = behind_fractions (rows_of F) q.ended q.adds.second in
    let single : Table = (f, s) ∷ [] in
    let sf : AreFractions single = i.alike.second in
    let first : Outflow = record { next = as_table out; ended = p.ended; turns = p.turns } in
    let second : Outflow = record { next = as_table left; ended = q.ended; turns = q.turns } in
    record {
      above = g.above;
      left = p.left.2;
      front = p.front ++ single;
      fractions = append_fractions p.front single p.fractions sf;
      whole = p.whole ∙ sym (append_assoc p.front single (as_table rest));
      ended = p.ended ++ q.ended;
      turns = plus p.turns q.turns;
      some = product_some p.turns.1 q.turns.1 p.some q.some;
      settles = settles_like b (p.front ++ single) _ (record { next = as_table out ++ as_table left; ended = p.ended ++ q.ended; turns = plus p.turns q.turns }) (record {
        next = g.alike;
        ended = alike_refl (p.ended ++ q.ended) (append_fractions p.ended q.ended fe qe);
        turns = refl;
        fraction = product_some p.turns.1 q.turns.1 p.some q.some;
      }) (parts_settle b w p.front single first second p.fractions sf (above_fractions out p.above) fe p.some (above_fractions left q.above) qe q.some p.settles
          (block_from b w (as_table one_state) single second i.alike q.settles));
      adds = alike_chain (rows_of E) p.ended q.ended p.adds q.adds;
      unlimited = unlimited_append p.ended q.ended p.unlimited q.unlimited;
    }

pub states_end : (b : Statements) (all rest : Entries) (E : Ended) (out : Entries) (F : Ended) → rest ≡ [] → StatesFrom b all rest E out F → SettlesFrom (BlockSettles Alike Alike b) all E out F
states_end b all rest E out F e so_far h u =
    let p = so_far h u in
    let whole : as_table all ≡ p.front = p.whole ∙ ap (λ z. p.front ++ as_table z) e ∙ append-nil p.front in
    record {
      above = p.above;
      ended = p.ended;
      turns = p.turns;
      some = p.some;
      settles = subst (λ I. BlockSettles Alike Alike b I (record { next = as_table out; ended = p.ended; turns = p.turns })) (sym whole) p.settles;
      adds = p.adds;
      unlimited = p.unlimited;
    }
