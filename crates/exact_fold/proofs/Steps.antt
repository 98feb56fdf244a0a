-- What one statement of the code makes of a table, by what its step says at a scale.
use Rattle.std.proofs.Common.{◌≡◌, ℕ, ◌+◌, ◌*◌, ◌≤◌, ◌<◌, Bool, true, false, cond, Ok, Err, List, [], ◌∷◌, ◌++◌, None, refl, sym, ◌∙◌, subst, append-nil, length, drop, arith}
use Rattle.std.proofs.Math.ListN.{drop_of_length-le}
use native.Mathlib.Nat.{dvd-mul_right}
use Rattle.gcl_core.specs.declared.syntax.Stmt.{Stmt}
use Rattle.gcl_core.specs.meaning.Bounds.{StatementIsWeighed, BlockIsWeighed}
use Rattle.gcl_core.specs.meaning.Blocks.{End, fault, by_value}
use Rattle.gcl_core.specs.meaning.Syntax.{Statement, Skip, Set, If, Uniform, Observe, Statements, done, ◌▸◌, Expression}
use Rattle.gcl_core.specs.meaning.Views.{list_of}
use Rattle.gcl_core.specs.meaning.Value.{State, Value, value_of}
use Rattle.gcl_core.specs.weighing.Fractions.{Fraction, zero_share, plus}
use Rattle.gcl_core.specs.weighing.WeightedEnds.{Weighted}
use Rattle.numbers.proofs.Divisors.{along_to}
use Rattle.table_flow.specs.Tables.{Table, Flow, states, most_states, holds, fails, only, faults, statement_flow}
use Rattle.table_flow.specs.Width.{common_denominator, weights, table_weights, fractions}
use Rattle.table_flow.specs.Scale.{Whole, AllWhole, Wholes, TablesWithin, Within, amount}
use Rattle.table_flow.specs.Counts.{kept_if, stopped, all_kept, none_stopped}
use Rattle.table_flow.proofs.Amounts.{all_first, all_second}
use Rattle.table_flow.proofs.Denominators.{AllPositive, common_positive, wholes_at, weights_whole}
use Rattle.table_flow.proofs.Positive.{Positive, p_one, a_append, weights_positive, fractions_positive}
use Rattle.mass_fold.specs.declared.ended.Ended.{Ended}
use Rattle.mass_fold.specs.Amounts.{held, AreHeld}
use Rattle.mass_fold.specs.inner.Amounts.{Entries}
use Rattle.mass_fold.specs.inner.Ended.{rows_of}
use Rattle.mass_fold.specs.inner.Steps.{StepsTo}
use Rattle.mass_fold.specs.inner.Fold.{Stands, EndStands, FoldsOne}
use Rattle.mass_fold.proofs.Folds.{looked_first, looked_second, merged}
use Rattle.unlimited_law.specs.Alike.{AreFractions, Alike}
use Rattle.unlimited_law.specs.Settling.{Outflow, IsOutflow, StatementSettles, BlockSettles}
use Rattle.unlimited_law.proofs.BlockLimits.{all_fractions, behind_fractions, all_positive}
use Rattle.unlimited_law.proofs.ByState.{alike_amounts}
use Rattle.exact_fold.specs.inner.Settled.{as_table, AreAbove, AreUnlimited, SettlesFrom}
use Rattle.exact_fold.proofs.SameLists.{alike_refl, alike_chain, product_some}
use Rattle.exact_fold.proofs.SameInputs.{block_from}
use Rattle.exact_fold.proofs.FreeFlows.{unlimited_append, unlimited_faults}

-- ---- a common scale
pub record AtScale (ps : List Fraction) : Type 0 where
  pub scale : ℕ
  pub some : 0 < scale
  pub whole : AllWhole scale ps

pub at_scale : (ps : List Fraction) → AllPositive ps → AtScale ps
at_scale ps h =
    let N = common_denominator ps in
    let e : N * 1 ≡ N = omega arith in
    record { scale = N; some = common_positive ps h; whole = wholes_at N ps h (along_to N (N * 1) N e (dvd-mul_right N 1)) }

tables_within : (N L : ℕ) (Is : List Table) → AllWhole N (table_weights Is) → most_states Is ≤ L → TablesWithin N L Is
tables_within N L [] h m = tt
tables_within N L (I ∷ Is) h m =
    (weights_whole N I (all_first N (weights I) (table_weights Is) h), omega arith, tables_within N L Is (all_second N (weights I) (table_weights Is) h) (omega arith))

within_at : (N L : ℕ) (f : Flow) → AllWhole N (fractions f) → most_states f.tables ≤ L → Within N L f
within_at N L f w m =
    let v = all_second N (table_weights f.tables) (weights f.ended ++ f.draws) w in
    record {
      tables = tables_within N L f.tables (all_first N (table_weights f.tables) (weights f.ended ++ f.draws) w) m;
      ended = weights_whole N f.ended (all_first N (weights f.ended) f.draws v);
      draws = all_second N (weights f.ended) f.draws v;
    }

-- ---- entries
pub above_positive : (es : Entries) → AreAbove es → Positive (as_table es)
above_positive [] h = tt
above_positive (e ∷ es) h = (h.1, above_positive es h.2)

pub above_fractions : (es : Entries) → AreAbove es → AreFractions (as_table es)
above_fractions es h = all_fractions (as_table es) (above_positive es h)

pub are_held : (N : ℕ) (es : Entries) → AreAbove es → Wholes N (as_table es) → AreHeld N es
are_held N [] h w = tt
are_held N (e ∷ es) h w = (h.0, w.0, are_held N es h.2 w.1)

pub held_above : (N : ℕ) (es : Entries) → AreHeld N es → AreAbove es
held_above N [] h = tt
held_above N (e ∷ es) h = (h.0, (h.1).positive, held_above N es h.2)

held_whole : (N : ℕ) (es : Entries) → AreHeld N es → Wholes N (as_table es)
held_whole N [] h = tt
held_whole N (e ∷ es) h = (h.1, held_whole N es h.2)

pub held_amount : (N : ℕ) (G : State → ℕ) (es : Entries) → held N G es ≡ amount N G (as_table es)
held_amount N G [] = refl
held_amount N G (e ∷ es) = let i = held_amount N G es in omega arith

pub stands_itself : (N : ℕ) (es : Entries) → AreAbove es → Wholes N (as_table es) → Stands N es (as_table es)
stands_itself N es h w = record { kept = are_held N es h w; same = λ G. held_amount N G es }

pub end_itself : (N : ℕ) (E : Ended) → Wholes N (rows_of E) → EndStands N E (rows_of E)
end_itself N E w = record { kept = w; same = λ G. refl }

pub stands_alike : (N : ℕ) (es : Entries) (I : Table) → 0 < N → Wholes N I → Stands N es I → Alike (as_table es) I
stands_alike N es I some w s = alike_amounts N (as_table es) I some (held_whole N es s.kept) w (λ G. sym (held_amount N G es) ∙ s.same G)

pub end_alike : (N : ℕ) (E : Ended) (J : Weighted End) → 0 < N → Wholes N J → EndStands N E J → Alike (rows_of E) J
end_alike N E J some w s = alike_amounts N (rows_of E) J some s.kept w s.same

pub wholes_append : {A : Type 0} (N : ℕ) (m o : Weighted A) → Wholes N m → Wholes N o → Wholes N (m ++ o)
wholes_append N [] o h k = k
wholes_append N (e ∷ m) o h k = (h.0, wholes_append N m o h.1 k)

-- ---- a statement that takes each entry by itself
pub alone_settles : (st : Statement) (es : Entries) (E : Ended) (fs : Entries) (F : Ended) → StatementIsWeighed st →
    ((f : Outflow) → IsOutflow Alike Alike f (statement_flow 0 None st (as_table es)).next (statement_flow 0 None st (as_table es)).ended zero_share → StatementSettles Alike Alike st (as_table es) f) →
    AreUnlimited (statement_flow 0 None st (as_table es)).ended → FoldsOne (statement_flow 0 None st) es E fs F → SettlesFrom (StatementSettles Alike Alike st) es E fs F
alone_settles st es E fs F w back q d h k =
    let I = as_table es in
    let f = statement_flow 0 None st I in
    let fp = p_one 0 None st I w (above_positive es h) in
    let J = rows_of E in
    let ps = weights I ++ (weights f.next ++ (weights J ++ fractions f)) in
    let all = a_append (weights I) _ (weights_positive I (above_positive es h)) (a_append (weights f.next) _ (weights_positive f.next fp.next) (a_append (weights J) _ (weights_positive J (all_positive J k)) (fractions_positive f fp))) in
    let t = at_scale ps all in
    let N = t.scale in
    let w1 = weights_whole N I (all_first N (weights I) _ t.whole) in
    let r1 = all_second N (weights I) (weights f.next ++ (weights J ++ fractions f)) t.whole in
    let w2 = weights_whole N f.next (all_first N (weights f.next) _ r1) in
    let r2 = all_second N (weights f.next) (weights J ++ fractions f) r1 in
    let w3 = weights_whole N J (all_first N (weights J) _ r2) in
    let r3 = all_second N (weights J) (fractions f) r2 in
    let L = states I + states f.next + most_states f.tables in
    let inside = within_at N L f r3 (omega arith) in
    let o = d N L I J t.some (stands_itself N es h w1) (end_itself N E w3) (record { before = w1; after = w2; few_before = omega arith; few_after = omega arith; inside = inside }) in
    record {
      above = held_above N fs (o.0).kept;
      ended = f.ended;
      turns = zero_share;
      some = omega arith;
      settles = back (record { next = as_table fs; ended = f.ended; turns = zero_share }) (record {
        next = stands_alike N fs f.next t.some w2 o.0;
        ended = alike_refl f.ended (all_fractions f.ended fp.ended);
        turns = refl;
        fraction = omega arith;
      });
      adds = end_alike N F (J ++ f.ended) t.some (wholes_append N J f.ended w3 inside.ended) o.1;
      unlimited = q;
    }

pub skip_back : (es : Entries) (f : Outflow) → IsOutflow Alike Alike f (statement_flow 0 None Skip (as_table es)).next (statement_flow 0 None Skip (as_table es)).ended zero_share → StatementSettles Alike Alike Skip (as_table es) f
skip_back es f o = o

pub set_back : (x : ℕ) (e : Expression) (es : Entries) (f : Outflow) → IsOutflow Alike Alike f (statement_flow 0 None (Set x e) (as_table es)).next (statement_flow 0 None (Set x e) (as_table es)).ended zero_share → StatementSettles Alike Alike (Set x e) (as_table es) f
set_back x e es f o = o

pub uniform_back : (x : ℕ) (e : Expression) (es : Entries) (f : Outflow) → IsOutflow Alike Alike f (statement_flow 0 None (Uniform x e) (as_table es)).next (statement_flow 0 None (Uniform x e) (as_table es)).ended zero_share → StatementSettles Alike Alike (Uniform x e) (as_table es) f
uniform_back x e es f o = o

pub observe_back : (e : Expression) (es : Entries) (f : Outflow) → IsOutflow Alike Alike f (statement_flow 0 None (Observe e) (as_table es)).next (statement_flow 0 None (Observe e) (as_table es)).ended zero_share → StatementSettles Alike Alike (Observe e) (as_table es) f
observe_back e es f o = o

-- ---- a guard
pub record Guarded (v : State → Value) (es : Entries) (E : Ended) (first second : Entries) (F : Ended) : Type 0 where
  pub first_above : AreAbove first
  pub second_above : AreAbove second
  pub first_alike : Alike (as_table first) (only (holds v) (as_table es))
  pub second_alike : Alike (as_table second) (only (fails v) (as_table es))
  pub adds : Alike (rows_of F) (rows_of E ++ faults v (as_table es))

pub only_whole : (N : ℕ) (test : State → Bool) (I : Table) → Wholes N I → Wholes N (only test I)
only_whole N test [] h = tt
only_whole N test (e ∷ I) h = at_head (test e.1) (only_whole N test I h.1)
  where
    at_head : (b : Bool) → Wholes N (only test I) → Wholes N (cond b (e ∷ only test I) (only test I))
    at_head true i = (h.0, i)
    at_head false i = i

faults_whole : (N : ℕ) (v : State → Value) (I : Table) → Wholes N I → Wholes N (faults v I)
faults_whole N v [] h = tt
faults_whole N v (e ∷ I) h = at_head (v e.1) (faults_whole N v I h.1)
  where
    at_head : (o : Value) → Wholes N (faults v I) → Wholes N (by_value o (λ f. (e.0, fault f) ∷ faults v I) (λ z. faults v I))
    at_head (Ok z) i = i
    at_head (Err f) i = (h.0, i)

-- entries and what has ended at one scale
pub record TogetherAt (es fs : Entries) (E : Ended) : Type 0 where
  pub scale : ℕ
  pub some : 0 < scale
  pub first : Wholes scale (as_table es)
  pub second : Wholes scale (as_table fs)
  pub ends : Wholes scale (rows_of E)

pub together_at : (es fs : Entries) (E : Ended) → AreAbove es → AreAbove fs → AreFractions (rows_of E) → TogetherAt es fs E
together_at es fs E h g k =
    let I = as_table es in
    let K = as_table fs in
    let J = rows_of E in
    let t = at_scale (weights I ++ (weights K ++ weights J)) (a_append (weights I) _ (weights_positive I (above_positive es h)) (a_append (weights K) _ (weights_positive K (above_positive fs g)) (weights_positive J (all_positive J k)))) in
    let r = all_second t.scale (weights I) (weights K ++ weights J) t.whole in
    record {
      scale = t.scale;
      some = t.some;
      first = weights_whole t.scale I (all_first t.scale (weights I) _ t.whole);
      second = weights_whole t.scale K (all_first t.scale (weights K) _ r);
      ends = weights_whole t.scale J (all_second t.scale (weights K) (weights J) r);
    }

pub guarded : (v : State → Value) (es first second : Entries) (E F : Ended) → StepsTo (kept_if (holds v)) (stopped v) [] es E first F → StepsTo (kept_if (fails v)) (stopped v) [] es E second F → AreAbove es → AreFractions (rows_of E) → Guarded v es E first second F
guarded v es first second E F d c h k =
    let t = together_at es [] E h tt k in
    let N = t.scale in
    let I = as_table es in
    let s = stands_itself N es h t.first in
    let e = end_itself N E t.ends in
    let p = looked_first 0 None v es first second E F d c N I (rows_of E) t.some s e in
    let q = looked_second 0 None v es first second E F d c N I (rows_of E) t.some s e in
    record {
      first_above = held_above N first (p.0).kept;
      second_above = held_above N second (q.0).kept;
      first_alike = stands_alike N first (only (holds v) I) t.some (only_whole N (holds v) I t.first) p.0;
      second_alike = stands_alike N second (only (fails v) I) t.some (only_whole N (fails v) I t.first) q.0;
      adds = end_alike N F (rows_of E ++ faults v I) t.some (wholes_append N (rows_of E) (faults v I) t.ends (faults_whole N v I t.first)) p.1;
    }

-- ---- two tables in one
pub record Merged (es fs gs : Entries) : Type 0 where
  pub above : AreAbove gs
  pub alike : Alike (as_table gs) (as_table es ++ as_table fs)

pub merged_alike : (es fs gs : Entries) (E : Ended) → ((E : Ended) → StepsTo all_kept none_stopped es fs E gs E) → AreAbove es → AreAbove fs → AreFractions (rows_of E) → Merged es fs gs
merged_alike es fs gs E d h g k =
    let t = together_at es fs E h g k in
    let N = t.scale in
    let m = merged N es fs gs E (as_table es) (as_table fs) t.some (d E) t.ends (stands_itself N es h t.first) (stands_itself N fs g t.second) in
    record { above = held_above N gs m.kept; alike = stands_alike N gs (as_table es ++ as_table fs) t.some (wholes_append N (as_table es) (as_table fs) t.first t.second) m }

-- ---- a branch
pub branch_settles : (e : Expression) (a c : Statements) (es first second ls cs rs : Entries) (E F G H : Ended) → BlockIsWeighed a → BlockIsWeighed c →
    StepsTo (kept_if (holds (value_of e))) (stopped (value_of e)) [] es E first F → StepsTo (kept_if (fails (value_of e))) (stopped (value_of e)) [] es E second F →
    SettlesFrom (BlockSettles Alike Alike a) first F ls G → SettlesFrom (BlockSettles Alike Alike c) second G cs H → ((E : Ended) → StepsTo all_kept none_stopped ls cs E rs E) →
    SettlesFrom (StatementSettles Alike Alike (If e a c)) es E rs H
branch_settles e a c es first second ls cs rs E F G H wa wc d k x y m h u =
    let v = value_of e in
    let g = guarded v es first second E F d k h u in
    let p = x g.first_above g.adds.first in
    let q = y g.second_above p.adds.first in
    let o = merged_alike ls cs rs H m p.above q.above q.adds.first in
    let more = alike_chain (rows_of E) (faults v (as_table es)) (p.ended ++ q.ended) g.adds (alike_chain (rows_of F) p.ended q.ended p.adds q.adds) in
    record {
      above = o.above;
      ended = faults v (as_table es) ++ (p.ended ++ q.ended);
      turns = plus p.turns q.turns;
      some = product_some p.turns.1 q.turns.1 p.some q.some;
      settles = (
        record { next = as_table ls; ended = p.ended; turns = p.turns },
        record { next = as_table cs; ended = q.ended; turns = q.turns },
        block_from a wa _ _ _ g.first_alike p.settles,
        block_from c wc _ _ _ g.second_alike q.settles,
        record {
          next = o.alike;
          ended = alike_refl _ (behind_fractions (rows_of E) _ more.second);
          turns = refl;
          fraction = product_some p.turns.1 q.turns.1 p.some q.some;
        },
      );
      adds = more;
      unlimited = unlimited_append (faults v (as_table es)) (p.ended ++ q.ended) (unlimited_faults v (as_table es)) (unlimited_append p.ended q.ended p.unlimited q.unlimited);
    }

-- ---- a sequence
pub sequence_settles : (st : Statement) (b : Statements) (es gs hs : Entries) (E G H : Ended) → SettlesFrom (StatementSettles Alike Alike st) es E gs G → SettlesFrom (BlockSettles Alike Alike b) gs G hs H → SettlesFrom (BlockSettles Alike Alike (st ▸ b)) es E hs H
sequence_settles st b es gs hs E G H x y h u =
    let p = x h u in
    let q = y p.above p.adds.first in
    let more = alike_chain (rows_of E) p.ended q.ended p.adds q.adds in
    record {
      above = q.above;
      ended = p.ended ++ q.ended;
      turns = plus p.turns q.turns;
      some = product_some p.turns.1 q.turns.1 p.some q.some;
      settles = (
        record { next = as_table gs; ended = p.ended; turns = p.turns },
        record { next = as_table hs; ended = q.ended; turns = q.turns },
        p.settles,
        q.settles,
        record {
          next = alike_refl _ (above_fractions hs q.above);
          ended = alike_refl _ (behind_fractions (rows_of E) _ more.second);
          turns = refl;
          fraction = product_some p.turns.1 q.turns.1 p.some q.some;
        },
      );
      adds = more;
      unlimited = unlimited_append p.ended q.ended p.unlimited q.unlimited;
    }

pub done_settles : (es : Entries) (E : Ended) → SettlesFrom (BlockSettles Alike Alike done) es E es E
done_settles es E h u = record {
  above = h;
  ended = [];
  turns = zero_share;
  some = omega arith;
  settles = record { next = alike_refl _ (above_fractions es h); ended = alike_refl _ tt; turns = refl; fraction = omega arith };
  adds = subst (Alike (rows_of E)) (sym (append-nil (rows_of E))) (alike_refl _ u);
  unlimited = tt;
}

-- what is left of a sequence
abbrev pub SettlesRest : (Table → Outflow → Type 0) → Statements → Entries → Ended → Entries → Ended → Type 0
SettlesRest Whole b es E now F = (gs : Entries) (G : Ended) → SettlesFrom (BlockSettles Alike Alike b) now F gs G → SettlesFrom Whole es E gs G

pub rest_next : (Whole : Table → Outflow → Type 0) (b rest : Statements) (st : Statement) (es now gs : Entries) (E F G : Ended) → b ≡ st ▸ rest → SettlesRest Whole b es E now F → SettlesFrom (StatementSettles Alike Alike st) now F gs G → SettlesRest Whole rest es E gs G
rest_next Whole b rest st es now gs E F G p a c hs H d = subst (λ b. SettlesRest Whole b es E now F) p a hs H (sequence_settles st rest now gs hs F G H c d)

pub rest_none : (xs ys : List Stmt) (i : ℕ) (es now : Entries) (E F : Ended) → length xs ≤ i → xs ≡ ys → SettlesRest (BlockSettles Alike Alike (list_of xs)) (list_of (drop i xs)) es E now F → SettlesFrom (BlockSettles Alike Alike (list_of ys)) es E now F
rest_none xs ys i es now E F h p a =
    let q : drop i xs ≡ [] = drop_of_length-le xs h in
    let b : SettlesRest (BlockSettles Alike Alike (list_of xs)) done es E now F = subst (λ z. SettlesRest (BlockSettles Alike Alike (list_of xs)) (list_of z) es E now F) q a in
    subst (λ z. SettlesFrom (BlockSettles Alike Alike (list_of z)) es E now F) p (b now F (done_settles now F))

pub statement_as : (st st' : Statement) (es fs : Entries) (E F : Ended) → st ≡ st' → SettlesFrom (StatementSettles Alike Alike st') es E fs F → SettlesFrom (StatementSettles Alike Alike st) es E fs F
statement_as st st' es fs E F p h = subst (λ st. SettlesFrom (StatementSettles Alike Alike st) es E fs F) (sym p) h
