-- A statement or a block that is settled from each state of a table alone.
use Rattle.std.proofs.Common.{◌≡◌, zero, suc, ◌≤◌, [], ◌∷◌, ◌++◌, refl, sym, subst, append-nil, arith}
use Rattle.gcl_core.specs.meaning.Bounds.{StatementIsWeighed, BlockIsWeighed}
use Rattle.gcl_core.specs.meaning.Blocks.{End}
use Rattle.gcl_core.specs.meaning.Syntax.{Statement, Skip, Set, If, While, Choice, Choose, Uniform, Observe, Statements, done, ◌▸◌, no_arm, arm}
use Rattle.gcl_core.specs.meaning.Value.{State}
use Rattle.gcl_core.specs.weighing.Fractions.{Fraction, zero_share, plus, times}
use Rattle.gcl_core.specs.weighing.WeightedEnds.{Weighted, sure, scaled}
use Rattle.numbers.proofs.Divisors.{equal_trans}
use Rattle.table_flow.specs.Tables.{Table}
use Rattle.mass_fold.specs.declared.ended.Ended.{Ended}
use Rattle.mass_fold.specs.inner.Amounts.{Entries}
use Rattle.mass_fold.specs.inner.Ended.{rows_of, IsNone}
use Rattle.unlimited_law.specs.Alike.{AreFractions, Alike}
use Rattle.unlimited_law.specs.Settling.{Outflow, IsOutflow, StatementSettles, BlockSettles}
use Rattle.unlimited_law.proofs.Numbers.{◌⊗◌, same_refl, same_sym, same_trans, add_same, times_same, add_assoc, add_turned, nought_add}
use Rattle.unlimited_law.proofs.FractionNumbers.{of}
use Rattle.unlimited_law.proofs.Integrals.{integral, integral_append, integral_scaled, behind}
use Rattle.unlimited_law.proofs.SameWeights.{alike_integral}
use Rattle.unlimited_law.proofs.Likeness.{alike_trans, Like}
use Rattle.unlimited_law.proofs.BlockLimits.{behind_fractions}
use Rattle.unlimited_law.proofs.ByState.{append_fractions}
use Rattle.exact_fold.specs.inner.Settled.{as_table, AreAbove, AreUnlimited, SettlesFrom}
use Rattle.exact_fold.specs.inner.Turning.{NothingIn, Alone}
use Rattle.exact_fold.proofs.SameLists.{alike_of, alike_refl, fractions_scaled, product_some}
use Rattle.exact_fold.proofs.SameInputs.{statement_from, block_from}
use Rattle.exact_fold.proofs.FreeFlows.{unlimited_append}
use Rattle.exact_fold.proofs.Steps.{above_fractions}
use Rattle.exact_fold.proofs.Turns.{nothing_counts, none_fractions}
use Rattle.linear_settling.specs.Mixed.{mixed, no_outflow}
use Rattle.linear_settling.proofs.Mixtures.{Mixes, front_fractions}
use Rattle.linear_settling.proofs.MixedBlocks.{statement_mixes, block_mixes}
use Rattle.linear_settling.proofs.NoTable.{statement_of_none, head_mixes, settles_together}
use Rattle.wide_fold.specs.inner.Adding.{AddsTimes, AddsLed}
use Rattle.wide_fold.proofs.Weights.{ended_alike}

-- ---- what weighs the same as an outflow
outflow_like : (f g : Outflow) (after : Table) (gone : Weighted End) (cost : Fraction) → Like f g → IsOutflow Alike Alike g after gone cost → IsOutflow Alike Alike f after gone cost
outflow_like f g after gone cost l o = record {
  next = alike_trans f.next g.next after l.next o.next;
  ended = alike_trans f.ended g.ended gone l.ended o.ended;
  turns = equal_trans f.turns g.turns cost (let z = o.fraction in omega arith) l.turns o.turns;
  fraction = l.fraction;
}

statement_like : (st : Statement) (I : Table) (f g : Outflow) → Like f g → StatementSettles Alike Alike st I g → StatementSettles Alike Alike st I f
statement_like Skip I f g l o = outflow_like f g _ _ _ l o
statement_like (Set x e) I f g l o = outflow_like f g _ _ _ l o
statement_like (Observe e) I f g l o = outflow_like f g _ _ _ l o
statement_like (Uniform x e) I f g l o = outflow_like f g _ _ _ l o
statement_like (If e a c) I f g l o = (o.0, o.1, o.2, o.3, outflow_like f g _ _ _ l o.4)
statement_like (Choice p a c) I f g l o = (o.0, o.1, o.2, o.3, outflow_like f g _ _ _ l o.4)
statement_like (Choose no_arm) I f g l o = outflow_like f g _ _ _ l o
statement_like (Choose (arm p a arms)) I f g l o = (o.0, o.1, o.2, o.3, outflow_like f g _ _ _ l o.4)
statement_like (While e a) I f g l o = (o.0, o.1, o.2, o.3, o.4, o.5, o.6, o.7, outflow_like f g _ _ _ l o.8)

unlimited_scaled : (w : Fraction) (m : Weighted End) → AreUnlimited m → AreUnlimited (scaled w m)
unlimited_scaled (zero, d) m h = tt
unlimited_scaled (suc n, d) [] h = tt
unlimited_scaled (suc n, d) (e ∷ m) h = (h.0, unlimited_scaled (suc n, d) m h.1)

-- what ended where nothing had ended before
only_ended : (E F : Ended) (m : Weighted End) → IsNone E → Alike (rows_of F) (rows_of E ++ m) → Alike (rows_of F) m
only_ended E F m none a =
    alike_of (rows_of F) m a.first (behind_fractions (rows_of E) m a.second)
    (λ G. same_trans (alike_integral (rows_of F) (rows_of E ++ m) a G)
    (same_trans (integral_append G (rows_of E) m)
    (same_trans (add_same (nothing_counts G (rows_of E) nothing) (same_refl (integral G m))) (nought_add (integral G m)))))
  where
    nothing : NothingIn (rows_of E)
    nothing = ((none.failed).0, ((none.overflow).0, ((none.divisor).0, ((none.bound).0, ((none.turns).0, ((none.attempts).0, tt))))))

-- one more list of ends, by a weight
chained : (w : Fraction) (E F F' G : Ended) (m n : Weighted End) → 1 ≤ w.1 → AreFractions (rows_of E) → AreFractions m → AreFractions n → Alike (rows_of F) (rows_of E ++ m) → Alike (rows_of G) n → Alike (rows_of F') (rows_of F ++ scaled w (rows_of G)) →
    Alike (rows_of F') (rows_of E ++ (scaled w n ++ m))
chained w E F F' G m n some e fm fn a b c =
    alike_of (rows_of F') (rows_of E ++ (scaled w n ++ m)) c.first (append_fractions (rows_of E) (scaled w n ++ m) e (append_fractions (scaled w n) m (fractions_scaled w n some fn) fm))
    (λ H.
    let x = integral H (rows_of E) in
    let y = integral H m in
    let z = of w ⊗ integral H n in
    same_trans (alike_integral (rows_of F') (rows_of F ++ scaled w (rows_of G)) c H)
    (same_trans (integral_append H (rows_of F) (scaled w (rows_of G)))
    (same_trans (add_same (same_trans (alike_integral (rows_of F) (rows_of E ++ m) a H) (integral_append H (rows_of E) m)) (same_trans (integral_scaled w H (rows_of G)) (times_same (of w) (alike_integral (rows_of G) n b H))))
    (same_trans (add_assoc x y z)
    (same_trans (add_same (same_refl x) (add_turned y z))
    (same_sym (same_trans (integral_append H (rows_of E) (scaled w n ++ m)) (add_same (same_refl x) (same_trans (integral_append H (scaled w n) m) (add_same (integral_scaled w H n) (same_refl y)))))))))))

block_like : (b : Statements) (I : Table) (f g : Outflow) → Like f g → BlockSettles Alike Alike b I g → BlockSettles Alike Alike b I f
block_like done I f g l o = outflow_like f g _ _ _ l o
block_like (st ▸ b) I f g l o = (o.0, o.1, o.2, o.3, outflow_like f g _ _ _ l o.4)

-- ---- what is settled from each state alone
pub record IsLinear (Settle : Table → Outflow → Type 0) : Type 0 where
  pub nothing : Settle [] no_outflow
  pub like : (I : Table) (f g : Outflow) → Like f g → Settle I g → Settle I f
  pub same : (I K : Table) (f : Outflow) → Alike I K → Settle I f → Settle K f
  pub mixes : (w : Fraction) → 1 ≤ w.1 → (I J K : Table) (f g : Outflow) → Mixes w I J K → Settle I f → Settle J g → Settle K (mixed w f g)

pub statement_linear : (st : Statement) → StatementIsWeighed st → IsLinear (StatementSettles Alike Alike st)
statement_linear st x = record { nothing = statement_of_none st; like = statement_like st; same = statement_from st x; mixes = λ w some. statement_mixes w some st x }

pub block_linear : (b : Statements) → BlockIsWeighed b → IsLinear (BlockSettles Alike Alike b)
block_linear b x = record { nothing = settles_together b x [] tt tt; like = block_like b; same = block_from b x; mixes = λ w some. block_mixes w some b x }

-- ---- a walk over the states
pub record SoFar (Settle : Table → Outflow → Type 0) (es : Entries) (E : Ended) (rest out : Entries) (F : Ended) : Type 0 where
  pub left : AreAbove rest
  pub above : AreAbove out
  pub passed : Table
  pub parts : Alike (passed ++ as_table rest) (as_table es)
  pub ended : Weighted End
  pub turns : Fraction
  pub some : 1 ≤ turns.1
  pub settles : Settle passed (record { next = as_table out; ended = ended; turns = turns })
  pub adds : Alike (rows_of F) (rows_of E ++ ended)
  pub unlimited : AreUnlimited ended

abbrev pub SourcesOn : (Table → Outflow → Type 0) → Entries → Ended → Entries → Entries → Ended → Type 0
SourcesOn Settle es E rest out F = AreAbove es → AreFractions (rows_of E) → SoFar Settle es E rest out F

pub sources_start : (Settle : Table → Outflow → Type 0) → IsLinear Settle → (es : Entries) (E : Ended) (rest out : Entries) → rest ≡ es → out ≡ [] → SourcesOn Settle es E rest out E
sources_start Settle linear es E rest out p q = subst (λ out. SourcesOn Settle es E rest out E) (sym q) (subst (λ rest. SourcesOn Settle es E rest [] E) (sym p) start)
  where
    start : SourcesOn Settle es E es [] E
    start h u = record {
      left = h;
      above = tt;
      passed = [];
      parts = alike_refl (as_table es) (above_fractions es h);
      ended = [];
      turns = zero_share;
      some = omega arith;
      settles = linear.nothing;
      adds = subst (Alike (rows_of E)) (sym (append-nil (rows_of E))) (alike_refl (rows_of E) u);
      unlimited = tt;
    }

pub sources_next : (Settle : Table → Outflow → Type 0) → IsLinear Settle → (es : Entries) (E : Ended) (rest rest' out out' one ts : Entries) (s : State) (w : Fraction) (E0 G F F' : Ended) → rest ≡ (s, w) ∷ rest' → Alone s one → IsNone E0 →
    SettlesFrom Settle one E0 ts G → AddsLed w ts out out' → AddsTimes w G F F' → SourcesOn Settle es E rest out F → SourcesOn Settle es E rest' out' F'
sources_next Settle linear es E rest rest' out out' one ts s w E0 G F F' r alone none settled led gone on h u =
    let b = subst (λ rest. SoFar Settle es E rest out F) r (on h u) in
    let w0 = (b.left).0 in
    let some : 1 ≤ w.1 = let z = (b.left).1 in omega arith in
    let p = settled alone.0 (none_fractions E0 none) in
    let f : Outflow = record { next = as_table ts; ended = p.ended; turns = p.turns } in
    let g : Outflow = record { next = as_table out; ended = b.ended; turns = b.turns } in
    let n = led b.above p.above w0 (b.left).1 in
    let fe = behind_fractions (rows_of E0) p.ended p.adds.second in
    let fb = behind_fractions (rows_of E) b.ended b.adds.second in
    let fp = front_fractions b.passed ((w, s) ∷ as_table rest') b.parts.first in
    let fr = behind_fractions b.passed ((w, s) ∷ as_table rest') b.parts.first in
    let mix = linear.mixes w some (sure s) b.passed ((w, s) ∷ b.passed) f g (head_mixes w s b.passed some fp) (linear.same (as_table one) (sure s) f alone.1 p.settles) b.settles in
    let ts' = product_some (times w p.turns).1 b.turns.1 (product_some w.1 p.turns.1 some p.some) b.some in
    record {
      left = (b.left).2;
      above = n.0;
      passed = (w, s) ∷ b.passed;
      parts = alike_of ((w, s) ∷ (b.passed ++ as_table rest')) (as_table es) (some, append_fractions b.passed (as_table rest') fp fr.1) b.parts.second
          (λ H. same_trans (behind (integral H b.passed) (integral H (as_table rest')) (of w ⊗ H s) (integral_append H b.passed (as_table rest')))
          (same_trans (same_sym (integral_append H b.passed ((w, s) ∷ as_table rest'))) (alike_integral (b.passed ++ ((w, s) ∷ as_table rest')) (as_table es) b.parts H)));
      ended = scaled w p.ended ++ b.ended;
      turns = plus (times w p.turns) b.turns;
      some = ts';
      settles = linear.like ((w, s) ∷ b.passed) (record { next = as_table out'; ended = scaled w p.ended ++ b.ended; turns = plus (times w p.turns) b.turns }) (mixed w f g)
          (record { next = n.1; ended = alike_refl (scaled w p.ended ++ b.ended) (append_fractions (scaled w p.ended) b.ended (fractions_scaled w p.ended some fe) fb); turns = refl; fraction = ts' }) mix;
      adds = chained w E F F' G b.ended p.ended some u fb fe b.adds (only_ended E0 G p.ended none p.adds) (ended_alike w some G F F' p.adds.first b.adds.first gone);
      unlimited = unlimited_append (scaled w p.ended) b.ended (unlimited_scaled w p.ended p.unlimited) b.unlimited;
    }

pub sources_end : (Settle : Table → Outflow → Type 0) → IsLinear Settle → (es : Entries) (E : Ended) (rest out : Entries) (F : Ended) → rest ≡ [] → SourcesOn Settle es E rest out F → SettlesFrom Settle es E out F
sources_end Settle linear es E rest out F r on h u =
    let b = subst (λ rest. SoFar Settle es E rest out F) r (on h u) in
    let same : Alike b.passed (as_table es) = subst (λ z. Alike z (as_table es)) (append-nil b.passed) b.parts in
    record {
      above = b.above;
      ended = b.ended;
      turns = b.turns;
      some = b.some;
      settles = linear.same b.passed (as_table es) (record { next = as_table out; ended = b.ended; turns = b.turns }) same b.settles;
      adds = b.adds;
      unlimited = b.unlimited;
    }
