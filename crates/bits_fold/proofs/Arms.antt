-- The arms of a choice among several, one after the other.
use Rattle.std.proofs.Common.{◌≡◌, ℕ, ◌≤◌, ◌<◌, [], ◌++◌, Some, None, refl, sym, subst, append_assoc, append-nil, arith}
use Rattle.numbers.specs.Arithmetic.{sum_of}
use Rattle.numbers.specs.Fraction.{IsEqual}
use Rattle.numbers.proofs.Divisors.{product_pos}
use Rattle.gcl_core.specs.meaning.Bounds.{BlockIsWeighed}
use Rattle.gcl_core.specs.meaning.Syntax.{Statements, ArmList, no_arm, arm}
use Rattle.gcl_core.specs.weighing.Fractions.{Fraction, zero_share, plus}
use Rattle.gcl_core.specs.weighing.WeightedEnds.{scaled, class_weight}
use Rattle.table_flow.specs.Tables.{Table}
use Rattle.table_flow.specs.Counts.{all_kept, none_stopped}
use Rattle.mass_fold.specs.declared.ended.Ended.{Ended}
use Rattle.mass_fold.specs.inner.Amounts.{Entries}
use Rattle.mass_fold.specs.inner.Fold.{WeighedBy}
use Rattle.mass_fold.specs.inner.Steps.{StepsTo}
use Rattle.unlimited_law.specs.Alike.{AreFractions, Alike}
use Rattle.unlimited_law.proofs.ByState.{append_fractions}
use Rattle.unlimited_law.proofs.Likeness.{alike_trans}
use Rattle.exact_fold.specs.inner.Settled.{as_table, AreAbove}
use Rattle.exact_fold.proofs.Arms.{side_alike}
use Rattle.exact_fold.proofs.SameLists.{alike_refl, alike_sym, alike_append}
use Rattle.exact_fold.proofs.Steps.{above_fractions, merged_alike}
use Rattle.bits_law.specs.Reading.{BlockCosts, ArmsCost}
use Rattle.bits_law.proofs.BlockTends.{block_some}
use Rattle.bits_fold.specs.inner.Reading.{ReadsFrom}
use Rattle.bits_fold.proofs.SameReads.{block_from, comes_as}
use Rattle.bits_fold.proofs.Sums.{sum_is}
use Rattle.bits_fold.proofs.Steps.{no_end, no_end_fractions, zero_more, more_zero, sum_then}
use Rattle.bits_law.specs.Price.{Price}

-- ---- by a price
module _ (price : Price) where
  arms_as : (b : ℕ) (arms : ArmList) (I J K : Table) (bits more : Fraction) → Alike K J → IsEqual more bits → 1 ≤ more.1 → ArmsCost price b arms I J bits → ArmsCost price b arms I K more
  arms_as b no_arm I J K bits more h e some o = comes_as J K bits more [] zero_share h e some o
  arms_as b (arm p a arms) I J K bits more h e some o = (o.0, o.1, o.2, o.3, o.4, o.5, comes_as J K bits more (o.0 ++ o.1) (plus o.2 o.3) h e some o.6)

  -- so much was read of the arms, and these are left
  pub record ArmsLeft (b : ℕ) (all rest : ArmList) (es out : Entries) (bits : Fraction) : Type 0 where
    pub above : AreAbove out
    pub some : 0 < bits.1
    pub left : (J K : Table) (more total : Fraction) → AreFractions J → 0 < more.1 → ArmsCost price b rest (as_table es) J more → Alike K (as_table out ++ J) → IsEqual total (plus bits more) → 1 ≤ total.1 → ArmsCost price b all (as_table es) K total

  abbrev pub ArmsFrom : ℕ → ArmList → ArmList → Entries → Entries → Fraction → Type 0
  ArmsFrom b all rest es out bits = AreAbove es → ArmsLeft b all rest es out bits

  pub arms_start : (b : ℕ) (all : ArmList) (es out : Entries) (bits : Fraction) → out ≡ [] → bits ≡ (0, 1) → ArmsFrom b all all es out bits
  arms_start b all es out bits p e h =
      subst (λ z. ArmsLeft b all all es z bits) (sym p)
      (subst (λ z. ArmsLeft b all all es [] z) (sym e) (record {
        above = tt;
        some = omega arith;
        left = λ J K more total f ms r k t some. arms_as b all (as_table es) J K more total k (zero_more total more t) some r;
      }))

  pub arms_at : (b : ℕ) (all rest rest' : ArmList) (es out : Entries) (bits : Fraction) → rest ≡ rest' → ArmsFrom b all rest es out bits → ArmsFrom b all rest' es out bits
  arms_at b all rest rest' es out bits p s = subst (λ rest. ArmsFrom b all rest es out bits) p s

  pub arm_turn : (b p : ℕ) (all rest : ArmList) (a : Statements) (part : Fraction) (es out side left out' : Entries) (bits y bits' : Fraction) → 0 < b → BlockIsWeighed a → IsEqual part (class_weight b None 1) →
      ArmsFrom b all (arm p a rest) es out bits → WeighedBy part p es side → ReadsFrom (BlockCosts price a) side left y → ((E : Ended) → StepsTo all_kept none_stopped out left E out' E) → sum_of bits y ≡ Some bits' → ArmsFrom b all rest es out' bits'
  arm_turn b p all rest a part es out side left out' bits y bits' some wa e so d x m s h =
      let o = so h in
      let w = side_alike b p part es side some e d h in
      let q = x w.above in
      let g = merged_alike out left out' no_end m o.above q.above no_end_fractions in
      let ys = block_some price a _ _ y q.reads in
      let t = sum_is bits y bits' o.some ys s in
      let n = as_table left in
      record {
        above = g.above;
        some = t.some;
        left = λ J K more total f ms r k eq pos.
            let nf = append_fractions n J (above_fractions left q.above) f in
            let ps = product_pos y.1 more.1 ys ms in
            o.left (n ++ J) K (plus y more) total nf ps
            (n, J, y, more, block_from price a wa (scaled (class_weight b None p) (as_table es)) (as_table side) n y (alike_sym w.alike) q.reads, r, record { next = alike_refl _ nf; equal = refl; fraction = omega (arith, ps) })
            (subst (Alike K) (append_assoc (as_table out) n J) (alike_trans K (as_table out' ++ J) ((as_table out ++ n) ++ J) k (alike_append g.alike (alike_refl J f))))
            (sum_then total bits y bits' more o.some ys t.some ms t.equal eq) pos;
      }

  pub arms_end : (b : ℕ) (all : ArmList) (es out : Entries) (bits : Fraction) → ArmsFrom b all no_arm es out bits → ReadsFrom (ArmsCost price b all) es out bits
  arms_end b all es out bits so h =
      let o = so h in
      record {
        above = o.above;
        reads = o.left [] (as_table out) zero_share bits tt (omega arith) (record { next = alike_refl [] tt; equal = refl; fraction = omega arith })
            (subst (Alike (as_table out)) (sym (append-nil (as_table out))) (alike_refl (as_table out) (above_fractions out o.above))) (more_zero bits) (let z = o.some in omega arith);
      }
