-- What one statement of the code makes of a table, and the bits that it reads, by what its step says at a scale.
use Rattle.std.proofs.Common.{◌≡◌, ℕ, ◌+◌, ◌*◌, ◌≤◌, ◌<◌, List, [], Some, None, refl, sym, subst, length, drop, arith}
use Rattle.std.specs.List.{sum}
use Rattle.std.proofs.Math.ListN.{drop_of_length-le}
use Rattle.numbers.specs.Arithmetic.{sum_of}
use Rattle.numbers.specs.Fraction.{IsEqual}
use Rattle.numbers.proofs.Divisors.{equal_trans, product_pos}
use Rattle.gcl_core.specs.declared.syntax.Stmt.{Stmt}
use Rattle.gcl_core.specs.declared.syntax.Weight.{Weight}
use Rattle.gcl_core.specs.meaning.Arms.{parts_of}
use Rattle.gcl_core.specs.meaning.Bounds.{BlockIsWeighed, IsWeight}
use Rattle.gcl_core.specs.meaning.Draw.{choice_ends}
use Rattle.gcl_core.specs.meaning.Parts.{partial_sums}
use Rattle.gcl_core.specs.meaning.Syntax.{Statement, Skip, Set, If, Choice, Choose, Uniform, Observe, Statements, done, ◌▸◌, ArmList, Expression}
use Rattle.gcl_core.specs.meaning.Views.{list_of}
use Rattle.gcl_core.specs.meaning.Value.{value_of}
use Rattle.gcl_core.specs.weighing.Fractions.{Fraction, zero_share, plus}
use Rattle.table_flow.specs.Tables.{Table, holds, fails, statement_flow, fractions_kind, uniform_go}
use Rattle.table_flow.specs.Counts.{kept_if, stopped, all_kept, none_stopped}
use Rattle.table_flow.proofs.FlowWords.{drawn_each}
use Rattle.table_flow.proofs.EqualFractions.{equal_plus}
use Rattle.mass_fold.specs.declared.ended.Ended.{Ended}
use Rattle.mass_fold.specs.inner.Amounts.{Entries}
use Rattle.mass_fold.specs.inner.Ended.{rows_of}
use Rattle.mass_fold.specs.inner.Fold.{FoldsOne, SidesTo}
use Rattle.mass_fold.specs.inner.Steps.{StepsTo}
use Rattle.unlimited_law.specs.Alike.{AreFractions, Alike}
use Rattle.exact_fold.specs.inner.Settled.{as_table, AreAbove}
use Rattle.exact_fold.proofs.SameLists.{alike_refl, alike_sym}
use Rattle.exact_fold.proofs.Steps.{above_fractions, alone_settles, set_back, uniform_back, observe_back, guarded, merged_alike}
use Rattle.exact_fold.proofs.Turns.{sides_alike}
use Rattle.exact_fold.proofs.FreeFlows.{one_unlimited}
use Rattle.bits_law.specs.Reading.{Comes, StatementCosts, BlockCosts, ArmsCost}
use Rattle.bits_law.proofs.BlockTends.{statement_some, block_some, arms_some}
use Rattle.bits_fold.specs.inner.Reading.{DrawsCost, ReadsFrom}
use Rattle.bits_fold.proofs.SameReads.{block_from, block_as}
use Rattle.bits_fold.proofs.Sums.{sum_is}
use Rattle.bits_law.specs.Price.{Price}

pub ends_at : {Read : Table → Table → Fraction → Type 0} {es : Entries} {bits : Fraction} (fs gs : Entries) → fs ≡ gs → ReadsFrom Read es gs bits → ReadsFrom Read es fs bits
ends_at {Read} {es} {bits} fs gs p h = subst (λ z. ReadsFrom Read es z bits) (sym p) h

-- ---- statements of which no other is a part
nothing : (J after : Table) (bits : Fraction) → bits ≡ (0, 1) → Alike J after → Comes J bits after zero_share
nothing J after bits e h = subst (λ z. Comes J z after zero_share) (sym e) (record { next = h; equal = refl; fraction = omega arith })

-- nothing has ended
abbrev pub no_end : Ended
no_end = record { failed = (0, 1); overflow = (0, 1); divisor = (0, 1); bound = (0, 1); turns = (0, 1); attempts = (0, 1) }

pub no_end_fractions : AreFractions (rows_of no_end)
no_end_fractions = (omega arith, (omega arith, (omega arith, (omega arith, (omega arith, (omega arith, tt))))))

pub zero_more : (t h : Fraction) → t.0 * (1 * h.1) ≡ (0 * h.1 + h.0 * 1) * t.1 → t.0 * h.1 ≡ h.0 * t.1
zero_more t h e = omega arith

pub more_zero : (t : Fraction) → t.0 * (t.1 * 1) ≡ (t.0 * 1 + 0 * t.1) * t.1
more_zero t = omega arith

three : (f a b c : Fraction) → IsEqual f (plus (plus a b) c) → IsEqual f (plus a (plus b c))
three f a b c e = omega arith

-- what is left to read, behind a sum
pub sum_then : (total bits z bits' more : Fraction) → 0 < bits.1 → 0 < z.1 → 0 < bits'.1 → 0 < more.1 → IsEqual bits' (plus bits z) → IsEqual total (plus bits' more) → IsEqual total (plus bits (plus z more))
sum_then total bits z bits' more b zs s m e t =
    three total bits z more (equal_trans total (plus bits' more) _ (product_pos bits'.1 more.1 s m) t (equal_plus bits' (plus bits z) more more e refl))

-- ---- by a price
module _ (price : Price) where
  pub statement_as : (st st' : Statement) (es fs : Entries) (bits : Fraction) → st ≡ st' → ReadsFrom (StatementCosts price st') es fs bits → ReadsFrom (StatementCosts price st) es fs bits
  statement_as st st' es fs bits p h = subst (λ st. ReadsFrom (StatementCosts price st) es fs bits) (sym p) h

  pub skip_reads : (es : Entries) (bits : Fraction) → bits ≡ (0, 1) → ReadsFrom (StatementCosts price Skip) es es bits
  skip_reads es bits e h = record { above = h; reads = nothing _ _ bits e (alike_refl (as_table es) (above_fractions es h)) }

  pub set_reads : (x : ℕ) (e : Expression) (es fs : Entries) (E F : Ended) (bits : Fraction) → bits ≡ (0, 1) → AreFractions (rows_of E) → FoldsOne (statement_flow 0 None (Set x e)) es E fs F → ReadsFrom (StatementCosts price (Set x e)) es fs bits
  set_reads x e es fs E F bits z u d h =
      let s = alone_settles (Set x e) es E fs F tt (set_back x e es) (one_unlimited 0 (Set x e) tt (as_table es)) d h u in
      record { above = s.above; reads = nothing _ _ bits z (s.settles).next }

  pub observe_reads : (e : Expression) (es fs : Entries) (E F : Ended) (bits : Fraction) → bits ≡ (0, 1) → AreFractions (rows_of E) → FoldsOne (statement_flow 0 None (Observe e)) es E fs F → ReadsFrom (StatementCosts price (Observe e)) es fs bits
  observe_reads e es fs E F bits z u d h =
      let s = alone_settles (Observe e) es E fs F tt (observe_back e es) (one_unlimited 0 (Observe e) tt (as_table es)) d h u in
      record { above = s.above; reads = nothing _ _ bits z (s.settles).next }

  pub uniform_reads : (x : ℕ) (e : Expression) (es fs : Entries) (E F : Ended) (bits : Fraction) → AreFractions (rows_of E) → DrawsCost price (λ I. (uniform_go fractions_kind None x (value_of e) I).reached) es bits → FoldsOne (statement_flow 0 None (Uniform x e)) es E fs F → ReadsFrom (StatementCosts price (Uniform x e)) es fs bits
  uniform_reads x e es fs E F bits u b d h =
      let s = alone_settles (Uniform x e) es E fs F tt (uniform_back x e es) (one_unlimited 0 (Uniform x e) tt (as_table es)) d h u in
      let r = b h in
      record { above = s.above; reads = record { next = (s.settles).next; equal = r.1; fraction = r.0 } }

  -- ---- two blocks
  pub branch_reads : (e : Expression) (a c : Statements) (es first second ls cs rs : Entries) (E F : Ended) (y z bits : Fraction) → BlockIsWeighed a → BlockIsWeighed c → AreFractions (rows_of E) →
      StepsTo (kept_if (holds (value_of e))) (stopped (value_of e)) [] es E first F → StepsTo (kept_if (fails (value_of e))) (stopped (value_of e)) [] es E second F →
      ReadsFrom (BlockCosts price a) first ls y → ReadsFrom (BlockCosts price c) second cs z → ((E : Ended) → StepsTo all_kept none_stopped ls cs E rs E) → sum_of y z ≡ Some bits → ReadsFrom (StatementCosts price (If e a c)) es rs bits
  branch_reads e a c es first second ls cs rs E F y z bits wa wc u d f x w m s h =
      let g = guarded (value_of e) es first second E F d f h u in
      let p = x g.first_above in
      let q = w g.second_above in
      let o = merged_alike ls cs rs E m p.above q.above u in
      let t = sum_is y z bits (block_some price a _ _ y p.reads) (block_some price c _ _ z q.reads) s in
      record {
        above = o.above;
        reads = (
          as_table ls,
          as_table cs,
          y,
          z,
          block_from price a wa _ (as_table first) _ y (alike_sym g.first_alike) p.reads,
          block_from price c wc _ (as_table second) _ z (alike_sym g.second_alike) q.reads,
          record { next = o.alike; equal = t.equal; fraction = let v = t.some in omega arith },
        );
      }

  pub choice_reads : (p : Weight) (a c : Statements) (es first second ls cs rs : Entries) (E F : Ended) (b y z yz bits : Fraction) → IsWeight p → BlockIsWeighed a → BlockIsWeighed c → AreFractions (rows_of E) →
      DrawsCost price (drawn_each (choice_ends p)) es b → SidesTo p None es E first second F → ReadsFrom (BlockCosts price a) first ls y → ReadsFrom (BlockCosts price c) second cs z →
      ((E : Ended) → StepsTo all_kept none_stopped ls cs E rs E) → sum_of y z ≡ Some yz → sum_of b yz ≡ Some bits → ReadsFrom (StatementCosts price (Choice p a c)) es rs bits
  choice_reads p a c es first second ls cs rs E F b y z yz bits w wa wc u r d x v m s k h =
      let g = sides_alike p es first second E F w d h u in
      let o = x g.first_above in
      let q = v g.second_above in
      let n = merged_alike ls cs rs E m o.above q.above u in
      let ys = block_some price a _ _ y o.reads in
      let zs = block_some price c _ _ z q.reads in
      let t = sum_is y z yz ys zs s in
      let l = r h in
      let bs : 0 < b.1 = let i = l.0 in omega arith in
      let j = sum_is b yz bits bs t.some k in
      record {
        above = n.above;
        reads = (
          as_table ls,
          as_table cs,
          y,
          z,
          block_from price a wa _ (as_table first) _ y (alike_sym g.first_alike) o.reads,
          block_from price c wc _ (as_table second) _ z (alike_sym g.second_alike) q.reads,
          record {
            next = n.alike;
            equal = equal_trans bits (plus b yz) _ (product_pos b.1 yz.1 bs t.some) j.equal (equal_plus b _ yz (plus y z) l.1 t.equal);
            fraction = let i = j.some in omega arith;
          },
        );
      }

  pub choose_reads : (arms : ArmList) (es fs : Entries) (b y bits : Fraction) → DrawsCost price (drawn_each (partial_sums (parts_of arms))) es b → ReadsFrom (ArmsCost price (sum (parts_of arms)) arms) es fs y → sum_of b y ≡ Some bits → ReadsFrom (StatementCosts price (Choose arms)) es fs bits
  choose_reads arms es fs b y bits r x k h =
      let o = x h in
      let l = r h in
      let ys = arms_some price (sum (parts_of arms)) arms _ _ y o.reads in
      let bs : 0 < b.1 = let i = l.0 in omega arith in
      let j = sum_is b y bits bs ys k in
      record {
        above = o.above;
        reads = (
          as_table fs,
          y,
          o.reads,
          record {
            next = alike_refl _ (above_fractions fs o.above);
            equal = equal_trans bits (plus b y) _ (product_pos b.1 y.1 bs ys) j.equal (equal_plus b _ y y l.1 refl);
            fraction = let i = j.some in omega arith;
          },
        );
      }

  -- ---- a sequence
  pub block_left : (b : Statements) (I J : Table) (bits : Fraction) → BlockCosts price b I J bits → AreFractions J
  block_left done I J bits o = (o.next).first
  block_left (st ▸ b) I J bits o = ((o.6).next).first

  -- so much was read of a block, and this is left of it
  pub record RestOf (Whole : Table → Table → Fraction → Type 0) (b : Statements) (es now : Entries) (bits : Fraction) : Type 0 where
    pub above : AreAbove now
    pub some : 0 < bits.1
    pub left : (J : Table) (more total : Fraction) → BlockCosts price b (as_table now) J more → IsEqual total (plus bits more) → 1 ≤ total.1 → Whole (as_table es) J total

  abbrev pub RestReads : (Table → Table → Fraction → Type 0) → Statements → Entries → Entries → Fraction → Type 0
  RestReads Whole b es now bits = AreAbove es → RestOf Whole b es now bits

  pub rest_start : (b : Statements) (es now : Entries) (bits : Fraction) → now ≡ es → bits ≡ (0, 1) → RestReads (BlockCosts price b) b es now bits
  rest_start b es now bits p e h =
      subst (λ z. RestOf (BlockCosts price b) b es z bits) (sym p)
      (subst (λ z. RestOf (BlockCosts price b) b es es z) (sym e) (record {
        above = h;
        some = omega arith;
        left = λ J more total r t some. block_as price b (as_table es) J J more total (alike_refl J (block_left b _ J more r)) (zero_more total more t) some r;
      }))

  pub rest_next : (Whole : Table → Table → Fraction → Type 0) (b rest : Statements) (st : Statement) (es now gs : Entries) (bits z bits' : Fraction) → b ≡ st ▸ rest → RestReads Whole b es now bits → ReadsFrom (StatementCosts price st) now gs z → sum_of bits z ≡ Some bits' → RestReads Whole rest es gs bits'
  rest_next Whole b rest st es now gs bits z bits' p so x s h =
      let a = subst (λ b. RestOf Whole b es now bits) p (so h) in
      let o = x a.above in
      let zs = statement_some price st _ _ z o.reads in
      let t = sum_is bits z bits' a.some zs s in
      record {
        above = o.above;
        some = t.some;
        left = λ J more total r e some.
            let ms = block_some price rest _ J more r in
            let pos = product_pos z.1 more.1 zs ms in
            a.left J (plus z more) total
            (as_table gs, J, z, more, o.reads, r, record { next = alike_refl J (block_left rest _ J more r); equal = refl; fraction = omega (arith, pos) })
            (sum_then total bits z bits' more a.some zs t.some ms t.equal e) some;
      }

  rest_end : (Whole : Table → Table → Fraction → Type 0) (es now : Entries) (bits : Fraction) → RestReads Whole done es now bits → ReadsFrom Whole es now bits
  rest_end Whole es now bits so h =
      let a = so h in
      record {
        above = a.above;
        reads = a.left (as_table now) zero_share bits (record { next = alike_refl _ (above_fractions now a.above); equal = refl; fraction = omega arith }) (more_zero bits) (let z = a.some in omega arith);
      }

  pub rest_none : (xs ys : List Stmt) (i : ℕ) (es now : Entries) (bits : Fraction) → length xs ≤ i → xs ≡ ys → RestReads (BlockCosts price (list_of xs)) (list_of (drop i xs)) es now bits → ReadsFrom (BlockCosts price (list_of ys)) es now bits
  rest_none xs ys i es now bits h p a =
      let q : drop i xs ≡ [] = drop_of_length-le xs h in
      let b : RestReads (BlockCosts price (list_of xs)) done es now bits = subst (λ z. RestReads (BlockCosts price (list_of xs)) (list_of z) es now bits) q a in
      subst (λ z. ReadsFrom (BlockCosts price (list_of z)) es now bits) p (rest_end (BlockCosts price (list_of xs)) es now bits b)
