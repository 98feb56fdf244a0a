-- A block without a loop reads the bits of the draws that a table reaches in it, and leaves the table of its flow, at whatever limit of
-- turns.
use Rattle.std.proofs.Common.{◌≡◌, ℕ, ◌+◌, ◌*◌, ◌-◌, ◌≤◌, ◌<◌, [], ◌∷◌, ◌++◌, None, refl, sym, ap, ◌∙◌, subst, arith}
use Rattle.std.specs.List.{sum}
use Rattle.numbers.specs.Fraction.{IsEqual}
use Rattle.gcl_core.specs.meaning.Arms.{parts_of}
use Rattle.gcl_core.specs.meaning.Bounds.{StatementIsWeighed, BlockIsWeighed, ArmsAreWeighed}
use Rattle.gcl_core.specs.meaning.Draw.{last_end, choice_ends}
use Rattle.gcl_core.specs.meaning.Parts.{partial_sums}
use Rattle.gcl_core.specs.meaning.Syntax.{Statement, Skip, Set, If, While, Choice, Choose, Uniform, Observe, Statements, done, ◌▸◌, ArmList, no_arm, arm}
use Rattle.gcl_core.specs.meaning.Value.{value_of}
use Rattle.gcl_core.specs.weighing.Fractions.{Fraction, zero_share, plus, times}
use Rattle.gcl_core.specs.weighing.WeightedEnds.{scaled, class_weight}
use Rattle.gcl_core.proofs.PartialSums.{last_is}
use Rattle.table_flow.specs.Tables.{Table, holds, fails, only, statement_flow, block_flow, ReachedDraws, fractions_kind}
use Rattle.table_flow.proofs.FlowWords.{arms_flow, drawn_each, drawn_bound, statement_draws, block_draws, arms_draws}
use Rattle.table_flow.proofs.Positive.{Positive, p_scaled, p_only, p_one, p_all, p_arms}
use Rattle.table_flow.proofs.UniformLists.{reached_by_list}
use Rattle.weighing_law.proofs.Shares.{product_pos}
use Rattle.unlimited_law.specs.LoopFree.{StatementFree, BlockFree, ArmsFree}
use Rattle.unlimited_law.proofs.FreeBlocks.{alike_itself}
use Rattle.bits_law.specs.Draws.{bits_of_draw, bits_of_draws}
use Rattle.bits_law.specs.Reading.{Comes, StatementReads, BlockReads, ArmsRead}
use Rattle.bits_law.proofs.TableReads.{each_some, bound_some}
use Rattle.bits_law.proofs.BlockTends.{block_some, arms_some, statement_some}
use Rattle.bits_law.specs.Price.{bits_price}

-- ---- draws together
pair_is : (a b c d : ℕ) → a ≡ c → b ≡ d → ◌≡◌ {A = Fraction} (a, b) (c, d)
pair_is a b c d e f = ap (λ x. (x, b)) e ∙ ap (λ y. (c, y)) f

nothing_plus : (p : Fraction) → p ≡ plus zero_share p
nothing_plus (a, b) = pair_is a b (0 * b + a * 1) (1 * b) (omega arith) (omega arith)

plus_assoc : (p q r : Fraction) → plus p (plus q r) ≡ plus (plus p q) r
plus_assoc p q r = pair_is _ _ _ _ (omega arith) (omega arith)

pub draws_both : (D E : ReachedDraws) → bits_of_draws (D ++ E) ≡ plus (bits_of_draws D) (bits_of_draws E)
draws_both [] E = nothing_plus (bits_of_draws E)
draws_both (e ∷ D) E =
    let x = times e.0 (bits_of_draw None e.1) in
    ap (plus x) (draws_both D E) ∙ plus_assoc x (bits_of_draws D) (bits_of_draws E)

pub draws_three : (D E M : ReachedDraws) → bits_of_draws (D ++ (E ++ M)) ≡ plus (bits_of_draws D) (plus (bits_of_draws E) (bits_of_draws M))
draws_three D E M = draws_both D (E ++ M) ∙ ap (plus (bits_of_draws D)) (draws_both E M)

-- it comes to a table as it stands
pub comes : (J : Table) (bits read : Fraction) → Positive J → bits ≡ read → 0 < read.1 → Comes J bits J read
comes J bits read h e some = record {
  next = alike_itself J h;
  equal = subst (λ x. IsEqual x read) (sym e) refl;
  fraction = subst (λ x. 1 ≤ x.1) (sym e) (let le : 1 ≤ read.1 = omega arith in le);
}

module _ (n : ℕ) where
  mutual
    statement_free : (st : Statement) → StatementFree st → StatementIsWeighed st → (I : Table) → Positive I → StatementReads st I (statement_flow n None st I).next (bits_of_draws (statement_draws n None st I))
    statement_free Skip free w I h = comes _ _ zero_share (p_one n None Skip I w h).next refl (omega arith)
    statement_free (Set x e) free w I h = comes _ _ zero_share (p_one n None (Set x e) I w h).next refl (omega arith)
    statement_free (Observe e) free w I h = comes _ _ zero_share (p_one n None (Observe e) I w h).next refl (omega arith)
    statement_free (Uniform x e) free w I h =
        rw (reached_by_list fractions_kind None x (value_of e) I) (comes _ _ (bits_of_draws (drawn_bound (value_of e) I)) (p_one n None (Uniform x e) I w h).next refl (bound_some bits_price (value_of e) I h))
    statement_free (If e a c) free w I h =
        let A = only (holds (value_of e)) I in
        let C = only (fails (value_of e)) I in
        let D = block_draws n None a A in
        let E = block_draws n None c C in
        let x = block_free a free.0 w.0 A (p_only (holds (value_of e)) I h) in
        let y = block_free c free.1 w.1 C (p_only (fails (value_of e)) I h) in
        let xs = block_some bits_price a A (block_flow n None a A).next (bits_of_draws D) x in
        let ys = block_some bits_price c C (block_flow n None c C).next (bits_of_draws E) y in (
          (block_flow n None a A).next,
          (block_flow n None c C).next,
          bits_of_draws D,
          bits_of_draws E,
          x,
          y,
          comes _ _ (plus (bits_of_draws D) (bits_of_draws E)) (p_one n None (If e a c) I w h).next (draws_both D E) (product_pos (bits_of_draws D).1 (bits_of_draws E).1 xs ys),
        )
    statement_free (Choice p a c) free w I h =
        let ends = choice_ends p in
        let A = scaled (class_weight p.den None p.num) I in
        let C = scaled (class_weight p.den None (p.den - p.num)) I in
        let some : 0 < p.den = let z = w.0.positive in omega arith in
        let D = block_draws n None a A in
        let E = block_draws n None c C in
        let M = drawn_each ends I in
        let x = block_free a free.0 w.1 A (p_scaled (class_weight p.den None p.num) I some h) in
        let y = block_free c free.1 w.2 C (p_scaled (class_weight p.den None (p.den - p.num)) I some h) in
        let xs = block_some bits_price a A (block_flow n None a A).next (bits_of_draws D) x in
        let ys = block_some bits_price c C (block_flow n None c C).next (bits_of_draws E) y in
        let ms = each_some bits_price ends some I h in (
          (block_flow n None a A).next,
          (block_flow n None c C).next,
          bits_of_draws D,
          bits_of_draws E,
          x,
          y,
          comes _ _ (plus (bits_of_draws M) (plus (bits_of_draws D) (bits_of_draws E))) (p_one n None (Choice p a c) I w h).next (draws_three M D E)
              (product_pos (bits_of_draws M).1 ((bits_of_draws D).1 * (bits_of_draws E).1) ms (product_pos (bits_of_draws D).1 (bits_of_draws E).1 xs ys)),
        )
    statement_free (Choose arms) free w I h =
        let b = sum (parts_of arms) in
        let ends = partial_sums (parts_of arms) in
        let some : 0 < b = let z = w.0.positive in omega arith in
        let last : 0 < last_end ends = let e = last_is (parts_of arms) in omega arith in
        let D = arms_draws n None b arms I in
        let M = drawn_each ends I in
        let x = arms_free b some arms free w.1 I h in
        let xs = arms_some bits_price b arms I (arms_flow n None b arms I).next (bits_of_draws D) x in (
          (arms_flow n None b arms I).next,
          bits_of_draws D,
          x,
          comes _ _ (plus (bits_of_draws M) (bits_of_draws D)) (p_one n None (Choose arms) I w h).next (draws_both M D) (product_pos (bits_of_draws M).1 (bits_of_draws D).1 (each_some bits_price ends last I h) xs),
        )
    statement_free (While e a) free w I h = absurd free

    pub block_free : (b : Statements) → BlockFree b → BlockIsWeighed b → (I : Table) → Positive I → BlockReads b I (block_flow n None b I).next (bits_of_draws (block_draws n None b I))
    block_free done free w I h = comes I zero_share zero_share h refl (omega arith)
    block_free (st ▸ b) free w I h =
        let f = statement_flow n None st I in
        let D = statement_draws n None st I in
        let E = block_draws n None b f.next in
        let x = statement_free st free.0 w.0 I h in
        let y = block_free b free.1 w.1 f.next (p_one n None st I w.0 h).next in
        let xs = statement_some bits_price st I f.next (bits_of_draws D) x in
        let ys = block_some bits_price b f.next (block_flow n None b f.next).next (bits_of_draws E) y in (
          f.next,
          (block_flow n None b f.next).next,
          bits_of_draws D,
          bits_of_draws E,
          x,
          y,
          comes _ _ (plus (bits_of_draws D) (bits_of_draws E)) (p_all n None (st ▸ b) I w h).next (draws_both D E) (product_pos (bits_of_draws D).1 (bits_of_draws E).1 xs ys),
        )

    arms_free : (b : ℕ) → 0 < b → (arms : ArmList) → ArmsFree arms → ArmsAreWeighed arms → (I : Table) → Positive I → ArmsRead b arms I (arms_flow n None b arms I).next (bits_of_draws (arms_draws n None b arms I))
    arms_free b some no_arm free w I h = comes [] zero_share zero_share tt refl (omega arith)
    arms_free b some (arm p a arms) free w I h =
        let A = scaled (class_weight b None p) I in
        let D = block_draws n None a A in
        let E = arms_draws n None b arms I in
        let x = block_free a free.0 w.0 A (p_scaled (class_weight b None p) I some h) in
        let y = arms_free b some arms free.1 w.1 I h in
        let xs = block_some bits_price a A (block_flow n None a A).next (bits_of_draws D) x in
        let ys = arms_some bits_price b arms I (arms_flow n None b arms I).next (bits_of_draws E) y in (
          (block_flow n None a A).next,
          (arms_flow n None b arms I).next,
          bits_of_draws D,
          bits_of_draws E,
          x,
          y,
          comes _ _ (plus (bits_of_draws D) (bits_of_draws E)) (p_arms n None b some (arm p a arms) I w h).next (draws_both D E) (product_pos (bits_of_draws D).1 (bits_of_draws E).1 xs ys),
        )
