-- The plays of a block under a first limit of turns and under a second one that is no less. The first ends earlier only where the
-- second limit is greater. On the way all numbers have 64 bits, draws are such as a checked program has, and no play reads more
-- than d bits with at most r attempts for each draw.
use Rattle.std.proofs.Common.{◌≡◌, ℕ, zero, suc, ◌+◌, ◌*◌, ◌^◌, ◌≤◌, ◌<◌, max, ℤ, pos, negsuc, Bool, true, false, cond, Ok, Err, List, length, refl, ap, arith}
use Rattle.std.specs.Prelude.{slice_set}
use Rattle.std.specs.List.{sum}
use Rattle.std.proofs.lemmas.Bool.{ltb-true}
use Rattle.std.proofs.Math.Nat.{mul-le-mul_right}
use Rattle.gcl_core.specs.declared.answers.Fault.TheVariants.{BadBound}
use Rattle.gcl_core.specs.declared.answers.Limit.TheVariants.{Turns}
use Rattle.gcl_core.specs.declared.syntax.Weight.{Weight}
use Rattle.gcl_core.specs.meaning.Bounds.{IsWeight, StatementIsWeighed, BlockIsWeighed, ArmsAreWeighed, StatementFits, BlockFits, ArmsFit, AreParts}
use Rattle.gcl_core.specs.meaning.Arms.{parts_of}
use Rattle.gcl_core.specs.meaning.Parts.{partial_sums}
use Rattle.gcl_core.specs.meaning.Syntax.{Statement, Skip, Set, If, While, Choice, Choose, Uniform, Observe, Statements, done, ◌▸◌, ArmList, no_arm, arm}
use Rattle.gcl_core.specs.meaning.Value.{State, Value, value_of, is_zero, fits_64}
use Rattle.gcl_core.specs.meaning.Draw.{bits_for, last_end, choice_ends, uniform_ends}
use Rattle.gcl_core.specs.meaning.Blocks.{End, on, failed, fault, limit, by_truth, by_side}
use Rattle.gcl_core.proofs.Plays.{Play, ended, drawing, with_value, with_end, uniform_play, loop_play, statement_play, block_play, arm_play}
use Rattle.gcl_core.specs.weighing.LongestReading.{longest_statement, longest, longest_arm}
use Rattle.gcl_core.specs.weighing.OneDraw.{Ascends}
use Rattle.gcl_core.specs.meaning.Fitting.{state_fits}
use Rattle.gcl_core.proofs.Classes.{bits_le}
use Rattle.gcl_core.proofs.FittingValues.{end_fits, number_fits, set_fits, value_fits}
use Rattle.gcl_core.proofs.PartialSums.{last_is, sums_ascend}
use Rattle.gcl_core.proofs.EqualClasses.{last_of_equal}
use Rattle.gcl_core.proofs.Uniform.{range_ascends, uniform_length}

-- the ends of the classes of a draw of a checked program
pub record IsDraw (cs : List ℕ) : Type 0 where
  pub ascends : Ascends 0 cs
  pub positive : 1 ≤ last_end cs
  pub small : last_end cs ≤ 2 ^ 63

-- Two plays end and draw alike, but that the first may end at the limit of turns, if `lost` holds. Of both, no path reads more than d bits
-- by at most r attempts for each draw; and each draw is one of a checked program, if `sound` holds.
pub data Cut (r : ℕ) (lost sound : Type 0) : ℕ → Play → Play → Type 0 where
  same_end : {d : ℕ} (e : End) → end_fits e ≡ true → Cut r lost sound d (ended e) (ended e)
  no_turns : {d : ℕ} {p q : Play} → lost → Cut r lost sound d p q → Cut r lost sound d (ended (limit Turns)) q
  same_draw : {d : ℕ} (e : ℕ) (cs : List ℕ) (k k' : ℕ → Play) → (sound → IsDraw cs) → bits_for (last_end cs) * r + e ≤ d →
      ((i : ℕ) → i < length cs → Cut r lost sound e (k i) (k' i)) → Cut r lost sound d (drawing cs k) (drawing cs k')

-- ---- draws
choice_draw : (w : Weight) → IsWeight w → IsDraw (choice_ends w)
choice_draw w ok = let coarse = ok.coarse in record { ascends = (omega arith, (ok.at_most_one, tt)); positive = ok.positive; small = omega arith }

parts_draw : (ps : List ℕ) → AreParts ps → IsDraw (partial_sums ps)
parts_draw ps ok =
    let last = last_is ps in
    let positive = ok.positive in
    let coarse = ok.coarse in
    record { ascends = sums_ascend 0 ps; positive = omega (arith, last, positive); small = omega (arith, last, coarse) }

-- ---- statements
module _ (r : ℕ) (lost sound : Type 0) where
  abbrev pub Cuts : ℕ → Play → Play → Type 0
  Cuts d p q = Cut r lost sound d p q

  cut_up : (d f : ℕ) (p q : Play) → d ≤ f → Cuts d p q → Cuts f p q
  cut_up d f p q le (same_end e h) = same_end e h
  cut_up d f p q le (no_turns {p = m} l h) = no_turns l (cut_up d f m q le h)
  cut_up d f p q le (same_draw e cs k k' ok b h) = same_draw e cs k k' ok (omega arith) h

  cut_end : (d f : ℕ) (p q : Play) (go go' : State → Play) → Cuts d p q → ((s : State) → state_fits s ≡ true → Cuts f (go s) (go' s)) → Cuts (d + f) (with_end p go) (with_end q go')
  cut_end d f p q go go' (same_end (on s) h) g = cut_up f (d + f) _ _ (omega arith) (g s h)
  cut_end d f p q go go' (same_end failed h) g = same_end failed refl
  cut_end d f p q go go' (same_end (fault x) h) g = same_end (fault x) refl
  cut_end d f p q go go' (same_end (limit x) h) g = same_end (limit x) refl
  cut_end d f p q go go' (no_turns {p = m} l h) g = no_turns l (cut_end d f m q go go' h g)
  cut_end d f p q go go' (same_draw e cs k k' ok b h) g = same_draw (e + f) cs _ _ ok (omega arith) (λ i lt. cut_end e f (k i) (k' i) go go' (h i lt) g)

  cut_value : (d : ℕ) (v : Value) (k k' : ℤ → Play) → ((z : ℤ) → v ≡ Ok z → Cuts d (k z) (k' z)) → Cuts d (with_value v k) (with_value v k')
  cut_value d (Ok z) k k' h = h z refl
  cut_value d (Err f) k k' h = same_end (fault f) refl

  cut_truth : (d : ℕ) (z : ℤ) (p p' q q' : Play) → Cuts d p p' → Cuts d q q' → Cuts d (by_truth z p q) (by_truth z p' q')
  cut_truth d z p p' q q' h g = by_test (is_zero z)
    where
      by_test : (b : Bool) → Cuts d (cond b q p) (cond b q' p')
      by_test true = g
      by_test false = h

  cut_side : (d i : ℕ) (p p' q q' : Play) → Cuts d p p' → Cuts d q q' → Cuts d (by_side i p q) (by_side i p' q')
  cut_side d zero p p' q q' h g = h
  cut_side d (suc i) p p' q q' h g = g

  cut_draw : (d : ℕ) (cs : List ℕ) (k k' : ℕ → Play) → (sound → IsDraw cs) → ((i : ℕ) → i < length cs → Cuts d (k i) (k' i)) → Cuts (bits_for (last_end cs) * r + d) (drawing cs k) (drawing cs k')
  cut_draw d cs k k' ok h = same_draw d cs k k' ok (omega arith) h

  cut_loop : (d : ℕ) (guard : State → Value) (body body' : State → Play) → ((s : State) → state_fits s ≡ true → Cuts d (body s) (body' s)) →
      (t' t : ℕ) → t ≤ t' → (t < t' → lost) → (s : State) → state_fits s ≡ true → Cuts (t' * d) (loop_play guard body t s) (loop_play guard body' t' s)
  cut_loop d guard body body' h zero zero le l s p = cut_value _ (guard s) _ _ (λ z e. cut_truth _ z _ _ _ _ (same_end (limit Turns) refl) (same_end (on s) p))
  cut_loop d guard body body' h zero (suc t) le l s p = absurd (omega arith)
  cut_loop d guard body body' h (suc t') zero le l s p =
      cut_value (suc t' * d) (guard s) _ _ (λ z e. cut_truth (suc t' * d) z _ _ _ _
      (cut_up (d + t' * d) (suc t' * d) _ _ (omega arith)
      (no_turns (l (omega arith)) (cut_end d (t' * d) _ _ (loop_play guard body 0) _ (h s p) (cut_loop d guard body body' h t' 0 (omega arith) (λ lt. l (omega arith))))))
      (same_end (on s) p))
  cut_loop d guard body body' h (suc t') (suc t) le l s p =
      cut_value (suc t' * d) (guard s) _ _ (λ z e. cut_truth (suc t' * d) z _ _ _ _
      (cut_up (d + t' * d) (suc t' * d) _ _ (omega arith)
      (cut_end d (t' * d) _ _ _ _ (h s p) (cut_loop d guard body body' h t' t (omega arith) (λ lt. l (omega arith)))))
      (same_end (on s) p))

  cut_uniform : (x : ℕ) (z : ℤ) (s : State) → fits_64 z ≡ true → state_fits s ≡ true → Cuts (63 * r) (uniform_play x z s) (uniform_play x z s)
  cut_uniform x (pos zero) s f p = same_end (fault BadBound) refl
  cut_uniform x (negsuc m) s f p = same_end (fault BadBound) refl
  cut_uniform x (pos (suc m)) s f p =
      let cs = uniform_ends (suc m) in
      let e = last_of_equal (suc m) in
      let small : suc m < 2 ^ 63 = ltb-true _ _ f in
      let b : last_end cs ≤ 2 ^ 63 = omega arith in
      let few = mul-le-mul_right r (bits_le (last_end cs) 63 b) in
      cut_up (bits_for (last_end cs) * r + 0) (63 * r) _ _ (omega arith)
      (cut_draw 0 cs _ _ (λ x. record { ascends = range_ascends 0 (suc m); positive = omega arith; small = b })
      (λ i lt. same_end (on (slice_set s x (pos i))) (set_fits s x (pos i) p (number_fits i (suc m) (let l = uniform_length (suc m) in omega arith) small))))

  module _ (n n' : ℕ) (more : n ≤ n') (fewer : n < n' → lost) where
    mutual
      pub statement_cut : (st : Statement) → (sound → StatementIsWeighed st) → StatementFits st → (s : State) → state_fits s ≡ true → Cuts (longest_statement n' r st) (statement_play n st s) (statement_play n' st s)
      statement_cut Skip ok f s p = same_end (on s) p
      statement_cut (Set x e) ok f s p = cut_value 0 (value_of e s) _ _ (λ z q. same_end (on (slice_set s x z)) (set_fits s x z p (value_fits e s z f p q)))
      statement_cut (Observe e) ok f s p = cut_value 0 (value_of e s) _ _ (λ z q. cut_truth 0 z _ _ _ _ (same_end (on s) p) (same_end failed refl))
      statement_cut (If e a c) ok f s p =
          let d = max (longest n' r a) (longest n' r c) in
          cut_value d (value_of e s) _ _ (λ z q. cut_truth d z _ _ _ _ (cut_up (longest n' r a) d _ _ (omega arith) (block_cut a (λ x. (ok x).0) f.1 s p)) (cut_up (longest n' r c) d _ _ (omega arith) (block_cut c (λ x. (ok x).1) f.2 s p)))
      statement_cut (Choice w a c) ok f s p =
          let d = max (longest n' r a) (longest n' r c) in
          cut_draw d (choice_ends w) _ _ (λ x. choice_draw w (ok x).0)
          (λ i lt. cut_side d i _ _ _ _ (cut_up (longest n' r a) d _ _ (omega arith) (block_cut a (λ x. (ok x).1) f.0 s p)) (cut_up (longest n' r c) d _ _ (omega arith) (block_cut c (λ x. (ok x).2) f.1 s p)))
      statement_cut (Choose arms) ok f s p =
          let ps = parts_of arms in
          let cs = partial_sums ps in
          let d = longest_arm n' r arms in
          let last = last_is ps in
          let q = ap (λ b. bits_for b * r + d) last in
          cut_up (bits_for (last_end cs) * r + d) (bits_for (sum ps) * r + d) _ _ (omega (arith, q))
          (cut_draw d cs _ _ (λ x. parts_draw ps (ok x).0) (λ i lt. arm_cut arms (λ x. (ok x).1) f i s p))
      statement_cut (Uniform x e) ok f s p = cut_value (63 * r) (value_of e s) _ _ (λ z q. cut_uniform x z s (value_fits e s z f p q) p)
      statement_cut (While e a) ok f s p = cut_loop (longest n' r a) (value_of e) _ _ (block_cut a ok f.1) n' n more fewer s p

      pub block_cut : (b : Statements) → (sound → BlockIsWeighed b) → BlockFits b → (s : State) → state_fits s ≡ true → Cuts (longest n' r b) (block_play n b s) (block_play n' b s)
      block_cut done ok f s p = same_end (on s) p
      block_cut (st ▸ b) ok f s p = cut_end (longest_statement n' r st) (longest n' r b) _ _ _ _ (statement_cut st (λ x. (ok x).0) f.0 s p) (block_cut b (λ x. (ok x).1) f.1)

      arm_cut : (arms : ArmList) → (sound → ArmsAreWeighed arms) → ArmsFit arms → (i : ℕ) (s : State) → state_fits s ≡ true → Cuts (longest_arm n' r arms) (arm_play n arms i s) (arm_play n' arms i s)
      arm_cut no_arm ok f i s p = same_end (on s) p
      arm_cut (arm w b arms) ok f zero s p = cut_up (longest n' r b) (longest_arm n' r (arm w b arms)) _ _ (omega arith) (block_cut b (λ x. (ok x).0) f.0 s p)
      arm_cut (arm w b arms) ok f (suc i) s p = cut_up (longest_arm n' r arms) (longest_arm n' r (arm w b arms)) _ _ (omega arith) (arm_cut arms (λ x. (ok x).1) f.1 i s p)

-- under one limit of turns, of a checked program
abbrev pub Sound : ℕ → ℕ → Play → Type 0
Sound r d p = Cut r ⊥ (Unit {0}) d p p

pub statement_sound : (n r : ℕ) (st : Statement) → StatementIsWeighed st → StatementFits st → (s : State) → state_fits s ≡ true → Sound r (longest_statement n r st) (statement_play n st s)
statement_sound n r st ok = statement_cut r ⊥ (Unit {0}) n n (omega arith) (λ lt. absurd (omega arith)) st (λ x. ok)

pub block_sound : (n r : ℕ) (b : Statements) → BlockIsWeighed b → BlockFits b → (s : State) → state_fits s ≡ true → Sound r (longest n r b) (block_play n b s)
block_sound n r b ok = block_cut r ⊥ (Unit {0}) n n (omega arith) (λ lt. absurd (omega arith)) b (λ x. ok)
