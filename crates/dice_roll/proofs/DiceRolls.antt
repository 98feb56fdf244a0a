-- The Fast Dice Roller as its two numbers go on gives what the strings of bits give.
use Rattle.std.proofs.Common.{◌≡◌, ⊎_elim, ℕ, zero, suc, ◌+◌, ◌-◌, ◌*◌, ◌≤◌, ◌<◌, Bool, false, cond, Option, Some, None, List, [], ◌∷◌, ◌++◌, length, refl, sym, ap, ◌∙◌, arith}
use Rattle.std.proofs.lemmas.Bool.{cases_lt, le-leb, lt-leb, lt-ltb, le-ltb, and_from, cond-true, cond-false}
use Rattle.std.proofs.Math.Path.{fun_ext}
use Rattle.std.specs.Int.{from_bool}
use Rattle.std.specs.Prelude.{◌&&◌, nat_le, nat_lt}
use Rattle.dice_roll.specs.declared.answers.Roll.{Roll}
use Rattle.dice_roll.specs.declared.answers.Roll.TheVariants.{Label}
use Rattle.dice_roll.specs.FastRoll.{label_or, roll_from, fast_roll}
use Rattle.dice_roll.specs.inner.Dice.{label_among, past_labels, dice_from}
use Rattle.dice_roll.proofs.Labels.{Undecided, undecided_start, undecided_none, undecided_fewer, undecided_missed, labelled, label_some, length-push}
use Rattle.dice_roll.proofs.Rolls.{roll_ends, roll_limit, roll_needs, roll_reads}

-- ---- a flip, where x is the number that the bit makes
module _ (m range number x : ℕ) (bit : Bool) (is_bit : x ≡ 2 * number + from_bool bit) (h n : ℕ) (rest : List Bool) where
  abbrev on : Option ℕ → ℕ → ℕ → Roll
  on label r k = label_or label (n + 1) (dice_from m r k h (n + 1) rest)

  abbrev flip_by : ℕ → Roll
  flip_by k = on (label_among m (2 * range) k) (past_labels m (2 * range) (2 * range)) (past_labels m (2 * range) k)

  flips_by : dice_from m range number (suc h) n (bit ∷ rest) ≡ flip_by x
  flips_by = ap flip_by (sym is_bit)

  flip_to_label : m ≤ 2 * range → x < m → dice_from m range number (suc h) n (bit ∷ rest) ≡ Label x (n + 1)
  flip_to_label enough low =
      let there = cond-true _ (Some x) None (and_from _ _ (le-leb _ _ enough) (lt-ltb _ _ low)) in
      flips_by ∙ ap (λ label. on label (past_labels m (2 * range) (2 * range)) (past_labels m (2 * range) x)) there

  flip_past_labels : m ≤ 2 * range → m ≤ x → dice_from m range number (suc h) n (bit ∷ rest) ≡ dice_from m (2 * range - m) (x - m) h (n + 1) rest
  flip_past_labels enough high =
      let none = ap (λ t. cond (nat_le m (2 * range) && t) (Some x) None) (le-ltb _ _ high) ∙ ap (λ t. cond (t && false) (Some x) None) (le-leb _ _ enough) in
      let past = λ (k : ℕ). cond-true (nat_le m (2 * range)) (k - m) k (le-leb _ _ enough) in
      flips_by ∙ ap (λ label. on label (past_labels m (2 * range) (2 * range)) (past_labels m (2 * range) x)) none
      ∙ ap (λ r. on None r (past_labels m (2 * range) x)) (past (2 * range)) ∙ ap (on None (2 * range - m)) (past x)

  flip_without_labels : 2 * range < m → dice_from m range number (suc h) n (bit ∷ rest) ≡ dice_from m (2 * range) x h (n + 1) rest
  flip_without_labels few =
      let none = ap (λ t. cond (t && nat_lt x m) (Some x) None) (lt-leb _ _ few) in
      let past = λ (k : ℕ). cond-false (nat_le m (2 * range)) (k - m) k (lt-leb _ _ few) in
      flips_by ∙ ap (λ label. on label (past_labels m (2 * range) (2 * range)) (past_labels m (2 * range) x)) none
      ∙ ap (λ r. on None r (past_labels m (2 * range) x)) (past (2 * range)) ∙ ap (on None (2 * range)) (past x)

-- ---- all flips

dice_are_fast : (m range number h : ℕ) (u w : List Bool) → Undecided m range number u → dice_from m range number h (length u) w ≡ roll_from m h u w
dice_are_fast m range number zero u w here = sym (roll_limit m u (undecided_none m range number u here) w)
dice_are_fast m range number (suc h) u [] here = sym (roll_needs m u (undecided_none m range number u here) h)
dice_are_fast m range number (suc h) u (b ∷ w) here =
    ⊎_elim
    (λ (few : 2 * range < m).
    flip_without_labels m range number (2 * number + from_bool b) b refl h (length u) w few
    ∙ goes_on (2 * range) (2 * number + from_bool b)
    (dice_are_fast m (2 * range) (2 * number + from_bool b) h (u ++ b ∷ []) w (undecided_fewer m range number (from_bool b) u b here refl few)))
    (λ (enough : m ≤ 2 * range). ⊎_elim
    (λ (low : 2 * number + from_bool b < m).
    flip_to_label m range number (2 * number + from_bool b) b refl h (length u) w enough low
    ∙ ap (Label (2 * number + from_bool b)) (sym pushed)
    ∙ sym (read_on ∙ roll_ends m h (2 * number + from_bool b) (u ++ b ∷ []) w (label_some m (2 * number + from_bool b) (u ++ b ∷ []) (labelled m range number (from_bool b) u b here refl enough low))))
    (λ (high : m ≤ 2 * number + from_bool b).
    flip_past_labels m range number (2 * number + from_bool b) b refl h (length u) w enough high
    ∙ goes_on (2 * range - m) (2 * number + from_bool b - m)
    (dice_are_fast m (2 * range - m) (2 * number + from_bool b - m) h (u ++ b ∷ []) w (undecided_missed m range number (from_bool b) u b here refl enough high)))
    (cases_lt (2 * number + from_bool b) m))
    (cases_lt (2 * range) m)
  where
    pushed : length (u ++ b ∷ []) ≡ length u + 1
    pushed = omega (arith, length-push u b)

    read_on : roll_from m (suc h) u (b ∷ w) ≡ roll_from m h (u ++ b ∷ []) w
    read_on = roll_reads m u (undecided_none m range number u here) h b w

    goes_on : (r k : ℕ) → dice_from m r k h (length (u ++ b ∷ [])) w ≡ roll_from m h (u ++ b ∷ []) w
        → dice_from m r k h (length u + 1) w ≡ roll_from m (suc h) u (b ∷ w)
    goes_on r k behind = ap (λ n. dice_from m r k h n w) (sym pushed) ∙ behind ∙ sym read_on

pub dice_rolls : (m flips : ℕ) → 2 ≤ m → dice_from m 1 0 flips 0 ≡ fast_roll m flips
dice_rolls m flips some = fun_ext (λ w. dice_are_fast m 1 0 flips [] w (undecided_start m some))
