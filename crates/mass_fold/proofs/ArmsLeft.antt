-- The arms of the code that are left at a place of a loop.
use Rattle.std.proofs.Common.{◌≡◌, ℕ, ◌+◌, ◌≤◌, ◌<◌, List, [], ◌∷◌, ◌++◌, length, length-set, get_or, set, take, drop, append_assoc, append-nil, sym, ap, ◌∙◌, arith}
use Rattle.std.proofs.lemmas.List.{at_drop_more, drop_all, take_more_set}
use Rattle.std.proofs.lemmas.List.Sums.{sum_by-cons}
use Rattle.std.specs.List.{sum}
use Rattle.gcl_core.specs.declared.rules.TheConstants.{MOST_ARMS}
use Rattle.gcl_core.specs.declared.syntax.Block.{Block}
use Rattle.gcl_core.specs.meaning.Arms.{parts_of}
use Rattle.gcl_core.specs.meaning.Draw.{last_end}
use Rattle.gcl_core.specs.meaning.Parts.{sums_from, partial_sums}
use Rattle.gcl_core.specs.meaning.Syntax.{no_arm, arm}
use Rattle.gcl_core.specs.meaning.Views.{statements_of, arm_list_of}
use Rattle.gcl_core.proofs.PartialSums.{last_is}
use Rattle.gcl_core.proofs.ArmLists.{as_many_arms, parts_more, no_parts}

abbrev pub parts_left : List (ℕ × Block) → ℕ → List ℕ
parts_left arms i = parts_of (arm_list_of (drop i arms))

module _ (arms : List (ℕ × Block)) (i : ℕ) where
  pub arms_done : length arms ≤ i → arm_list_of (drop i arms) ≡ no_arm
  arms_done le = ap arm_list_of (drop_all i arms le)

  module _ (a : ℕ × Block) (lt : i < length arms) (is : a ≡ get_or arms i a) where
    pub arms_next : arm_list_of (drop i arms) ≡ arm a.0 (statements_of a.1) (arm_list_of (drop (i + 1) arms))
    arms_next = at_drop_more arm_list_of arms i a lt ∙ ap (λ x. arm x.0 (statements_of x.1) (arm_list_of (drop (i + 1) arms))) (sym is)

    pub sum_next : sum (parts_left arms i) ≡ a.0 + sum (parts_left arms (i + 1))
    sum_next = ap sum (parts_more arms i a lt is) ∙ sum_by-cons (λ x. x) a.0 (parts_left arms (i + 1))

-- the arms of a choice are few
pub few_arms : (arms same : List (ℕ × Block)) → arms ≡ same → length (parts_of (arm_list_of same)) ≤ MOST_ARMS → length arms ≤ MOST_ARMS
few_arms arms same e few = let l = as_many_arms arms in let k = ap (λ l. length (parts_of (arm_list_of l))) e in omega (arith, l, k, few)

-- the first of these are the ends of the parts before the i-th, which add up to the last
pub record EndsAt (ends : List ℕ) (end i : ℕ) (arms : List (ℕ × Block)) : Type 0 where
  pub room : length ends ≡ MOST_ARMS
  pub whole : take i ends ++ sums_from end (parts_left arms i) ≡ partial_sums (parts_of (arm_list_of arms))
  pub total : end + sum (parts_left arms i) ≡ sum (parts_of (arm_list_of arms))

pub ends_next : (ends : List ℕ) (end i : ℕ) (arms : List (ℕ × Block)) (a : ℕ × Block) → i < length arms → a ≡ get_or arms i a → i < length ends → EndsAt ends end i arms → EndsAt (set ends i (end + a.0)) (end + a.0) (i + 1) arms
ends_next ends end i arms a lt is in_room e =
    let rest = parts_left arms (i + 1) in
    let more = parts_more arms i a lt is in
    record {
      room = length-set ends i (end + a.0) ∙ e.room;
      whole = ap (λ l. l ++ sums_from (end + a.0) rest) (take_more_set ends i (end + a.0) in_room) ∙ append_assoc (take i ends) ((end + a.0) ∷ []) (sums_from (end + a.0) rest)
          ∙ ap (λ ps. take i ends ++ sums_from end ps) (sym more) ∙ e.whole;
      total = let t = e.total in let s = sum_next arms i a lt is in omega (arith, t, s);
    }

pub ends_all : (ends : List ℕ) (end count i : ℕ) (arms same : List (ℕ × Block)) → arms ≡ same → count ≡ i → length arms ≤ i → EndsAt ends end i arms → take count ends ≡ partial_sums (parts_of (arm_list_of same))
ends_all ends end count i arms same p q le e =
    ap (λ k. take k ends) q ∙ sym (append-nil (take i ends)) ∙ ap (λ ps. take i ends ++ sums_from end ps) (sym (no_parts arms i le)) ∙ e.whole ∙ ap (λ l. partial_sums (parts_of (arm_list_of l))) p

pub ends_within : (ends : List ℕ) (ps : List ℕ) (bound : ℕ) → ends ≡ partial_sums ps → sum ps ≤ bound → last_end ends ≤ bound
ends_within ends ps bound e h = let l = ap last_end e ∙ last_is ps in omega (arith, l, h)
