-- What is known of the weights that a word lists, read one after another, and when a roll may have them.
use Rattle.std.proofs.Common.{◌≡◌, ℕ, ◌+◌, ◌*◌, ◌<◌, ◌≤◌, Bool, true, false, Option, Some, None, List, [], ◌∷◌, ◌++◌, length, max, refl, sym, ap, ◌∙◌, arith}
use Rattle.std.specs.Prelude.{◌&&◌, nat_le, nat_lt, is_some, if◌then◌else◌}
use Rattle.std.specs.List.{sum, list_all}
use Rattle.std.proofs.lemmas.List.{length-append}
use Rattle.std.proofs.lemmas.List.Sums.{sum_by-append}
use Rattle.std.proofs.lemmas.Bool.Decides.{nat_tests}
use Rattle.weighted_roll.specs.declared.rules.TheConstants.{GREATEST_SUM, MOST_LABELS, MOST_LISTED}
use Rattle.weighted_roll.specs.Listed.{parts_from, if_listed}
use Rattle.weighted_roll.specs.inner.Sums.{greatest_of, HasSums}
use Rattle.weighted_roll.proofs.Listing.{Read}

sum_more : (ws : List ℕ) (a : ℕ) → sum (ws ++ a ∷ []) ≡ sum ws + a
sum_more ws a = let s = sum_by-append (λ x. x) ws (a ∷ []) in omega arith

greatest_more : (ws : List ℕ) (a : ℕ) → greatest_of (ws ++ a ∷ []) ≡ max (greatest_of ws) a
greatest_more [] a = omega arith
greatest_more (b ∷ ws) a = let i = greatest_more ws a in omega arith

-- what was read so far, with room for what is left
pub record Summed (word rest : List ℕ) (count total greatest : ℕ) : Type 0 where
  pub ws : List ℕ
  pub read : Read word ws rest
  pub counted : count ≡ length ws
  pub summed : total ≡ sum ws
  pub most : greatest ≡ greatest_of ws
  pub room : count + length rest ≤ length word
  pub small : total ≤ count * GREATEST_SUM

module _ (word rest : List ℕ) (count total greatest a count' total' greatest' : ℕ) (s : Summed word rest count total greatest) (small : a ≤ GREATEST_SUM)
    (counts : count' ≡ count + 1) (sums : total' ≡ total + a) (tops : greatest' ≡ max greatest a) where
  count_is : count' ≡ length (s.ws ++ a ∷ [])
  count_is = let c = s.counted in let n = length-append s.ws (a ∷ []) in omega arith

  sum_is : total' ≡ sum (s.ws ++ a ∷ [])
  sum_is = let t = s.summed in let n = sum_more s.ws a in omega arith

  top_is : greatest' ≡ greatest_of (s.ws ++ a ∷ [])
  top_is = tops ∙ ap (λ g. max g a) s.most ∙ sym (greatest_more s.ws a)

  pub sums_part : (part more : List ℕ) → Read word (s.ws ++ a ∷ []) more → rest ≡ part ++ 44 ∷ more → Summed word more count' total' greatest'
  sums_part part more read e = record {
    ws = s.ws ++ a ∷ [];
    read = read;
    counted = count_is;
    summed = sum_is;
    most = top_is;
    room = let r = s.room in let n = ap length e in let m = length-append part (44 ∷ more) in omega arith;
    small = let b = s.small in omega arith;
  }

  pub sums_last : parts_from [] word ≡ Some (s.ws ++ a ∷ []) → HasSums (parts_from [] word) count' total' greatest'
  sums_last e = record { ws = s.ws ++ a ∷ []; there = e; counted = count_is; summed = sum_is; most = top_is }

-- ---- when a roll may have them

below_both : (a g s : ℕ) → (nat_lt a s && nat_lt g s) ≡ nat_lt (max a g) s
below_both a g s = grind (arith, nat_tests)

all_below : (ws : List ℕ) (s : ℕ) → 0 < s → list_all (λ a. nat_lt a s) ws ≡ nat_lt (greatest_of ws) s
all_below [] s h = grind (arith, nat_tests)
all_below (a ∷ ws) s h = ap (λ b. nat_lt a s && b) (all_below ws s h) ∙ below_both a (greatest_of ws) s

some_if : (b : Bool) (ws : List ℕ) → is_some (if b then Some ws else None) ≡ b
some_if true ws = refl
some_if false ws = refl

tests : (n s g : ℕ) (all : Bool) → (0 < s → all ≡ nat_lt g s)
    → (nat_le n MOST_LISTED && (nat_le n MOST_LABELS && all && nat_lt 0 s && nat_le s GREATEST_SUM)) ≡ (nat_le n MOST_LISTED && nat_lt g s && nat_le s GREATEST_SUM)
tests n s g all h = grind (arith, nat_tests, h)

pub listed_tests : (weights : Option (List ℕ)) (count total greatest : ℕ) → HasSums weights count total greatest
    → (nat_le count MOST_LISTED && nat_lt greatest total && nat_le total GREATEST_SUM) ≡ is_some (if_listed weights)
listed_tests weights count total greatest s =
    let ws = s.ws in
    rw (s.there, s.counted, s.summed, s.most) (sym (some_if _ ws ∙ tests (length ws) (sum ws) (greatest_of ws) _ (all_below ws (sum ws))))
