-- A play, a split and a join keep the numbering.
use Rattle.std.proofs.Common.{◌≡◌, ℕ, ◌+◌, ◌<◌, ◌≢◌, List, [], ◌∷◌, ◌++◌, length, length-append, set, refl, sym, ap, ◌∙◌, subst, arith}
use mathlib.Core.Option.{some}
use lib.ListN.{get_elem?}
use Rattle.std.proofs.lemmas.Bool.Decides.{nat_tests}
use Rattle.passes.specs.declared.view.Numbering.{Numbering}
use Rattle.passes.specs.Numbers.{times, once_below}
use Rattle.passes.specs.Numbering.{first, makes, made_by, joined, spent, made, Leads, Numbered}
use Rattle.passes.proofs.Totals.{total_set, total_snoc, total_at, two_at, total_only}
use Rattle.passes.proofs.Times.{times-append, once_more, once_inside, once_outside, once_le, once_up, none_listed}
use Rattle.passes.proofs.Views.{each_played, each_split, each_joined, each_alone, other_there, total_joined}

once_alone : (p : ℕ) → times p (p ∷ []) ≡ 1
once_alone p = grind (arith, nat_tests)

-- a board that was just made
pub numbered_first : {V : Type 0} (passes : V → Numbering) (workers : ℕ) (v : V) → passes v ≡ first → 0 < workers → Numbered passes workers (v ∷ [])
numbered_first {V} passes workers v is some_worker =
    let one : (passes v).made ≡ 1 = ap (λ (p : Numbering). p.made) is in
    let alone : (passes v).numbers ≡ 0 ∷ [] = ap (λ (p : Numbering). p.numbers) is in
    let all : made passes (v ∷ []) ≡ 1 = omega arith in
    record {
      few = omega arith;
      numbers = λ x. let e : times x (passes v).numbers ≡ times x (0 ∷ []) = ap (times x) alone in rw all (omega (arith, once_more x 0, once_outside x 0));
      counted = let e : length (passes v).numbers ≡ 1 = ap length alone in omega arith;
      lead = each_alone (λ (u : V). Leads (passes u)) v (subst Leads (sym is) (λ (q : times 0 (0 ∷ []) ≡ 0). absurd (omega arith)));
    }

module _ {V : Type 0} (passes : V → Numbering) (workers : ℕ) (views : List V) (kept : Numbered passes workers views) where
  abbrev LeadsHere : V → Type 0
  LeadsHere u = Leads (passes u)

  -- ---- a play

  pub made_play : (id : ℕ) (v w : V) → get_elem? views id ≡ some v → passes w ≡ passes v → made passes (set views id w) ≡ made passes views
  made_play id v w at same = let t = total_set (λ (u : V). (passes u).made) views id v w at in let e : (passes w).made ≡ (passes v).made = ap (λ (p : Numbering). p.made) same in omega arith

  pub numbered_play : (id : ℕ) (v w : V) → get_elem? views id ≡ some v → passes w ≡ passes v → Numbered passes workers (set views id w)
  numbered_play id v w at same = let m = made_play id v w at same in
      record {
        few = let f = kept.few in omega arith;
        numbers = λ x. let t = total_set (λ (u : V). times x (passes u).numbers) views id v w at in let e : times x (passes w).numbers ≡ times x (passes v).numbers = ap (λ (p : Numbering). times x p.numbers) same in
            let all = kept.numbers x in rw m (omega arith);
        counted = let t = total_set (λ (u : V). length (passes u).numbers) views id v w at in let e : length (passes w).numbers ≡ length (passes v).numbers = ap (λ (p : Numbering). length p.numbers) same in
            let all = kept.counted in omega arith;
        lead = each_played LeadsHere views id w (subst Leads (sym same) (kept.lead id v at)) kept.lead;
      }

  -- ---- a split: the first pass makes another

  alone : (id : ℕ) (v : V) → get_elem? views id ≡ some v → (passes v).numbers ≡ 0 ∷ [] → made passes views ≡ (passes v).made
  alone id v at one = let here : times 0 (passes v).numbers ≡ 1 = ap (times 0) one in
      total_only (λ (u : V). (passes u).made) views id v at (λ j u ne e.
      let two = two_at (λ (z : V). times 0 (passes z).numbers) views id j u v ne at e in let all = kept.numbers 0 in let most = once_le 0 (made passes views) in kept.lead j u e (omega arith))

  module _ (id : ℕ) (v w new : V) (at : get_elem? views id ≡ some v) (one : (passes v).numbers ≡ 0 ∷ []) (w_is : passes w ≡ makes (passes v)) (new_is : passes new ≡ made_by (passes v)) where
    -- the new pass has the next number
    pub next_number : made passes views ≡ (passes v).made
    next_number = alone id v at one

    pub made_split : made passes (set views id w ++ new ∷ []) ≡ made passes views + 1
    made_split = let t = total_set (λ (u : V). (passes u).made) views id v w at in let s = total_snoc (λ (u : V). (passes u).made) (set views id w) new in
        let a : (passes w).made ≡ (passes v).made + 1 = ap (λ (p : Numbering). p.made) w_is in let b : (passes new).made ≡ 0 = ap (λ (p : Numbering). p.made) new_is in omega arith

    pub numbered_split : (passes v).made < workers → Numbered passes workers (set views id w ++ new ∷ [])
    numbered_split room =
        let next = next_number in
        let l : List V = set views id w in
        let same : (passes w).numbers ≡ (passes v).numbers = ap (λ (p : Numbering). p.numbers) w_is in
        let here : (passes new).numbers ≡ (passes v).made ∷ [] = ap (λ (p : Numbering). p.numbers) new_is in
        record {
          few = let more = made_split in omega arith;
          numbers = λ x. let t = total_set (λ (u : V). times x (passes u).numbers) views id v w at in let s = total_snoc (λ (u : V). times x (passes u).numbers) l new in
              let a : times x (passes w).numbers ≡ times x (passes v).numbers = ap (times x) same in
              let b : times x (passes new).numbers ≡ times x (made passes views ∷ []) = ap (times x) here ∙ sym (ap (λ (z : ℕ). times x (z ∷ [])) next) in
              let all = kept.numbers x in rw (made_split, once_more x (made passes views)) (omega arith);
          counted = let t = total_set (λ (u : V). length (passes u).numbers) views id v w at in let s = total_snoc (λ (u : V). length (passes u).numbers) l new in
              let a : length (passes w).numbers ≡ length (passes v).numbers = ap length same in let b : length (passes new).numbers ≡ 1 = ap length here in
              let all = kept.counted in let more = made_split in omega arith;
          lead = each_split LeadsHere views id w new
              (subst Leads (sym w_is) (λ (q : times 0 (passes v).numbers ≡ 0). let first : times 0 (passes v).numbers ≡ 1 = ap (times 0) one in absurd (omega arith)))
              (subst Leads (sym new_is) (λ q. refl)) kept.lead;
        }

  -- ---- a join: one stands for the numbers of both

  module _ (id other : ℕ) (v w both gone : V) (at : get_elem? views id ≡ some v) (ne : ¬ (other ≡ id)) (there : get_elem? (set views id both) other ≡ some w) (both_is : passes both ≡ joined (passes v) (passes w)) (gone_is : passes gone ≡ spent) where
    pub made_join : made passes (set (set views id both) other gone) ≡ made passes views
    made_join = let t = total_joined (λ (u : V). (passes u).made) views id other v w both gone at there in
        let a : (passes both).made ≡ (passes v).made + (passes w).made = ap (λ (p : Numbering). p.made) both_is in let b : (passes gone).made ≡ 0 = ap (λ (p : Numbering). p.made) gone_is in omega arith

    pub numbered_join : Numbered passes workers (set (set views id both) other gone)
    numbered_join =
        let same = made_join in
        let all_of : (passes both).numbers ≡ (passes v).numbers ++ (passes w).numbers = ap (λ (p : Numbering). p.numbers) both_is in
        let none_of : (passes gone).numbers ≡ [] = ap (λ (p : Numbering). p.numbers) gone_is in
        record {
          few = let f = kept.few in omega arith;
          numbers = λ x. let t = total_joined (λ (u : V). times x (passes u).numbers) views id other v w both gone at there in
              let a : times x (passes both).numbers ≡ times x (passes v).numbers + times x (passes w).numbers = ap (times x) all_of ∙ times-append x (passes v).numbers (passes w).numbers in
              let b : times x (passes gone).numbers ≡ 0 = ap (times x) none_of in let all = kept.numbers x in rw same (omega arith);
          counted = let t = total_joined (λ (u : V). length (passes u).numbers) views id other v w both gone at there in
              let a : length (passes both).numbers ≡ length (passes v).numbers + length (passes w).numbers = ap length all_of ∙ length-append (passes v).numbers (passes w).numbers in
              let b : length (passes gone).numbers ≡ 0 = ap length none_of in let all = kept.counted in omega arith;
          lead = each_joined LeadsHere views id other both gone
              (subst Leads (sym both_is) (λ q. let apart = times-append 0 (passes v).numbers (passes w).numbers in
              let a = kept.lead id v at (omega arith) in let b = kept.lead other w (other_there views id other both w ne there) (omega arith) in omega arith))
              (subst Leads (sym gone_is) (λ q. refl)) kept.lead;
        }

  -- ---- which numbers stand where

  -- a view of one number: it is below the count, and no other view stands for it
  pub is_made : (id p : ℕ) (v : V) → get_elem? views id ≡ some v → (passes v).numbers ≡ p ∷ [] → p < made passes views
  is_made id p v at one = let mine : times p (passes v).numbers ≡ 1 = ap (times p) one ∙ once_alone p in let all = kept.numbers p in
      let le = total_at (λ (u : V). times p (passes u).numbers) views id v at in once_inside p (made passes views) (omega arith)

  pub not_there : (id p : ℕ) (v : V) → get_elem? views id ≡ some v → (passes v).numbers ≡ p ∷ [] → (j : ℕ) (u : V) → j ≢ id → get_elem? views j ≡ some u → times p (passes u).numbers ≡ 0
  not_there id p v at one j u ne e = let mine : times p (passes v).numbers ≡ 1 = ap (times p) one ∙ once_alone p in let all = kept.numbers p in
      let two = two_at (λ (z : V). times p (passes z).numbers) views id j u v ne at e in let most = once_le p (made passes views) in omega arith

  -- where one view stands for all workers, no other stands for any
  pub no_other : (id : ℕ) (v : V) → get_elem? views id ≡ some v → ((x : ℕ) → times x (passes v).numbers ≡ once_below x workers) → (j : ℕ) (u : V) → j ≢ id → get_elem? views j ≡ some u → (passes u).numbers ≡ []
  no_other id v at whole j u ne e = none_listed (passes u).numbers (λ x. let two = two_at (λ (z : V). times x (passes z).numbers) views id j u v ne at e in let all = kept.numbers x in
      let up = once_up x (made passes views) workers kept.few in let mine = whole x in omega arith)
