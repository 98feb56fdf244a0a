-- Runs in a row, one after the other, and the runs in a row of the definition, which goes from the front.
use Rattle.std.proofs.Common.{◌≡◌, ℕ, zero, suc, ◌<◌, ◌≤◌, ◌+◌, ◌-◌, pos, ℤ, min, ◌^◌, Bool, List, [], ◌∷◌, ◌++◌, length, get_or, set, refl, sym, ap, subst, ◌∙◌, arith}
use Rattle.std.proofs.lemmas.List.{length-append}
use Rattle.gcl_core.specs.declared.answers.Answer.{Answer}
use Rattle.gcl_core.specs.declared.answers.Answer.TheVariants.{Ended, MoreBits}
use Rattle.gcl_core.specs.declared.answers.Limits.{Limits}
use Rattle.gcl_core.specs.declared.answers.Outcome.{Outcome}
use Rattle.gcl_core.specs.meaning.Reading.{Reading, gives, more_bits, after}
use Rattle.gcl_core.specs.meaning.Runs.{answer_of, capped, left_by, reads, run_on}
use Rattle.gcl_core.specs.meaning.Syntax.{SourceProgram}
use Rattle.many_runs.specs.InARow.{in_a_row}
use Rattle.sampler_run.specs.Leaving.{HasRead}
use Rattle.sampler_run.specs.Telling.{used_in}
use Rattle.stream_runs.specs.Ends.{end_of, value_of}
use Rattle.stream_runs.proofs.Slots.{written_more}
use Rattle.bit_runs.specs.Rows.{AreInARow, AreOf, left_after}
use Rattle.bit_runs.proofs.Alike.{value_alike, end_alike}

-- ---- what runs in a row give

module _ (run : List Bool → Reading Outcome) where
  -- the first of them comes first
  from_front : (k : ℕ) (w : List Bool) → left_after run (suc k) w ≡ left_after run k (left_by (run w))
  from_front zero w = refl
  from_front (suc k) w = ap (λ v. left_by (run v)) (from_front k w)

  -- each gives its outcome on what those before it left
  abbrev Each : ℕ → List Bool → List Outcome → List Bool → Type 0
  Each n w xs left = (length xs ≡ n) × (left ≡ left_after run n w)
      × ((k : ℕ) (d : Outcome) → k < n → run (left_after run k w) ≡ gives (get_or xs k d) (left_after run (suc k) w))

  one_before : (n : ℕ) (w : List Bool) (x : Outcome) (rest : List Bool) (ys : List Outcome) (left : List Bool) → run w ≡ gives x rest
      → Each n rest ys left → Each (suc n) w (x ∷ ys) left
  one_before n w x rest ys left is each = (ap suc each.0, each.1 ∙ sym (moved n), place)
    where
      by : left_by (run w) ≡ rest
      by = ap left_by is

      moved : (k : ℕ) → left_after run (suc k) w ≡ left_after run k rest
      moved k = from_front k w ∙ ap (left_after run k) by

      place : (k : ℕ) (d : Outcome) → k < suc n → run (left_after run k w) ≡ gives (get_or (x ∷ ys) k d) (left_after run (suc k) w)
      place zero d lt = is ∙ ap (gives x) (sym by)
      place (suc k) d lt = ap run (moved k) ∙ each.2 k d (omega (arith, lt)) ∙ ap (gives (get_or ys k d)) (sym (moved (suc k)))

  rest_given : (n : ℕ) (w : List Bool) (x : Outcome) (rest : List Bool) (r : Reading (List Outcome)) (xs : List Outcome) (left : List Bool)
      → run w ≡ gives x rest → ((ys : List Outcome) (l : List Bool) → r ≡ gives ys l → Each n rest ys l)
      → after r (λ ys l. gives (x ∷ ys) l) ≡ gives xs left → Each (suc n) w xs left
  rest_given n w x rest more_bits xs left is each e = absurd (cc)
  rest_given n w x rest (gives ys l) xs left is each e =
      let same : x ∷ ys ≡ xs = cc in
      let same_left : l ≡ left = cc in
      subst (λ zs. Each (suc n) w zs left) same (subst (Each (suc n) w (x ∷ ys)) same_left (one_before n w x rest ys l is (each ys l refl)))

  all_given : (n : ℕ) (w : List Bool) (r : Reading Outcome) (xs : List Outcome) (left : List Bool)
      → run w ≡ r → ((rest : List Bool) (ys : List Outcome) (l : List Bool) → in_a_row run n rest ≡ gives ys l → Each n rest ys l)
      → after r (λ x rest. after (in_a_row run n rest) (λ ys l. gives (x ∷ ys) l)) ≡ gives xs left → Each (suc n) w xs left
  all_given n w more_bits xs left is each e = absurd (cc)
  all_given n w (gives x rest) xs left is each e = rest_given n w x rest (in_a_row run n rest) xs left is (each rest) e

  pub row_given : (n : ℕ) (w : List Bool) (xs : List Outcome) (left : List Bool) → in_a_row run n w ≡ gives xs left → Each n w xs left
  row_given zero w xs left e =
      let none : [] ≡ xs = cc in
      let same : w ≡ left = cc in
      (ap length (sym none), sym same, λ k d lt. absurd (omega (arith, lt)))
  row_given (suc n) w xs left e = all_given n w (run w) xs left refl (row_given n) e

-- ---- what a loop has written so far

-- k places are right, and so many bits were read
pub record IsSoFar (p : SourceProgram) (l : Limits) (k : ℕ) (bits left : List Bool) (values : List ℤ) (ends : List ℕ) (read : ℕ) : Type 0 where
  pub left_is : left ≡ left_after (reads p l) k bits
  pub values_are : (j : ℕ) → j < k → get_or values j (pos 0) ≡ value_of (run_on p l (left_after (reads p l) j bits))
  pub ends_are : (j : ℕ) → j < k → get_or ends j 0 ≡ end_of (run_on p l (left_after (reads p l) j bits))
  pub few : length left ≤ length bits
  pub read_is : read ≡ capped (length bits - length left)

pub so_far_none : (p : SourceProgram) (l : Limits) (bits : List Bool) (values : List ℤ) (ends : List ℕ) → IsSoFar p l 0 bits bits values ends 0
so_far_none p l bits values ends = record {
  left_is = refl;
  values_are = λ j lt. absurd (omega (arith, lt));
  ends_are = λ j lt. absurd (omega (arith, lt));
  few = omega arith;
  read_is = omega arith;
}

capped_more : (read used all old new taken : ℕ) → old ≤ all → old ≡ taken + new → read ≡ capped (all - old) → used ≡ capped (0 + taken)
    → min (read + used) (2 ^ 64 - 1) ≡ capped (all - new)
capped_more read used all old new taken few split read_is used_is = omega (arith, few, split, read_is, used_is)

module _ (p : SourceProgram) (l : Limits) (k : ℕ) (bits left : List Bool) (values : List ℤ) (ends : List ℕ) (read : ℕ)
    (so : IsSoFar p l k bits left values ends read) where
  pub so_far_more : (a : Answer) (next taken : List Bool) (v : ℤ) (e read' : ℕ) → k < length values → k < length ends → a ≡ run_on p l left
      → next ≡ left_by (reads p l left) → left ≡ taken ++ next → used_in a ≡ capped (0 + length taken) → v ≡ value_of a → e ≡ end_of a
      → read' ≡ min (read + used_in a) (2 ^ 64 - 1) → IsSoFar p l (k + 1) bits next (set values k v) (set ends k e) read'
  so_far_more a next taken v e read' in_values in_ends is left_next split used v_is e_is read_is =
      let answered : a ≡ run_on p l (left_after (reads p l) k bits) = is ∙ ap (run_on p l) so.left_is in
      let parts : length left ≡ length taken + length next = ap length split ∙ length-append taken next in
      let one : suc k ≡ k + 1 = omega arith in
      record {
        left_is = left_next ∙ ap (λ w. left_by (reads p l w)) so.left_is ∙ ap (λ n. left_after (reads p l) n bits) one;
        values_are = written_more (λ j. value_of (run_on p l (left_after (reads p l) j bits))) values (pos 0) k v in_values (v_is ∙ ap value_of answered) so.values_are;
        ends_are = written_more (λ j. end_of (run_on p l (left_after (reads p l) j bits))) ends 0 k e in_ends (e_is ∙ ap end_of answered) so.ends_are;
        few = omega (arith, so.few, parts);
        read_is = read_is ∙ capped_more read (used_in a) (length bits) (length left) (length next) (length taken) so.few parts so.read_is used;
      }

  -- all places are right
  pub so_far_all : k ≡ length values → length ends ≡ length values → AreInARow p l bits values ends read
  so_far_all all alike = record {
    alike = alike;
    values_are = λ j lt. so.values_are j (omega (arith, all, lt));
    ends_are = λ j lt. so.ends_are j (omega (arith, all, lt));
    read_is = so.read_is ∙ ap (λ w. capped (length bits - length w)) (so.left_is ∙ ap (λ n. left_after (reads p l) n bits) all);
    row = λ xs rest e.
        let each = row_given (reads p l) (length values) bits xs rest e in
        let answered : (j : ℕ) (d : Outcome) → j < length values
        → run_on p l (left_after (reads p l) j bits) ≡ answer_of (left_after (reads p l) j bits) (gives (get_or xs j d) (left_after (reads p l) (suc j) bits))
        = λ j d lt. ap (answer_of (left_after (reads p l) j bits)) (each.2 j d lt) in (
          record {
            long = each.0;
            values_are = λ j d lt. so.values_are j (omega (arith, all, lt)) ∙ ap value_of (answered j d lt) ∙ value_alike (get_or xs j d) _ 0;
            ends_are = λ j d lt. so.ends_are j (omega (arith, all, lt)) ∙ ap end_of (answered j d lt) ∙ end_alike (get_or xs j d) _ 0;
          },
          each.1,
        );
  }

-- ---- what one run does

-- what is left is what the reading leaves
pub left_read : (a : Answer) (left : List Bool) (r : Reading Outcome) → HasRead a left r → left ≡ left_by r
left_read (Ended x n) left r h = ap left_by (sym h)
left_read (MoreBits n) left r h = h.1 ∙ ap left_by (sym h.0)
