-- Rows and their keys.
use Rattle.std.proofs.Common.{◌≡◌, ℕ, zero, suc, ◌+◌, ◌<◌, Bool, true, false, List, [], ◌∷◌, length, drop, get_or, refl, ap, arith}
use Rattle.std.specs.Prelude.{nat_lt, ◌&&◌, if◌then◌else◌}
use Rattle.std.proofs.lemmas.Bool.Decides.{nat_tests}
use Rattle.gcl_core.specs.declared.answers.TallyKey.{TallyKey}
use Rattle.passes.specs.Total.{total}
use Rattle.gcl_core.specs.meaning.Order.{is_key_before}
use Rattle.tally_range.specs.Rows.{Rows, counted_at}
use Rattle.tally_range.specs.Tallies.{is_before_all, counts_are_above_zero}
use Rattle.gcl_core.proofs.Booleans.{both}
use Rattle.gcl_core.proofs.OutcomeOrder.{key_before_trans}
use Rattle.gcl_core.proofs.SameOutcomes.{key_itself}

pub join : (a b : Bool) → a ≡ true → b ≡ true → a && b ≡ true
join true b h i = i
join false b h i = absurd (cc)

pub before_all_from : (a b : TallyKey) (rows : Rows) → is_key_before a b ≡ true → is_before_all b rows ≡ true → is_before_all a rows ≡ true
before_all_from a b [] h i = refl
before_all_from a b (r ∷ rows) h i = let p = both (is_key_before b r.0) (is_before_all b rows) i in
    join (is_key_before a r.0) (is_before_all a rows) (key_before_trans a b r.0 h p.0) (before_all_from a b rows h p.1)

pub before_at : (a : TallyKey) (rows : Rows) (i : ℕ) (d : TallyKey × ℕ) → i < length rows → is_before_all a rows ≡ true → is_key_before a (get_or rows i d).0 ≡ true
before_at a [] i d lt h = absurd (omega arith)
before_at a (r ∷ rows) zero d lt h = (both (is_key_before a r.0) (is_before_all a rows) h).0
before_at a (r ∷ rows) (suc i) d lt h = before_at a rows i d (omega arith) (both (is_key_before a r.0) (is_before_all a rows) h).1

pub above_at : (rows : Rows) (i : ℕ) (d : TallyKey × ℕ) → i < length rows → counts_are_above_zero rows ≡ true → 0 < (get_or rows i d).1
above_at [] i d lt h = absurd (omega arith)
above_at (r ∷ rows) zero d lt h = let q = both (nat_lt 0 r.1) (counts_are_above_zero rows) h in grind (arith, nat_tests)
above_at (r ∷ rows) (suc i) d lt h = above_at rows i d (omega arith) (both (nat_lt 0 r.1) (counts_are_above_zero rows) h).1

pub counted_itself : (key : TallyKey) (n : ℕ) → counted_at key n key ≡ n
counted_itself key n = ap (λ (b : Bool). if b then n else 0) (key_itself key)

-- a list of tables is read one at a time
module _ (f : Rows → ℕ) where
  pub total_step : (tables : List Rows) (i : ℕ) (d : Rows) → i < length tables → total f (drop i tables) ≡ f (get_or tables i d) + total f (drop (i + 1) tables)
  total_step [] i d lt = absurd (omega arith)
  total_step (t ∷ ts) zero d lt = refl
  total_step (t ∷ ts) (suc i) d lt = let h = total_step ts i d (omega arith) in let e : suc i + 1 ≡ suc (i + 1) = omega arith in rw e h
