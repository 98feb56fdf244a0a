-- The units of a round stand below its masses.
use Rattle.std.proofs.Common.{◌≡◌, ℕ, ◌+◌, ◌*◌, ◌≤◌, ◌<◌, Bool, cond, [], ◌∷◌, length, Option, arith, ap}
use Rattle.std.proofs.Math.Nat.{mul-le-mul_left}
use Rattle.numbers.specs.declared.units.TheConstants.{ALL}
use Rattle.gcl_core.specs.meaning.Bounds.{BlockIsWeighed}
use Rattle.gcl_core.specs.meaning.Syntax.{SourceProgram}
use Rattle.gcl_core.specs.meaning.Value.{State}
use Rattle.gcl_core.specs.meaning.Outcomes.{zeros}
use Rattle.gcl_core.specs.meaning.Blocks.{End, on}
use Rattle.gcl_core.specs.weighing.Fractions.{one}
use Rattle.gcl_core.specs.weighing.WeightedEnds.{sure, weighted_ends}
use Rattle.gcl_core.specs.weighing.Mass.{sum_of}
use Rattle.table_flow.specs.Tables.{block_flow, peak_of}
use Rattle.table_flow.specs.Width.{round_width}
use Rattle.table_flow.specs.Scale.{whole}
use Rattle.table_flow.proofs.AtWidth.{at_width}
use Rattle.table_flow.proofs.Masses.{sum_held}
use Rattle.table_flow.proofs.Wholes.{whole_from}
use Rattle.units_law.specs.Below.{IsBelow, FlowIsBelow}
use Rattle.units_law.specs.Rounding.{Rounding, RoundsDown}
use Rattle.units_law.specs.Rounds.{StandsBelow, round_units, end_units_of}
use Rattle.units_law.proofs.Orders.{from_left}
use Rattle.units_law.proofs.UnitsBelow.{block_below}

pub begins_below : (N : ℕ) (s : State) → IsBelow N ((s, ALL) ∷ []) (sure s)
begins_below N s G =
    let e : whole N one ≡ N = (whole_from N one N (omega arith) (omega arith)).0 in
    let a = ap (λ x. ALL * (x * G s)) e in
    omega arith

module _ (cut : Rounding) (c : RoundsDown cut) (p : SourceProgram) (n : ℕ) (r : Option ℕ) (w : BlockIsWeighed p.body) where
  abbrev start : State
  start = zeros (length p.names)

  pub round_below : FlowIsBelow (round_width p n r) (peak_of p n r) (round_units cut p n r) (block_flow n r p.body (sure start))
  round_below = block_below cut c (round_width p n r) (peak_of p n r) n (at_width p n r w).positive r p.body w ((start, ALL) ∷ []) (sure start) (at_width p n r w).within (begins_below (round_width p n r) start)

  -- whatever ends are meant
  pub ends_below : (is : End → Bool) → StandsBelow (end_units_of is (round_units cut p n r)) (sum_of is (weighted_ends n r p.body start))
  ends_below is =
      let a = at_width p n r w in
      let b = round_below in
      let q = sum_of is (weighted_ends n r p.body start) in
      cleared (round_width p n r) ALL q.0 q.1 _ _ _ _ a.positive (b.next (λ s. cond (is (on s)) 1 0)) (b.ended (λ x. cond (is x) 1 0)) (sum_held n r (round_width p n r) (peak_of p n r) p.body start a.within is)
    where
      cleared : (N S n d a b x y : ℕ) → 0 < N → N * a ≤ S * x → N * b ≤ S * y → d * (x + y) ≡ n * N → (a + b) * d ≤ n * S
      cleared N S n d a b x y p h k e =
          let u = mul-le-mul_left d h in
          let v = mul-le-mul_left d k in
          let z = ap (λ t. S * t) e in
          from_left N ((a + b) * d) (n * S) p (omega arith)
