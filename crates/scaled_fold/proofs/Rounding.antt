-- A part of a number, rounded up.
use Rattle.std.proofs.Common.{◌≡◌, ℕ, ◌+◌, ◌*◌, ◌/◌, ◌%◌, ◌<◌, ◌≤◌, sym, ◌∙◌, ⊎_elim, arith}
use Rattle.std.specs.Int.{div_ceil}
use Rattle.std.proofs.lemmas.Bool.{cases_lt}
use Rattle.std.proofs.lemmas.Nat.{mul-mod_first, div-add-mod'}
use Rattle.std.proofs.Math.Nat.{mul-le-mul_left}

module _ (w c b : ℕ) where
  pub even : w % b * c % b ≡ 0 → w * c / b ≡ div_ceil (w * c) b
  even e = let x : w * c % b ≡ 0 = sym (mul-mod_first w c b) ∙ e in omega (arith, x)

  pub odd : ¬ (w % b * c % b ≡ 0) → w * c / b + 1 ≡ div_ceil (w * c) b
  odd h = let x : ¬ (w * c % b ≡ 0) = λ e. h (mul-mod_first w c b ∙ e) in omega (arith, x)

  -- then it is less than all
  pub less : c ≤ b → ¬ (w % b * c % b ≡ 0) → w * c / b < w
  less l h =
      let x : ¬ (w * c % b ≡ 0) = λ e. h (mul-mod_first w c b ∙ e) in
      let d = div-add-mod' (w * c) b in
      let m = mul-le-mul_left w l in
      ⊎_elim (λ (p : w * c / b < w). p) (λ (p : w ≤ w * c / b). absurd (let y = mul-le-mul_left b p in omega (arith, x, d, m, y))) (cases_lt (w * c / b) w)
