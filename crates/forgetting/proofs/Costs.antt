-- What a body costs is what it costs with its result behind it, which costs nothing.
use Rattle.std.proofs.Common.{◌≡◌, ◌∙◌, ℕ, Some, Ok, Err, sym, ap, refl}
use Rattle.std.proofs.Math.Path.{fun_ext}
use Rattle.gcl_core.specs.declared.answers.Limits.{Limits}
use Rattle.gcl_core.specs.meaning.Syntax.{Expression, SourceProgram}
use Rattle.gcl_core.specs.meaning.Value.{Value, value_of}
use Rattle.gcl_core.specs.weighing.Fractions.{zero_share, times, power_sum}
use Rattle.gcl_core.specs.weighing.Mass.{failed_mass}
use Rattle.gcl_core.proofs.Plays.{Play, ended}
use Rattle.cost_law.specs.ExpectedBits.{end_bits, block_bits, expected_bits}
use Rattle.cost_law.proofs.BlockCosts.{play_bits, bits_then, play_block}
use Rattle.forgetting.specs.Forgetful.{forgetful_of}
use Rattle.forgetting.proofs.Trimmed.{same_costs}
use Rattle.forgetting.proofs.Results.{value_end, with_result, start, play, forgetful_play, results_same, same_meaning}

no_bits : (v : Value) → end_bits (value_end v) (λ s. zero_share) ≡ zero_share
no_bits (Ok v) = refl
no_bits (Err f) = refl

bits_finish : (result : Expression) (r : ℕ) (p : Play) → play_bits r (with_result result p) (λ s. zero_share) ≡ play_bits r p (λ s. zero_share)
bits_finish result r p = bits_then r p (λ s. ended (value_end (value_of result s))) (λ s. zero_share) ∙ ap (play_bits r p) (fun_ext (λ s. no_bits (value_of result s)))

module _ (p : SourceProgram) (n r : ℕ) where
  same_bits : block_bits n r (forgetful_of p).body (start p) (λ s. zero_share) ≡ block_bits n r p.body (start p) (λ s. zero_share)
  same_bits =
      ap (λ bits. bits (λ s. zero_share)) (sym (play_block r n (forgetful_of p).body (start p)))
      ∙ sym (bits_finish p.result r (forgetful_play p n))
      ∙ ap (λ bits. bits (λ s. zero_share)) (same_costs r _ _ (sym (results_same p n)))
      ∙ bits_finish p.result r (play p n)
      ∙ ap (λ bits. bits (λ s. zero_share)) (play_block r n p.body (start p))

pub same_expected : (p : SourceProgram) (l : Limits) → expected_bits (forgetful_of p) l ≡ expected_bits p l
same_expected p l =
    ap (λ b. times b (power_sum (failed_mass (forgetful_of p) l.turns (Some l.attempts)) l.rounds)) (same_bits p l.turns l.attempts)
    ∙ ap (λ f. times (block_bits l.turns l.attempts p.body (start p) (λ s. zero_share)) (power_sum f l.rounds)) ((same_meaning p).failed l.turns (Some l.attempts))
