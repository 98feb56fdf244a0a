use Rattle.std.proofs.Common.{◌≡◌, ℕ, List, Option, Some, Ok, refl, subst}
use Rattle.gcl_core.specs.declared.answers.Limits.{Limits}
use Rattle.gcl_core.specs.meaning.Runs.{run_on}
use Rattle.gcl_core.specs.meaning.Syntax.{SourceProgram}
use Rattle.gcl_core.specs.text.Texts.{Spells}
use Rattle.zar_io.specs.FileBits.{file_bits}
use Rattle.zar_cli.specs.declared.command.Source.TheVariants.{File}
use Rattle.zar_cli.specs.declared.said.Said.TheVariants.{Answered}
use Rattle.zar_cli.specs.ByStages.{Output, reading, on_bits, if_spelled}
use Rattle.zar_cli.specs.Sampled.{SaysSample}
use Rattle.zar_cli.specs.Forms.{CallWord}
use Rattle.zar_cli.proofs.laws.zar_samples_exactly.Goals as goal

-- what is said of a file of bits, from what is said of the text
said_of : (text : List ℕ) (p : SourceProgram) (l : Limits) → Spells text p → (file : CallWord → Option (List ℕ)) (program bits : CallWord) (bytes : List ℕ) (output : Output) →
    file program ≡ Some text → file bits ≡ Some bytes → reading (file program) (if_spelled (λ q. SaysSample file q (File bits) l)) output → output ≡ Ok (Answered (run_on p l (file_bits bytes)))
said_of text p l spells file program bits bytes output e d is =
    let of_text = subst (λ b. reading b (if_spelled (λ q. SaysSample file q (File bits) l)) output) e is in
    subst (λ b. on_bits b (λ w. Answered (run_on p l w)) output) d (of_text.program p spells)

pub returns : goal.returns
returns c text p l spells =
    let checked = c.spelled_programs_are_checked.ensures text p spells in
    record {
      says = said_of text p l spells;
      in_order = c.runs_read_in_order.ensures p l (run_on p l) (λ w. refl);
      weighs = c.runs_weigh_exactly.ensures p l (run_on p l) checked (λ w. refl);
      counts = c.strings_are_counted.ensures.masses p l (run_on p l) checked (λ w. refl);
      cost = c.limits_cost_what_they_weigh.ensures p l checked;
    }
