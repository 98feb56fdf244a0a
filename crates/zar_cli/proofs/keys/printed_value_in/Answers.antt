use Rattle.std.proofs.Common.{◌≡◌, ◌≢◌, ◌∙◌, ◌++◌, Bool, true, false, List, ℕ, length, take, drop, refl, sym, ap, if◌then◌else◌}
use Rattle.std.specs.Str.{bytes_eq}
use Rattle.std.specs.Bool.{Decides}
use Rattle.std.proofs.lemmas.List.{take-append-drop}
use Rattle.std.proofs.lemmas.Slice.Eq.{bytes_eq-Decides}
use Rattle.zar_cli.specs.declared.keys.TheConstants.{BEFORE_VALUES}
use Rattle.zar_cli.specs.Forms.{CallWord, value_in}
use Rattle.zar_cli.proofs.keys.printed_value_in.Goals as goal

no_front : (front word : List ℕ) (same : Bool) → Decides same (front ≡ take (length front) word) → ((rest : List ℕ) → word ≢ front ++ rest) → value_in word ≡ value_in (if same then drop (length front) word else word)
no_front front word true decides none =
    let front_and_rest = sym (take-append-drop (length front) word) ∙ ap (λ taken. taken ++ drop (length front) word) (sym (decides.0 refl)) in
    absurd (none (drop (length front) word) front_and_rest)
no_front front word false decides none = refl

pub returns-in-None : goal.returns-in-None
returns-in-None c = c.value_in-in-None.ensures ∙ no_front BEFORE_VALUES.now c.args.word.now (bytes_eq BEFORE_VALUES.now (take (length BEFORE_VALUES.now) c.args.word.now)) (bytes_eq-Decides _ _) c.in-None.ensures.cases
