-- The forms of the words of a call: the name of a file, a number, and a key of a tally.
use Rattle.std.specs.Prelude.{ℕ, ◌-◌, ◌^◌, Bool, true, false, ◌==◌, ℤ, pos, neg_ℤ, List, [], ◌∷◌, length, take, drop, map, Option, None, option_map, if◌then◌else◌}
use Rattle.std.specs.Option.{option_or}
use Rattle.std.specs.Str.{bytes_eq}
use Rattle.gcl_core.specs.text.Names.{value_named}
use Rattle.gcl_core.specs.declared.answers.Outcome.TheVariants as outcome
use Rattle.gcl_core.specs.declared.answers.TallyKey.{TallyKey}
use Rattle.gcl_core.specs.declared.answers.TallyKey.TheVariants as key
use Rattle.gcl_core.specs.text.Numbers.{number_in}
use Rattle.zar_cli.specs.declared.keys.TheConstants.{WANTS, BEFORE_VALUES}

abbrev pub CallWord : Type 0
CallWord = List ℕ

-- a file's name is any word that is not empty
abbrev pub is_name : CallWord → Bool
is_name [] = false
is_name (b ∷ bs) = true

-- a value is a number with an optional minus sign, the code 45, before it, and has 64 bits
abbrev pub value_in : CallWord → Option ℤ
value_in [] = None
value_in (b ∷ bs) = if b == 45 then option_map (λ n. neg_ℤ (pos n)) (number_in 0 (2 ^ 63) bs)
    else option_map pos (number_in 0 (2 ^ 63 - 1) (b ∷ bs))

-- the same, also as it is printed
abbrev pub printed_value_in : CallWord → Option ℤ
printed_value_in word =
    value_in (if bytes_eq BEFORE_VALUES.now (take (length BEFORE_VALUES.now) word) then drop (length BEFORE_VALUES.now) word else word)

-- the way to end that has these words
unfoldable pub want_named : CallWord → Option TallyKey
want_named word = value_named (map (λ want. (want.0.now, want.1)) WANTS) word

-- to end in a fault, at a limit or where the bits run out, by its words, and else in a value
abbrev pub key_named : CallWord → Option TallyKey
key_named word = option_or (want_named word) (option_map (λ v. key.Outcome (outcome.Value v)) (printed_value_in word))
