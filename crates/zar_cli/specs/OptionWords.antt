-- The options among the words of a call: each with its value behind it, or alone, in any order, and each once.
use Rattle.std.specs.Prelude.{ℕ, ◌+◌, ◌-◌, nat_le, Bool, true, false, ◌&&◌, ◌||◌, List, [], ◌∷◌, ◌++◌, Option, Some, None, is_some, option_map, unwrap_or, if◌then◌else◌}
use Rattle.std.specs.List.{list_any}
use Rattle.std.specs.Option.{option_or, option_and_then}
use Rattle.std.specs.Str.{bytes_eq}
use Rattle.gcl_core.specs.text.Names.{value_named}
use Rattle.gcl_core.specs.declared.answers.Limits.{Limits}
use Rattle.gcl_core.specs.declared.answers.TallyKey.{TallyKey}
use Rattle.gcl_core.specs.declared.answers.TallyKey.TheVariants as key
use Rattle.stream_runs.specs.declared.range.SeedRange.{SeedRange}
use Rattle.stream_runs.specs.declared.range.TheConstants.{MOST_STREAMS}
use Rattle.weighted_roll.specs.Listed.{weights_in}
use Rattle.zar_cli.specs.declared.command.Source.{Source}
use Rattle.zar_cli.specs.declared.command.Source.TheVariants as source
use Rattle.zar_cli.specs.declared.settings.Form.{Form}
use Rattle.zar_cli.specs.declared.settings.Form.TheVariants as form
use Rattle.zar_cli.specs.declared.settings.TheConstants.{BITS, SEED, STREAM, BUDGET, FROM, TO, WORKERS, TURNS, ATTEMPTS, ROUNDS, HOW_LONG, WANT, USUAL_LIMIT, USUAL_MASS_TURNS, USUAL_BUDGET, USUAL_WORKERS}
use Rattle.gcl_core.specs.text.Numbers.{number_in}
use Rattle.zar_cli.specs.Forms.{CallWord, is_name, key_named}

-- an option: its word, and the form of the value behind it
abbrev pub Setting : Type 0
Setting = CallWord × Form

-- an option as the code has it
abbrev pub of_code : record { now : List ℕ } × Form → Setting
of_code s = (s.0.now, s.1)

-- a word is of this form
abbrev pub fits : Form → CallWord → Bool
fits form.Name word = is_name word
fits (form.Number least most) word = is_some (number_in least most word)
fits form.Wanted word = is_some (key_named word)
fits form.Weights word = is_some (weights_in word)
fits form.Alone word = false

-- bits of a file and bits of a stream exclude each other, and so do how long a run takes and a limit
abbrev pub excludes : CallWord → CallWord → Bool
excludes a b =
    (bytes_eq BITS.0.now a && (bytes_eq SEED.0.now b || bytes_eq STREAM.0.now b || bytes_eq BUDGET.0.now b))
    || (bytes_eq HOW_LONG.0.now a && (bytes_eq TURNS.0.now b || bytes_eq ATTEMPTS.0.now b || bytes_eq ROUNDS.0.now b))

-- one option rules out the other, which may be the same
abbrev pub bars : CallWord → CallWord → Bool
bars other name = bytes_eq other name || excludes other name || excludes name other

-- what options a command was given, in order: each with the word behind it, unless it stands alone or is the last word
abbrev pub Options : Type 0
Options = List (CallWord × Option CallWord)

abbrev pub no_options : Options
no_options = []

-- no value is behind an option of this form
abbrev pub is_alone : Option Form → Bool
is_alone (Some form.Alone) = true
is_alone form = false

-- words cut into the options that they give, by those that the command takes
abbrev pub given : List Setting → List CallWord → Options
given takes [] = []
given takes (name ∷ []) = (name, None) ∷ []
given takes (name ∷ value ∷ words) =
    if is_alone (value_named takes name) then (name, None) ∷ given takes (value ∷ words) else (name, Some value) ∷ given takes words

-- ---- the first that is wrong

-- the option was given before, or one that was excludes it
abbrev pub is_barred : CallWord → Options → Bool
is_barred name before = list_any (λ other. bars other.0 name) before

-- the form of the value behind an option, if it is one of these and not barred
abbrev pub form_behind : List Setting → Options → CallWord → Option Form
form_behind takes before name = if is_barred name before then None else value_named takes name

-- how many words from the name on the wrong one stands, by the form of the value: 0 for the name itself
abbrev pub wrong_behind : Option Form → Option CallWord → Option ℕ
wrong_behind None value = Some 0
wrong_behind (Some form) None = if is_alone (Some form) then None else Some 1
wrong_behind (Some form) (Some value) = if fits form value then None else Some 1

abbrev pub words_of : Option CallWord → ℕ
words_of None = 1
words_of (Some value) = 2

-- the place of the first wrong word of options that begin at place i, behind those before them
abbrev pub wrong_option : List Setting → ℕ → Options → Options → Option ℕ
wrong_option takes i before [] = None
wrong_option takes i before (o ∷ rest) =
    option_or (option_map (λ k. i + k) (wrong_behind (form_behind takes before o.0) o.1))
    (wrong_option takes (i + words_of o.1) (before ++ o ∷ []) rest)

-- ---- what the options give, where none is wrong

-- the word behind an option, where the option is given and a word is behind it
abbrev pub value_of : CallWord → Options → Option CallWord
value_of word o = unwrap_or (value_named o word) None

abbrev pub is_given : Setting → Options → Bool
is_given s o = is_some (value_named o s.0)

abbrev pub number_of : Form → CallWord → Option ℕ
number_of (form.Number least most) word = number_in least most word
number_of _ word = None

abbrev pub number_given : Setting → Options → Option ℕ
number_given s o = option_and_then (number_of s.1) (value_of s.0 o)

abbrev pub number_or : ℕ → Setting → Options → ℕ
number_or usual s o = unwrap_or (number_given s o) usual

-- the limits of a run, each the usual where it is not given
abbrev pub limits_of : Options → Limits
limits_of o = record {
  turns = number_or USUAL_LIMIT (of_code TURNS) o;
  attempts = number_or USUAL_LIMIT (of_code ATTEMPTS) o;
  rounds = number_or USUAL_LIMIT (of_code ROUNDS) o;
}

-- the limits of expected bits, if one of attempts and one of rounds are given
abbrev pub limits_if_both : ℕ → Option ℕ → Option ℕ → Option Limits
limits_if_both turns (Some attempts) (Some rounds) = Some (record { turns = turns; attempts = attempts; rounds = rounds })
limits_if_both turns attempts rounds = None

abbrev pub cost_limits : Options → Option Limits
cost_limits o = limits_if_both (number_or USUAL_MASS_TURNS (of_code TURNS) o) (number_given (of_code ATTEMPTS) o) (number_given (of_code ROUNDS) o)

-- where bits come from, where that is given
abbrev pub has_source : Options → Bool
has_source o = is_given (of_code BITS) o || is_given (of_code SEED) o

abbrev pub source_from : Option CallWord → Source → Source
source_from (Some bits) stream = source.File bits
source_from None stream = stream

abbrev pub source_of : Options → Source
source_of o = source_from (value_of BITS.0.now o)
    (source.Stream (number_or 0 (of_code SEED) o) (number_or 0 (of_code STREAM) o) (number_or USUAL_BUDGET (of_code BUDGET) o))

-- the streams of a range
abbrev pub range_of : Options → SeedRange
range_of o = record {
  seed = number_or 0 (of_code SEED) o;
  from = number_or 0 (of_code FROM) o;
  to = number_or 0 (of_code TO) o;
  budget = number_or USUAL_BUDGET (of_code BUDGET) o;
  workers = number_or USUAL_WORKERS (of_code WORKERS) o;
}

-- their order, and that they are no more than can be
abbrev pub is_range : SeedRange → Bool
is_range r = nat_le r.from r.to && nat_le (r.to - r.from) MOST_STREAMS

-- the way to end that a hunt wants
abbrev pub wanted : Options → TallyKey
wanted o = unwrap_or (option_and_then key_named (value_of WANT.0.now o)) key.MoreBits
