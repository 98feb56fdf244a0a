-- The lines that are printed, one for each answer and each refusal. This project's own format: words of plain letters, numbers in
-- decimal digits with a minus sign before one below 0, and one line feed, the byte 10, at the end.
use Rattle.std.specs.Prelude.{ℕ, List, [], ◌++◌, Option, Some, None, codes, decimal, map, slice_get, unwrap_or}
use Rattle.std.specs.Fmt.{signed_decimal}
use Rattle.gcl_core.specs.declared.answers.Fault.TheVariants.{Overflow, ZeroDivisor, BadBound}
use Rattle.gcl_core.specs.declared.answers.Limit.TheVariants.{Turns, Attempts, Rounds}
use Rattle.gcl_core.specs.declared.answers.Outcome.{Outcome}
use Rattle.gcl_core.specs.declared.answers.Outcome.TheVariants.{Value, Fault, Limit}
use Rattle.gcl_core.specs.declared.answers.Answer.{Answer}
use Rattle.gcl_core.specs.declared.answers.Answer.TheVariants.{Ended, MoreBits}
use Rattle.gcl_core.specs.declared.answers.TallyKey.{TallyKey}
use Rattle.gcl_core.specs.declared.answers.TallyKey.TheVariants as key
use Rattle.gcl_core.specs.declared.refusals.TheConstants.{CODE_WORDS}
use Rattle.dice_roll.specs.declared.answers.Roll.{Roll}
use Rattle.dice_roll.specs.declared.answers.Roll.TheVariants as rolled
use Rattle.report_text.specs.declared.counts.Count.{Count}
use Rattle.report_text.specs.declared.counts.Count.TheVariants.{Statements, Bytes, Streams}
use Rattle.report_text.specs.declared.decimals.Rounding.TheVariants.{Down, Up, Nearest}
use Rattle.report_text.specs.declared.refusals.Refusal.{Refusal}
use Rattle.report_text.specs.declared.refusals.Refusal.TheVariants.{Coded, Read, Write, Memory, NoFile}
use Rattle.report_text.specs.Decimals.{decimals_text}

abbrev pub outcome_text : Outcome → List ℕ
outcome_text (Value v) = codes "value " ++ signed_decimal v
outcome_text (Fault Overflow) = codes "fault overflow"
outcome_text (Fault ZeroDivisor) = codes "fault zero divisor"
outcome_text (Fault BadBound) = codes "fault bad bound"
outcome_text (Limit Turns) = codes "limit turns"
outcome_text (Limit Attempts) = codes "limit attempts"
outcome_text (Limit Rounds) = codes "limit rounds"

-- an outcome with the number of bits that its run read, or that number where the bits ran out
abbrev pub answer_text : Answer → List ℕ
answer_text (Ended outcome bits) = outcome_text outcome ++ codes " bits " ++ decimal bits ++ codes "\n"
answer_text (MoreBits bits) = codes "more bits " ++ decimal bits ++ codes "\n"

-- how many statements and names an accepted program has
abbrev pub accepted_text : ℕ → ℕ → List ℕ
accepted_text statements names = codes "ok statements " ++ decimal statements ++ codes " names " ++ decimal names ++ codes "\n"

abbrev pub fraction_text : ℕ × ℕ → List ℕ
fraction_text f = decimal f.0 ++ codes "/" ++ decimal f.1

-- Behind a fraction stand d decimals, if any are wanted: to the nearest, but those of bounds outwards.

-- an outcome with its mass, a fraction
abbrev pub mass_text : ℕ → Outcome → ℕ × ℕ → List ℕ
mass_text d outcome mass =
    outcome_text outcome ++ codes " mass " ++ fraction_text mass ++ decimals_text Nearest d mass ++ codes "\n"

-- two bounds, fractions
abbrev pub bounds_text : ℕ → ℕ × ℕ → ℕ × ℕ → List ℕ
bounds_text d low high =
    codes " from " ++ fraction_text low ++ decimals_text Down d low ++ codes " to " ++ fraction_text high ++ decimals_text Up d high ++ codes "\n"

-- an outcome with its bounds
abbrev pub bound_text : ℕ → Outcome → ℕ × ℕ → ℕ × ℕ → List ℕ
bound_text d outcome low high = outcome_text outcome ++ bounds_text d low high

-- what all others have at most
abbrev pub other_text : ℕ → ℕ × ℕ → List ℕ
other_text d high = codes "other" ++ bounds_text d (0, 1) high

-- the share of the strings on which a run needs more
abbrev pub undecided_text : ℕ → ℕ × ℕ → List ℕ
undecided_text d share = codes "undecided mass " ++ fraction_text share ++ decimals_text Nearest d share ++ codes "\n"

-- the mass with which a program runs for ever, a fraction
abbrev pub endless_text : ℕ → ℕ × ℕ → List ℕ
endless_text d mass = codes "endless mass " ++ fraction_text mass ++ decimals_text Nearest d mass ++ codes "\n"

-- an expected number of bits, a fraction
abbrev pub cost_text : ℕ → ℕ × ℕ → List ℕ
cost_text d bits = codes "bits " ++ fraction_text bits ++ decimals_text Nearest d bits ++ codes "\n"

-- that the expected number of bits has no bound
abbrev pub unbounded_text : List ℕ
unbounded_text = codes "bits unbounded\n"

-- that a run ends in an outcome, or that it needs more bits
abbrev pub key_text : TallyKey → List ℕ
key_text (key.Outcome outcome) = outcome_text outcome
key_text key.MoreBits = codes "more bits"

-- how many streams have such runs
abbrev pub tally_text : TallyKey → ℕ → List ℕ
tally_text k n = key_text k ++ codes " count " ++ decimal n ++ codes "\n"

-- how many there are of something
abbrev pub number_text : Count → ℕ → List ℕ
number_text Statements n = codes "statements " ++ decimal n ++ codes "\n"
number_text Bytes n = codes "bytes " ++ decimal n ++ codes "\n"
number_text Streams n = codes "streams " ++ decimal n ++ codes "\n"

-- the number of a stream that was found, or that there is none
abbrev pub hunt_text : Option ℕ → List ℕ
hunt_text (Some i) = codes "stream " ++ decimal i ++ codes "\n"
hunt_text None = codes "stream none\n"

-- the label of a roll with the number of its flips, or that number where there is none
abbrev pub roll_text : Roll → List ℕ
roll_text (rolled.Label c flips) = codes "value " ++ decimal c ++ codes " bits " ++ decimal flips ++ codes "\n"
roll_text (rolled.Limit flips) = codes "limit flips bits " ++ decimal flips ++ codes "\n"
roll_text (rolled.MoreBits flips) = codes "more bits " ++ decimal flips ++ codes "\n"

-- the weight of each label of a roll, a fraction
abbrev pub each_text : ℕ → ℕ × ℕ → List ℕ
each_text d weight = codes "each mass " ++ fraction_text weight ++ decimals_text Nearest d weight ++ codes "\n"

-- the weight that is left to the limit of flips, a fraction
abbrev pub flips_text : ℕ → ℕ × ℕ → List ℕ
flips_text d weight = codes "limit flips mass " ++ fraction_text weight ++ decimals_text Nearest d weight ++ codes "\n"

-- the words of a code; there are none for a number that is no code
abbrev pub code_words : ℕ → List ℕ
code_words code = unwrap_or (slice_get (map (λ w. w.now) CODE_WORDS) code) []

abbrev pub code_text : ℕ → List ℕ
code_text code = codes "error E" ++ decimal code ++ codes " " ++ code_words code

-- a code with the place where there is one, or the cause outside the program
abbrev pub refusal_text : Refusal → List ℕ
refusal_text (Coded code (Some at)) = code_text code ++ codes " at " ++ decimal at ++ codes "\n"
refusal_text (Coded code None) = code_text code ++ codes "\n"
refusal_text Read = codes "error read fault\n"
refusal_text Write = codes "error write fault\n"
refusal_text Memory = codes "error out of memory\n"
refusal_text NoFile = codes "error no file\n"
