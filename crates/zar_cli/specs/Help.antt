-- What `help` and `--version` print: pages of words and numbers, which are constants of the code.
use Rattle.std.specs.Prelude.{ℕ, List, [], ◌++◌, map, flat_map, Option, Some, None, unwrap_or, slice_get, decimal}
use Rattle.zar_cli.specs.declared.explained.TheConstants.{REFUSALS}
use Rattle.zar_cli.specs.declared.help.TheConstants.{VERSION, COMMANDS, SAMPLE, MASS, COST, POSTERIOR, EXACT, ENCLOSE, AUDIT, TALLY, RUNS, HUNT, CHECK, SHOW, CODE, GEN, FAST, ROLL}
use Rattle.zar_cli.specs.declared.help.Topic.{Topic}
use Rattle.zar_cli.specs.declared.help.Topic.TheVariants.{Everything, One, Refused, Version}
use Rattle.zar_cli.specs.declared.settings.Verb.{Verb}
use Rattle.zar_cli.specs.declared.settings.Verb.TheVariants as verb

-- the words, and the number behind them where there is one
abbrev pub piece_text : List ℕ → Option ℕ → List ℕ
piece_text words (Some n) = words ++ decimal n
piece_text words None = words

-- the words that a page begins with, and its parts, of pieces each
abbrev Page : Type 0
Page = record { now : List ℕ } × record { now : List (record { now : List (record { now : List ℕ } × Option ℕ) }) }

abbrev pub page_text : Page → List ℕ
page_text (words, parts) = words.now ++ flat_map (λ part. flat_map (λ piece. piece_text piece.0.now piece.1) part.now) parts.now

-- what the refusal of a code means; a number that is no code has no words
unfoldable pub refusal_page : ℕ → List ℕ
refusal_page code = unwrap_or (slice_get (map page_text REFUSALS) code) []

-- the page of a command
abbrev pub command_page : Verb → Page
command_page verb.Sample = SAMPLE
command_page verb.Mass = MASS
command_page verb.Cost = COST
command_page verb.Posterior = POSTERIOR
command_page verb.Exact = EXACT
command_page verb.Enclose = ENCLOSE
command_page verb.Audit = AUDIT
command_page verb.Tally = TALLY
command_page verb.Runs = RUNS
command_page verb.Hunt = HUNT
command_page verb.Check = CHECK
command_page verb.Show = SHOW
command_page verb.Code = CODE
command_page verb.Gen = GEN
command_page verb.Fast = FAST
command_page verb.Roll = ROLL

abbrev pub page_of : Topic → Page
page_of Everything = COMMANDS
page_of (One v) = command_page v
page_of (Refused code) = (record { now = refusal_page code }, record { now = [] })
page_of Version = VERSION

abbrev pub topic_text : Topic → List ℕ
topic_text topic = page_text (page_of topic)
