-- The name of a part of many streams: one line before its answer, which says what the answer is of. It has the command, the SHA-256
-- (FIPS 180-4) of the canonical text of the program, which is in lowest terms, and all numbers on which the answer depends. This
-- project's own format.
use Rattle.std.specs.Prelude.{ℕ, Bool, true, false, List, [], ◌++◌, codes, decimal}
use Rattle.gcl_core.specs.declared.answers.Limits.{Limits}
use Rattle.gcl_core.specs.declared.answers.TallyKey.{TallyKey}
use Rattle.gcl_core.specs.meaning.Syntax.{SourceProgram}
use Rattle.gcl_print.specs.Canonical.{canonical_text}
use Rattle.hex.specs.Hex.{encode_lower}
use Rattle.report_text.specs.Lines.{key_text}
use Rattle.sha2.specs.Sha256.{sha256}
use Rattle.stream_runs.specs.declared.range.SeedRange.{SeedRange}

abbrev pub digest_text : SourceProgram → List ℕ
digest_text p = encode_lower (sha256 (canonical_text p))

-- a word and the number behind it
abbrev pub numbered : List ℕ → ℕ → List ℕ
numbered word n = word ++ decimal n

-- the streams of the range, and what is read of each
abbrev pub range_text : SeedRange → List ℕ
range_text r = numbered (codes " seed ") r.seed ++ numbered (codes " from ") r.from ++ numbered (codes " to ") r.to
    ++ numbered (codes " budget ") r.budget

abbrev pub limits_text : Limits → List ℕ
limits_text l = numbered (codes " turns ") l.turns ++ numbered (codes " attempts ") l.attempts ++ numbered (codes " rounds ") l.rounds

-- the line, which begins with the command
abbrev pub name_text : List ℕ → SourceProgram → SeedRange → Limits → List ℕ
name_text command p range limits =
    command ++ codes " of " ++ digest_text p ++ range_text range ++ limits_text limits ++ codes "\n"

abbrev pub hunt_command : TallyKey → List ℕ
hunt_command want = codes "hunt for " ++ key_text want

-- the line, where it is asked for
abbrev pub if_named : Bool → List ℕ → List ℕ
if_named true name = name
if_named false name = []
