-- Which programs are accepted, and the first refusal of one that is not. That weights are fractions up to 1, that parts are not
-- all 0, that numbers are no truths, that a name which is read is set somewhere, the two bounds and the order of refusals are
-- this project's own rule.
use Rattle.std.specs.Prelude.{◌≡◌, ℕ, ◌+◌, Bool, true, ◌&&◌, ◌==◌, nat_lt, if◌then◌else◌, List, [], ◌∷◌, ◌++◌, map, length, Option, Some, None}
use Rattle.std.specs.List.{sum}
use Rattle.gcl_core.specs.declared.rules.TheConstants.{GREATEST_DENOMINATOR, MOST_NAMES}
use Rattle.gcl_core.specs.declared.syntax.Weight.{Weight}
use Rattle.gcl_core.specs.declared.kinds.Kind.{Kind}
use Rattle.gcl_core.specs.declared.kinds.Kind.TheVariants.{Number, Truth}
use Rattle.gcl_core.specs.meaning.Arms.{parts_of}
use Rattle.gcl_core.specs.meaning.Syntax.{Expression, Statement, SourceProgram}
use Rattle.gcl_core.specs.meaning.Syntax as source
use Rattle.gcl_core.specs.text.Kinds.{has_kind}
use Rattle.gcl_core.specs.text.ReadingOrder.{listed}
use Rattle.gcl_core.specs.meaning.Lowest.{lowest_terms, lowest_parts}
use Rattle.gcl_core.specs.text.Targets.{sets}

-- why a statement is refused
pub data Flaw : Type 0 where
  kind_mismatch : Flaw
  unknown_name : Flaw
  zero_denominator : Flaw
  weight_above_one : Flaw
  too_fine : Flaw

-- why a program is refused: for its names, or for the statement with this number
pub data ProgramRefusal : Type 0 where
  too_many_names : ProgramRefusal
  flawed : Flaw → ℕ → ProgramRefusal

-- ---- one statement

-- each variable that the expression reads is known
abbrev pub reads_known : (ℕ → Bool) → Expression → Bool
reads_known known (source.Num z) = true
reads_known known (source.Truth b) = true
reads_known known (source.Var x) = known x
reads_known known (source.Neg a) = reads_known known a
reads_known known (source.Not a) = reads_known known a
reads_known known (source.Bin op a b) = reads_known known a && reads_known known b

-- an expression has to be of this kind, and to read known variables alone
abbrev pub expression_flaw : (ℕ → Bool) → Kind → Expression → Option Flaw
expression_flaw known k e =
    if has_kind k e then (if reads_known known e then None else Some unknown_name) else Some kind_mismatch

-- a weight has to be a fraction, of at most 1, with at most the greatest denominator in lowest terms
abbrev pub weight_flaw : Weight → Option Flaw
weight_flaw w =
    if w.den == 0 then Some zero_denominator
    else if nat_lt w.den w.num then Some weight_above_one
    else if nat_lt GREATEST_DENOMINATOR (lowest_terms w).den then Some too_fine
    else None

-- the parts of a choice among several have a sum above 0, and of at most the greatest denominator in lowest terms
abbrev pub parts_flaw : List ℕ → Option Flaw
parts_flaw ps =
    if sum ps == 0 then Some zero_denominator
    else if nat_lt GREATEST_DENOMINATOR (sum (lowest_parts ps)) then Some too_fine
    else None

-- the first flaw of a statement itself, not of those in its blocks
abbrev pub statement_flaw : (ℕ → Bool) → Statement → Option Flaw
statement_flaw known source.Skip = None
statement_flaw known (source.Set x e) = expression_flaw known Number e
statement_flaw known (source.Uniform x e) = expression_flaw known Number e
statement_flaw known (source.If e a c) = expression_flaw known Truth e
statement_flaw known (source.While e a) = expression_flaw known Truth e
statement_flaw known (source.Observe e) = expression_flaw known Truth e
statement_flaw known (source.Choice w a c) = weight_flaw w
statement_flaw known (source.Choose arms) = parts_flaw (parts_of arms)

-- ---- a program

-- the first refusal among statements with these flaws or none, numbered from n on
abbrev pub first_refusal : ℕ → List (Option Flaw) → Option ProgramRefusal
first_refusal n [] = None
first_refusal n (Some flaw ∷ flaws) = Some (flawed flaw n)
first_refusal n (None ∷ flaws) = first_refusal (n + 1) flaws

-- of each statement in reading order, and last of the result, which is a number
abbrev pub flaws_of : SourceProgram → List (Option Flaw)
flaws_of p = map (statement_flaw (sets p.body)) (listed p.body) ++ expression_flaw (sets p.body) Number p.result ∷ []

-- There are at most MOST_NAMES names, and no statement has a flaw.
abbrev pub refusal_of : SourceProgram → Option ProgramRefusal
refusal_of p = if nat_lt MOST_NAMES (length p.names) then Some too_many_names else first_refusal 0 (flaws_of p)

abbrev pub IsAccepted : SourceProgram → Type 0
IsAccepted p = refusal_of p ≡ None
