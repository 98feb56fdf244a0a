-- A program that tokens derive has a place for each statement, so a statement that is refused has one.
use Rattle.std.proofs.Common.{◌≡◌, ◌∙◌, ℕ, zero, suc, ◌+◌, ◌<◌, refl, ap, arith, Bool, true, false, nat_lt, if◌then◌else◌, List, [], ◌∷◌, length, length-append, map, Option, Some, None}
use Rattle.std.specs.List.{slice_get}
use Rattle.std.proofs.lemmas.List.{length-map}
use Rattle.gcl_core.specs.declared.kinds.Kind.TheVariants.{Number}
use Rattle.gcl_core.specs.declared.tokens.Token.{Token}
use Rattle.gcl_core.specs.declared.words.Word.{Word}
use Rattle.gcl_core.specs.meaning.Syntax.{SourceProgram, Statement, Statements, ArmList}
use Rattle.gcl_core.specs.text.ReadingOrder.{listed}
use Rattle.gcl_core.specs.text.StatementCounts.{count_one, count_all, count_arms}
use Rattle.gcl_core.specs.text.Targets.{sets}
use Rattle.gcl_core.specs.text.Acceptance.{Flaw, too_many_names, flawed, expression_flaw, statement_flaw, first_refusal, flaws_of, refusal_of}
use Rattle.gcl_core.specs.text.Grammar.{ReadsStatement, a_skip, an_assignment, a_uniform, an_observation, an_if, a_while, a_choice, a_choose, ReadsArms, last_arm, one_more_arm, ReadsStatements, no_statement, a_statement, ReadsBlock, in_braces, ReadsElse, no_else, an_else}
use Rattle.gcl_core.specs.text.Places.{places_inside, places_in, places_in_block, places_in_else, places_in_arms}
use Rattle.gcl_core.specs.text.Derivation.{Derives}
use Rattle.gcl_core.proofs.Listed.{listed_all}

-- ---- places

mutual
  inside_count : {ts rest : List Word} {s : Statement} (d : ReadsStatement ts s rest) → 1 + length (places_inside d) ≡ count_one s
  inside_count a_skip = refl
  inside_count (an_assignment e) = refl
  inside_count (a_uniform e) = refl
  inside_count (an_observation e) = refl
  inside_count (an_if e a c) = let x = block_count a in let y = else_count c in let z = length-append (places_in_block a) (places_in_else c) in omega arith
  inside_count (a_while e a) = let x = block_count a in omega arith
  inside_count (a_choice a c) = let x = block_count a in let y = block_count c in let z = length-append (places_in_block a) (places_in_block c) in omega arith
  inside_count (a_choose b arms) = let x = block_count b in let y = arms_count arms in let z = length-append (places_in_block b) (places_in_arms arms) in omega arith

  arms_count : {k : ℕ} {ts rest : List Word} {arms : ArmList} (d : ReadsArms k ts arms rest) → length (places_in_arms d) ≡ count_arms arms
  arms_count (last_arm b) = let x = block_count b in omega arith
  arms_count (one_more_arm b arms) = let x = block_count b in let y = arms_count arms in let z = length-append (places_in_block b) (places_in_arms arms) in omega arith

  all_count : {ts rest : List Word} {b : Statements} (d : ReadsStatements ts b rest) → length (places_in d) ≡ count_all b
  all_count no_statement = refl
  all_count (a_statement s b) = let x = inside_count s in let y = all_count b in let z = length-append (places_inside s) (places_in b) in omega arith

  block_count : {ts rest : List Word} {b : Statements} (d : ReadsBlock ts b rest) → length (places_in_block d) ≡ count_all b
  block_count (in_braces b) = all_count b

  else_count : {ts rest : List Word} {b : Statements} (d : ReadsElse ts b rest) → length (places_in_else d) ≡ count_all b
  else_count no_else = refl
  else_count (an_else b) = block_count b

-- a place for each statement, and one for `return`
pub places_count : {text : List ℕ} {tokens : List Token} {p : SourceProgram} {places : List ℕ} → Derives text tokens p places → length places ≡ count_all p.body + 1
places_count d =
    let all = all_count d.program.statements in
    ap length d.stand ∙ length-map _ _ ∙ length-append (places_in d.program.statements) _ ∙ omega arith

-- ---- the number of a statement that is refused

flaws_count : (p : SourceProgram) → length (flaws_of p) ≡ count_all p.body + 1
flaws_count p =
    let known = sets p.body in
    let whole = length-append (map (statement_flaw known) (listed p.body)) (expression_flaw known Number p.result ∷ []) in
    let each = length-map (listed p.body) (statement_flaw known) in
    let all = listed_all p.body in
    omega arith

first_within : (n : ℕ) (flaws : List (Option Flaw)) (flaw : Flaw) (m : ℕ) → first_refusal n flaws ≡ Some (flawed flaw m) → m < n + length flaws
first_within n [] flaw m e = cc
first_within n (Some f ∷ flaws) flaw m e = let same : n ≡ m = cc in omega arith
first_within n (None ∷ flaws) flaw m e = let within = first_within (n + 1) flaws flaw m e in omega arith

among_flaws : (p : SourceProgram) (many : Bool) (flaw : Flaw) (m : ℕ) → (if many then Some too_many_names else first_refusal 0 (flaws_of p)) ≡ Some (flawed flaw m) → m < length (flaws_of p)
among_flaws p true flaw m e = cc
among_flaws p false flaw m e = let within = first_within 0 (flaws_of p) flaw m e in omega arith

-- the number is that of a statement or of the result
pub flaw_within : {text : List ℕ} {tokens : List Token} {p : SourceProgram} {places : List ℕ} → Derives text tokens p places → (flaw : Flaw) (m : ℕ) → refusal_of p ≡ Some (flawed flaw m) → m < length places
flaw_within {p = p} d flaw m e =
    let within = among_flaws p (nat_lt 256 (length p.names)) flaw m e in
    let all = flaws_count p in
    let count = places_count d in
    omega arith

place_there : (xs : List ℕ) (n : ℕ) → n < length xs → (at : ℕ) × (slice_get xs n ≡ Some at)
place_there [] n lt = absurd (omega arith)
place_there (x ∷ xs) zero lt = (x, refl)
place_there (x ∷ xs) (suc n) lt = place_there xs n (omega arith)

pub flaw_placed : {text : List ℕ} {tokens : List Token} {p : SourceProgram} {places : List ℕ} → Derives text tokens p places → (flaw : Flaw) (m : ℕ) → refusal_of p ≡ Some (flawed flaw m)
    → (at : ℕ) × (slice_get places m ≡ Some at)
flaw_placed {places = places} d flaw m e = place_there places m (flaw_within d flaw m e)
