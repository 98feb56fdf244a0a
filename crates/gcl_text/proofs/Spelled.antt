-- What a text spells, from what it has written and what the checker answers.
use Rattle.std.proofs.Common.{◌≡◌, ℕ, List, Some, refl, sym, subst, arith}
use Rattle.gcl_core.specs.meaning.Syntax.{Statement, Skip, Set, If, While, Choice, Choose, Uniform, Observe, Statements, done, ◌▸◌, ArmList, no_arm, arm, SourceProgram}
use Rattle.gcl_core.specs.text.StatementCounts.{count_one, count_all, count_arms}
use Rattle.gcl_core.specs.meaning.Divisor.{common_divisor}
use Rattle.gcl_core.specs.meaning.Lowest.{divided, statement_in_lowest, block_in_lowest, arms_in_lowest}
use Rattle.gcl_core.specs.meaning.Arms.{parts_of}
use Rattle.gcl_core.specs.text.Acceptance.{ProgramRefusal, too_many_names, flawed, refusal_of}
use Rattle.gcl_core.specs.text.Texts.{IsWrittenIn, IsRefusedText, SpellsNone, many_names, has_flaw, as_text, as_program, flaw_code}
use Rattle.gcl_parse.proofs.FlawPlaces.{flaw_within, flaw_placed}
use Rattle.gcl_text.specs.declared.refusing.TextRefusal.{TextRefusal}
use Rattle.gcl_text.specs.declared.refusing.TextRefusal.TheVariants.{Coded, OutOfMemory}
use Rattle.gcl_text.specs.Readings.{NoneInText}
use Rattle.gcl_text.specs.inner.Codes.{check_code, HasPlace}

-- ---- weights in lowest terms

divided_count : (d : ℕ) (arms : ArmList) → count_arms (divided d arms) ≡ count_arms arms
divided_count d no_arm = refl
divided_count d (arm n b arms) = let p = divided_count d arms in omega arith

mutual
  lowest_count_one : (s : Statement) → count_one (statement_in_lowest s) ≡ count_one s
  lowest_count_one (If e a c) = let p = lowest_count a in let q = lowest_count c in omega arith
  lowest_count_one (While e a) = let p = lowest_count a in omega arith
  lowest_count_one (Choice w a c) = let p = lowest_count a in let q = lowest_count c in omega arith
  lowest_count_one (Choose arms) =
      let reduced = arms_in_lowest arms in
      let p = divided_count (common_divisor (parts_of reduced)) reduced in
      let q = lowest_count_arms arms in
      omega arith
  lowest_count_one Skip = refl
  lowest_count_one (Set x e) = refl
  lowest_count_one (Uniform x e) = refl
  lowest_count_one (Observe e) = refl

  -- as many statements as before
  pub lowest_count : (b : Statements) → count_all (block_in_lowest b) ≡ count_all b
  lowest_count done = refl
  lowest_count (s ▸ b) = let p = lowest_count_one s in let q = lowest_count b in omega arith

  lowest_count_arms : (arms : ArmList) → count_arms (arms_in_lowest arms) ≡ count_arms arms
  lowest_count_arms no_arm = refl
  lowest_count_arms (arm n b arms) = let p = lowest_count b in let q = lowest_count_arms arms in omega arith

-- ---- what is refused

module _ (text : List ℕ) (p : SourceProgram) (places : List ℕ) (written : IsWrittenIn text p places) where
  -- the statement that is refused has a place
  pub has_place : (r : ProgramRefusal) → refusal_of p ≡ Some r → HasPlace r places
  has_place too_many_names e = tt
  has_place (flawed flaw m) e = flaw_within written.derived flaw m e

  -- a program that is refused makes its text one that spells none
  pub refused_spells_none : (r : ProgramRefusal) → refusal_of p ≡ Some r → NoneInText (SpellsNone text) (check_code places r)
  refused_spells_none too_many_names e = as_program written (many_names e)
  refused_spells_none (flawed flaw m) e =
      let there = flaw_placed written.derived flaw m e in
      subst (λ at. SpellsNone text (flaw_code flaw) at) (sym there.1) (as_program written (has_flaw e there.1))

-- a text that has no program spells none
pub unwritten : (text : List ℕ) (r : TextRefusal) → NoneInText (IsRefusedText text) r → NoneInText (SpellsNone text) r
unwritten text (Coded code at) none = as_text none
unwritten text OutOfMemory none = tt
