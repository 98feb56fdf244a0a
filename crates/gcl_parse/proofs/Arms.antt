-- The arms of a choice among several, as the parser reads them one by one.
use Rattle.std.proofs.Common.{◌≡◌, ℕ, suc, ◌<◌, ◌∙◌, refl, ap, sym, arith, List, [], ◌∷◌, ◌++◌, length, Some, Result, Ok, Err}
use Rattle.gcl_core.specs.declared.words.Word.{Word}
use Rattle.gcl_core.specs.declared.words.Word.TheVariants as w
use Rattle.gcl_core.specs.declared.tokens.Sym.TheVariants as y
use Rattle.gcl_core.specs.declared.syntax.Arms.{Arms}
use Rattle.gcl_core.specs.declared.syntax.Block.{Block}
use Rattle.gcl_core.specs.meaning.Syntax.{ArmList, no_arm, arm}
use Rattle.gcl_core.specs.meaning.Views.{statements_of, arm_list_of, list_of_arms}
use Rattle.gcl_core.specs.text.Grammar.{last_arm, one_more_arm}
use Rattle.gcl_parse.specs.declared.parser.Halt.{Halt}
use Rattle.gcl_parse.specs.inner.Fronts.{first}
use Rattle.gcl_parse.specs.inner.Pushdown as m
use Rattle.gcl_parse.specs.inner.Pushdown.{Symbol, arm_and_more}
use Rattle.gcl_parse.specs.inner.Parses.{Passes, Fails, one_arm, ParsesArm, ParsesArms, arms_before}
use Rattle.gcl_parse.proofs.Steps as step

-- an arm, and what is expected behind it
pub after_arm : {xs : List Symbol} {old mid new : List Word} → Passes one_arm old mid → Passes xs mid new → Passes (one_arm ++ xs) old new
after_arm {xs} p q = record { runs = λ s. p.runs (xs ++ s) ∙ q.runs s }

-- arms that grow at their end
pub arms_done : (found : List (ℕ × Block)) → arms_before found no_arm ≡ arm_list_of found
arms_done [] = refl
arms_done (a ∷ found) = ap (arm a.0 (statements_of a.1)) (arms_done found)

pub arms_pushed : (found : List (ℕ × Block)) (a : ℕ × Block) (arms : ArmList) → arms_before (found ++ a ∷ []) arms ≡ arms_before found (arm a.0 (statements_of a.1) arms)
arms_pushed [] a arms = refl
arms_pushed (b ∷ found) a arms = ap (arm b.0 (statements_of b.1)) (arms_pushed found a arms)

-- where another arm comes behind one
pub another_parses : (n : ℕ) (found : List (ℕ × Block)) (a : ℕ × Block) {old mid rest : List Word} → ParsesArm old (Ok a) mid → mid ≡ w.Sym y.Bar ∷ rest → (r : Result Arms Halt) (new : List Word)
    → ParsesArms n (found ++ a ∷ []) rest r new → ParsesArms (suc n) found old r new
another_parses n found a one bar (Ok x) new p = (
  arm a.0 (statements_of a.1) p.0,
  p.1 ∙ arms_pushed found a p.0,
  rw one.0.front (one_more_arm (rw bar at one.1) p.2),
  record { runs = λ s. one.2.runs (m.arms (suc n) ∷ s) ∙ step.arms_on n bar s ∙ p.3.runs s },
  (let e = ap length bar in omega (arith, e, one.3, p.4)),
)
another_parses n found a one bar (Err e) new p = record { halts = λ h s. one.2.runs (m.arms (suc n) ∷ s) ∙ step.arms_on n bar s ∙ p.halts h s }

-- where none does
pub last_parses : (n : ℕ) (found : List (ℕ × Block)) (a : ℕ × Block) (x : Arms) {old mid new : List Word} → ParsesArm old (Ok a) mid → ((0 < n) × (first mid ≡ Some (w.Sym y.Bar)) → ⊥)
    → mid ≡ w.Sym y.RightBrace ∷ new → list_of_arms x ≡ arm_list_of (found ++ a ∷ []) → ParsesArms n found old (Ok x) new
last_parses n found a x {mid = mid} one off brace made = (
  arm a.0 (statements_of a.1) no_arm,
  made ∙ sym (arms_done (found ++ a ∷ [])) ∙ arms_pushed found a no_arm,
  rw one.0.front (last_arm (rw brace at one.1)),
  record { runs = λ s. one.2.runs (m.arms n ∷ s) ∙ step.arms_off n mid off s ∙ step.sym_on brace s },
  (let e = ap length brace in omega (arith, e, one.3)),
)

pub last_fails : (n : ℕ) (found : List (ℕ × Block)) (a : ℕ × Block) {old mid new : List Word} {e : Halt} → ParsesArm old (Ok a) mid → ((0 < n) × (first mid ≡ Some (w.Sym y.Bar)) → ⊥)
    → Fails (m.sym y.RightBrace ∷ []) mid e new → ParsesArms n found old (Err e) new
last_fails n found a {mid = mid} one off f = record { halts = λ h s. one.2.runs (m.arms n ∷ s) ∙ step.arms_off n mid off s ∙ f.halts h s }
