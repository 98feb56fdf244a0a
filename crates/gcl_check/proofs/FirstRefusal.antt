-- The first refusal of statements in a row.
use Rattle.std.proofs.Common.{◌≡◌, ◌∙◌, ℕ, ◌+◌, ◌≤◌, Bool, false, nat_lt, if◌then◌else◌, List, [], ◌∷◌, ◌++◌, map, length, Option, Some, None, refl, sym, ap, arith}
use Rattle.std.proofs.lemmas.Bool.Decides.{nat_tests}
use Rattle.std.proofs.lemmas.List.{length-map, map-append}
use Rattle.gcl_core.specs.declared.kinds.Kind.TheVariants.{Number}
use Rattle.gcl_core.specs.text.Acceptance.{Flaw, ProgramRefusal, too_many_names, expression_flaw, statement_flaw, first_refusal, flaws_of, refusal_of}
use Rattle.gcl_core.proofs.Listed.{listed_all}
use Rattle.gcl_core.specs.text.ReadingOrder.{listed}
use Rattle.gcl_core.specs.text.StatementCounts.{count_all}
use Rattle.gcl_core.specs.meaning.Syntax.{Statement, Statements, SourceProgram}
use Rattle.gcl_core.specs.text.Targets.{sets}

-- ---- flaws, and then others

-- those after statements that are not refused
refusal_after : (n m : ℕ) (fs gs : List (Option Flaw)) → None ≡ first_refusal n fs → m ≡ n + length fs → first_refusal m gs ≡ first_refusal n (fs ++ gs)
refusal_after n m [] gs none e = let p : m ≡ n = omega arith in ap (λ k. first_refusal k gs) p
refusal_after n m (None ∷ fs) gs none e = refusal_after (n + 1) m fs gs none (omega arith)
refusal_after n m (Some f ∷ fs) gs none e = absurd (cc)

-- a refusal stays the first
refusal_stays : (n : ℕ) (r : ProgramRefusal) (fs gs : List (Option Flaw)) → Some r ≡ first_refusal n fs → Some r ≡ first_refusal n (fs ++ gs)
refusal_stays n r [] gs is = absurd (cc)
refusal_stays n r (None ∷ fs) gs is = refusal_stays (n + 1) r fs gs is
refusal_stays n r (Some f ∷ fs) gs is = is

-- a statement that is not refused itself
behind_head : (n : ℕ) (f : Option Flaw) (fs : List (Option Flaw)) → None ≡ first_refusal n (f ∷ []) → first_refusal (n + 1) fs ≡ first_refusal n (f ∷ fs)
behind_head n None fs none = refl
behind_head n (Some f) fs none = absurd (cc)

-- ---- a program
module _ (p : SourceProgram) (known : ℕ → Bool) (same : known ≡ sets p.body) (few : length p.names ≤ 256) where
  whole_is : first_refusal 0 (map (statement_flaw known) (listed p.body) ++ expression_flaw known Number p.result ∷ []) ≡ refusal_of p
  whole_is =
      let test : nat_lt 256 (length p.names) ≡ false = grind (arith, nat_tests) in
      ap (λ k. first_refusal 0 (map (statement_flaw k) (listed p.body) ++ expression_flaw k Number p.result ∷ [])) same
      ∙ sym (ap (λ b. if b then Some too_many_names else first_refusal 0 (flaws_of p)) test)

  pub body_refused : (r : ProgramRefusal) → Some r ≡ first_refusal 0 (map (statement_flaw known) (listed p.body)) → Some r ≡ refusal_of p
  body_refused r is = refusal_stays 0 r (map (statement_flaw known) (listed p.body)) (expression_flaw known Number p.result ∷ []) is ∙ whole_is

  pub result_decides : (last : ℕ) → None ≡ first_refusal 0 (map (statement_flaw known) (listed p.body)) → last ≡ 0 + count_all p.body →
      first_refusal last (expression_flaw known Number p.result ∷ []) ≡ refusal_of p
  result_decides last none e =
      let q = listed_all p.body in
      let l = length-map (listed p.body) (statement_flaw known) in
      refusal_after 0 last (map (statement_flaw known) (listed p.body)) (expression_flaw known Number p.result ∷ []) none (omega arith) ∙ whole_is

-- ---- statements
module _ (flaw_of : Statement → Option Flaw) where
  statements_after : (n m : ℕ) (xs ys : List Statement) → None ≡ first_refusal n (map flaw_of xs) → m ≡ n + length xs →
      first_refusal m (map flaw_of ys) ≡ first_refusal n (map flaw_of (xs ++ ys))
  statements_after n m xs ys none e =
      let l = length-map xs flaw_of in
      refusal_after n m (map flaw_of xs) (map flaw_of ys) none (omega arith) ∙ ap (first_refusal n) (sym (map-append flaw_of xs ys))

  statements_stay : (n : ℕ) (r : ProgramRefusal) (xs ys : List Statement) → Some r ≡ first_refusal n (map flaw_of xs) → Some r ≡ first_refusal n (map flaw_of (xs ++ ys))
  statements_stay n r xs ys is = refusal_stays n r (map flaw_of xs) (map flaw_of ys) is ∙ ap (first_refusal n) (sym (map-append flaw_of xs ys))

  -- ---- a statement with two blocks
  pub first_block_refused : (n : ℕ) (r : ProgramRefusal) (s : Statement) (a c : Statements) → None ≡ first_refusal n (flaw_of s ∷ []) →
      Some r ≡ first_refusal (n + 1) (map flaw_of (listed a)) → Some r ≡ first_refusal n (map flaw_of (s ∷ listed a ++ listed c))
  first_block_refused n r s a c none is = statements_stay (n + 1) r (listed a) (listed c) is ∙ behind_head n (flaw_of s) (map flaw_of (listed a ++ listed c)) none

  pub second_block_decides : (n m : ℕ) (s : Statement) (a c : Statements) → None ≡ first_refusal n (flaw_of s ∷ []) →
      None ≡ first_refusal (n + 1) (map flaw_of (listed a)) → m ≡ n + 1 + count_all a →
      first_refusal m (map flaw_of (listed c)) ≡ first_refusal n (map flaw_of (s ∷ listed a ++ listed c))
  second_block_decides n m s a c head none e =
      let q = listed_all a in
      statements_after (n + 1) m (listed a) (listed c) none (omega arith) ∙ behind_head n (flaw_of s) (map flaw_of (listed a ++ listed c)) head

  -- ---- the statements of a part, and then others
  pub part_refused : (n : ℕ) (r : ProgramRefusal) (whole xs ys : List Statement) → whole ≡ xs ++ ys → Some r ≡ first_refusal n (map flaw_of xs) → Some r ≡ first_refusal n (map flaw_of whole)
  part_refused n r whole xs ys is refused = statements_stay n r xs ys refused ∙ sym (ap (λ l. first_refusal n (map flaw_of l)) is)

  pub rest_decides : (n m : ℕ) (whole xs ys : List Statement) → whole ≡ xs ++ ys → None ≡ first_refusal n (map flaw_of xs) → m ≡ n + length xs →
      first_refusal m (map flaw_of ys) ≡ first_refusal n (map flaw_of whole)
  rest_decides n m whole xs ys is none e = statements_after n m xs ys none e ∙ sym (ap (λ l. first_refusal n (map flaw_of l)) is)
