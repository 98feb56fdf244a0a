-- The code of a program is that of its tied tree.
use Rattle.std.proofs.Common.{◌≡◌, ℕ, zero, suc, ◌+◌, ◌-◌, ◌^◌, Bool, true, false, Option, Some, None, List, [], ◌∷◌, ◌++◌, length, drop, refl, sym, ap, ◌∙◌, arith, append-nil}
use Rattle.std.specs.Prelude.{if◌then◌else◌}
use Rattle.std.proofs.Math.Path.{fun_ext}
use Rattle.std.proofs.Math.Seq.{drop-nil}
use Rattle.std.proofs.lemmas.List.Sums.{sum_by-append, sum_by-cons}
use Rattle.gcl_core.specs.meaning.Syntax.{Expression, Statement, Statements, ArmList, no_arm, arm, SourceProgram}
use Rattle.gcl_core.specs.meaning.Syntax as source
use Rattle.gcl_core.specs.meaning.Arms.{parts_of}
use Rattle.gcl_core.specs.meaning.Draw.{class_of, bits_for, last_end, have_one_class, choice_ends}
use Rattle.gcl_core.specs.meaning.Parts.{partial_sums}
use Rattle.draw_tree.specs.Flips.{Flips, leaf, flip}
use Rattle.draw_tree.specs.Decided.{decided_from, decided_draw}
use Rattle.choice_tree.specs.Tree.{ChoiceTree, ChoiceTrees}
use Rattle.choice_tree.specs.TreeOf.{in_front, member_of, members_of, arm_trees}
use Rattle.bit_tree.specs.Tree.{BitTree, Fail, Set, Test, Pick, Range, Row, Fix, BitTrees, done, ◌▸◌}
use Rattle.bit_tree.specs.Debiased.{debiased, row_debiased, tied_tree}
use Rattle.sampler_code.specs.Instruction.{Instruction, Unless, Goto, Arm, Loop, Tries, Flip, Return}
use Rattle.sampler_code.specs.Code.{Coded, nothing, one, loops_in, ◌⨾◌, tested, looped, flipped, to_arm, attempt, in_arms, drawn, statement_code, block_code, arm_codes, code_of}
use Rattle.sampler_code.specs.TreeCode.{flips_size, gap, size, arms_size, loops, row_loops, arm_start, flips_code, goto_end, tree_code, row_code, arms_code, tied_code}
use Rattle.sampler_code.proofs.Sizes.{flips_length, one_length, arms_length}

-- ---- loops

loops_append : (a b : List Instruction) → loops_in (a ++ b) ≡ loops_in a + loops_in b
loops_append a b = sum_by-append _ a b

flips_loops : (ld : ℕ) (start : ℕ → ℕ) (d : Flips) (pc : ℕ) → loops_in (flips_code ld start d pc) ≡ 0
flips_loops ld start (leaf (Some i)) pc = refl
flips_loops ld start (leaf None) pc = refl
flips_loops ld start (flip l r) pc =
    let right = pc + 1 + flips_size l in
    omega (arith, flips_loops ld start l (pc + 1), flips_loops ld start r right, loops_append (flips_code ld start l (pc + 1)) (flips_code ld start r right))

goto_loops : (ts : BitTrees) (end : ℕ) → loops_in (goto_end ts end) ≡ 0
goto_loops done end = refl
goto_loops (t ▸ ts) end = refl

mutual
  one_loops : (t : BitTree) (pc c : ℕ) → loops_in (tree_code t pc c) ≡ loops t
  one_loops Fail pc c = refl
  one_loops (Set x e) pc c = refl
  one_loops (Range x e) pc c = refl
  one_loops (Test e a b) pc c =
      let A = tree_code a (pc + 1) c in
      let B = tree_code b (pc + 2 + size a) (c + loops a) in
      omega (arith, one_loops a (pc + 1) c, one_loops b (pc + 2 + size a) (c + loops a), loops_append A (Goto (pc + 2 + size a + size b) ∷ B))
  one_loops (Pick d arms) pc c =
      let first = pc + 1 + flips_size d in
      let F = flips_code (pc + 1) (arm_start arms first) d (pc + 1) in
      let A = arms_code arms first c (first + arms_size arms) in
      omega (arith, flips_loops (pc + 1) (arm_start arms first) d (pc + 1), arms_loops arms first c (first + arms_size arms), loops_append F A)
  one_loops (Row ts) pc c = all_loops ts pc c
  one_loops (Fix e a) pc c =
      let A = tree_code a (pc + 2) (c + 1) in
      let last = Loop c (pc + 2) e ∷ [] in
      let h : loops_in (tree_code (Fix e a) pc c) ≡ 1 + loops_in (A ++ last) = sum_by-cons _ (Arm c) (Goto (pc + 2 + size a) ∷ (A ++ last)) in
      omega (arith, h, one_loops a (pc + 2) (c + 1), loops_append A last)

  all_loops : (ts : BitTrees) (pc c : ℕ) → loops_in (row_code ts pc c) ≡ row_loops ts
  all_loops done pc c = refl
  all_loops (t ▸ ts) pc c =
      let rest = row_code ts (pc + size t) (c + loops t) in
      omega (arith, one_loops t pc c, all_loops ts (pc + size t) (c + loops t), loops_append (tree_code t pc c) rest)

  arms_loops : (ts : BitTrees) (pc c end : ℕ) → loops_in (arms_code ts pc c end) ≡ row_loops ts
  arms_loops done pc c end = refl
  arms_loops (t ▸ ts) pc c end =
      let rest = arms_code ts (pc + size t + gap ts) (c + loops t) end in
      omega (
        arith,
        one_loops t pc c,
        goto_loops ts end,
        arms_loops ts (pc + size t + gap ts) (c + loops t) end,
        loops_append (tree_code t pc c) (goto_end ts end ++ rest),
        loops_append (goto_end ts end) rest,
      )

-- ---- what stands behind something

behind : (a b : Coded) (pc c p k : ℕ) → p ≡ pc + length (a pc c) → k ≡ c + loops_in (a pc c) → (a ⨾ b) pc c ≡ a pc c ++ b p k
behind a b pc c p k at from =
    ap (λ n. a pc c ++ b n (c + loops_in (a pc c))) (sym at) ∙ ap (λ n. a pc c ++ b p n) (sym from)

behind_tree : (t : BitTree) (b : Coded) (pc c p k : ℕ) → p ≡ pc + size t → k ≡ c + loops t → (tree_code t ⨾ b) pc c ≡ tree_code t pc c ++ b p k
behind_tree t b pc c p k at from =
    behind (tree_code t) b pc c p k (omega (arith, one_length t pc c)) (omega (arith, one_loops t pc c))

test_is : (e : Expression) (a b : BitTree) (pc c : ℕ) → tested e (tree_code a) (tree_code b) pc c ≡ tree_code (Test e a b) pc c
test_is e a b pc c =
    let other = pc + 2 + size a in
    let end = other + size b in
    let A = tree_code a (pc + 1) c in
    ap (λ n. (one (Unless e (pc + 2 + n)) ⨾ tree_code a ⨾ one (Goto (pc + 2 + n + length (tree_code b 0 0))) ⨾ tree_code b) pc c) (one_length a 0 0)
    ∙ ap (λ n. (one (Unless e other) ⨾ tree_code a ⨾ one (Goto (other + n)) ⨾ tree_code b) pc c) (one_length b 0 0)
    ∙ behind (one (Unless e other)) (tree_code a ⨾ one (Goto end) ⨾ tree_code b) pc c (pc + 1) c (omega arith) (omega arith)
    ∙ ap (λ l. Unless e other ∷ l) (behind_tree a (one (Goto end) ⨾ tree_code b) (pc + 1) c (pc + 1 + size a) (c + loops a) refl refl)
    ∙ ap (λ l. Unless e other ∷ (A ++ l))
    (behind (one (Goto end)) (tree_code b) (pc + 1 + size a) (c + loops a) other (c + loops a) (omega arith) (omega arith))

fix_is : (e : Expression) (a : BitTree) (pc c : ℕ) → looped e (tree_code a) pc c ≡ tree_code (Fix e a) pc c
fix_is e a pc c =
    let test = Goto (pc + 2 + size a) in
    let last = Loop c (pc + 2) e in
    ap (λ n. (one (Arm c) ⨾ one (Goto (pc + 2 + n)) ⨾ tree_code a ⨾ one last) pc c) (one_length a 0 0)
    ∙ behind (one (Arm c)) (one test ⨾ tree_code a ⨾ one last) pc c (pc + 1) (c + 1) (omega arith) (omega arith)
    ∙ ap (λ l. Arm c ∷ l) (behind (one test) (tree_code a ⨾ one last) (pc + 1) (c + 1) (pc + 2) (c + 1) (omega arith) (omega arith))
    ∙ ap (λ l. Arm c ∷ (test ∷ l)) (behind_tree a (one last) (pc + 2) (c + 1) _ _ refl refl)

same_everywhere : (a b : Coded) → ((pc c : ℕ) → a pc c ≡ b pc c) → a ≡ b
same_everywhere a b h = fun_ext (λ pc. fun_ext (λ c. h pc c))

-- ---- attempts

module _ (ends : List ℕ) (first : ℕ) (start : ℕ → ℕ) where
  abbrev draw_code : Flips → Coded
  draw_code d pc c = flips_code first start d pc

  flip_is : (l r : Flips) (pc c : ℕ) → flipped (draw_code l) (draw_code r) pc c ≡ draw_code (flip l r) pc c
  flip_is l r pc c =
      let right = pc + 1 + flips_size l in
      let long = flips_length first start l (pc + 1) in
      let none = flips_loops first start l (pc + 1) in
      ap (λ n. (one (Flip (pc + 1 + n)) ⨾ draw_code l ⨾ draw_code r) pc c) (flips_length first start l 0)
      ∙ behind (one (Flip right)) (draw_code l ⨾ draw_code r) pc c (pc + 1) c (omega arith) (omega arith)
      ∙ ap (λ l. Flip right ∷ l)
      (behind (draw_code l) (draw_code r) (pc + 1) c right c (omega (arith, long)) (omega (arith, none)))

  leaf_is : (x : Option ℕ) → to_arm ends first start x ≡ draw_code (leaf x)
  leaf_is None = refl
  leaf_is (Some i) = refl

  leaf_or_flip : (b : Bool) (x : Option ℕ) (a c : Coded) (l r : Flips) → a ≡ draw_code l → c ≡ draw_code r →
      (if b then to_arm ends first start x else flipped a c) ≡ draw_code (if b then leaf x else flip l r)
  leaf_or_flip true x a c l r e f = leaf_is x
  leaf_or_flip false x a c l r e f = ap (λ a. flipped a c) e ∙ ap (λ c. flipped (draw_code l) c) f ∙ same_everywhere _ _ (flip_is l r)

  attempt_is : (k low : ℕ) → attempt ends first start k low ≡ draw_code (decided_from ends k low)
  attempt_is zero low = leaf_is (class_of ends low)
  attempt_is (suc k) low =
      leaf_or_flip (have_one_class ends low (2 ^ suc k)) (class_of ends low) _ _ _ _ (attempt_is k low) (attempt_is k (low + 2 ^ k))

-- ---- arms

abbrev codes : BitTrees → List Coded
codes done = []
codes (t ▸ ts) = tree_code t ∷ codes ts

arms_are : (ts : BitTrees) (end pc c : ℕ) → in_arms end (codes ts) pc c ≡ arms_code ts pc c end
arms_are done end pc c = refl
arms_are (t ▸ done) end pc c = sym (append-nil (tree_code t pc c))
arms_are (t ▸ (u ▸ us)) end pc c =
    let rest = in_arms end (codes (u ▸ us)) in
    behind_tree t (one (Goto end) ⨾ rest) pc c (pc + size t) (c + loops t) refl refl
    ∙ ap (λ l. tree_code t pc c ++ l) (behind (one (Goto end)) rest (pc + size t) (c + loops t) (pc + size t + 1) (c + loops t) refl (omega arith))
    ∙ ap (λ l. tree_code t pc c ++ (Goto end ∷ l)) (arms_are (u ▸ us) end (pc + size t + 1) (c + loops t))

arms_long : (ts : BitTrees) → length (in_arms 0 (codes ts) 0 0) ≡ arms_size ts
arms_long ts = ap length (arms_are ts 0 0 0) ∙ arms_length ts 0 0 0

-- the arms from the i-th on, and where they begin
rest_long : (ts : BitTrees) (pc i : ℕ) → arm_start ts pc i + length (in_arms 0 (drop i (codes ts)) 0 0) ≡ pc + arms_size ts
rest_long done pc i = ap (λ (l : List Coded). pc + length (in_arms 0 l 0 0)) (drop-nil i)
rest_long (t ▸ ts) pc zero = ap (λ n. pc + n) (arms_long (t ▸ ts))
rest_long (t ▸ ts) pc (suc i) = rest_long ts (pc + size t + gap ts) i ∙ omega arith

pick_is : (ends : List ℕ) (arms : BitTrees) (pc c : ℕ) → drawn ends (codes arms) pc c ≡ tree_code (Pick (decided_draw ends) arms) pc c
pick_is ends arms pc c =
    let d = decided_draw ends in
    let first = pc + 1 + flips_size d in
    let end = first + arms_size arms in
    let start = arm_start arms first in
    let rest = in_arms end (codes arms) in
    let draw = λ (start : ℕ → ℕ). attempt ends (pc + 1) start (bits_for (last_end ends)) 0 in
    let before = λ (end i : ℕ). end - length (in_arms 0 (drop i (codes arms)) 0 0) in
    let all = λ (end : ℕ). (one Tries ⨾ draw (before end) ⨾ in_arms end (codes arms)) pc c in
    let drawn_is = λ (start : ℕ → ℕ). attempt_is ends (pc + 1) start (bits_for (last_end ends)) 0 in
    let size_is : length (draw (λ i. 0) 0 0) ≡ flips_size d =
    ap (λ f. length (f 0 0)) (drawn_is (λ i. 0)) ∙ flips_length (pc + 1) (λ i. 0) d 0 in
    let long = flips_length (pc + 1) start d (pc + 1) in
    let none = flips_loops (pc + 1) start d (pc + 1) in
    let starts : before end ≡ start = fun_ext (λ i. let h = rest_long arms first i in omega (arith, h)) in
    ap (λ n. all (pc + 1 + n + length (in_arms 0 (codes arms) 0 0))) size_is
    ∙ ap (λ n. all (first + n)) (arms_long arms)
    ∙ ap (λ f. (one Tries ⨾ draw f ⨾ rest) pc c) starts
    ∙ ap (λ f. (one Tries ⨾ f ⨾ rest) pc c) (drawn_is start)
    ∙ behind (one Tries) (draw_code ends (pc + 1) start d ⨾ rest) pc c (pc + 1) c (omega arith) (omega arith)
    ∙ ap (λ l. Tries ∷ l)
    (behind (draw_code ends (pc + 1) start d) rest (pc + 1) c first c (omega (arith, long)) (omega (arith, none)))
    ∙ ap (λ l. Tries ∷ (flips_code (pc + 1) start d (pc + 1) ++ l)) (arms_are arms end first c)

-- ---- statements

abbrev member_code : Option ChoiceTree → Coded
member_code None = nothing
member_code (Some t) = tree_code (debiased t)

front_is : (o : Option ChoiceTree) (ts : ChoiceTrees) → member_code o ⨾ row_code (row_debiased ts) ≡ row_code (row_debiased (in_front o ts))
front_is None ts = same_everywhere _ _ (λ pc c. behind nothing (row_code (row_debiased ts)) pc c pc c (omega arith) (omega arith))
front_is (Some t) ts = same_everywhere _ _ (λ pc c. behind_tree (debiased t) (row_code (row_debiased ts)) pc c _ _ refl refl)

abbrev row_of : Statements → BitTree
row_of b = Row (row_debiased (members_of b))

mutual
  statement_is : (s : Statement) → statement_code s ≡ member_code (member_of s)
  statement_is source.Skip = refl
  statement_is (source.Set x e) = refl
  statement_is (source.Uniform x e) = refl
  statement_is (source.Observe e) = same_everywhere _ _ (λ pc c. test_is e (Row done) Fail pc c)
  statement_is (source.If e a b) =
      ap (λ f. tested e f (block_code b)) (block_is a) ∙ ap (λ f. tested e (tree_code (row_of a)) f) (block_is b)
      ∙ same_everywhere _ _ (test_is e (row_of a) (row_of b))
  statement_is (source.While e a) = ap (λ f. looped e f) (block_is a) ∙ same_everywhere _ _ (fix_is e (row_of a))
  statement_is (source.Choice p a b) =
      let d = choice_ends p in
      ap (λ f. drawn d (f ∷ (block_code b ∷ []))) (block_is a) ∙ ap (λ f. drawn d (tree_code (row_of a) ∷ (f ∷ []))) (block_is b)
      ∙ same_everywhere _ _ (pick_is d (row_of a ▸ (row_of b ▸ done)))
  statement_is (source.Choose arms) =
      let d = partial_sums (parts_of arms) in
      ap (λ fs. drawn d fs) (arms_code_is arms) ∙ same_everywhere _ _ (pick_is d (row_debiased (arm_trees arms)))

  block_is : (b : Statements) → block_code b ≡ tree_code (row_of b)
  block_is source.done = refl
  block_is (source.◌▸◌ s b) =
      ap (λ f. f ⨾ block_code b) (statement_is s) ∙ ap (λ f. member_code (member_of s) ⨾ f) (block_is b) ∙ front_is (member_of s) (members_of b)

  arms_code_is : (arms : ArmList) → arm_codes arms ≡ codes (row_debiased (arm_trees arms))
  arms_code_is no_arm = refl
  arms_code_is (arm p b arms) = ap (λ f. f ∷ arm_codes arms) (block_is b) ∙ ap (λ fs. tree_code (row_of b) ∷ fs) (arms_code_is arms)

pub same_code : (p : SourceProgram) → code_of p ≡ tied_code (tied_tree p)
same_code p = ap (λ f. (f ⨾ one (Return p.result)) 0 0) (block_is p.body)

pub same_loops : (p : SourceProgram) → loops_in (code_of p) ≡ loops (tied_tree p).body
same_loops p =
    let body = tree_code (tied_tree p).body 0 0 in
    omega (arith, ap loops_in (same_code p), loops_append body (Return p.result ∷ []), one_loops (tied_tree p).body 0 0)
