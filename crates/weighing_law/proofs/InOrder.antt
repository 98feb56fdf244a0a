-- What reads as a tree does reads bits in order, and no further than to its end.
use Rattle.std.proofs.Common.{◌≡◌, ℕ, ◌-◌, Bool, true, false, List, [], ◌∷◌, ◌++◌, length, take, refl, sym, ap, ◌∙◌, subst, arith, length-append, true≢false}
use Rattle.std.proofs.Math.Seq.{take-append_seam}
use Rattle.gcl_core.specs.declared.answers.Answer.{Answer}
use Rattle.gcl_core.specs.declared.answers.Answer.TheVariants.{Ended, MoreBits}
use Rattle.gcl_core.specs.declared.answers.Limits.{Limits}
use Rattle.gcl_core.specs.declared.answers.Outcome.{Outcome}
use Rattle.gcl_core.specs.meaning.Reading.{Reading, gives, more_bits}
use Rattle.gcl_core.specs.meaning.Runs.{capped, answer_of, run_on}
use Rattle.gcl_core.specs.meaning.Syntax.{SourceProgram}
use Rattle.gcl_core.proofs.Booleans.{both}
use Rattle.gcl_core.proofs.SameOutcomes.{outcome_itself}
use Rattle.gcl_core.proofs.Trees.{Tree, leaf, flip, run}
use Rattle.weighing_law.specs.Prefixes.{has_ended_in, needs_more, each_shorter_front, is_just_read, IsReadTo, ReadsInOrder}
use Rattle.weighing_law.proofs.RunTrees.{tree_of_rounds}

-- ---- a tree on longer and on shorter strings
run_stays : {A : Type 0} (t : Tree A) (u v rest : List Bool) (a : A) → run t u ≡ gives a rest → run t (u ++ v) ≡ gives a (rest ++ v)
run_stays {A = A} (leaf b) u v rest a e = let p : b ≡ a = cc in let q : u ≡ rest = cc in rw (p, q) refl
run_stays (flip l r) [] v rest a e = cc
run_stays (flip l r) (false ∷ u) v rest a e = run_stays l u v rest a e
run_stays (flip l r) (true ∷ u) v rest a e = run_stays r u v rest a e

-- the string that was read, and that the tree reads it whole
run_reads : {A : Type 0} (t : Tree A) (w rest : List Bool) (a : A) → run t w ≡ gives a rest → (u : List Bool) × (w ≡ u ++ rest) × (run t u ≡ gives a [])
run_reads {A = A} (leaf b) w rest a e = let p : b ≡ a = cc in let q : w ≡ rest = cc in ([], q, ap (λ x. gives x []) p)
run_reads (flip l r) [] rest a e = cc
run_reads (flip l r) (false ∷ w) rest a e = let h = run_reads l w rest a e in (false ∷ h.0, ap (λ u. false ∷ u) h.1, h.2)
run_reads (flip l r) (true ∷ w) rest a e = let h = run_reads r w rest a e in (true ∷ h.0, ap (λ u. true ∷ u) h.1, h.2)

abbrev is_short : {A : Type 0} → Reading A → Bool
is_short (gives a rest) = false
is_short more_bits = true

run_short : {A : Type 0} (t : Tree A) (u : List Bool) (a : A) → run t u ≡ gives a [] → each_shorter_front (λ u. is_short (run t u)) u ≡ true
run_short (leaf b) [] a e = refl
run_short (leaf b) (c ∷ u) a e = cc
run_short (flip l r) [] a e = cc
run_short (flip l r) (false ∷ u) a e = run_short l u a e
run_short (flip l r) (true ∷ u) a e = run_short r u a e

-- ---- answers
ended_is : (w : List Bool) (r : Reading Outcome) (x : Outcome) (read : ℕ) → answer_of w r ≡ Ended x read →
    (rest : List Bool) × (r ≡ gives x rest) × (read ≡ capped (length w - length rest))
ended_is w (gives y rest) x read e =
    let p : y ≡ x = cc in
    let q : capped (length w - length rest) ≡ read = cc in
    (rest, ap (λ z. gives z rest) p, sym q)
ended_is w more_bits x read e = cc

more_is : (w : List Bool) (r : Reading Outcome) (read : ℕ) → answer_of w r ≡ MoreBits read → read ≡ capped (length w)
more_is w (gives y rest) read e = cc
more_is w more_bits read e = let q : capped (length w) ≡ read = cc in sym q

needs_short : (w : List Bool) (r : Reading Outcome) → needs_more (answer_of w r) ≡ is_short r
needs_short w (gives x rest) = refl
needs_short w more_bits = refl

-- ---- fronts
front_passes : (test : List Bool → Bool) (u : List Bool) (b : Bool) (v : List Bool) → each_shorter_front test (u ++ b ∷ v) ≡ true → test u ≡ true
front_passes test [] b v e = (both (test []) _ e).0
front_passes test (c ∷ u) b v e = front_passes (λ u. test (c ∷ u)) u b v (both (test []) _ e).1

not_both : (x : Outcome) (a : Answer) → has_ended_in x a ≡ true → needs_more a ≡ true → ⊥
not_both x (Ended y read) e h = true≢false (sym h)
not_both x (MoreBits read) e h = true≢false (sym e)

pub none_apart : (run : List Bool → Answer) (x y : Outcome) (u v : List Bool) → is_just_read run x u ≡ true → is_just_read run y (u ++ v) ≡ true → v ≡ []
none_apart run x y u [] e h = refl
none_apart run x y u (b ∷ v) e h =
    absurd (not_both x (run u) (both _ _ e).1 (front_passes (λ u. needs_more (run u)) u b v (both _ _ h).0))

-- ---- whatever answers as a tree does
module _ (t : Tree Outcome) (answers : List Bool → Answer) (same : (w : List Bool) → answers w ≡ answer_of w (run t w)) where
  answers_stay : (x : Outcome) (read : ℕ) (u v : List Bool) → answers u ≡ Ended x read → answers (u ++ v) ≡ Ended x read
  answers_stay x read u v e =
      let h = ended_is u (run t u) x read (sym (same u) ∙ e) in
      let p = length-append u v in
      let q = length-append h.0 v in
      let n : length (u ++ v) - length (h.0 ++ v) ≡ length u - length h.0 = omega arith in
      same (u ++ v) ∙ ap (answer_of (u ++ v)) (run_stays t u v h.0 x h.1) ∙ ap (λ k. Ended x (capped k)) n ∙ ap (Ended x) (sym h.2)

  read_whole : (x : Outcome) (u : List Bool) → run t u ≡ gives x [] → is_just_read answers x u ≡ true
  read_whole x u e =
      let short = ap (λ (test : List Bool → Bool). each_shorter_front test u) (λ i w. (ap needs_more (same w) ∙ needs_short w (run t w)) i) ∙ run_short t u x e in
      let ended = ap (has_ended_in x) (same u ∙ ap (answer_of u) e) ∙ outcome_itself x in
      rw (short, ended) refl

  first_bits : (x : Outcome) (read : ℕ) (w : List Bool) → answers w ≡ Ended x read → IsReadTo answers x read w
  first_bits x read w e =
      let h = ended_is w (run t w) x read (sym (same w) ∙ e) in
      let f = run_reads t w h.0 x h.1 in
      let n = ap length f.1 ∙ length-append f.0 h.0 in
      let k : length w - length h.0 ≡ length f.0 = omega arith in
      let front : take (length f.0) w ≡ f.0 = ap (take (length f.0)) f.1 ∙ take-append_seam f.0 h.0 in
      (length f.0, omega arith, h.2 ∙ ap capped k, subst (λ u. is_just_read answers x u ≡ true) (sym front) (read_whole x f.0 f.2))

  tree_in_order : ReadsInOrder answers
  tree_in_order = record {
    stays = answers_stay;
    just_read = first_bits;
    all_read = λ read w e. more_is w (run t w) read (sym (same w) ∙ e);
    apart = none_apart answers;
  }

pub reads_in_order : (p : SourceProgram) (l : Limits) (answers : List Bool → Answer) → ((w : List Bool) → answers w ≡ run_on p l w) → ReadsInOrder answers
reads_in_order p l answers same =
    let h = tree_of_rounds p l.turns l.attempts l.rounds in
    tree_in_order h.tree answers (λ w. same w ∙ ap (answer_of w) (sym (h.runs w)))
