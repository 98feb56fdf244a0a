-- The tests of an expression give its truth.
use Rattle.std.proofs.Common.{◌≡◌, ℕ, zero, suc, ℤ, pos, negsuc, Bool, true, false, not, List, [], ◌∷◌, ◌++◌, Result, Ok, Err, IfOk, IsTrue, refl, sym, ap, ◌∙◌, subst, append_assoc}
use Rattle.std.specs.Prelude.{if◌then◌else◌}
use Rattle.gcl_core.specs.declared.answers.Fault.{Fault}
use Rattle.gcl_core.specs.meaning.Syntax.{Expression}
use Rattle.gcl_core.specs.meaning.Syntax as source
use Rattle.gcl_core.specs.meaning.Value.{State, Value, ◌>>=◌, truth_number, is_zero, value_of, applied}
use Rattle.gcl_core.specs.meaning.Bounds.{ExpressionBelow}
use Rattle.gcl_core.specs.declared.syntax.BinOp.TheVariants.{And, Or}
use Rattle.formula.specs.declared.op.Condition.{Condition}
use Rattle.formula.specs.declared.op.Condition.TheVariants.{Joined, Remainder}
use Rattle.formula.specs.declared.op.Test.{Test}
use Rattle.formula.specs.Chains.{link, settles_at, settled_by, condition_value, ConditionReads, ConditionOf, chain_value, ChainReads, TestOf, truth_value, AreTestsOf, IsLinked, IsChain}
use Rattle.formula.proofs.TermValues.{joined_below, joined_values}

-- ---- values

bind_same : (x : Value) (f g : ℤ → Value) → ((v : ℤ) → f v ≡ g v) → (x >>= f) ≡ (x >>= g)
bind_same (Ok v) f g h = h v
bind_same (Err fault) f g h = refl

bind_bind : (x : Value) (f g : ℤ → Value) → (x >>= λ v. (f v >>= g)) ≡ ((x >>= f) >>= g)
bind_bind (Ok v) f g = refl
bind_bind (Err fault) f g = refl

-- what a test makes of a value where no test follows
abbrev last : Bool → Bool → ℤ → Value
last settled truth v = if settles_at truth v then Ok (truth_number settled) else Ok (truth_number (not settled))

last_same : (settled : Bool) (v : ℤ) → last settled settled v ≡ Ok (truth_number (not (is_zero v)))
last_same true (pos zero) = refl
last_same true (pos (suc n)) = refl
last_same true (negsuc n) = refl
last_same false (pos zero) = refl
last_same false (pos (suc n)) = refl
last_same false (negsuc n) = refl

last_opposite : (settled : Bool) (v : ℤ) → last settled (not settled) v ≡ truth_value (Ok (truth_number (is_zero v)))
last_opposite true (pos zero) = refl
last_opposite true (pos (suc n)) = refl
last_opposite true (negsuc n) = refl
last_opposite false (pos zero) = refl
last_opposite false (pos (suc n)) = refl
last_opposite false (negsuc n) = refl

-- ---- one test

condition_reads : (c : Condition) (e : Expression) (count : ℕ) → ConditionOf c e → ExpressionBelow e count → ConditionReads c count
condition_reads (Joined op t u) e count h r = joined_below op t u e count h r
condition_reads (Remainder x k n) e count h r = ((subst (λ e. ExpressionBelow e count) h.1 r).0.0, h.0)

condition_is : (c : Condition) (e : Expression) (vars : State) → ConditionOf c e → condition_value c vars ≡ value_of e vars
condition_is (Joined op t u) e vars h = joined_values op t u e vars h
condition_is (Remainder x k n) e vars h = ap (λ e. value_of e vars) (sym h.1)

module _ (settles : Bool) (t : Test) (e : Expression) (h : TestOf settles t e) where
  test_reads : (count : ℕ) → ExpressionBelow e count → ChainReads (t ∷ []) count
  test_reads count r = (condition_reads t.condition e count h.condition r, tt)

  test_value : (settled : Bool) (vars : State) → chain_value settled (t ∷ []) vars ≡ (value_of e vars >>= last settled settles)
  test_value settled vars =
      ap (λ truth. condition_value t.condition vars >>= last settled truth) h.settles_at
      ∙ ap (λ v. v >>= last settled settles) (condition_is t.condition e vars h.condition)

pub one_test : (settled : Bool) (t : Test) (e : Expression) → TestOf settled t e → AreTestsOf settled (t ∷ []) e
one_test settled t e h = record {
  reads = test_reads settled t e h;
  value = λ vars. test_value settled t e h settled vars ∙ bind_same (value_of e vars) (last settled settled) _ (last_same settled);
}

pub opposite_test : (settled : Bool) (t : Test) (e : Expression) → TestOf (not settled) t e → AreTestsOf settled (t ∷ []) (source.Not e)
opposite_test settled t e h = record {
  reads = test_reads (not settled) t e h;
  value = λ vars. test_value (not settled) t e h settled vars
      ∙ bind_same (value_of e vars) (last settled (not settled)) (λ v. truth_value (Ok (truth_number (is_zero v)))) (last_opposite settled)
      ∙ bind_bind (value_of e vars) (λ v. Ok (truth_number (is_zero v))) (λ v. Ok (truth_number (not (is_zero v))));
}

-- ---- one after the other

-- on from the value of the tests before
abbrev behind : Bool → Value → ℤ → Value
behind settled next v = if settles_at settled v then Ok (truth_number settled) else next

behind_settled : (settled : Bool) (next : Value) → behind settled next (truth_number settled) ≡ Ok (truth_number settled)
behind_settled true next = refl
behind_settled false next = refl

behind_first : (settled : Bool) (next : Value) → behind settled next (truth_number (not settled)) ≡ next
behind_first true next = refl
behind_first false next = refl

behind_test : (settled : Bool) (next rest all : Value) (b : Bool) → all ≡ (rest >>= behind settled next) →
    (if b then Ok (truth_number settled) else all) ≡ ((if b then Ok (truth_number settled) else rest) >>= behind settled next)
behind_test settled next rest all true h = sym (behind_settled settled next)
behind_test settled next rest all false h = h

append_value : (settled : Bool) (xs ys : List Test) (vars : State) →
    chain_value settled (xs ++ ys) vars ≡ (chain_value settled xs vars >>= behind settled (chain_value settled ys vars))
append_value settled [] ys vars = sym (behind_first settled (chain_value settled ys vars))
append_value settled (t ∷ xs) ys vars =
    let next = chain_value settled ys vars in
    bind_same (condition_value t.condition vars)
    (λ v. if settles_at t.settles v then Ok (truth_number settled) else chain_value settled (xs ++ ys) vars)
    (λ v. (if settles_at t.settles v then Ok (truth_number settled) else chain_value settled xs vars) >>= behind settled next)
    (λ v. behind_test settled next (chain_value settled xs vars) (chain_value settled (xs ++ ys) vars) (settles_at t.settles v) (append_value settled xs ys vars))
    ∙ bind_bind (condition_value t.condition vars) (λ v. if settles_at t.settles v then Ok (truth_number settled) else chain_value settled xs vars) (behind settled next)

append_reads : (xs ys : List Test) (count : ℕ) → ChainReads xs count → ChainReads ys count → ChainReads (xs ++ ys) count
append_reads [] ys count h i = i
append_reads (t ∷ xs) ys count h i = (h.0, append_reads xs ys count h.1 i)

-- what `and` and `or` give on two values
abbrev linked : Bool → Value → Value → Value
linked false x y = x >>= λ v. if is_zero v then Ok (pos 0) else (y >>= λ w. applied And v w)
linked true x y = x >>= λ v. if is_zero v then (y >>= λ w. applied Or v w) else Ok (pos 1)

linked_truth : (settled : Bool) (x y : Value) → (truth_value x >>= behind settled (truth_value y)) ≡ truth_value (linked settled x y)
linked_truth true (Err fault) y = refl
linked_truth false (Err fault) y = refl
linked_truth true (Ok (pos zero)) (Err fault) = refl
linked_truth true (Ok (pos zero)) (Ok (pos zero)) = refl
linked_truth true (Ok (pos zero)) (Ok (pos (suc n))) = refl
linked_truth true (Ok (pos zero)) (Ok (negsuc n)) = refl
linked_truth true (Ok (pos (suc m))) y = refl
linked_truth true (Ok (negsuc m)) y = refl
linked_truth false (Ok (pos zero)) y = refl
linked_truth false (Ok (pos (suc m))) (Err fault) = refl
linked_truth false (Ok (pos (suc m))) (Ok (pos zero)) = refl
linked_truth false (Ok (pos (suc m))) (Ok (pos (suc n))) = refl
linked_truth false (Ok (pos (suc m))) (Ok (negsuc n)) = refl
linked_truth false (Ok (negsuc m)) (Err fault) = refl
linked_truth false (Ok (negsuc m)) (Ok (pos zero)) = refl
linked_truth false (Ok (negsuc m)) (Ok (pos (suc n))) = refl
linked_truth false (Ok (negsuc m)) (Ok (negsuc n)) = refl

-- it is 1 or 0
linked_again : (settled : Bool) (x y : Value) → truth_value (linked settled x y) ≡ linked settled x y
linked_again true (Err fault) y = refl
linked_again false (Err fault) y = refl
linked_again true (Ok (pos zero)) (Err fault) = refl
linked_again true (Ok (pos zero)) (Ok (pos zero)) = refl
linked_again true (Ok (pos zero)) (Ok (pos (suc n))) = refl
linked_again true (Ok (pos zero)) (Ok (negsuc n)) = refl
linked_again true (Ok (pos (suc m))) y = refl
linked_again true (Ok (negsuc m)) y = refl
linked_again false (Ok (pos zero)) y = refl
linked_again false (Ok (pos (suc m))) (Err fault) = refl
linked_again false (Ok (pos (suc m))) (Ok (pos zero)) = refl
linked_again false (Ok (pos (suc m))) (Ok (pos (suc n))) = refl
linked_again false (Ok (pos (suc m))) (Ok (negsuc n)) = refl
linked_again false (Ok (negsuc m)) (Err fault) = refl
linked_again false (Ok (negsuc m)) (Ok (pos zero)) = refl
linked_again false (Ok (negsuc m)) (Ok (pos (suc n))) = refl
linked_again false (Ok (negsuc m)) (Ok (negsuc n)) = refl

linked_value : (settled : Bool) (a b : Expression) (vars : State) →
    linked settled (value_of a vars) (value_of b vars) ≡ value_of (source.Bin (link settled) a b) vars
linked_value true a b vars = refl
linked_value false a b vars = refl

pub linked_tests : (settled : Bool) (xs ys : List Test) (a b : Expression) → AreTestsOf settled xs a → AreTestsOf settled ys b →
    AreTestsOf settled (xs ++ ys) (source.Bin (link settled) a b)
linked_tests settled xs ys a b h i = record {
  reads = λ count r. append_reads xs ys count (h.reads count r.0) (i.reads count r.1);
  value = λ vars. append_value settled xs ys vars
      ∙ ap (λ x. x >>= behind settled (chain_value settled ys vars)) (h.value vars)
      ∙ ap (λ y. truth_value (value_of a vars) >>= behind settled y) (i.value vars)
      ∙ linked_truth settled (value_of a vars) (value_of b vars)
      ∙ ap truth_value (linked_value settled a b vars);
}

-- a whole chain
pub whole_chain : (settled : Bool) (tests : List Test) (e : Expression) → AreTestsOf settled tests e → IsLinked settled e → IsChain settled tests e
whole_chain settled tests e h l = record {
  reads = h.reads;
  value = λ vars. h.value vars
      ∙ ap (λ e. truth_value (value_of e vars)) l.2
      ∙ ap truth_value (sym (linked_value settled l.0 l.1 vars))
      ∙ linked_again settled (value_of l.0 vars) (value_of l.1 vars)
      ∙ linked_value settled l.0 l.1 vars
      ∙ ap (λ e. value_of e vars) (sym l.2);
}

-- ---- as they are written

-- tests of an expression behind others
abbrev pub Added : Bool → List Test → List Test → Expression → Type 0
Added settled old new e = (more : List Test) × (new ≡ old ++ more) × AreTestsOf settled more e

pub test_added : {E : Type 0} (result : Result Bool E) (settled : Bool) (old new : List Test) (e : Expression) →
    IfOk result (λ is_one. IsTrue is_one → (t : Test) × (new ≡ old ++ t ∷ []) × TestOf settled t e) →
    IfOk result (λ are_all. IsTrue are_all → Added settled old new e)
test_added (Ok b) settled old new e h = λ i. let x = h i in (x.0 ∷ [], x.1, one_test settled x.0 e x.2)
test_added (Err fault) settled old new e h = h

pub opposite_added : {E : Type 0} (result : Result Bool E) (settled : Bool) (old new : List Test) (a e : Expression) → source.Not a ≡ e →
    IfOk result (λ is_one. IsTrue is_one → (t : Test) × (new ≡ old ++ t ∷ []) × TestOf (not settled) t a) →
    IfOk result (λ are_all. IsTrue are_all → Added settled old new e)
opposite_added (Ok b) settled old new a e is h =
    λ i. let x = h i in (x.0 ∷ [], x.1, subst (λ e. AreTestsOf settled (x.0 ∷ []) e) is (opposite_test settled x.0 a x.2))
opposite_added (Err fault) settled old new a e is h = h

pub linked_added : {E : Type 0} (result : Result Bool E) (settled : Bool) (old mid new : List Test) (a b e : Expression) →
    source.Bin (link settled) a b ≡ e → Added settled old mid a → IfOk result (λ are_all. IsTrue are_all → Added settled mid new b) →
    IfOk result (λ are_all. IsTrue are_all → Added settled old new e)
linked_added (Ok t) settled old mid new a b e is l h =
    λ i. let r = h i in
    (l.0 ++ r.0, r.1 ∙ ap (λ m. m ++ r.0) l.1 ∙ append_assoc old l.0 r.0, subst (λ e. AreTestsOf settled (l.0 ++ r.0) e) is (linked_tests settled l.0 r.0 a b l.2 r.2))
linked_added (Err fault) settled old mid new a b e is l h = h

pub all_added : (settled : Bool) (old new : List Test) (e : Expression) → old ≡ [] → Added settled old new e → IsLinked settled e → IsChain settled new e
all_added settled old new e none h l =
    whole_chain settled new e (subst (λ m. AreTestsOf settled m e) (sym (h.1 ∙ ap (λ o. o ++ h.0) none)) h.2) l

-- ---- as they are tried

module _ (settled : Bool) (t : Test) (rest : List Test) (vars : State) where
  tried : (v next : Value) (truth b : Bool) → Ok b ≡ settled_by truth v →
      (v >>= λ x. if settles_at truth x then Ok (truth_number settled) else next) ≡ (if b then Ok (truth_number settled) else next)
  tried (Ok x) next truth b h = let same : settles_at truth x ≡ b = cc in ap (λ b. if b then Ok (truth_number settled) else next) same
  tried (Err fault) next truth b h = absurd (cc)

  failed : (v next : Value) (truth : Bool) (fault : Fault) → Err fault ≡ settled_by truth v →
      Err fault ≡ (v >>= λ x. if settles_at truth x then Ok (truth_number settled) else next)
  failed (Ok x) next truth fault h = absurd (cc)
  failed (Err f) next truth fault h = cc

  module _ (tests : List Test) (all : Value) (at : tests ≡ t ∷ rest) (same : chain_value settled tests vars ≡ all) where
    here : chain_value settled (t ∷ rest) vars ≡ all
    here = ap (λ l. chain_value settled l vars) (sym at) ∙ same

    pub first_settles : (b : Bool) → Ok b ≡ settled_by t.settles (condition_value t.condition vars) → b ≡ true → Ok (truth_number settled) ≡ all
    first_settles b h is =
        ap (λ b. if b then Ok (truth_number settled) else chain_value settled rest vars) (sym is)
        ∙ sym (tried (condition_value t.condition vars) (chain_value settled rest vars) t.settles b h) ∙ here

    pub first_passes : (b : Bool) → Ok b ≡ settled_by t.settles (condition_value t.condition vars) → b ≡ false → chain_value settled rest vars ≡ all
    first_passes b h is =
        ap (λ b. if b then Ok (truth_number settled) else chain_value settled rest vars) (sym is)
        ∙ sym (tried (condition_value t.condition vars) (chain_value settled rest vars) t.settles b h) ∙ here

    pub first_fails : (fault : Fault) → Err fault ≡ settled_by t.settles (condition_value t.condition vars) → Err fault ≡ all
    first_fails fault h = failed (condition_value t.condition vars) (chain_value settled rest vars) t.settles fault h ∙ here

pub rest_reads : (tests : List Test) (t : Test) (rest : List Test) (count : ℕ) → tests ≡ t ∷ rest → ChainReads tests count → ChainReads rest count
rest_reads tests t rest count at h = (subst (λ l. ChainReads l count) at h).1
