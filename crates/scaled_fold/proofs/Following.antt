-- A walk follows each step of a round.
use Rattle.std.proofs.Common.{◌≡◌, ℕ, ◌-◌, ◌*◌, Bool, Option, None, List, [], ◌∷◌, ◌++◌, sym, ap, ◌∙◌, subst, arith}
use Rattle.gcl_core.specs.declared.answers.Limit.TheVariants.{Turns, Attempts}
use Rattle.gcl_core.specs.declared.syntax.Weight.{Weight}
use Rattle.gcl_core.specs.meaning.Blocks.{End, failed, limit}
use Rattle.gcl_core.specs.meaning.Syntax.{Expression, Set, Uniform, Observe}
use Rattle.gcl_core.specs.meaning.Value.{State, value_of}
use Rattle.table_flow.specs.Tables.{holds, fails, set_go, only_go, faults_go, end_go}
use Rattle.scaled_fold.proofs.DrawnPairs.{drawn_pairs, undrawn_pairs}
use Rattle.units_law.specs.Down.{down}
use Rattle.units_law.specs.Merged.{IsMerged}
use Rattle.units_law.specs.Units.{held, total}
use Rattle.scaled_law.specs.Pairs.{Pair, Pairs, InOrder, added, at_least, at_most, counted_pairs, class_pairs, rest_pairs, put_pairs, merged_pairs}
use Rattle.scaled_law.specs.Scaled.{Scaled, top, below, with_tables, swapped, taken_back, enters, left_loop}
use Rattle.scaled_law.specs.Up.{up}
use Rattle.scaled_law.proofs.Merging.{merged_in_order, pairs_merged_again}
use Rattle.scaled_fold.specs.declared.ended.Ended.{Ended}
use Rattle.scaled_fold.specs.declared.walk.Walk.{Walk}
use Rattle.scaled_fold.specs.inner.Ended.{units_of, EndAlike, EndsWith}
use Rattle.scaled_fold.specs.inner.Folding.{statement_after, parted, chosen, none_aside, arms_begun, with_part, gathered, turns_end}
use Rattle.scaled_fold.specs.inner.Holding.{IsMergedOf, AreMergedOf, scale_of, Holds, beside, Follows, FollowsMerged}
use Rattle.scaled_fold.specs.inner.Stack.{stack_of}
use Rattle.scaled_fold.proofs.Merged.{merged_alike, of_itself, both_merged, none_merged, least_append, most_append}
use Rattle.scaled_fold.proofs.Orders.{order_set, order_only, order_class, order_drawn}

-- ---- what stands aside

pub topped : (ess Js : List (Pairs State)) → AreMergedOf ess Js → IsMergedOf (top ess) (top Js) × AreMergedOf (below ess) (below Js)
topped [] [] a = (none_merged, tt)
topped [] (J ∷ Js) a = absurd a
topped (es ∷ ess) [] a = absurd a
topped (es ∷ ess) (J ∷ Js) a = a

-- the same tables by another name
pub as_merged : (es fs J : Pairs State) → es ≡ fs → IsMergedOf fs J → IsMergedOf es J
as_merged es fs J e m = subst (λ t. IsMergedOf t J) (sym e) m

pub as_aside : (ess fss Js : List (Pairs State)) → ess ≡ fss → AreMergedOf fss Js → AreMergedOf ess Js
as_aside ess fss Js e m = subst (λ t. AreMergedOf t Js) (sym e) m

-- two tables merged, on those below
pub stacked_on : (ess rest all : List (Pairs State)) (es bs J : Pairs State) → all ≡ es ∷ rest → es ≡ put_pairs bs J → bs ≡ top ess → rest ≡ below ess → all ≡ put_pairs (top ess) J ∷ below ess
stacked_on ess rest all es bs J a p q r = a ∙ ap (λ es. es ∷ rest) (p ∙ ap (λ bs. put_pairs bs J) q) ∙ ap (λ rest. put_pairs (top ess) J ∷ rest) r

-- what a step leaves as it was beside the tables
still_loose : (w t : Walk) → beside t ≡ beside w → (f : Scaled) → Holds f w → t.loose ≡ f.loose
still_loose w t e f h = ap (λ (b : Pair × ℕ). b.0) e ∙ h.loose

still_scaled : (w t : Walk) → beside t ≡ beside w → (f : Scaled) → Holds f w → f.scale ≡ scale_of t.doubled
still_scaled w t e f h = h.scale ∙ ap (λ (b : Pair × ℕ). scale_of b.1) (sym e)

module _ (w t : Walk) where
  pub swapped_follows : t.next.states.entries ≡ top (stack_of w.aside) → stack_of t.aside ≡ w.next.states.entries ∷ below (stack_of w.aside) → t.ended ≡ w.ended → beside t ≡ beside w → t.next.vars ≡ w.next.vars → Follows swapped w t
  swapped_follows p q e l v = record {
    holds = λ f h. let a = topped (stack_of w.aside) f.aside h.aside in record {
      next = as_merged _ _ _ p a.0;
      aside = as_aside _ _ (f.next ∷ below f.aside) q (h.next, a.1);
      ended = subst (λ E. EndAlike (units_of E) [] f.ended []) (sym e) h.ended;
      loose = still_loose w t l f h;
      scale = still_scaled w t l f h;
    };
    vars = v;
  }

  pub taken_back_follows : t.next.states.entries ≡ put_pairs (top (stack_of w.aside)) w.next.states.entries → stack_of t.aside ≡ below (stack_of w.aside) → t.ended ≡ w.ended → beside t ≡ beside w → t.next.vars ≡ w.next.vars → Follows taken_back w t
  taken_back_follows p q e l v = record {
    holds = λ f h. let a = topped (stack_of w.aside) f.aside h.aside in record {
      next = as_merged _ _ _ p (both_merged _ _ (top f.aside) f.next a.0 h.next);
      aside = as_aside _ _ (below f.aside) q a.1;
      ended = subst (λ E. EndAlike (units_of E) [] f.ended []) (sym e) h.ended;
      loose = still_loose w t l f h;
      scale = still_scaled w t l f h;
    };
    vars = v;
  }

  pub left_follows : t.next.states.entries ≡ top (stack_of w.aside) → stack_of t.aside ≡ below (stack_of w.aside) → t.ended ≡ w.ended → beside t ≡ beside w → t.next.vars ≡ w.next.vars → Follows (λ f. with_tables (top f.aside) (below f.aside) f) w t
  left_follows p q e l v = record {
    holds = λ f h. let a = topped (stack_of w.aside) f.aside h.aside in record {
      next = as_merged _ _ _ p a.0;
      aside = as_aside _ _ (below f.aside) q a.1;
      ended = subst (λ E. EndAlike (units_of E) [] f.ended []) (sym e) h.ended;
      loose = still_loose w t l f h;
      scale = still_scaled w t l f h;
    };
    vars = v;
  }

  pub gathered_follows : t.next.states.entries ≡ top (stack_of w.aside) → stack_of t.aside ≡ put_pairs (top (below (stack_of w.aside))) w.next.states.entries ∷ below (below (stack_of w.aside)) → t.ended ≡ w.ended → beside t ≡ beside w → t.next.vars ≡ w.next.vars → Follows gathered w t
  gathered_follows p q e l v = record {
    holds = λ f h.
        let a = topped (stack_of w.aside) f.aside h.aside in
        let b = topped (below (stack_of w.aside)) (below f.aside) a.1 in record {
          next = as_merged _ _ _ p a.0;
          aside = as_aside _ _ ((top (below f.aside) ++ f.next) ∷ below (below f.aside)) q (both_merged _ _ (top (below f.aside)) f.next b.0 h.next, b.1);
          ended = subst (λ E. EndAlike (units_of E) [] f.ended []) (sym e) h.ended;
          loose = still_loose w t l f h;
          scale = still_scaled w t l f h;
        };
    vars = v;
  }

  -- ---- a loop is left

  pub loosened_follows : t.next.states.entries ≡ top (stack_of w.aside) → stack_of t.aside ≡ below (stack_of w.aside) → t.ended ≡ w.ended →
      t.loose ≡ added w.loose (total (at_least w.next.states.entries), total (at_most w.next.states.entries)) → t.doubled ≡ w.doubled → t.next.vars ≡ w.next.vars → Follows left_loop w t
  loosened_follows p q e l d v = record {
    holds = λ f h.
        let a = topped (stack_of w.aside) f.aside h.aside in
        let b = merged_alike w.next.states.entries f.next h.next in record {
          next = as_merged _ _ _ p a.0;
          aside = as_aside _ _ (below f.aside) q a.1;
          ended = subst (λ E. EndAlike (units_of E) [] f.ended []) (sym e) h.ended;
          loose = l ∙ ap (λ u. added u (total (at_least w.next.states.entries), total (at_most w.next.states.entries))) h.loose
              ∙ ap (λ n. added f.loose (n, total (at_most w.next.states.entries))) (b.least (λ s. 1)) ∙ ap (λ n. added f.loose (total (at_least f.next), n)) (b.most (λ s. 1));
          scale = h.scale ∙ ap scale_of (sym d);
        };
    vars = v;
  }

-- ---- what ends

pub more_ends : (E F : Ended) (X Z : Pairs End) → EndAlike (units_of E) [] X [] → EndsWith E Z F → EndAlike (units_of F) [] (X ++ Z) []
more_ends E F X Z h e = record {
  least = λ G q. let a = h.least G q in let b = e.least G q in let c = least_append G X Z in omega arith;
  most = λ G q. let a = h.most G q in let b = e.most G q in let c = most_append G X Z in omega arith;
}

-- all end in one way
pub least_ended : (G : End → ℕ) (x : End) (J : Pairs State) → held G (at_least (end_go counted_pairs x J)) ≡ total (at_least J) * G x
least_ended G x [] = omega arith
least_ended G x (e ∷ J) = let i = least_ended G x J in omega arith

pub most_ended : (G : End → ℕ) (x : End) (J : Pairs State) → held G (at_most (end_go counted_pairs x J)) ≡ total (at_most J) * G x
most_ended G x [] = omega arith
most_ended G x (e ∷ J) = let i = most_ended G x J in omega arith

-- of which nothing counts
pub none_ends : (E F : Ended) (X Z : Pairs End) → ((G : End → ℕ) → G failed ≡ 0 → held G (at_least Z) ≡ 0) → ((G : End → ℕ) → G failed ≡ 0 → held G (at_most Z) ≡ 0) → EndsWith E X F → EndsWith E (X ++ Z) F
none_ends E F X Z a b e = record {
  least = λ G q. let u = a G q in let v = e.least G q in let c = least_append G X Z in omega arith;
  most = λ G q. let u = b G q in let v = e.most G q in let c = most_append G X Z in omega arith;
}

nothing : (n g : ℕ) → g ≡ 0 → n * g ≡ 0
nothing n g e = rw e (omega arith)

least_failed : (J : Pairs State) (G : End → ℕ) → G failed ≡ 0 → held G (at_least (end_go counted_pairs failed J)) ≡ 0
least_failed J G q = least_ended G failed J ∙ nothing _ _ q

most_failed : (J : Pairs State) (G : End → ℕ) → G failed ≡ 0 → held G (at_most (end_go counted_pairs failed J)) ≡ 0
most_failed J G q = most_ended G failed J ∙ nothing _ _ q

-- the units of all states, in one way
all_end : (E F : Ended) (x : End) (J : Pairs State) → EndsWith E ((x, (total (at_least J), total (at_most J))) ∷ []) F → EndsWith E (end_go counted_pairs x J) F
all_end E F x J e = record {
  least = λ G q. let a = e.least G q in let b = least_ended G x J in omega arith;
  most = λ G q. let a = e.most G q in let b = most_ended G x J in omega arith;
}

-- all that no attempt of a draw among b numbers decides
abbrev pub rest_of_all : ℕ → Option ℕ → Pairs State → Pair
rest_of_all b r J = (total (at_least (rest_pairs down up b r J)), total (at_most (rest_pairs down up b r J)))

-- ---- one statement

module _ (w t : Walk) where
  abbrev es : Pairs State
  es = w.next.states.entries

  abbrev ts : Pairs State
  ts = t.next.states.entries

  -- the table that a round goes on with is the code's own
  own : (f : Scaled) → Holds f w → es ≡ merged_pairs f.next
  own f h = h.next.is

  abbrev OfTable : (Pairs State → Pairs State) → Pairs State → Pairs State → Type 0
  OfTable step fs J = IsMergedOf fs (step J)

  -- what a step makes of the code's table it makes of the round's
  of_table : (step : Pairs State → Pairs State) → ((J : Pairs State) → InOrder J → InOrder (step J)) → (fs : Pairs State) → fs ≡ merged_pairs (step es) → (f : Scaled) → Holds f w → IsMergedOf fs (step (merged_pairs f.next))
  of_table step o fs p f h = record { is = p ∙ ap (λ J. merged_pairs (step J)) (own f h); in_order = o (merged_pairs f.next) (merged_in_order f.next h.next.in_order) }

  -- where each state stands once in it already, it is that of the round
  whole : (f : Scaled) → IsMerged (at_most f.next) → Holds f w → es ≡ f.next
  whole f m h = own f h ∙ pairs_merged_again f.next m h.next.in_order

  of_ends : (stop : Pairs State → Pairs End) → EndsWith w.ended (stop es) t.ended → (f : Scaled) → Holds f w → EndAlike (units_of t.ended) [] (f.ended ++ stop (merged_pairs f.next)) []
  of_ends stop e f h = more_ends w.ended t.ended f.ended (stop (merged_pairs f.next)) h.ended (subst (λ J. EndsWith w.ended (stop J) t.ended) (own f h) e)

  module _ (aside : stack_of t.aside ≡ stack_of w.aside) (loose : beside t ≡ beside w) (vars : t.next.vars ≡ w.next.vars) where
    pub set_follows : (x : ℕ) (e : Expression) → ts ≡ merged_pairs (set_go counted_pairs x (value_of e) es) → EndsWith w.ended (faults_go counted_pairs (value_of e) es) t.ended → Follows (statement_after 0 None (Set x e)) w t
    set_follows x e p q = record {
      holds = λ f h. record {
        next = of_table (set_go counted_pairs x (value_of e)) (order_set x (value_of e)) ts p f h;
        aside = as_aside _ _ f.aside aside h.aside;
        ended = of_ends (faults_go counted_pairs (value_of e)) q f h;
        loose = still_loose w t loose f h;
        scale = still_scaled w t loose f h;
      };
      vars = vars;
    }

    pub drawn_follows : (x : ℕ) (e : Expression) (r : Option ℕ) → ts ≡ merged_pairs (drawn_pairs x (value_of e) r es) → EndsWith w.ended (undrawn_pairs x (value_of e) r es) t.ended → Follows (statement_after 0 r (Uniform x e)) w t
    drawn_follows x e r p q = record {
      holds = λ f h. record {
        next = of_table (drawn_pairs x (value_of e) r) (order_drawn x (value_of e) r) ts p f h;
        aside = as_aside _ _ f.aside aside h.aside;
        ended = of_ends (undrawn_pairs x (value_of e) r) q f h;
        loose = still_loose w t loose f h;
        scale = still_scaled w t loose f h;
      };
      vars = vars;
    }

    pub observed_follows : (e : Expression) → ts ≡ merged_pairs (only_go counted_pairs (holds (value_of e)) es) → EndsWith w.ended (faults_go counted_pairs (value_of e) es) t.ended → Follows (statement_after 0 None (Observe e)) w t
    observed_follows e p q = record {
      holds = λ f h. record {
        next = of_table (only_go counted_pairs (holds (value_of e))) (order_only (holds (value_of e))) ts p f h;
        aside = as_aside _ _ f.aside aside h.aside;
        ended = of_ends (λ J. faults_go counted_pairs (value_of e) J ++ end_go counted_pairs failed (only_go counted_pairs (fails (value_of e)) J))
            (none_ends w.ended t.ended (faults_go counted_pairs (value_of e) es) (end_go counted_pairs failed (only_go counted_pairs (fails (value_of e)) es))
            (least_failed (only_go counted_pairs (fails (value_of e)) es)) (most_failed (only_go counted_pairs (fails (value_of e)) es)) q) f h;
        loose = still_loose w t loose f h;
        scale = still_scaled w t loose f h;
      };
      vars = vars;
    }

  module _ (loose : beside t ≡ beside w) (vars : t.next.vars ≡ w.next.vars) (second : Pairs State) (aside : stack_of t.aside ≡ second ∷ stack_of w.aside) where
    pub parted_follows : (e : Expression) → ts ≡ merged_pairs (only_go counted_pairs (holds (value_of e)) es) → second ≡ merged_pairs (only_go counted_pairs (fails (value_of e)) es) →
        EndsWith w.ended (faults_go counted_pairs (value_of e) es) t.ended → Follows (parted e) w t
    parted_follows e p q r = record {
      holds = λ f h. record {
        next = of_table (only_go counted_pairs (holds (value_of e))) (order_only (holds (value_of e))) ts p f h;
        aside = as_aside _ _ (only_go counted_pairs (fails (value_of e)) (merged_pairs f.next) ∷ f.aside) aside (of_table (only_go counted_pairs (fails (value_of e))) (order_only (fails (value_of e))) second q f h, h.aside);
        ended = of_ends (faults_go counted_pairs (value_of e)) r f h;
        loose = still_loose w t loose f h;
        scale = still_scaled w t loose f h;
      };
      vars = vars;
    }

    -- what no attempt of a draw decides ends
    undecided_ends : (b : ℕ) (r : Option ℕ) → EndsWith w.ended ((limit Attempts, rest_of_all b r es) ∷ []) t.ended → (f : Scaled) → Holds f w →
        EndAlike (units_of t.ended) [] (f.ended ++ end_go counted_pairs (limit Attempts) (rest_pairs down up b r (merged_pairs f.next))) []
    undecided_ends b r e = of_ends (λ J. end_go counted_pairs (limit Attempts) (rest_pairs down up b r J)) (all_end w.ended t.ended (limit Attempts) (rest_pairs down up b r es) e)

    -- what a choice gives, where a draw among b numbers by r attempts makes it
    abbrev AreSides : Weight → ℕ → Option ℕ → Type 0
    AreSides k b r =
        (ts ≡ merged_pairs (class_pairs down up b r k.num es)) × (second ≡ merged_pairs (class_pairs down up b r (k.den - k.num) es))
        × EndsWith w.ended ((limit Attempts, rest_of_all b r es) ∷ []) t.ended

    sides_follow : (r : Option ℕ) (k : Weight) → AreSides k k.den r → Follows (chosen r k) w t
    sides_follow r k s = record {
      holds = λ f h. record {
        next = of_table (class_pairs down up k.den r k.num) (order_class k.den r k.num) ts s.0 f h;
        aside = as_aside _ _ (class_pairs down up k.den r (k.den - k.num) (merged_pairs f.next) ∷ f.aside) aside (of_table (class_pairs down up k.den r (k.den - k.num)) (order_class k.den r (k.den - k.num)) second s.1 f h, h.aside);
        ended = undecided_ends k.den r s.2 f h;
        loose = still_loose w t loose f h;
        scale = still_scaled w t loose f h;
      };
      vars = vars;
    }

    pub chosen_follows : (r : Option ℕ) (k : Weight) (b : ℕ) (s : Option ℕ) → b ≡ k.den → s ≡ r → ts ≡ merged_pairs (class_pairs down up b s k.num es) → second ≡ merged_pairs (class_pairs down up b s (k.den - k.num) es) →
        EndsWith w.ended ((limit Attempts, rest_of_all b s es) ∷ []) t.ended → Follows (chosen r k) w t
    chosen_follows r k b s bound attempts p q e = sides_follow r k (subst (λ b. AreSides k b r) bound (subst (AreSides k b) attempts (p, q, e)))

    none_on_top : (f : Scaled) → second ≡ [] → Holds f w → AreMergedOf (stack_of t.aside) ([] ∷ f.aside)
    none_on_top f q h = as_aside _ _ ([] ∷ f.aside) aside (as_merged _ _ _ q none_merged, h.aside)

    pub none_aside_follows : ts ≡ es → second ≡ [] → t.ended ≡ w.ended → Follows none_aside w t
    none_aside_follows p q r = record {
      holds = λ f h. record {
        next = as_merged _ _ _ (p ∙ own f h) (of_itself f.next h.next.in_order);
        aside = none_on_top f q h;
        ended = subst (λ E. EndAlike (units_of E) [] f.ended []) (sym r) h.ended;
        loose = still_loose w t loose f h;
        scale = still_scaled w t loose f h;
      };
      vars = vars;
    }

    pub arms_follow : (b : ℕ) (r : Option ℕ) → ts ≡ es → second ≡ [] → EndsWith w.ended ((limit Attempts, rest_of_all b r es) ∷ []) t.ended → Follows (arms_begun b r) w t
    arms_follow b r p q e = record {
      holds = λ f h. record {
        next = as_merged _ _ _ (p ∙ own f h) (of_itself f.next h.next.in_order);
        aside = none_on_top f q h;
        ended = undecided_ends b r e f h;
        loose = still_loose w t loose f h;
        scale = still_scaled w t loose f h;
      };
      vars = vars;
    }

    -- ---- from a table in which each state stands once already

    pub part_follows : (b : ℕ) (r : Option ℕ) (c : ℕ) → ts ≡ merged_pairs (class_pairs down up b r c es) → second ≡ es → t.ended ≡ w.ended → FollowsMerged (with_part b r c) w t
    part_follows b r c p q e = record {
      holds = λ f m h. record {
        next = record { is = p ∙ ap (λ J. merged_pairs (class_pairs down up b r c J)) (whole f m h); in_order = order_class b r c f.next h.next.in_order };
        aside = as_aside _ _ (f.next ∷ f.aside) aside (as_merged _ _ _ q h.next, h.aside);
        ended = subst (λ E. EndAlike (units_of E) [] f.ended []) (sym e) h.ended;
        loose = still_loose w t loose f h;
        scale = still_scaled w t loose f h;
      };
      vars = vars;
    }

  -- ---- a turn of a loop

  module _ (e : Expression) (loose : beside t ≡ beside w) (vars : t.next.vars ≡ w.next.vars) (first second : Pairs State)
      (p : first ≡ merged_pairs (only_go counted_pairs (holds (value_of e)) es)) (q : second ≡ merged_pairs (only_go counted_pairs (fails (value_of e)) es)) where
    guarded : (test : State → Bool) (fs : Pairs State) → fs ≡ merged_pairs (only_go counted_pairs test es) → (f : Scaled) → IsMerged (at_most f.next) → Holds f w → IsMergedOf fs (only_go counted_pairs test f.next)
    guarded test fs p f m h = record { is = p ∙ ap (λ J. merged_pairs (only_go counted_pairs test J)) (whole f m h); in_order = order_only test f.next h.next.in_order }

    faulty : (F : Ended) → EndsWith w.ended (faults_go counted_pairs (value_of e) es) F → (f : Scaled) → IsMerged (at_most f.next) → Holds f w → EndAlike (units_of F) [] (f.ended ++ faults_go counted_pairs (value_of e) f.next) []
    faulty F r f m h = more_ends w.ended F f.ended (faults_go counted_pairs (value_of e) f.next) h.ended (subst (λ J. EndsWith w.ended (faults_go counted_pairs (value_of e) J) F) (whole f m h) r)

    pub entered_follows : ts ≡ first → stack_of t.aside ≡ put_pairs (top (stack_of w.aside)) second ∷ below (stack_of w.aside) → EndsWith w.ended (faults_go counted_pairs (value_of e) es) t.ended → FollowsMerged (enters (value_of e)) w t
    entered_follows n a r = record {
      holds = λ f m h. let b = topped (stack_of w.aside) f.aside h.aside in record {
        next = as_merged _ _ _ n (guarded (holds (value_of e)) first p f m h);
        aside = as_aside _ _ ((top f.aside ++ only_go counted_pairs (fails (value_of e)) f.next) ∷ below f.aside) a
            (both_merged _ _ (top f.aside) (only_go counted_pairs (fails (value_of e)) f.next) b.0 (guarded (fails (value_of e)) second q f m h), b.1);
        ended = faulty t.ended r f m h;
        loose = still_loose w t loose f h;
        scale = still_scaled w t loose f h;
      };
      vars = vars;
    }

    pub out_follows : (F : Ended) → ts ≡ put_pairs (top (stack_of w.aside)) second → stack_of t.aside ≡ below (stack_of w.aside) → EndsWith w.ended (faults_go counted_pairs (value_of e) es) F →
        EndsWith F ((limit Turns, (total (at_least first), total (at_most first))) ∷ []) t.ended → FollowsMerged (turns_end e) w t
    out_follows F n a r u = record {
      holds = λ f m h.
          let b = topped (stack_of w.aside) f.aside h.aside in
          let g = guarded (holds (value_of e)) first p f m h in
          let z = merged_alike first (only_go counted_pairs (holds (value_of e)) f.next) g in
          let y = faulty F r f m h in record {
            next = as_merged _ _ _ n (both_merged _ _ (top f.aside) (only_go counted_pairs (fails (value_of e)) f.next) b.0 (guarded (fails (value_of e)) second q f m h));
            aside = as_aside _ _ (below f.aside) a b.1;
            ended = record {
              least = λ G k.
                  let c = y.least G k in
                  let d = u.least G k in
                  let i = least_ended G (limit Turns) (only_go counted_pairs (holds (value_of e)) f.next) in
                  let j = ap (λ n. n * G (limit Turns)) (z.least (λ s. 1)) in
                  let x = least_append G f.ended (faults_go counted_pairs (value_of e) f.next) in
                  let v = least_append G f.ended (faults_go counted_pairs (value_of e) f.next ++ end_go counted_pairs (limit Turns) (only_go counted_pairs (holds (value_of e)) f.next)) in
                  let o = least_append G (faults_go counted_pairs (value_of e) f.next) (end_go counted_pairs (limit Turns) (only_go counted_pairs (holds (value_of e)) f.next)) in
                  omega arith;
              most = λ G k.
                  let c = y.most G k in
                  let d = u.most G k in
                  let i = most_ended G (limit Turns) (only_go counted_pairs (holds (value_of e)) f.next) in
                  let j = ap (λ n. n * G (limit Turns)) (z.most (λ s. 1)) in
                  let x = most_append G f.ended (faults_go counted_pairs (value_of e) f.next) in
                  let v = most_append G f.ended (faults_go counted_pairs (value_of e) f.next ++ end_go counted_pairs (limit Turns) (only_go counted_pairs (holds (value_of e)) f.next)) in
                  let o = most_append G (faults_go counted_pairs (value_of e) f.next) (end_go counted_pairs (limit Turns) (only_go counted_pairs (holds (value_of e)) f.next)) in
                  omega arith;
            };
            loose = still_loose w t loose f h;
            scale = still_scaled w t loose f h;
          };
      vars = vars;
    }
