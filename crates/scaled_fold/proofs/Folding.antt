-- What a walk has done of a block, of the turns of a loop and of the arms of a choice among several, and what is left of them.
use Rattle.std.proofs.Common.{◌≡◌, ℕ, suc, ◌≤◌, true, false, List, drop, Option, length, refl, sym, ap, ◌∙◌, subst}
use Rattle.std.specs.Prelude.{◌==◌, if◌then◌else◌}
use Rattle.std.specs.List.{sum}
use Rattle.std.proofs.lemmas.Bool.{ne_eqb}
use Rattle.std.proofs.Math.ListN.{drop_of_length-le}
use Rattle.gcl_core.specs.declared.syntax.Stmt.{Stmt}
use Rattle.gcl_core.specs.declared.syntax.Weight.{Weight}
use Rattle.gcl_core.specs.meaning.Arms.{parts_of}
use Rattle.gcl_core.specs.meaning.Syntax.{Expression, Statement, If, While, Choice, Choose, Statements, done, ◌▸◌, ArmList, no_arm, arm}
use Rattle.gcl_core.specs.meaning.Value.{value_of}
use Rattle.gcl_core.specs.meaning.Views.{list_of}
use Rattle.units_law.specs.Merged.{IsMerged}
use Rattle.units_law.specs.Units.{total}
use Rattle.scaled_law.specs.Pairs.{at_least, at_most}
use Rattle.scaled_law.specs.Scaled.{Scaled, top, below, with_tables, tidied, swapped, taken_back, times_all, enters, left_loop}
use Rattle.scaled_fold.specs.Doubling.{doubling}
use Rattle.scaled_fold.specs.declared.walk.Walk.{Walk}
use Rattle.scaled_fold.specs.inner.Folding.{statement_after, block_after, both_after, arms_after, loop_after, parted, chosen, none_aside, arms_begun, with_part, gathered, turns_end}
use Rattle.scaled_fold.specs.inner.Holding.{Holds, Follows, FollowsMerged}
use Rattle.scaled_fold.proofs.Following.{as_merged}
use Rattle.scaled_fold.proofs.Keeping.{block_once, block_keeps}
use Rattle.scaled_fold.proofs.Merged.{merged_alike, of_itself, once}

-- ---- one step after another

pub then_follows : (g h : Scaled → Scaled) (w t u : Walk) → Follows g w t → Follows h t u → Follows (λ f. h (g f)) w u
then_follows g h w t u a b = record { holds = λ f k. b.holds (g f) (a.holds f k); vars = b.vars ∙ a.vars }

-- merged, a walk stays as it is
pub tidied_follows : (w : Walk) → Follows tidied w w
tidied_follows w = record {
  holds = λ f h. record { next = as_merged _ _ _ h.next.is (of_itself f.next h.next.in_order); aside = h.aside; ended = h.ended; loose = h.loose; scale = h.scale };
  vars = refl;
}

pub is_zero : (m : ℕ) → m ≡ 0 → (m == 0) ≡ true
is_zero m e = ap (λ m. m == 0) e

pub not_zero : (m : ℕ) → ¬ (m ≡ 0) → (m == 0) ≡ false
not_zero m h = ne_eqb m 0 h

module _ (n : ℕ) (r : Option ℕ) where
  -- ---- a statement, by its view

  pub follows_as : (st st' : Statement) (w t : Walk) → st ≡ st' → Follows (statement_after n r st') w t → Follows (statement_after n r st) w t
  follows_as st st' w t e h = subst (λ st. Follows (statement_after n r st) w t) (sym e) h

  pub choose_follows : (arms : ArmList) (w t : Walk) → Follows (λ f. arms_after n r (sum (parts_of arms)) arms (arms_begun (sum (parts_of arms)) r f)) w t → Follows (statement_after n r (Choose arms)) w t
  choose_follows arms w t s = record { holds = s.holds; vars = s.vars }

  pub while_follows : (e : Expression) (b : Statements) (w t : Walk) → Follows (λ f. loop_after n r e b n (none_aside f)) w t → Follows (statement_after n r (While e b)) w t
  while_follows e b w t s = record { holds = s.holds; vars = s.vars }

  -- ---- a block: what is left of it makes of where the walk stands what the whole makes of where it began

  pub record Goes (b rest : Statements) (w now : Walk) : Type 0 where
    pub go : Scaled → Scaled
    pub follows : Follows go w now
    pub same : (f : Scaled) → block_after n r rest (go f) ≡ block_after n r b f

  pub goes_start : (b rest : Statements) (w : Walk) → rest ≡ b → Goes b rest w w
  goes_start b rest w e = record { go = λ f. f; follows = record { holds = λ f h. h; vars = refl }; same = λ f. ap (λ b. block_after n r b f) e }

  pub goes_as : (b rest left : Statements) (w now : Walk) → rest ≡ left → Goes b rest w now → Goes b left w now
  goes_as b rest left w now e g = subst (λ rest. Goes b rest w now) e g

  pub goes_next : (b : Statements) (st : Statement) (rest : Statements) (w now t u : Walk) → Goes b (st ▸ rest) w now → Follows (statement_after n r st) now t → Follows (λ f. times_all (doubling.factor f) f) t u → Goes b rest w u
  goes_next b st rest w now t u g s k = record {
    go = λ f. times_all (doubling.factor (statement_after n r st (g.go f))) (statement_after n r st (g.go f));
    follows = record { holds = λ f h. k.holds _ (s.holds _ (g.follows.holds f h)); vars = k.vars ∙ s.vars ∙ g.follows.vars };
    same = g.same;
  }

  goes_end : (b : Statements) (w now : Walk) → Goes b done w now → Follows (block_after n r b) w now
  goes_end b w now g = record {
    holds = λ f h. subst (λ t. Holds t now) (g.same f) ((tidied_follows now).holds (g.go f) (g.follows.holds f h));
    vars = g.follows.vars;
  }

  pub goes_done : (xs ys : List Stmt) (i : ℕ) (w now : Walk) → length xs ≤ i → xs ≡ ys → Goes (list_of xs) (list_of (drop i xs)) w now → Follows (block_after n r (list_of ys)) w now
  goes_done xs ys i w now h p g =
      let k : Goes (list_of xs) done w now = subst (λ z. Goes (list_of xs) (list_of z) w now) (drop_of_length-le xs h) g in
      subst (λ z. Follows (block_after n r (list_of z)) w now) p (goes_end (list_of xs) w now k)

  -- ---- two blocks

  -- from what stood there after a first step
  pub both_follow : (g : Scaled → Scaled) (a c : Statements) (w o t u v z : Walk) → Follows g w o → Follows (block_after n r a) o t → Follows swapped t u → Follows (block_after n r c) u v → Follows taken_back v z →
      Follows (λ f. both_after n r a c (g f)) w z
  both_follow g a c w o t u v z x p q r s = record { holds = λ f h. s.holds _ (r.holds _ (q.holds _ (p.holds _ (x.holds f h)))); vars = s.vars ∙ r.vars ∙ q.vars ∙ p.vars ∙ x.vars }

  pub if_follows : (e : Expression) (a c : Statements) (w z : Walk) → Follows (λ f. both_after n r a c (parted e f)) w z → Follows (statement_after n r (If e a c)) w z
  if_follows e a c w z s = record { holds = s.holds; vars = s.vars }

  pub choice_follows : (p : Weight) (a c : Statements) (w z : Walk) → Follows (λ f. both_after n r a c (chosen r p f)) w z → Follows (statement_after n r (Choice p a c)) w z
  choice_follows p a c w z s = record { holds = s.holds; vars = s.vars }

  -- ---- a loop

  pub record Turns (e : Expression) (b : Statements) (left : ℕ) (f : Scaled) (now : Walk) : Type 0 where
    pub flow : Scaled
    pub holds : Holds flow now
    pub once : IsMerged (at_most flow.next)
    pub same : loop_after n r e b left flow ≡ loop_after n r e b n (none_aside f)

  module _ (e : Expression) (b : Statements) (f : Scaled) where
    pub turns_start : (w now : Walk) (left : ℕ) → left ≡ n → Follows none_aside w now → Holds f w → Turns e b left f now
    turns_start w now left p s h = record { flow = none_aside f; holds = s.holds f h; once = once f.next; same = ap (λ t. loop_after n r e b t (none_aside f)) p }

    pub turns_as : (left more : ℕ) (now : Walk) → left ≡ more → Turns e b left f now → Turns e b more f now
    turns_as left more now p g = subst (λ left. Turns e b left f now) p g

    leaves_is : (flow : Scaled) (now : Walk) → Holds flow now → doubling.leaves flow.next ≡ (total (at_least now.next.states.entries) == 0)
    leaves_is flow now h = ap (λ m. m == 0) (sym ((merged_alike now.next.states.entries flow.next h.next).least (λ s. 1)))

    pub turns_next : (now t u : Walk) (left : ℕ) → (total (at_least now.next.states.entries) == 0) ≡ false → Turns e b (suc left) f now → FollowsMerged (enters (value_of e)) now t → Follows (block_after n r b) t u → Turns e b left f u
    turns_next now t u left some g s k =
        let flow = block_after n r b (enters (value_of e) g.flow) in
        let stays : doubling.leaves g.flow.next ≡ false = leaves_is g.flow now g.holds ∙ some in
        record {
          flow = flow;
          holds = k.holds _ (s.holds g.flow g.once g.holds);
          once = block_once n r b (enters (value_of e) g.flow);
          same = sym (ap (λ x. if x then left_loop g.flow else loop_after n r e b left flow) stays) ∙ g.same;
        }

    pub turns_left : (now t : Walk) (left : ℕ) → (total (at_least now.next.states.entries) == 0) ≡ true → Turns e b (suc left) f now → Follows left_loop now t → Holds (loop_after n r e b n (none_aside f)) t
    turns_left now t left none g s =
        let leaves : doubling.leaves g.flow.next ≡ true = leaves_is g.flow now g.holds ∙ none in
        let flow = block_after n r b (enters (value_of e) g.flow) in
        subst (λ x. Holds x t) (sym (ap (λ x. if x then left_loop g.flow else loop_after n r e b left flow) leaves) ∙ g.same) (s.holds g.flow g.holds)

    pub turns_done : (now t : Walk) (left : ℕ) → left ≡ 0 → Turns e b left f now → FollowsMerged (turns_end e) now t → Holds (loop_after n r e b n (none_aside f)) t
    turns_done now t left p g s =
        let q : loop_after n r e b 0 g.flow ≡ loop_after n r e b n (none_aside f) = sym (ap (λ t. loop_after n r e b t g.flow) p) ∙ g.same in
        subst (λ x. Holds x t) q (s.holds g.flow g.once g.holds)

  -- ---- the arms of a choice among several, of so many parts together

  pub record Arms (b : ℕ) (arms rest : ArmList) (f : Scaled) (now : Walk) : Type 0 where
    pub flow : Scaled
    pub holds : Holds flow now
    pub once : IsMerged (at_most flow.next)
    pub same : arms_after n r b rest flow ≡ arms_after n r b arms f

  module _ (b : ℕ) (arms : ArmList) (f : Scaled) where
    pub arms_start : (rest : ArmList) (w : Walk) → rest ≡ arms → IsMerged (at_most f.next) → Holds f w → Arms b arms rest f w
    arms_start rest w e m h = record { flow = f; holds = h; once = m; same = ap (λ arms. arms_after n r b arms f) e }

    pub arms_as : (rest left : ArmList) (now : Walk) → rest ≡ left → Arms b arms rest f now → Arms b arms left f now
    arms_as rest left now e g = subst (λ rest. Arms b arms rest f now) e g

    pub arms_step : (p : ℕ) (a : Statements) (rest : ArmList) (now t u v : Walk) → Arms b arms (arm p a rest) f now → FollowsMerged (with_part b r p) now t → Follows (block_after n r a) t u → Follows gathered u v → Arms b arms rest f v
    arms_step p a rest now t u v g s k z =
        let x = with_part b r p g.flow in
        record {
          flow = gathered (block_after n r a x);
          holds = z.holds _ (k.holds _ (s.holds g.flow g.once g.holds));
          once = block_keeps n r a 0 x g.once;
          same = g.same;
        }

    pub arms_end : (now t : Walk) → Arms b arms no_arm f now → Follows (λ f. with_tables (top f.aside) (below f.aside) f) now t → Holds (arms_after n r b arms f) t
    arms_end now t g s = subst (λ x. Holds x t) g.same (s.holds g.flow g.holds)
