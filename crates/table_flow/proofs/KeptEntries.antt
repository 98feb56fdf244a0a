-- A fact of entries that the parts of a kind of weight keep is kept by its flow: in what goes on, in what ended, in the tables on the way,
-- in the weights that draws show, and in the draws that are reached.
use Rattle.std.proofs.Common.{◌≡◌, ℕ, zero, suc, ◌-◌, ◌≤◌, ℤ, pos, negsuc, Bool, true, false, cond, List, [], ◌∷◌, ◌++◌, map, Option, Ok, Err, slice_set, refl, sym, subst, arith}
use Rattle.std.specs.List.{sum}
use Rattle.gcl_core.specs.declared.answers.Fault.{Fault}
use Rattle.gcl_core.specs.declared.answers.Fault.TheVariants.{BadBound}
use Rattle.gcl_core.specs.declared.answers.Limit.TheVariants.{Turns, Attempts}
use Rattle.gcl_core.specs.declared.syntax.Weight.{Weight}
use Rattle.gcl_core.specs.meaning.Arms.{parts_of}
use Rattle.gcl_core.specs.meaning.Blocks.{End, failed, fault, limit, by_value, by_bound}
use Rattle.gcl_core.specs.meaning.Draw.{choice_ends, last_end, uniform_ends}
use Rattle.gcl_core.specs.meaning.Parts.{partial_sums}
use Rattle.gcl_core.specs.meaning.Syntax.{Expression, Statement, Skip, Set, If, While, Choice, Choose, Uniform, Observe, Statements, done, ◌▸◌, ArmList, no_arm, arm}
use Rattle.gcl_core.specs.meaning.Value.{State, Value, value_of}
use Rattle.gcl_core.specs.weighing.Fractions.{Fraction}
use Rattle.gcl_core.proofs.EqualClasses.{last_of_equal}
use Rattle.gcl_core.proofs.PartialSums.{last_is}
use Rattle.table_flow.specs.Tables.{FlowOf, Entries, Kind, holds, fails, only_go, faults_go, end_go, set_go, below_go, loop_go, statement_go, block_go, arms_go}
use Rattle.table_flow.proofs.UniformLists.{drawn_go, undrawn_go, shown_go, reached_go, by_lists}
use Rattle.table_flow.proofs.FlowWords.{both}
use Rattle.table_flow.proofs.EachMember.{Each, Anything, each_append}

-- entries with the fact P, what ended with Q, weights of draws with D, and draws that are reached with R
pub record FlowHas {X Y : Type 0} (P : X → Type 0) (Q : Y → Type 0) (D : Fraction → Type 0) (R : Fraction × List ℕ → Type 0) (f : FlowOf X Y) : Type 0 where
  pub next : Each P f.next
  pub ended : Each Q f.ended
  pub tables : Each (Each P) f.tables
  pub draws : Each D f.draws
  pub reached : Each R f.reached

-- what is asked of a statement, of a block and of arms is asked of what they are made of
pub record AskedOfParts (S : Statement → Type 0) (B : Statements → Type 0) (A : ArmList → Type 0) : Type 0 where
  pub block : (st : Statement) (b : Statements) → B (st ▸ b) → S st × B b
  pub guarded : (e : Expression) (a c : Statements) → S (If e a c) → B a × B c
  pub choice : (p : Weight) (a c : Statements) → S (Choice p a c) → B a × B c
  pub choose : (arms : ArmList) → S (Choose arms) → A arms
  pub arms : (p : ℕ) (a : Statements) (arms : ArmList) → A (arm p a arms) → B a × A arms
  pub loop : (e : Expression) (a : Statements) → S (While e a) → B a

pub nothing_asked : AskedOfParts Anything Anything Anything
nothing_asked = record {
  block = λ st b h. (tt, tt);
  guarded = λ e a c h. (tt, tt);
  choice = λ p a c h. (tt, tt);
  choose = λ arms h. tt;
  arms = λ p a arms h. (tt, tt);
  loop = λ e a h. tt;
}

-- What the parts of a kind keep, where S is asked of statements, which leaves draws of such bounds: tables written down anew, entries
-- that end or are moved, and those of a draw.
pub record KeepsEntries {X Y : Type 0} (k : Kind X Y) (r : Option ℕ) (S : Statement → Type 0) (B : Statements → Type 0) (A : ArmList → Type 0) (IsBound : ℕ → Type 0)
    (P : X → Type 0) (Q : Y → Type 0) (D : Fraction → Type 0) (R : Fraction × List ℕ → Type 0) : Type 0 where
  pub asked : AskedOfParts S B A
  pub tidy : (J : List X) → Each P J → Each P (k.tidy J)
  pub at_loop : (J : List X) → Each P J → Each (Each P) (k.at_loop J)
  pub faulty : (f : Fault) (e : X) → P e → Q (k.entries.as_end (fault f) e)
  pub failing : (e : X) → P e → Q (k.entries.as_end failed e)
  pub turns : (v : Expression) (a : Statements) → S (While v a) → (e : X) → P e → Q (k.entries.as_end (limit Turns) e)
  pub set : (i : ℕ) (v : Expression) → S (Set i v) → (e : X) → P e → (z : ℤ) → value_of v (k.entries.state e) ≡ Ok z → P (k.entries.moved_to (slice_set (k.entries.state e) i z) e)
  pub drawn : (i : ℕ) (v : Expression) → S (Uniform i v) → (e : X) → P e → (b : ℕ) → value_of v (k.entries.state e) ≡ Ok (pos b) → (m : ℕ) → suc m ≤ b → (d : X) → P d →
      P (k.entries.moved_to (slice_set (k.entries.state d) i (pos m)) d)
  pub number : (m : ℕ) → IsBound (suc m)
  pub choice : (p : Weight) (a c : Statements) → S (Choice p a c) → IsBound p.den
  pub choose : (arms : ArmList) → S (Choose arms) → IsBound (sum (parts_of arms))
  pub class : (b : ℕ) → IsBound b → (c : ℕ) (J : List X) → Each P J → Each P (k.class b r c J)
  pub rest : (b : ℕ) → IsBound b → (J : List X) → Each P J → Each Q (end_go k.entries (limit Attempts) (k.rest b r J))
  pub shown : (b : ℕ) → IsBound b → (J : List X) → Each P J → Each D (k.shown b r J)
  pub reached : (ends : List ℕ) → IsBound (last_end ends) → (J : List X) → Each P J → Each R (k.reached ends J)

-- ---- parts of a table
module _ {X Y : Type 0} (x : Entries X Y) (P : X → Type 0) where
  pub only_keeps : (test : State → Bool) (J : List X) → Each P J → Each P (only_go x test J)
  only_keeps test [] h = tt
  only_keeps test (e ∷ J) h = at_head (test (x.state e)) (only_keeps test J h.1)
    where
      at_head : (b : Bool) → Each P (only_go x test J) → Each P (cond b (e ∷ only_go x test J) (only_go x test J))
      at_head true i = (h.0, i)
      at_head false i = i

module _ {X Y : Type 0} (x : Entries X Y) (P : X → Type 0) (Q : Y → Type 0) where
  pub end_keeps : (end : End) → ((e : X) → P e → Q (x.as_end end e)) → (J : List X) → Each P J → Each Q (end_go x end J)
  end_keeps end g [] h = tt
  end_keeps end g (e ∷ J) h = (g e h.0, end_keeps end g J h.1)

  pub faults_keep : ((f : Fault) (e : X) → P e → Q (x.as_end (fault f) e)) → (v : State → Value) (J : List X) → Each P J → Each Q (faults_go x v J)
  faults_keep g v [] h = tt
  faults_keep g v (e ∷ J) h = at_head (v (x.state e)) (faults_keep g v J h.1)
    where
      at_head : (o : Value) → Each Q (faults_go x v J) → Each Q (by_value o (λ f. x.as_end (fault f) e ∷ faults_go x v J) (λ z. faults_go x v J))
      at_head (Ok z) i = i
      at_head (Err f) i = (g f e h.0, i)

-- ---- flows
module _ {X Y : Type 0} {k : Kind X Y} {r : Option ℕ} {S : Statement → Type 0} {B : Statements → Type 0} {A : ArmList → Type 0} {IsBound : ℕ → Type 0}
    {P : X → Type 0} {Q : Y → Type 0} {D : Fraction → Type 0} {R : Fraction × List ℕ → Type 0} (keeps : KeepsEntries k r S B A IsBound P Q D R) where
  abbrev Has : FlowOf X Y → Type 0
  Has = FlowHas P Q D R

  only_kept : (test : State → Bool) (J : List X) → Each P J → Each P (only_go k.entries test J)
  only_kept = only_keeps k.entries P

  faults_kept : (v : State → Value) (J : List X) → Each P J → Each Q (faults_go k.entries v J)
  faults_kept = faults_keep k.entries P Q keeps.faulty

  both_kept : (ended : List Y) (f g : FlowOf X Y) → Each Q ended → Has f → Has g → Has (both ended f g)
  both_kept ended f g h a b = record {
    next = each_append P f.next g.next a.next b.next;
    ended = each_append Q ended (f.ended ++ g.ended) h (each_append Q f.ended g.ended a.ended b.ended);
    tables = each_append (Each P) f.tables g.tables a.tables b.tables;
    draws = each_append D f.draws g.draws a.draws b.draws;
    reached = each_append R f.reached g.reached a.reached b.reached;
  }

  set_kept : (i : ℕ) (v : Expression) → S (Set i v) → (J : List X) → Each P J → Each P (set_go k.entries i (value_of v) J)
  set_kept i v s [] h = tt
  set_kept i v s (e ∷ J) h = at_head (value_of v (k.entries.state e)) refl (set_kept i v s J h.1)
    where
      at_head : (o : Value) → value_of v (k.entries.state e) ≡ o → Each P (set_go k.entries i (value_of v) J) →
          Each P (by_value o (λ f. set_go k.entries i (value_of v) J) (λ z. k.entries.moved_to (slice_set (k.entries.state e) i z) e ∷ set_go k.entries i (value_of v) J))
      at_head (Ok z) q t = (keeps.set i v s e h.0 z q, t)
      at_head (Err f) q t = t

  below_kept : (i b m : ℕ) → m ≤ b → ((m : ℕ) → suc m ≤ b → (d : X) → P d → P (k.entries.moved_to (slice_set (k.entries.state d) i (pos m)) d)) → (J : List X) → Each P J → Each P (below_go k.entries i m J)
  below_kept i b zero le g J h = tt
  below_kept i b (suc m) le g J h = each_append P (below_go k.entries i m J) _ (below_kept i b m (omega arith) g J h) (moved J h)
    where
      moved : (J : List X) → Each P J → Each P (map (λ e. k.entries.moved_to (slice_set (k.entries.state e) i (pos m)) e) J)
      moved [] h = tt
      moved (e ∷ J) h = (g m le e h.0, moved J h.1)

  module _ (i : ℕ) (v : Expression) (s : S (Uniform i v)) where
    drawn_kept : (J : List X) → Each P J → Each P (drawn_go k i (value_of v) r J)
    drawn_kept [] h = tt
    drawn_kept (e ∷ J) h = each_append P _ (drawn_go k i (value_of v) r J) (by_state (value_of v (k.entries.state e)) refl) (drawn_kept J h.1)
      where
        by_sign : (z : ℤ) → value_of v (k.entries.state e) ≡ Ok z → Each P (by_bound z [] (λ m. below_go k.entries i m (k.class m r 1 (e ∷ []))))
        by_sign (pos zero) q = tt
        by_sign (pos (suc m)) q = below_kept i (suc m) (suc m) (omega arith) (keeps.drawn i v s e h.0 (suc m) q) (k.class (suc m) r 1 (e ∷ [])) (keeps.class (suc m) (keeps.number m) 1 (e ∷ []) (h.0, tt))
        by_sign (negsuc m) q = tt

        by_state : (o : Value) → value_of v (k.entries.state e) ≡ o → Each P (by_value o (λ f. []) (λ z. by_bound z [] (λ m. below_go k.entries i m (k.class m r 1 (e ∷ [])))))
        by_state (Ok z) q = by_sign z q
        by_state (Err f) q = tt

  undrawn_kept : (v : State → Value) (J : List X) → Each P J → Each Q (undrawn_go k v r J)
  undrawn_kept v [] h = tt
  undrawn_kept v (e ∷ J) h = each_append Q _ (undrawn_go k v r J) (by_state (v (k.entries.state e))) (undrawn_kept v J h.1)
    where
      by_sign : (z : ℤ) → Each Q (by_bound z (k.entries.as_end (fault BadBound) e ∷ []) (λ m. end_go k.entries (limit Attempts) (k.rest m r (e ∷ []))))
      by_sign (pos zero) = (keeps.faulty BadBound e h.0, tt)
      by_sign (pos (suc m)) = keeps.rest (suc m) (keeps.number m) (e ∷ []) (h.0, tt)
      by_sign (negsuc m) = (keeps.faulty BadBound e h.0, tt)

      by_state : (o : Value) → Each Q (by_value o (λ f. k.entries.as_end (fault f) e ∷ []) (λ z. by_bound z (k.entries.as_end (fault BadBound) e ∷ []) (λ m. end_go k.entries (limit Attempts) (k.rest m r (e ∷ [])))))
      by_state (Ok z) = by_sign z
      by_state (Err f) = (keeps.faulty f e h.0, tt)

  shown_kept : (v : State → Value) (J : List X) → Each P J → Each D (shown_go k v r J)
  shown_kept v [] h = tt
  shown_kept v (e ∷ J) h = each_append D _ (shown_go k v r J) (by_state (v (k.entries.state e))) (shown_kept v J h.1)
    where
      by_sign : (z : ℤ) → Each D (by_bound z [] (λ m. k.shown m r (e ∷ [])))
      by_sign (pos zero) = tt
      by_sign (pos (suc m)) = keeps.shown (suc m) (keeps.number m) (e ∷ []) (h.0, tt)
      by_sign (negsuc m) = tt

      by_state : (o : Value) → Each D (by_value o (λ f. []) (λ z. by_bound z [] (λ m. k.shown m r (e ∷ []))))
      by_state (Ok z) = by_sign z
      by_state (Err f) = tt

  reached_kept : (v : State → Value) (J : List X) → Each P J → Each R (reached_go k v J)
  reached_kept v [] h = tt
  reached_kept v (e ∷ J) h = each_append R _ (reached_go k v J) (by_state (v (k.entries.state e))) (reached_kept v J h.1)
    where
      by_sign : (z : ℤ) → Each R (by_bound z [] (λ m. k.reached (uniform_ends m) (e ∷ [])))
      by_sign (pos zero) = tt
      by_sign (pos (suc m)) = keeps.reached (uniform_ends (suc m)) (subst IsBound (sym (last_of_equal (suc m))) (keeps.number m)) (e ∷ []) (h.0, tt)
      by_sign (negsuc m) = tt

      by_state : (o : Value) → Each R (by_value o (λ f. []) (λ z. by_bound z [] (λ m. k.reached (uniform_ends m) (e ∷ []))))
      by_state (Ok z) = by_sign z
      by_state (Err f) = tt

  pub loop_kept : (v : State → Value) (body : List X → FlowOf X Y) → ((e : X) → P e → Q (k.entries.as_end (limit Turns) e)) → ((J : List X) → Each P J → Has (body J)) → (t : ℕ) (J : List X) → Each P J →
      Has (loop_go k.entries k.at_loop v body t J)
  loop_kept v body late go zero J h = record {
    next = only_kept (fails v) J h;
    ended = each_append Q (faults_go k.entries v J) _ (faults_kept v J h) (end_keeps k.entries P Q (limit Turns) late (only_go k.entries (holds v) J) (only_kept (holds v) J h));
    tables = keeps.at_loop J h;
    draws = tt;
    reached = tt;
  }
  loop_kept v body late go (suc t) J h =
      let f = body (only_go k.entries (holds v) J) in
      let g = loop_go k.entries k.at_loop v body t f.next in
      let a = go (only_go k.entries (holds v) J) (only_kept (holds v) J h) in
      let b = loop_kept v body late go t f.next a.next in
      record {
        next = each_append P (only_go k.entries (fails v) J) g.next (only_kept (fails v) J h) b.next;
        ended = each_append Q (faults_go k.entries v J) (f.ended ++ g.ended) (faults_kept v J h) (each_append Q f.ended g.ended a.ended b.ended);
        tables = each_append (Each P) (k.at_loop J) (f.tables ++ g.tables) (keeps.at_loop J h) (each_append (Each P) f.tables g.tables a.tables b.tables);
        draws = each_append D f.draws g.draws a.draws b.draws;
        reached = each_append R f.reached g.reached a.reached b.reached;
      }

  module _ (n : ℕ) where
    mutual
      pub statement_kept : (st : Statement) → S st → (J : List X) → Each P J → Has (statement_go k n r st J)
      statement_kept Skip s J h = record { next = h; ended = tt; tables = tt; draws = tt; reached = tt }
      statement_kept (Set i v) s J h = record { next = set_kept i v s J h; ended = faults_kept (value_of v) J h; tables = tt; draws = tt; reached = tt }
      statement_kept (Observe v) s J h = record {
        next = only_kept (holds (value_of v)) J h;
        ended = each_append Q (faults_go k.entries (value_of v) J) _ (faults_kept (value_of v) J h)
            (end_keeps k.entries P Q failed keeps.failing (only_go k.entries (fails (value_of v)) J) (only_kept (fails (value_of v)) J h));
        tables = tt;
        draws = tt;
        reached = tt;
      }
      statement_kept (Uniform i v) s J h = subst Has (sym (by_lists k r i (value_of v) J)) (record {
        next = drawn_kept i v s J h;
        ended = undrawn_kept (value_of v) J h;
        tables = tt;
        draws = shown_kept (value_of v) J h;
        reached = reached_kept (value_of v) J h;
      })
      statement_kept (If v a c) s J h =
          let p = keeps.asked.guarded v a c s in
          both_kept (faults_go k.entries (value_of v) J) _ _ (faults_kept (value_of v) J h)
          (block_kept a p.0 (only_go k.entries (holds (value_of v)) J) (only_kept (holds (value_of v)) J h))
          (block_kept c p.1 (only_go k.entries (fails (value_of v)) J) (only_kept (fails (value_of v)) J h))
      statement_kept (Choice w a c) s J h =
          let p = keeps.asked.choice w a c s in
          let d = keeps.choice w a c s in
          let f = block_kept a p.0 (k.class w.den r w.num J) (keeps.class w.den d w.num J h) in
          let g = block_kept c p.1 (k.class w.den r (w.den - w.num) J) (keeps.class w.den d (w.den - w.num) J h) in
          let b = both_kept (end_go k.entries (limit Attempts) (k.rest w.den r J)) _ _ (keeps.rest w.den d J h) f g in
          record {
            next = b.next;
            ended = b.ended;
            tables = b.tables;
            draws = each_append D (k.shown w.den r J) _ (keeps.shown w.den d J h) b.draws;
            reached = each_append R (k.reached (choice_ends w) J) _ (keeps.reached (choice_ends w) d J h) b.reached;
          }
      statement_kept (Choose arms) s J h =
          let b = sum (parts_of arms) in
          let d = keeps.choose arms s in
          let ends = partial_sums (parts_of arms) in
          let f = arms_go k n r b arms J in
          let a = arms_kept b d arms (keeps.asked.choose arms s) J h in
          record {
            next = a.next;
            ended = each_append Q (end_go k.entries (limit Attempts) (k.rest b r J)) f.ended (keeps.rest b d J h) a.ended;
            tables = a.tables;
            draws = each_append D (k.shown b r J) f.draws (keeps.shown b d J h) a.draws;
            reached = each_append R (k.reached ends J) f.reached (keeps.reached ends (subst IsBound (sym (last_is (parts_of arms))) d) J h) a.reached;
          }
      statement_kept (While v a) s J h = loop_kept (value_of v) (block_go k n r a) (keeps.turns v a s) (block_kept a (keeps.asked.loop v a s)) n J h

      pub block_kept : (b : Statements) → B b → (J : List X) → Each P J → Has (block_go k n r b J)
      block_kept done s J h = record { next = keeps.tidy J h; ended = tt; tables = (keeps.tidy J h, tt); draws = tt; reached = tt }
      block_kept (st ▸ b) s J h =
          let p = keeps.asked.block st b s in
          let f = statement_go k n r st (k.tidy J) in
          let g = block_go k n r b f.next in
          let a = statement_kept st p.0 (k.tidy J) (keeps.tidy J h) in
          let c = block_kept b p.1 f.next a.next in
          record {
            next = c.next;
            ended = each_append Q f.ended g.ended a.ended c.ended;
            tables = (keeps.tidy J h, each_append (Each P) f.tables g.tables a.tables c.tables);
            draws = each_append D f.draws g.draws a.draws c.draws;
            reached = each_append R f.reached g.reached a.reached c.reached;
          }

      pub arms_kept : (b : ℕ) → IsBound b → (arms : ArmList) → A arms → (J : List X) → Each P J → Has (arms_go k n r b arms J)
      arms_kept b d no_arm s J h = record { next = tt; ended = tt; tables = tt; draws = tt; reached = tt }
      arms_kept b d (arm p a arms) s J h =
          let o = keeps.asked.arms p a arms s in
          both_kept [] _ _ tt (block_kept a o.0 (k.class b r p J) (keeps.class b d p J h)) (arms_kept b d arms o.1 J h)
