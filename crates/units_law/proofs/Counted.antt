-- What the entries of a table count, of whatever kind its weights are, and how that stands to what a table of fractions amounts to.
use Rattle.std.proofs.Common.{◌≡◌, ℕ, zero, suc, ◌+◌, ◌*◌, ◌<◌, ℤ, pos, Bool, true, false, cond, List, [], ◌∷◌, ◌++◌, map, Ok, Err, Option, slice_set, refl, ap, arith}
use Rattle.gcl_core.specs.meaning.Blocks.{End, fault, by_value}
use Rattle.gcl_core.specs.meaning.Value.{State, Value}
use Rattle.gcl_core.specs.weighing.WeightedEnds.{Weighted, scaled, class_weight, no_class_weight}
use Rattle.gcl_core.specs.weighing.Fractions.{Fraction}
use Rattle.table_flow.specs.Counts.{moved, stopped, kept_if, all_stopped, sum_below}
use Rattle.table_flow.specs.Scale.{Wholes, amount}
use Rattle.table_flow.specs.Tables.{Entries, Kind, only_go, faults_go, end_go, set_go, below_go}
use Rattle.table_flow.proofs.Amounts.{amount_append}
use Rattle.table_flow.proofs.Kept.{amount_scaled}
use Rattle.units_law.proofs.Orders.{IsOrder, along}

-- how many units an entry has, and what a table and a list of what ended hold, each times what G gives
pub record Counts {X Y : Type 0} (x : Entries X Y) : Type 0 where
  pub many : X → ℕ
  pub of : (State → ℕ) → List X → ℕ
  pub of_ended : (End → ℕ) → List Y → ℕ
  pub none : (G : State → ℕ) → of G [] ≡ 0
  pub more : (G : State → ℕ) (e : X) (J : List X) → of G (e ∷ J) ≡ many e * G (x.state e) + of G J
  pub none_ended : (G : End → ℕ) → of_ended G [] ≡ 0
  pub more_ended : (G : End → ℕ) (z : End) (e : X) (K : List Y) → of_ended G (x.as_end z e ∷ K) ≡ many e * G z + of_ended G K
  pub append_ended : (G : End → ℕ) (K M : List Y) → of_ended G (K ++ M) ≡ of_ended G K + of_ended G M
  pub moved_state : (s : State) (e : X) → x.state (x.moved_to s e) ≡ s
  pub moved_many : (s : State) (e : X) → many (x.moved_to s e) ≡ many e

module _ {X Y : Type 0} (x : Entries X Y) (c : Counts x) where
  pub of_append : (G : State → ℕ) (J K : List X) → c.of G (J ++ K) ≡ c.of G J + c.of G K
  of_append G [] K = let a = c.none G in omega arith
  of_append G (e ∷ J) K =
      let i = of_append G J K in
      let a = c.more G e (J ++ K) in
      let b = c.more G e J in
      omega arith

  -- an entry that is moved
  moved_more : (G : State → ℕ) (s : State) (e : X) (J : List X) → c.of G (x.moved_to s e ∷ J) ≡ c.many e * G s + c.of G J
  moved_more G s e J =
      let a = c.more G (x.moved_to s e) J in
      let b = ap (λ m. m * G (x.state (x.moved_to s e))) (c.moved_many s e) in
      let d = ap (λ t. c.many e * G t) (c.moved_state s e) in
      omega arith

  pub of_only : (G : State → ℕ) (test : State → Bool) (J : List X) → c.of G (only_go x test J) ≡ c.of (kept_if test G) J
  of_only G test [] = let a = c.none G in let b = c.none (kept_if test G) in omega arith
  of_only G test (e ∷ J) = let b = c.more (kept_if test G) e J in at_head (test (x.state e)) refl b (of_only G test J)
    where
      at_head : (b : Bool) → test (x.state e) ≡ b → c.of (kept_if test G) (e ∷ J) ≡ c.many e * kept_if test G (x.state e) + c.of (kept_if test G) J →
          c.of G (only_go x test J) ≡ c.of (kept_if test G) J → c.of G (only_go x test (e ∷ J)) ≡ c.of (kept_if test G) (e ∷ J)
      at_head true p m i = let a = c.more G e (only_go x test J) in rw p (let z = ap (λ b. c.many e * cond b (G (x.state e)) 0) p in omega arith)
      at_head false p m i = rw p (let z = ap (λ b. c.many e * cond b (G (x.state e)) 0) p in omega arith)

  pub of_faults : (G : End → ℕ) (v : State → Value) (J : List X) → c.of_ended G (faults_go x v J) ≡ c.of (stopped v G) J
  of_faults G v [] = let a = c.none_ended G in let b = c.none (stopped v G) in omega arith
  of_faults G v (e ∷ J) = let b = c.more (stopped v G) e J in at_head (v (x.state e)) refl b (of_faults G v J)
    where
      at_head : (o : Value) → v (x.state e) ≡ o → c.of (stopped v G) (e ∷ J) ≡ c.many e * stopped v G (x.state e) + c.of (stopped v G) J →
          c.of_ended G (faults_go x v J) ≡ c.of (stopped v G) J → c.of_ended G (faults_go x v (e ∷ J)) ≡ c.of (stopped v G) (e ∷ J)
      at_head (Ok z) p m i = rw p (let y = ap (λ o. c.many e * by_value o (λ f. G (fault f)) (λ z. 0)) p in omega arith)
      at_head (Err f) p m i = let a = c.more_ended G (fault f) e (faults_go x v J) in rw p (let y = ap (λ o. c.many e * by_value o (λ f. G (fault f)) (λ z. 0)) p in omega arith)

  pub of_end : (G : End → ℕ) (z : End) (J : List X) → c.of_ended G (end_go x z J) ≡ c.of (all_stopped z G) J
  of_end G z [] = let a = c.none_ended G in let b = c.none (all_stopped z G) in omega arith
  of_end G z (e ∷ J) =
      let i = of_end G z J in
      let a = c.more_ended G z e (end_go x z J) in
      let b = c.more (all_stopped z G) e J in
      omega arith

  pub of_set : (G : State → ℕ) (i : ℕ) (v : State → Value) (J : List X) → c.of G (set_go x i v J) ≡ c.of (moved i v G) J
  of_set G i v [] = let a = c.none G in let b = c.none (moved i v G) in omega arith
  of_set G i v (e ∷ J) = let b = c.more (moved i v G) e J in at_head (v (x.state e)) refl b (of_set G i v J)
    where
      at_head : (o : Value) → v (x.state e) ≡ o → c.of (moved i v G) (e ∷ J) ≡ c.many e * moved i v G (x.state e) + c.of (moved i v G) J →
          c.of G (set_go x i v J) ≡ c.of (moved i v G) J → c.of G (set_go x i v (e ∷ J)) ≡ c.of (moved i v G) (e ∷ J)
      at_head (Ok z) p m h =
          let a = moved_more G (slice_set (x.state e) i z) e (set_go x i v J) in
          rw p (let y = ap (λ o. c.many e * by_value o (λ f. 0) (λ z. G (slice_set (x.state e) i z))) p in omega arith)
      at_head (Err f) p m h = rw p (let y = ap (λ o. c.many e * by_value o (λ f. 0) (λ z. G (slice_set (x.state e) i z))) p in omega arith)

  -- each number below m
  of_nothing : (J : List X) → c.of (λ s. 0) J ≡ 0
  of_nothing [] = c.none (λ s. 0)
  of_nothing (e ∷ J) = let i = of_nothing J in let a = c.more (λ s. 0) e J in omega arith

  of_sum : (G H : State → ℕ) (J : List X) → c.of G J + c.of H J ≡ c.of (λ s. G s + H s) J
  of_sum G H [] = let a = c.none G in let b = c.none H in let d = c.none (λ s. G s + H s) in omega arith
  of_sum G H (e ∷ J) =
      let i = of_sum G H J in
      let a = c.more G e J in
      let b = c.more H e J in
      let d = c.more (λ s. G s + H s) e J in
      omega arith

  of_moved : (G : State → ℕ) (i : ℕ) (z : ℤ) (J : List X) → c.of G (map (λ e. x.moved_to (slice_set (x.state e) i z) e) J) ≡ c.of (λ s. G (slice_set s i z)) J
  of_moved G i z [] = let a = c.none G in let b = c.none (λ s. G (slice_set s i z)) in omega arith
  of_moved G i z (e ∷ J) =
      let h = of_moved G i z J in
      let a = moved_more G (slice_set (x.state e) i z) e (map (λ e. x.moved_to (slice_set (x.state e) i z) e) J) in
      let b = c.more (λ s. G (slice_set s i z)) e J in
      omega arith

  pub of_below : (G : State → ℕ) (i m : ℕ) (J : List X) → c.of G (below_go x i m J) ≡ c.of (λ s. sum_below m (λ j. G (slice_set s i (pos j)))) J
  of_below G i zero J = let a = c.none G in let b = of_nothing J in omega arith
  of_below G i (suc m) J =
      let a = of_append G (below_go x i m J) (map (λ e. x.moved_to (slice_set (x.state e) i (pos m)) e) J) in
      let b = of_moved G i (pos m) J in
      let h = of_below G i m J in
      let d = of_sum (λ s. sum_below m (λ j. G (slice_set s i (pos j)))) (λ s. G (slice_set s i (pos m))) J in
      omega arith

-- Products of a kind stand so to those of fractions, and to tidy makes no less of it.
pub record StandsIn {X Y : Type 0} (k : Kind X Y) (c : Counts k.entries) (R : ℕ → ℕ → Type 0) (r : Option ℕ) : Type 0 where
  pub tidy : (G : State → ℕ) (J : List X) → R (c.of G (k.tidy J)) (c.of G J)
  pub class : (b q : ℕ) → 0 < b → (G : State → ℕ) (J : List X) → R ((class_weight b r q).1 * c.of G (k.class b r q J)) ((class_weight b r q).0 * c.of G J)
  pub rest : (b : ℕ) → 0 < b → (G : State → ℕ) (J : List X) → R ((no_class_weight b r).1 * c.of G (k.rest b r J)) ((no_class_weight b r).0 * c.of G J)

-- ---- beside fractions

-- What J counts, D times, stands so to S times what I amounts to at scale N, for whatever counts a member.
abbrev pub Stands : {A T : Type 0} → ((A → ℕ) → T → ℕ) → (ℕ → ℕ → Type 0) → (D S N : ℕ) → T → Weighted A → Type 0
Stands {A} of R D S N J I = (G : A → ℕ) → R (D * of G J) (S * amount N G I)

module _ (R : ℕ → ℕ → Type 0) (o : IsOrder R) (D S N : ℕ) where
  pub counted_as : {A B T U : Type 0} (of : (A → ℕ) → T → ℕ) (of' : (B → ℕ) → U → ℕ) (J : T) (I : Weighted A) (K : U) (M : Weighted B) (go : (B → ℕ) → A → ℕ) → Stands of R D S N J I →
      ((G : B → ℕ) → of' G K ≡ of (go G) J) → ((G : B → ℕ) → amount N G M ≡ amount N (go G) I) → Stands of' R D S N K M
  counted_as of of' J I K M go h p q G =
      along R (D * of (go G) J) (S * amount N (go G) I) (D * of' G K) (S * amount N G M) (ap (λ t. D * t) (p G)) (ap (λ t. S * t) (q G)) (h (go G))

  -- two lists, one behind the other
  pub joined : {A T : Type 0} (of : (A → ℕ) → T → ℕ) (J K L : T) (I M : Weighted A) → ((G : A → ℕ) → of G L ≡ of G J + of G K) → Stands of R D S N J I → Stands of R D S N K M → Stands of R D S N L (I ++ M)
  joined of J K L I M p h k G =
      along R (D * of G J + D * of G K) (S * amount N G I + S * amount N G M) (D * of G L) (S * amount N G (I ++ M))
      (let a = ap (λ t. D * t) (p G) in omega arith) (let a = ap (λ t. S * t) (amount_append N G I M) in omega arith)
      (o.sums (D * of G J) (S * amount N G I) (D * of G K) (S * amount N G M) (h G) (k G))

  pub none_stands : {A T : Type 0} (of : (A → ℕ) → T → ℕ) (J : T) → ((G : A → ℕ) → of G J ≡ 0) → Stands of R D S N J []
  none_stands of J p G = along R (D * 0) (D * 0) (D * of G J) (S * 0) (ap (λ t. D * t) (p G)) (omega arith) (o.itself (D * 0))

  -- a table multiplied by a fraction
  pub times_stands : {A T : Type 0} (of : (A → ℕ) → T → ℕ) (u : Fraction) (J K : T) (I : Weighted A) → 0 < u.1 → Wholes N I → Wholes N (scaled u I) → ((G : A → ℕ) → R (u.1 * of G K) (u.0 * of G J)) → Stands of R D S N J I →
      Stands of R D S N K (scaled u I)
  times_stands of u J K I p a b c h G = cleared u.0 u.1 _ _ _ _ p (c G) (h G) (amount_scaled N G u u.0 u.1 I p refl a b)
    where
      cleared : (n d l j m i : ℕ) → 0 < d → R (d * l) (n * j) → R (D * j) (S * i) → d * m ≡ n * i → R (D * l) (S * m)
      cleared n d l j m i p x y e =
          o.cancels d (D * l) (S * m) p
          (o.further (d * (D * l)) (n * (D * j)) (d * (S * m)) (along R (D * (d * l)) (D * (n * j)) (d * (D * l)) (n * (D * j)) (omega arith) (omega arith) (o.products D (d * l) (n * j) x))
          (along R (n * (D * j)) (n * (S * i)) (n * (D * j)) (d * (S * m)) refl (let z = ap (λ t. S * t) e in omega arith) (o.products n (D * j) (S * i) y)))
