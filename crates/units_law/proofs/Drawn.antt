-- A uniform draw of each state of a table, of whatever kind its weights are.
use Rattle.std.proofs.Common.{◌≡◌, ℕ, zero, suc, ◌+◌, ◌*◌, ◌/◌, ◌<◌, pos, negsuc, List, [], ◌∷◌, Ok, Err, Option, slice_set, refl, sym, ap, ◌∙◌, arith}
use native.Mathlib.Nat.{mul-div_right}
use Rattle.gcl_core.specs.declared.answers.Fault.TheVariants.{BadBound}
use Rattle.gcl_core.specs.declared.answers.Limit.TheVariants.{Attempts}
use Rattle.gcl_core.specs.meaning.Value.{State, Value}
use Rattle.gcl_core.specs.meaning.Blocks.{End, fault, limit, by_value, by_bound}
use Rattle.gcl_core.specs.weighing.Fractions.{Fraction, one, times}
use Rattle.gcl_core.specs.weighing.WeightedEnds.{class_weight, no_class_weight}
use Rattle.table_flow.specs.Tables.{Table, Kind, end_go, below_go}
use Rattle.table_flow.specs.Counts.{sum_below, part_at, rest_at, drawn, undrawn, all_stopped}
use Rattle.table_flow.specs.Scale.{whole, Wholes, amount}
use Rattle.table_flow.proofs.FlowWords.{multiplied}
use Rattle.table_flow.proofs.UniformLists.{drawn_go, undrawn_go}
use Rattle.numbers.proofs.Divisors.{product_pos}
use Rattle.table_flow.proofs.Draws.{share, class_pos, no_class_pos}
use Rattle.units_law.proofs.Counted.{Counts, StandsIn, Stands, of_append, of_below, of_end}
use Rattle.units_law.proofs.Orders.{IsOrder, along}

-- ---- a common denominator of what p gives the states of a list

abbrev common : (State → Fraction) → List State → ℕ
common p [] = 1
common p (s ∷ m) = (p s).1 * common p m

abbrev Divides : (State → Fraction) → ℕ → List State → Type 0
Divides p C [] = Unit {0}
Divides p C (s ∷ m) = ((p s).1 * (C / (p s).1) ≡ C) × Divides p C m

abbrev of_table : Table → List State
of_table [] = []
of_table (e ∷ I) = e.1 ∷ of_table I

module _ (p : State → Fraction) (above : (s : State) → 0 < (p s).1) where
  common_pos : (m : List State) → 0 < common p m
  common_pos [] = omega arith
  common_pos (s ∷ m) = product_pos _ _ (above s) (common_pos m)

  divides : (c C : ℕ) (m : List State) → C ≡ c * common p m → Divides p C m
  divides c C [] e = tt
  divides c C (s ∷ m) e =
      let d = (p s).1 in
      let a : d * (c * common p m) ≡ C = omega arith in
      let q : C / d ≡ c * common p m = ap (λ t. t / d) (sym a) ∙ mul-div_right (c * common p m) (above s) in
      (ap (λ t. d * t) q ∙ a, divides (c * d) C m (omega arith))

  -- each state's part, as so many of C
  abbrev part_of : ℕ → (State → ℕ) → State → ℕ
  part_of C G s = C / (p s).1 * ((p s).0 * G s)

  exact_parts : (N C : ℕ) (G : State → ℕ) (I : Table) → Divides p C (of_table I) → Wholes N I → Wholes N (multiplied p I) → C * amount N G (multiplied p I) ≡ amount N (part_of C G) I
  exact_parts N C G [] d a b = omega arith
  exact_parts N C G (e ∷ I) d a b =
      joined C (C / (p e.1).1) (p e.1).0 (p e.1).1 (G e.1) (whole N e.0) (whole N (times e.0 (p e.1))) _ _ d.0 (share N e.0 (p e.1) a.0 b.0) (exact_parts N C G I d.1 a.1 b.1)
    where
      joined : (C k n d g W V A B : ℕ) → d * k ≡ C → d * V ≡ n * W → C * A ≡ B → C * (V * g + A) ≡ W * (k * (n * g)) + B
      joined C k n d g W V A B e s i = let x = ap (λ t. t * (V * g)) e in let y = ap (λ t. t * (k * g)) s in omega arith

module _ {X Y : Type 0} (k : Kind X Y) (c : Counts k.entries) (R : ℕ → ℕ → Type 0) (o : IsOrder R) (r : Option ℕ) (stands : StandsIn k c R r) where
  abbrev of_entries : List X → List State
  of_entries [] = []
  of_entries (e ∷ J) = k.entries.state e ∷ of_entries J

  alone : (G : State → ℕ) (e : X) → c.of G (e ∷ []) ≡ c.many e * G (k.entries.state e)
  alone G e = let a = c.more G e [] in let b = c.none G in omega arith

  -- where a part of one entry stands so to its part of C
  parted : (C n d K l j w g : ℕ) → d * K ≡ C → j ≡ w * g → R (d * l) (n * j) → R (C * l) (w * (K * (n * g)))
  parted C n d K l j w g e f h =
      along R (K * (d * l)) (K * (n * j)) (C * l) (w * (K * (n * g))) (let x = ap (λ t. t * l) e in omega arith) (let x = ap (λ t. K * (n * t)) f in omega arith) (o.products K (d * l) (n * j) h)

  same_part : (C K l w g : ℕ) → 1 * K ≡ C → l ≡ w * g → R (C * l) (w * (K * (1 * g)))
  same_part C K l w g e f = along R (C * (w * g)) (C * (w * g)) (C * l) (w * (K * (1 * g))) (ap (λ t. C * t) f) (let x = ap (λ t. w * (t * g)) e in omega arith) (o.itself (C * (w * g)))

  no_part : (C l w K n : ℕ) → l ≡ 0 → R (C * l) (w * (K * (n * 0)))
  no_part C l w K n e = along R 0 0 (C * l) (w * (K * (n * 0))) (let x = ap (λ t. C * t) e in omega arith) (omega arith) (o.itself 0)

  -- ---- what goes on

  module _ (i : ℕ) (v : State → Value) where
    part_above : (o : Value) → 0 < (by_value o (λ f. one) (λ z. by_bound z one (λ m. class_weight m r 1))).1
    part_above (Ok (pos zero)) = omega arith
    part_above (Ok (pos (suc m))) = class_pos (suc m) r 1 (omega arith)
    part_above (Ok (negsuc m)) = omega arith
    part_above (Err f) = omega arith

    drawn_head : (C K : ℕ) (G : State → ℕ) (e : X) (o : Value) → (by_value o (λ f. one) (λ z. by_bound z one (λ m. class_weight m r 1))).1 * K ≡ C →
        R (C * c.of G (by_value o (λ f. []) (λ z. by_bound z [] (λ m. below_go k.entries i m (k.class m r 1 (e ∷ []))))))
        (c.many e * (K * ((by_value o (λ f. one) (λ z. by_bound z one (λ m. class_weight m r 1))).0 * by_value o (λ f. 0) (λ z. by_bound z 0 (λ m. sum_below m (λ j. G (slice_set (k.entries.state e) i (pos j))))))))
    drawn_head C K G e (Ok (pos zero)) q = no_part C (c.of G []) (c.many e) K 1 (c.none G)
    drawn_head C K G e (Ok (pos (suc m))) q =
        let H = λ (s : State). sum_below (suc m) (λ j. G (slice_set s i (pos j))) in
        let u = class_weight (suc m) r 1 in
        along R (C * c.of H (k.class (suc m) r 1 (e ∷ []))) (c.many e * (K * (u.0 * H (k.entries.state e)))) _ _ (ap (λ t. C * t) (of_below k.entries c G i (suc m) (k.class (suc m) r 1 (e ∷ [])))) refl
        (parted C u.0 u.1 K (c.of H (k.class (suc m) r 1 (e ∷ []))) (c.of H (e ∷ [])) (c.many e) (H (k.entries.state e)) q (alone H e) (stands.class (suc m) 1 (omega arith) H (e ∷ [])))
    drawn_head C K G e (Ok (negsuc m)) q = no_part C (c.of G []) (c.many e) K 1 (c.none G)
    drawn_head C K G e (Err f) q = no_part C (c.of G []) (c.many e) K 1 (c.none G)

    drawn_parts : (C : ℕ) (G : State → ℕ) (J : List X) → Divides (part_at v r) C (of_entries J) → R (C * c.of G (drawn_go k i v r J)) (c.of (part_of (part_at v r) (λ s. part_above (v s)) C (drawn i v G)) J)
    drawn_parts C G [] d = along R 0 0 _ _ (let a = ap (λ t. C * t) (c.none G) in omega arith) (c.none _) (o.itself 0)
    drawn_parts C G (e ∷ J) d =
        let P = part_of (part_at v r) (λ s. part_above (v s)) C (drawn i v G) in
        let head = by_value (v (k.entries.state e)) (λ f. []) (λ z. by_bound z [] (λ m. below_go k.entries i m (k.class m r 1 (e ∷ [])))) in
        along R (C * c.of G head + C * c.of G (drawn_go k i v r J)) (c.many e * P (k.entries.state e) + c.of P J) _ _
        (let a = ap (λ t. C * t) (of_append k.entries c G head (drawn_go k i v r J)) in omega arith) (c.more P e J)
        (o.sums _ _ _ _ (drawn_head C (C / (part_at v r (k.entries.state e)).1) G e (v (k.entries.state e)) d.0) (drawn_parts C G J d.1))

  -- ---- what ends

  module _ (v : State → Value) where
    rest_above : (o : Value) → 0 < (by_value o (λ f. one) (λ z. by_bound z one (λ m. no_class_weight m r))).1
    rest_above (Ok (pos zero)) = omega arith
    rest_above (Ok (pos (suc m))) = no_class_pos (suc m) r
    rest_above (Ok (negsuc m)) = omega arith
    rest_above (Err f) = omega arith

    ended_alone : (G : End → ℕ) (z : End) (e : X) → c.of_ended G (k.entries.as_end z e ∷ []) ≡ c.many e * G z
    ended_alone G z e = let a = c.more_ended G z e [] in let b = c.none_ended G in omega arith

    undrawn_head : (C K : ℕ) (G : End → ℕ) (e : X) (o : Value) → (by_value o (λ f. one) (λ z. by_bound z one (λ m. no_class_weight m r))).1 * K ≡ C →
        R (C * c.of_ended G (by_value o (λ f. k.entries.as_end (fault f) e ∷ []) (λ z. by_bound z (k.entries.as_end (fault BadBound) e ∷ []) (λ m. end_go k.entries (limit Attempts) (k.rest m r (e ∷ []))))))
        (c.many e * (K * ((by_value o (λ f. one) (λ z. by_bound z one (λ m. no_class_weight m r))).0 * by_value o (λ f. G (fault f)) (λ z. by_bound z (G (fault BadBound)) (λ m. G (limit Attempts))))))
    undrawn_head C K G e (Ok (pos zero)) q = same_part C K _ (c.many e) (G (fault BadBound)) q (ended_alone G (fault BadBound) e)
    undrawn_head C K G e (Ok (pos (suc m))) q =
        let H = all_stopped (limit Attempts) G in
        let u = no_class_weight (suc m) r in
        along R (C * c.of H (k.rest (suc m) r (e ∷ []))) (c.many e * (K * (u.0 * G (limit Attempts)))) _ _ (ap (λ t. C * t) (of_end k.entries c G (limit Attempts) (k.rest (suc m) r (e ∷ [])))) refl
        (parted C u.0 u.1 K (c.of H (k.rest (suc m) r (e ∷ []))) (c.of H (e ∷ [])) (c.many e) (G (limit Attempts)) q (alone H e) (stands.rest (suc m) (omega arith) H (e ∷ [])))
    undrawn_head C K G e (Ok (negsuc m)) q = same_part C K _ (c.many e) (G (fault BadBound)) q (ended_alone G (fault BadBound) e)
    undrawn_head C K G e (Err f) q = same_part C K _ (c.many e) (G (fault f)) q (ended_alone G (fault f) e)

    undrawn_parts : (C : ℕ) (G : End → ℕ) (J : List X) → Divides (rest_at v r) C (of_entries J) → R (C * c.of_ended G (undrawn_go k v r J)) (c.of (part_of (rest_at v r) (λ s. rest_above (v s)) C (undrawn v G)) J)
    undrawn_parts C G [] d = along R 0 0 _ _ (let a = ap (λ t. C * t) (c.none_ended G) in omega arith) (c.none _) (o.itself 0)
    undrawn_parts C G (e ∷ J) d =
        let P = part_of (rest_at v r) (λ s. rest_above (v s)) C (undrawn v G) in
        let head = by_value (v (k.entries.state e)) (λ f. k.entries.as_end (fault f) e ∷ []) (λ z. by_bound z (k.entries.as_end (fault BadBound) e ∷ []) (λ m. end_go k.entries (limit Attempts) (k.rest m r (e ∷ [])))) in
        along R (C * c.of_ended G head + C * c.of_ended G (undrawn_go k v r J)) (c.many e * P (k.entries.state e) + c.of P J) _ _
        (let a = ap (λ t. C * t) (c.append_ended G head (undrawn_go k v r J)) in omega arith) (c.more P e J)
        (o.sums _ _ _ _ (undrawn_head C (C / (rest_at v r (k.entries.state e)).1) G e (v (k.entries.state e)) d.0) (undrawn_parts C G J d.1))

  -- ---- both, beside fractions

  module _ (D S N : ℕ) (J : List X) (I : Table) (h : Stands c.of R D S N J I) (whole : Wholes N I) where
    -- where parts stand so to those of a common denominator
    parts_stand : (p : State → Fraction) (above : (s : State) → 0 < (p s).1) → Wholes N (multiplied p I) → (l : ℕ) (G : State → ℕ) →
        ((C : ℕ) → Divides p C (of_entries J) → R (C * l) (c.of (part_of p above C G) J)) → R (D * l) (S * amount N G (multiplied p I))
    parts_stand p above b l G x =
        let a = common p (of_entries J) in
        let t = common p (of_table I) in
        let C = a * t in
        let y = exact_parts p above N C G I (divides p above a C (of_table I) refl) whole b in
        cleared C l _ _ _ (product_pos _ _ (common_pos p above (of_entries J)) (common_pos p above (of_table I))) (x C (divides p above t C (of_entries J) (omega arith))) (h (part_of p above C G)) y
      where
        cleared : (C l j m i : ℕ) → 0 < C → R (C * l) j → R (D * j) (S * i) → C * m ≡ i → R (D * l) (S * m)
        cleared C l j m i p x y e =
            o.cancels C (D * l) (S * m) p
            (o.further (C * (D * l)) (D * j) (C * (S * m)) (along R (D * (C * l)) (D * j) (C * (D * l)) (D * j) (omega arith) refl (o.products D (C * l) j x))
            (along R (D * j) (S * i) (D * j) (C * (S * m)) refl (let z = ap (λ t. S * t) e in omega arith) y))

    pub drawn_stands : (i : ℕ) (v : State → Value) → Wholes N (multiplied (part_at v r) I) → (G : State → ℕ) → R (D * c.of G (drawn_go k i v r J)) (S * amount N (drawn i v G) (multiplied (part_at v r) I))
    drawn_stands i v b G = parts_stand (part_at v r) (λ s. part_above i v (v s)) b (c.of G (drawn_go k i v r J)) (drawn i v G) (λ C d. drawn_parts i v C G J d)

    pub undrawn_stands : (v : State → Value) → Wholes N (multiplied (rest_at v r) I) → (G : End → ℕ) → R (D * c.of_ended G (undrawn_go k v r J)) (S * amount N (undrawn v G) (multiplied (rest_at v r) I))
    undrawn_stands v b G = parts_stand (rest_at v r) (λ s. rest_above v (v s)) b (c.of_ended G (undrawn_go k v r J)) (undrawn v G) (λ C d. undrawn_parts v C G J d)
