-- Turns and entries that were gone over, and those that are left.
use Rattle.std.proofs.Common.{◌≡◌, ◌⊎◌, inl, inr, ℕ, ◌+◌, ◌*◌, ◌/◌, ◌^◌, Bool, true, false, if◌then◌else◌, List, [], ◌∷◌, ap, subst, arith}
use Rattle.std.specs.Prelude.{◌==◌, Contains}
use Rattle.numbers.specs.Fraction.{Fraction}
use Rattle.narrow_fractions.specs.Remainders.{Same}
use Rattle.narrow_fractions.proofs.Congruence.{equal, turned, chained, added, times}
use Rattle.visit_finder.specs.declared.residues.Residues.{Residues}
use Rattle.visit_finder.specs.Equations.{entered_at, led_at}
use Rattle.visit_finder.specs.Exact.{Turn, Entry, part, entered, led}
use Rattle.visit_finder.specs.Multiples.{HasInverse, IsMultiple, turn_weights, entry_weights, AreOfTurns, AreOfEntries}
use Rattle.visit_finder.proofs.Members.{first_in, behind, none_in, first_or_behind}

-- a weight over a multiple of its denominator, and its form
weight_at : (m w num den whole form : ℕ) → den * (whole / den) ≡ whole → Same m (den * form) (w * num) → Same m (w * (num * (whole / den))) (whole * form)
weight_at m w num den whole form e s = by (whole / den) e
  where
    by : (k : ℕ) → den * k ≡ whole → Same m (w * (num * k)) (whole * form)
    by k e = let f = ap (λ n. n * form) e in
        chained m _ _ _ (equal m _ (k * (w * num)) (omega arith)) (chained m _ _ _ (times m k _ _ (turned m _ _ s)) (equal m _ _ (omega (arith, f))))

-- as often as it is visited, where it leads to the state
where_it_leads : (m w whole n : ℕ) (b : Bool) (p form : ℕ) → Same m (w * p) (whole * form) → Same m (w * (if b then p * n else 0)) (whole * (if b then form * n else 0))
where_it_leads m w whole n true p form s = chained m _ _ _ (equal m _ (n * (w * p)) (omega arith)) (chained m _ _ _ (times m n _ _ s) (equal m _ _ (omega arith)))
where_it_leads m w whole n false p form s = equal m _ _ (omega arith)

where_it_enters : (m w whole : ℕ) (b : Bool) (p form : ℕ) → Same m (w * p) (whole * form) → Same m (w * (if b then p else 0)) (whole * (if b then form else 0))
where_it_enters m w whole true p form s = s
where_it_enters m w whole false p form s = equal m _ _ (omega arith)

-- one more is gone over
one_more : (m w whole x y rest before after : ℕ) → Same m (w * x) (whole * y) → Same m after (y + before) → Same m (w * (x + rest) + whole * before) (w * rest + whole * after)
one_more m w whole x y rest before after s t =
    let here : Same m (w * x + (w * rest + whole * before)) (whole * y + (w * rest + whole * before)) = added m _ _ _ _ s (equal m _ _ (omega arith)) in
    let there : Same m (w * rest + whole * (y + before)) (w * rest + whole * after) = added m _ _ _ _ (equal m (w * rest) _ (omega arith)) (times m whole _ _ (turned m _ _ t)) in
    chained m _ _ _ (equal m _ _ (omega arith)) (chained m _ _ _ here (chained m _ _ _ (equal m _ _ (omega arith)) there))

-- each weight has an inverse, or is left
either_has : (m : ℕ) (f : Fraction) (fs : List Fraction) (g : Fraction) → HasInverse m f.1 → HasInverse m g.1 ⊎ Contains (f ∷ fs) g → HasInverse m g.1 ⊎ Contains fs g
either_has m f fs g is (inl h) = inl h
either_has m f fs g is (inr c) = by (first_or_behind f fs g c)
  where
    by : (f ≡ g) ⊎ Contains fs g → HasInverse m g.1 ⊎ Contains fs g
    by (inl e) = inl (subst (λ f. HasInverse m f.1) e is)
    by (inr c) = inr c

all_have : (m : ℕ) (g : Fraction) → HasInverse m g.1 ⊎ Contains [] g → HasInverse m g.1
all_have m g (inl h) = h
all_have m g (inr c) = absurd (none_in g c)

-- ---- turns
pub record LeadingAt (m place : ℕ) (all rest : List Turn) (parts : List ((ℕ × ℕ) × Residues)) : Type 0 where
  pub kept : (f : Fraction) → Contains (turn_weights rest) f → Contains (turn_weights all) f
  pub inverses : (f : Fraction) → Contains (turn_weights all) f → HasInverse m f.1 ⊎ Contains (turn_weights rest) f
  pub leads : (whole : ℕ) → IsMultiple whole (turn_weights all) → (v : ℕ → ℕ) (s : ℕ) → Same m (2 ^ 64 * led whole all v s) (2 ^ 64 * led whole rest v s + whole * led_at place parts v s)

pub leading_none : (m place : ℕ) (all : List Turn) → LeadingAt m place all all []
leading_none m place all = record {
  kept = λ f c. c;
  inverses = λ f c. inr c;
  leads = λ whole is v s. equal m _ _ (omega arith);
}

pub leading_one : (m place : ℕ) (all rest : List Turn) (parts more : List ((ℕ × ℕ) × Residues)) (e : Turn) (form : ℕ) → HasInverse m e.2.1 → Same m (e.2.1 * form) (2 ^ 64 * e.2.0) →
    ((v : ℕ → ℕ) (s : ℕ) → Same m (led_at place more v s) ((if e.1 == s then form * v e.0 else 0) + led_at place parts v s)) → LeadingAt m place all (e ∷ rest) parts → LeadingAt m place all rest more
leading_one m place all rest parts more e form inverse is sum h = record {
  kept = λ f c. h.kept f (behind e.2 (turn_weights rest) f c);
  inverses = λ f c. either_has m e.2 (turn_weights rest) f inverse (h.inverses f c);
  leads = λ whole multiple v s.
      let weight : Same m (2 ^ 64 * part whole e.2) (whole * form) = weight_at m (2 ^ 64) e.2.0 e.2.1 whole form (multiple e.2 (h.kept e.2 (first_in e.2 (turn_weights rest)))) is in
      chained m _ _ _ (h.leads whole multiple v s)
      (one_more m (2 ^ 64) whole (if e.1 == s then part whole e.2 * v e.0 else 0) (if e.1 == s then form * v e.0 else 0) (led whole rest v s) (led_at place parts v s) (led_at place more v s)
      (where_it_leads m (2 ^ 64) whole (v e.0) (e.1 == s) (part whole e.2) form weight) (sum v s));
}

pub leading_all : (m place : ℕ) (all : List Turn) (parts : List ((ℕ × ℕ) × Residues)) → LeadingAt m place all [] parts → AreOfTurns m place all parts
leading_all m place all parts h = record {
  inverses = λ f c. all_have m f (h.inverses f c);
  leads = λ whole multiple v s. chained m _ _ _ (h.leads whole multiple v s) (equal m _ _ (omega arith));
}

-- ---- entries
pub record EnteringAt (m place : ℕ) (all rest : List Entry) (begun : List (ℕ × Residues)) : Type 0 where
  pub kept : (f : Fraction) → Contains (entry_weights rest) f → Contains (entry_weights all) f
  pub inverses : (f : Fraction) → Contains (entry_weights all) f → HasInverse m f.1 ⊎ Contains (entry_weights rest) f
  pub enters : (whole : ℕ) → IsMultiple whole (entry_weights all) → (s : ℕ) → Same m (2 ^ 64 * entered whole all s) (2 ^ 64 * entered whole rest s + whole * entered_at place begun s)

pub entering_none : (m place : ℕ) (all : List Entry) → EnteringAt m place all all []
entering_none m place all = record {
  kept = λ f c. c;
  inverses = λ f c. inr c;
  enters = λ whole is s. equal m _ _ (omega arith);
}

pub entering_one : (m place : ℕ) (all rest : List Entry) (begun more : List (ℕ × Residues)) (e : Entry) (form : ℕ) → HasInverse m e.1.1 → Same m (e.1.1 * form) (2 ^ 64 * e.1.0) →
    ((s : ℕ) → Same m (entered_at place more s) ((if e.0 == s then form else 0) + entered_at place begun s)) → EnteringAt m place all (e ∷ rest) begun → EnteringAt m place all rest more
entering_one m place all rest begun more e form inverse is sum h = record {
  kept = λ f c. h.kept f (behind e.1 (entry_weights rest) f c);
  inverses = λ f c. either_has m e.1 (entry_weights rest) f inverse (h.inverses f c);
  enters = λ whole multiple s.
      let weight : Same m (2 ^ 64 * part whole e.1) (whole * form) = weight_at m (2 ^ 64) e.1.0 e.1.1 whole form (multiple e.1 (h.kept e.1 (first_in e.1 (entry_weights rest)))) is in
      chained m _ _ _ (h.enters whole multiple s)
      (one_more m (2 ^ 64) whole (if e.0 == s then part whole e.1 else 0) (if e.0 == s then form else 0) (entered whole rest s) (entered_at place begun s) (entered_at place more s)
      (where_it_enters m (2 ^ 64) whole (e.0 == s) (part whole e.1) form weight) (sum s));
}

pub entering_all : (m place : ℕ) (all : List Entry) (begun : List (ℕ × Residues)) → EnteringAt m place all [] begun → AreOfEntries m place all begun
entering_all m place all begun h = record {
  inverses = λ f c. all_have m f (h.inverses f c);
  enters = λ whole multiple s. chained m _ _ _ (h.enters whole multiple s) (equal m _ _ (omega arith));
}
