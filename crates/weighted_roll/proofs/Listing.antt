-- The parts of a word between its commas, read one after another.
use Rattle.std.proofs.Common.{◌≡◌, ◌≢◌, ℕ, suc, ◌<◌, cond, Option, Some, None, List, [], ◌∷◌, ◌++◌, length, get_or, refl, sym, ap, ◌∙◌, arith, IsUtf8}
use Rattle.std.proofs.lemmas.Bool.{ne_eqb}
use Rattle.std.proofs.lemmas.List.{append_assoc, append-nil}
use Rattle.weighted_roll.specs.Listed.{weight_in, with_weight, parts_from}

-- none of the bytes is c
abbrev pub Lacks : ℕ → List ℕ → Type 0
Lacks c xs = (i : ℕ) → i < length xs → get_or xs i 0 ≢ c

part_over : (part xs rest : List ℕ) → Lacks 44 xs → parts_from part (xs ++ rest) ≡ parts_from (part ++ xs) rest
part_over part [] rest h = ap (λ p. parts_from p rest) (sym (append-nil part))
part_over part (x ∷ xs) rest h =
    ap (λ t. cond t (with_weight (weight_in part) (parts_from [] (xs ++ rest))) (parts_from (part ++ x ∷ []) (xs ++ rest))) (ne_eqb x 44 (h 0 (omega arith)))
    ∙ part_over (part ++ x ∷ []) xs rest (λ i less. h (suc i) (omega arith)) ∙ ap (λ p. parts_from p rest) (append_assoc part (x ∷ []) xs)

-- a part before a comma, and the last one
pub before_comma : (rest part more : List ℕ) → rest ≡ part ++ 44 ∷ more → Lacks 44 part → parts_from [] rest ≡ with_weight (weight_in part) (parts_from [] more)
before_comma rest part more e h = ap (parts_from []) e ∙ part_over [] part (44 ∷ more) h

pub at_end : (part : List ℕ) → Lacks 44 part → parts_from [] part ≡ with_weight (weight_in part) (Some [])
at_end part h = ap (parts_from []) (sym (append-nil part)) ∙ part_over [] part [] h

-- these weights before further ones, where all are weights
abbrev pub behind : List ℕ → Option (List ℕ) → Option (List ℕ)
behind ws None = None
behind ws (Some more) = Some (ws ++ more)

behind_one : (ws : List ℕ) (a : ℕ) (o : Option (List ℕ)) → behind ws (with_weight (Some a) o) ≡ behind (ws ++ a ∷ []) o
behind_one ws a None = refl
behind_one ws a (Some more) = ap Some (sym (append_assoc ws (a ∷ []) more))

-- the weights that were read, and what is left of the word
pub record Read (word ws rest : List ℕ) : Type 0 where
  pub text : IsUtf8 rest
  pub same : behind ws (parts_from [] rest) ≡ parts_from [] word

module _ (word ws rest part more : List ℕ) (r : Read word ws rest) (e : rest ≡ part ++ 44 ∷ more) (h : Lacks 44 part) where
  pub read_part : (a : ℕ) → IsUtf8 more → weight_in part ≡ Some a → Read word (ws ++ a ∷ []) more
  read_part a text s = record {
    text = text;
    same = sym (behind_one ws a (parts_from [] more)) ∙ ap (λ o. behind ws (with_weight o (parts_from [] more))) (sym s)
        ∙ ap (behind ws) (sym (before_comma rest part more e h)) ∙ r.same;
  }

  pub no_part : weight_in part ≡ None → parts_from [] word ≡ None
  no_part s = sym r.same ∙ ap (behind ws) (before_comma rest part more e h ∙ ap (λ o. with_weight o (parts_from [] more)) s)

module _ (word ws rest : List ℕ) (r : Read word ws rest) (h : Lacks 44 rest) where
  pub read_last : (a : ℕ) → weight_in rest ≡ Some a → parts_from [] word ≡ Some (ws ++ a ∷ [])
  read_last a s = sym r.same ∙ ap (behind ws) (at_end rest h ∙ ap (λ o. with_weight o (Some [])) s)

  pub no_last : weight_in rest ≡ None → parts_from [] word ≡ None
  no_last s = sym r.same ∙ ap (behind ws) (at_end rest h ∙ ap (λ o. with_weight o (Some [])) s)
