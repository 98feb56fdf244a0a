-- Options behind those that were looked at.
use Rattle.std.proofs.Common.{◌≡◌, ◌≤◌, ◌+◌, ℕ, zero, suc, List, [], ◌∷◌, ◌++◌, take, drop, length, Option, Some, None, ap, sym, subst, ◌∙◌, arith}
use Rattle.std.specs.Prelude.{option_map}
use Rattle.std.specs.Option.{option_or}
use Rattle.zar_cli.specs.Forms.{CallWord}
use Rattle.zar_cli.specs.OptionWords.{Setting, Options, form_behind, wrong_behind, words_of, wrong_option}

-- where the first k of a list are gone and x comes next, the first k + 1 are those and x, and what follows x is left
further : {A : Type 0} (k : ℕ) (xs : List A) (x : A) (rest : List A) → drop k xs ≡ x ∷ rest → (take (suc k) xs ≡ take k xs ++ x ∷ []) × (drop (suc k) xs ≡ rest)
further zero xs x rest h = (ap (take (suc zero)) h, ap (drop (suc zero)) h)
further (suc k) [] x rest h = let l = ap length h in absurd (omega (arith, l))
further (suc k) (y ∷ ys) x rest h =
    let tail = further k ys x rest h in
    (ap (λ l. y ∷ l) tail.0, tail.1)

pub one_further : {A : Type 0} (k : ℕ) (xs : List A) (x : A) (rest : List A) → drop k xs ≡ x ∷ rest
    → (take (k + 1) xs ≡ take k xs ++ x ∷ []) × (drop (k + 1) xs ≡ rest)
one_further k xs x rest h =
    let tail = further k xs x rest h in
    let e : suc k ≡ k + 1 = omega arith in
    (subst (λ n. take n xs ≡ take k xs ++ x ∷ []) e tail.0, subst (λ n. drop n xs ≡ rest) e tail.1)

pub some_words : (value : Option CallWord) → 1 ≤ words_of value
some_words None = omega arith
some_words (Some value) = omega arith

-- behind an option that is right the search goes on, with one more option before
pub goes_on : (takes : List Setting) (i k : ℕ) (all : Options) (o : CallWord × Option CallWord) (rest : Options) → drop k all ≡ o ∷ rest →
    None ≡ wrong_behind (form_behind takes (take k all) o.0) o.1 →
    wrong_option takes i (take k all) (o ∷ rest) ≡ wrong_option takes (i + words_of o.1) (take (k + 1) all) rest
goes_on takes i k all o rest h none =
    ap (λ w. option_or (option_map (λ j. i + j) w) (wrong_option takes (i + words_of o.1) (take k all ++ o ∷ []) rest)) (sym none)
    ∙ ap (λ b. wrong_option takes (i + words_of o.1) b rest) (sym (one_further k all o rest h).0)
