-- How the record of the files goes on through the stages of a command.
use Rattle.std.proofs.Common.{◌≡◌, ℕ, zero, suc, List, [], ◌∷◌, ◌++◌, take, refl, sym, ◌∙◌, ap, subst, append_assoc, length, take_all, arith}
use Rattle.std.specs.Prelude.{reverse, ◌≢◌}
use Rattle.std.proofs.lemmas.List.{reverse-append}
use Rattle.zar_io.specs.declared.trace.Event.{Event}
use Rattle.zar_io.specs.GoesOn.{sought, IsNew, AreApart, GoesOn}
use Rattle.zar_io.specs.Trace.{World, Agrees}
use Rattle.zar_io.proofs.SomeFiles.{behind_apart}
use Rattle.zar_io.proofs.TraceLemmas.{goes_on-none, goes_on-then}
use Rattle.zar_cli.specs.Forms.{CallWord}
use Rattle.zar_cli.specs.inner.Said.{Asks}

-- ---- names that stand apart

new_among : (name other : CallWord) (names s : List CallWord) → other ≢ name → IsNew other (names ++ s) → IsNew other (names ++ name ∷ s)
new_among name other [] s apart new = (apart, new)
new_among name other (first ∷ names) s apart new = (new.0, new_among name other names s apart new.1)

move : (name : CallWord) (names s : List CallWord) → IsNew name (names ++ s) → AreApart (names ++ s) → AreApart (names ++ name ∷ s)
move name [] s new apart = (new, apart)
move name (first ∷ names) s new apart = (new_among name first names s (λ same. new.0 (sym same)) apart.0, move name names s new.1 apart.1)

-- the first of them, the other way round
apart_first : (k : ℕ) (names s : List CallWord) → AreApart (names ++ s) → AreApart (reverse (take k names) ++ s)
apart_first zero names s apart = behind_apart names s apart
apart_first (suc k) [] s apart = apart
apart_first (suc k) (name ∷ names) s apart =
    let turned : reverse (name ∷ take k names) ≡ reverse (take k names) ++ name ∷ [] = reverse-append (name ∷ []) (take k names) in
    subst AreApart (sym (ap (λ l. l ++ s) turned ∙ append_assoc (reverse (take k names)) (name ∷ []) s)) (apart_first k names (name ∷ s) (move name names s apart.0 apart.1))

-- where some files may have answered so before, some may after such names were sought
pub some_asked : (names : List CallWord) (before now : List Event) → Asks names before now → (file : World) × Agrees file before → AreApart (names ++ sought before)
    → (file : World) × Agrees file now
some_asked names before now asks some apart = asks.1.some some (subst AreApart (sym asks.1.sought) (apart_first asks.0 names (sought before) apart))

-- ---- what a command asks, from what its stages do

-- its first stage alone
pub asks_first : (name program : CallWord) (rest : List CallWord) (before now : List Event) → name ≡ program → GoesOn (name ∷ []) before now → Asks (program ∷ rest) before now
asks_first name program rest before now same goes = (1, subst (λ n. GoesOn (n ∷ []) before now) same goes)

-- nothing
pub asks_none : (names : List CallWord) (now : List Event) → Asks names now now
asks_none names now = (0, goes_on-none now now refl)

-- both
pub asks_then : (name program : CallWord) (rest : List CallWord) (before mid now : List Event) → name ≡ program → GoesOn (name ∷ []) before mid → GoesOn (reverse rest) mid now
    → Asks (program ∷ rest) before now
asks_then name program rest before mid now same one two =
    let both : GoesOn (reverse rest ++ program ∷ []) before now = goes_on-then (program ∷ []) (reverse rest) before mid now (subst (λ n. GoesOn (n ∷ []) before mid) same one) two in
    (length (program ∷ rest), subst (λ names. GoesOn names before now) (sym (ap reverse (take_all (length (program ∷ rest)) (program ∷ rest) (omega arith)) ∙ reverse-append (program ∷ []) rest)) both)
