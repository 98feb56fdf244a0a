-- The form of the word behind a command's own, by the rows of the table.
use Rattle.std.proofs.Common.{◌≡◌, rules, refl, sym, subst, Bool, true, false, List, [], ◌∷◌, Option, Some, None, option_map, IfSome}
use Rattle.gcl_core.specs.text.Names.{same_name, value_named}
use Rattle.zar_cli.specs.Forms.{CallWord}
use Rattle.zar_cli.specs.Words.{Row, rows, row_named}
use Rattle.zar_cli.specs.inner.OptionsView.{first_form}

abbrev HasForm : Row → Type 0
HasForm row = row.1 ≡ first_form row.0

abbrev EachHasForm : List (CallWord × Row) → Type 0
EachHasForm [] = Unit {0}
EachHasForm (e ∷ es) = HasForm e.1 × EachHasForm es

form_found : (word : CallWord) (es : List (CallWord × Row)) (row : Row) → EachHasForm es → value_named es word ≡ Some row → HasForm row
form_found word [] row h k = cc
form_found word (e ∷ es) row h k = go (same_name word e.0) refl (form_found word es row h.1)
  where
    go : (c : Bool) → same_name word e.0 ≡ c → (value_named es word ≡ Some row → HasForm row) → HasForm row
    go true q ih = let found : Some e.1 ≡ Some row = rw q at k in let is : e.1 ≡ row = cc in subst HasForm is h.0
    go false q ih = ih (rw q at k)

pub first_by_row : {A : Type 0} (seen : A → Row) (word : CallWord) (found : Option A) → option_map seen found ≡ row_named word → IfSome found (λ row. HasForm (seen row))
unfolding row_named
first_by_row seen word None h = tt
first_by_row seen word (Some row) h = let each : EachHasForm rows = search rules in form_found word rows (seen row) each (sym h)
