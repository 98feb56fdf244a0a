-- The machine value of a record, which has no fields and so owns nothing. Assumes `Logic`.
use Rattle.std.proofs.Common.{List, [], ◌∷◌, refl}
use seplogic.Ra.Ura.{Ura}
use mir.Val.{Val, vstruct, vnil}
use types.Logic.{Logic}
use types.Kit.{Goal, Step, step, Item, ‵, ◌$◌, fjoin, fpack, feq_i}
use denote.RattleType.{Valss}
use denote.Steps.{nothing}
use denote.Struct.Struct.{Struct, Shape, within}

abbrev pub empty : Val
empty = vstruct vnil

abbrev no_fields : Shape
no_fields = record { name = []; args = []; types = []; fields = [] }

pub owns_nothing : {M : Type 1} {𝓤 : Ura M} {𝓛 : Logic 𝓤} {K : Type 0} {Γ : List (Item 𝓤)} {G : Goal 𝓤 𝓛.H}
    → K → Step K 𝓛 (‵ ((Struct no_fields).own_val tt (empty ∷ [])) ∷ Γ) G Γ G
owns_nothing t = step (λ s.
    nothing t $ feq_i t (List Val) (empty ∷ []) (empty ∷ []) refl $ fjoin t $ fpack t (Valss []) (within no_fields tt (empty ∷ [])) tt $ s)
