-- What is written member by member.
use Rattle.std.proofs.Common.{◌≡◌, ℕ, ◌<◌, true, false, List, ◌++◌, ◌∷◌, length, take, drop, get_or, flat_map, suc, sym, ◌∙◌, ap}
use Rattle.std.proofs.Math.Seq.{drop-cons}
use Rattle.std.proofs.lemmas.Grind.{flat_map-append}
use Rattle.std.proofs.lemmas.List.{take-append-drop}
use Rattle.stream_lines.proofs.Behind.{cut_short, one_behind}
use Rattle.zar_io.specs.declared.trace.Event.{Event}
use Rattle.zar_io.specs.Written.{IsWritten}

-- members of a list, of which the texts of the first i were written
module _ {X : Type 0} (xs : List X) (f : X → List ℕ) (i : ℕ) (d : X) (below : i < length xs) where
  cut : flat_map f (take i xs) ++ (f (get_or xs i d) ++ flat_map f (drop (suc i) xs)) ≡ flat_map f xs
  cut = sym (flat_map-append f (take i xs) (get_or xs i d ∷ drop (suc i) xs)) ∙ ap (λ rest. flat_map f (take i xs ++ rest)) (sym (drop-cons xs i d below))
      ∙ ap (flat_map f) (take-append-drop i xs)

  -- that of the next is not
  pub next_fails : (before mid now : List Event) → IsWritten false before mid (flat_map f (take i xs)) → IsWritten true mid now (f (get_or xs i d)) → IsWritten true before now (flat_map f xs)
  next_fails before mid now first next =
      let rest = flat_map f (drop (suc i) xs) in
      rw (← cut) (one_behind before now mid true (flat_map f (take i xs)) (f (get_or xs i d) ++ rest) first (cut_short mid now (f (get_or xs i d)) rest next))
