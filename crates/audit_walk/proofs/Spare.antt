-- Runs that are spare.
use Rattle.std.proofs.Common.{◌≡◌, All, List, [], ◌∷◌, ◌++◌, ◌∙◌, sym, subst}
use Rattle.std.proofs.lemmas.List.Elements.{All-push}
use Rattle.sampler_run.specs.Held.{Held, set_back}

-- a fork of a run is spare for it again
pub spare_again : (s fork last : Held) (old new : List Held) → set_back fork ≡ set_back s → All (λ o. set_back o ≡ set_back fork) old →
    set_back last ≡ set_back fork → new ≡ old ++ last ∷ [] → All (λ o. set_back o ≡ set_back s) new
spare_again s fork last old new start spare same put =
    let here = subst (λ h. All (λ (o : Held). set_back o ≡ h) old) start spare in
    subst (λ l. All (λ (o : Held). set_back o ≡ set_back s) l) (sym put) (All-push (λ (o : Held). set_back o ≡ set_back s) old last here (same ∙ start))
