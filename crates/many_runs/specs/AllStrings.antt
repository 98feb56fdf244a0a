-- All strings of one length, as streams.
use Rattle.std.specs.Prelude.{ℕ, zero, suc, Bool, true, false, List, [], ◌∷◌, ◌++◌, map}

-- all strings of L bits, each once
abbrev pub all_strings : ℕ → List (List Bool)
all_strings zero = [] ∷ []
all_strings (suc L) = map (λ v. false ∷ v) (all_strings L) ++ map (λ v. true ∷ v) (all_strings L)
