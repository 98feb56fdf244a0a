-- Where a piece ends: the byte behind it does not go on with it. This project's own rule.
use Rattle.std.specs.Prelude.{◌≡◌, ℕ, ◌==◌, Bool, false, List, [], ◌∷◌}
use Rattle.gcl_core.specs.declared.tokens.PieceKind.{PieceKind}
use Rattle.gcl_core.specs.declared.tokens.PieceKind.TheVariants as kind
use Rattle.gcl_core.specs.text.Pieces.{is_digit, goes_on_name, in_comment}

-- a byte may go on with a piece of this kind; with a symbol only `=` does
abbrev pub may_go_on : PieceKind → ℕ → Bool
may_go_on kind.Blank b = false
may_go_on kind.Comment b = in_comment b
may_go_on kind.Number b = is_digit b
may_go_on kind.Name b = goes_on_name b
may_go_on kind.Symbol b = b == 61

-- a piece of this kind ends before these bytes
abbrev pub EndsBefore : PieceKind → List ℕ → Type 0
EndsBefore k [] = Unit {0}
EndsBefore k (b ∷ rest) = may_go_on k b ≡ false
