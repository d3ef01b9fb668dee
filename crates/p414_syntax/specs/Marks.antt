-- The marks of the grammar, with their texts (P4_14 1.0.5, "Summary of P4 BNF").
use Rattle.std.specs.Prelude.{ℕ, List, [], ◌∷◌, codes}
use Rattle.p414_syntax.specs.declared.mark.Mark.{Mark}
use Rattle.p414_syntax.specs.declared.mark.Mark.TheVariants as mark

-- the octets that a mark is written with
abbrev pub mark_text : Mark → List ℕ
mark_text mark.BraceOpen = codes "{"
mark_text mark.BraceClose = codes "}"
mark_text mark.ParenOpen = codes "("
mark_text mark.ParenClose = codes ")"
mark_text mark.BracketOpen = codes "["
mark_text mark.BracketClose = codes "]"
mark_text mark.Semicolon = codes ";"
mark_text mark.Colon = codes ":"
mark_text mark.Comma = codes ","
mark_text mark.Dot = codes "."
mark_text mark.Assign = codes "="
mark_text mark.Less = codes "<"
mark_text mark.Greater = codes ">"
mark_text mark.LessEqual = codes "<="
mark_text mark.GreaterEqual = codes ">="
mark_text mark.Equal = codes "=="
mark_text mark.NotEqual = codes "!="
mark_text mark.ShiftLeft = codes "<<"
mark_text mark.ShiftRight = codes ">>"
mark_text mark.Plus = codes "+"
mark_text mark.Minus = codes "-"
mark_text mark.Star = codes "*"
mark_text mark.Ampersand = codes "&"
mark_text mark.Bar = codes "|"
mark_text mark.Caret = codes "^"
mark_text mark.Tilde = codes "~"

-- all marks, the longest first
abbrev pub all_marks : List Mark
all_marks =
    mark.LessEqual ∷ mark.GreaterEqual ∷ mark.Equal ∷ mark.NotEqual ∷ mark.ShiftLeft ∷ mark.ShiftRight
    ∷ mark.BraceOpen ∷ mark.BraceClose ∷ mark.ParenOpen ∷ mark.ParenClose ∷ mark.BracketOpen
    ∷ mark.BracketClose ∷ mark.Semicolon ∷ mark.Colon ∷ mark.Comma ∷ mark.Dot
    ∷ mark.Assign ∷ mark.Less ∷ mark.Greater ∷ mark.Plus ∷ mark.Minus
    ∷ mark.Star ∷ mark.Ampersand ∷ mark.Bar ∷ mark.Caret ∷ mark.Tilde
    ∷ []
