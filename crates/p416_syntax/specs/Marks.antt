-- The marks of the grammar, with their texts (P4_16 1.2, "P4 grammar").
use Rattle.std.specs.Prelude.{ℕ, List, [], ◌∷◌, codes}
use Rattle.p416_syntax.specs.declared.mark.Mark16.{Mark16}
use Rattle.p416_syntax.specs.declared.mark.Mark16.TheVariants as mark

-- the octets that a mark is written with
abbrev pub mark_text16 : Mark16 → List ℕ
mark_text16 mark.BraceOpen = codes "{"
mark_text16 mark.BraceClose = codes "}"
mark_text16 mark.ParenOpen = codes "("
mark_text16 mark.ParenClose = codes ")"
mark_text16 mark.BracketOpen = codes "["
mark_text16 mark.BracketClose = codes "]"
mark_text16 mark.Semicolon = codes ";"
mark_text16 mark.Colon = codes ":"
mark_text16 mark.Comma = codes ","
mark_text16 mark.Dot = codes "."
mark_text16 mark.DotDot = codes ".."
mark_text16 mark.Assign = codes "="
mark_text16 mark.Less = codes "<"
mark_text16 mark.Greater = codes ">"
mark_text16 mark.LessEqual = codes "<="
mark_text16 mark.GreaterEqual = codes ">="
mark_text16 mark.Equal = codes "=="
mark_text16 mark.NotEqual = codes "!="
mark_text16 mark.ShiftLeft = codes "<<"
mark_text16 mark.Plus = codes "+"
mark_text16 mark.PlusPlus = codes "++"
mark_text16 mark.Minus = codes "-"
mark_text16 mark.SaturatingPlus = codes "|+|"
mark_text16 mark.SaturatingMinus = codes "|-|"
mark_text16 mark.Star = codes "*"
mark_text16 mark.Ampersand = codes "&"
mark_text16 mark.AndAnd = codes "&&"
mark_text16 mark.Mask = codes "&&&"
mark_text16 mark.Bar = codes "|"
mark_text16 mark.OrOr = codes "||"
mark_text16 mark.Caret = codes "^"
mark_text16 mark.Tilde = codes "~"
mark_text16 mark.Bang = codes "!"
mark_text16 mark.Question = codes "?"

-- all marks, the longest first
abbrev pub all_marks16 : List Mark16
all_marks16 =
    mark.SaturatingPlus ∷ mark.SaturatingMinus ∷ mark.Mask ∷ mark.DotDot ∷ mark.LessEqual ∷ mark.GreaterEqual
    ∷ mark.Equal ∷ mark.NotEqual ∷ mark.ShiftLeft ∷ mark.PlusPlus ∷ mark.AndAnd ∷ mark.OrOr ∷ mark.BraceOpen
    ∷ mark.BraceClose ∷ mark.ParenOpen ∷ mark.ParenClose ∷ mark.BracketOpen ∷ mark.BracketClose
    ∷ mark.Semicolon ∷ mark.Colon ∷ mark.Comma ∷ mark.Dot ∷ mark.Assign ∷ mark.Less ∷ mark.Greater
    ∷ mark.Plus ∷ mark.Minus ∷ mark.Star ∷ mark.Ampersand ∷ mark.Bar ∷ mark.Caret ∷ mark.Tilde ∷ mark.Bang
    ∷ mark.Question
    ∷ []
