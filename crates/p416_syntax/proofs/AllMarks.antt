-- No mark is missing in the list of all.
use Rattle.std.proofs.Common.{arith}
use Rattle.std.specs.Prelude.{All}
use Rattle.p416_syntax.specs.declared.mark.Mark16.{Mark16}
use Rattle.p416_syntax.specs.declared.mark.Mark16.TheVariants as mark
use Rattle.p416_syntax.specs.Marks.{all_marks16}

-- what holds for all in the list holds for each mark
pub of_all_marks : (P : Mark16 → Type 0) → All P all_marks16 → (m : Mark16) → P m
of_all_marks P h mark.BraceOpen = h 12 mark.Dot (omega arith)
of_all_marks P h mark.BraceClose = h 13 mark.Dot (omega arith)
of_all_marks P h mark.ParenOpen = h 14 mark.Dot (omega arith)
of_all_marks P h mark.ParenClose = h 15 mark.Dot (omega arith)
of_all_marks P h mark.BracketOpen = h 16 mark.Dot (omega arith)
of_all_marks P h mark.BracketClose = h 17 mark.Dot (omega arith)
of_all_marks P h mark.Semicolon = h 18 mark.Dot (omega arith)
of_all_marks P h mark.Colon = h 19 mark.Dot (omega arith)
of_all_marks P h mark.Comma = h 20 mark.Dot (omega arith)
of_all_marks P h mark.Dot = h 21 mark.Dot (omega arith)
of_all_marks P h mark.DotDot = h 3 mark.Dot (omega arith)
of_all_marks P h mark.Assign = h 22 mark.Dot (omega arith)
of_all_marks P h mark.Less = h 23 mark.Dot (omega arith)
of_all_marks P h mark.Greater = h 24 mark.Dot (omega arith)
of_all_marks P h mark.LessEqual = h 4 mark.Dot (omega arith)
of_all_marks P h mark.GreaterEqual = h 5 mark.Dot (omega arith)
of_all_marks P h mark.Equal = h 6 mark.Dot (omega arith)
of_all_marks P h mark.NotEqual = h 7 mark.Dot (omega arith)
of_all_marks P h mark.ShiftLeft = h 8 mark.Dot (omega arith)
of_all_marks P h mark.Plus = h 25 mark.Dot (omega arith)
of_all_marks P h mark.PlusPlus = h 9 mark.Dot (omega arith)
of_all_marks P h mark.Minus = h 26 mark.Dot (omega arith)
of_all_marks P h mark.SaturatingPlus = h 0 mark.Dot (omega arith)
of_all_marks P h mark.SaturatingMinus = h 1 mark.Dot (omega arith)
of_all_marks P h mark.Star = h 27 mark.Dot (omega arith)
of_all_marks P h mark.Ampersand = h 28 mark.Dot (omega arith)
of_all_marks P h mark.AndAnd = h 10 mark.Dot (omega arith)
of_all_marks P h mark.Mask = h 2 mark.Dot (omega arith)
of_all_marks P h mark.Bar = h 29 mark.Dot (omega arith)
of_all_marks P h mark.OrOr = h 11 mark.Dot (omega arith)
of_all_marks P h mark.Caret = h 30 mark.Dot (omega arith)
of_all_marks P h mark.Tilde = h 31 mark.Dot (omega arith)
of_all_marks P h mark.Bang = h 32 mark.Dot (omega arith)
of_all_marks P h mark.Question = h 33 mark.Dot (omega arith)
