-- No mark is missing in the list of all.
use Rattle.std.proofs.Common.{arith}
use Rattle.std.specs.Prelude.{All}
use Rattle.p414_syntax.specs.declared.mark.Mark.{Mark}
use Rattle.p414_syntax.specs.declared.mark.Mark.TheVariants as mark
use Rattle.p414_syntax.specs.Marks.{all_marks}

-- what holds for all in the list holds for each mark
pub of_all_marks : (P : Mark → Type 0) → All P all_marks → (m : Mark) → P m
of_all_marks P h mark.BraceOpen = h 6 mark.Dot (omega arith)
of_all_marks P h mark.BraceClose = h 7 mark.Dot (omega arith)
of_all_marks P h mark.ParenOpen = h 8 mark.Dot (omega arith)
of_all_marks P h mark.ParenClose = h 9 mark.Dot (omega arith)
of_all_marks P h mark.BracketOpen = h 10 mark.Dot (omega arith)
of_all_marks P h mark.BracketClose = h 11 mark.Dot (omega arith)
of_all_marks P h mark.Semicolon = h 12 mark.Dot (omega arith)
of_all_marks P h mark.Colon = h 13 mark.Dot (omega arith)
of_all_marks P h mark.Comma = h 14 mark.Dot (omega arith)
of_all_marks P h mark.Dot = h 15 mark.Dot (omega arith)
of_all_marks P h mark.Assign = h 16 mark.Dot (omega arith)
of_all_marks P h mark.Less = h 17 mark.Dot (omega arith)
of_all_marks P h mark.Greater = h 18 mark.Dot (omega arith)
of_all_marks P h mark.LessEqual = h 0 mark.Dot (omega arith)
of_all_marks P h mark.GreaterEqual = h 1 mark.Dot (omega arith)
of_all_marks P h mark.Equal = h 2 mark.Dot (omega arith)
of_all_marks P h mark.NotEqual = h 3 mark.Dot (omega arith)
of_all_marks P h mark.ShiftLeft = h 4 mark.Dot (omega arith)
of_all_marks P h mark.ShiftRight = h 5 mark.Dot (omega arith)
of_all_marks P h mark.Plus = h 19 mark.Dot (omega arith)
of_all_marks P h mark.Minus = h 20 mark.Dot (omega arith)
of_all_marks P h mark.Star = h 21 mark.Dot (omega arith)
of_all_marks P h mark.Ampersand = h 22 mark.Dot (omega arith)
of_all_marks P h mark.Bar = h 23 mark.Dot (omega arith)
of_all_marks P h mark.Caret = h 24 mark.Dot (omega arith)
of_all_marks P h mark.Tilde = h 25 mark.Dot (omega arith)
