-- An expression as it is written at its place (P4_16 1.2, "Expressions"; where more parentheses stand than have to, is this
-- project's own).
use Rattle.std.specs.Prelude.{Bool, false}
use Rattle.p416_syntax.specs.Tree.{Exp16}
use Rattle.p416_parentheses.specs.Expressions.{is_wrapped, is_wrapped_base, wrapped, within}
use Rattle.p416_exp_writer.specs.declared.work.Form.{Form}
use Rattle.p416_exp_writer.specs.declared.work.Form.TheVariants as form

-- whether parentheses stand around the expression
abbrev pub is_wrapped_as : Form → Exp16 → Bool
is_wrapped_as form.Within e = false
is_wrapped_as form.Full e = is_wrapped e
is_wrapped_as form.Base e = is_wrapped_base e

-- the expression with parentheses around its parts, and around itself where its place asks for them
abbrev pub written_as : Form → Exp16 → Exp16
written_as f e = wrapped (is_wrapped_as f e) (within e)
