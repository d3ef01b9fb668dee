-- Sums and differences, where a literal behind its sign turns one into the other (this project's own; P4_14 1.0.5, "Primitive
-- Actions"; P4_16 1.2, "Operations on fixed-width bit types (unsigned integers)").
use Rattle.std.specs.Prelude.{ℕ, Bool, true, false}
use Rattle.p414_sem.specs.Operations.{Source}
use Rattle.p416_syntax.specs.Tree.{Exp16}
use Rattle.p416_syntax.specs.declared.node.BinaryOperator.{BinaryOperator}
use Rattle.p416_syntax.specs.declared.node.BinaryOperator.TheVariants.{Add, Subtract}
use Rattle.lower_laws_base.specs.Context.{Words, At}
use Rattle.lower_laws_actions.specs.Mirror.{both_exp, absolute, is_negative}

-- addition, or subtraction, of a number that is above 0, or below
abbrev pub sign_of : Bool → Bool → BinaryOperator
sign_of true true = Subtract
sign_of true false = Add
sign_of false true = Add
sign_of false false = Subtract

-- a sum or a difference of two sources at a width
abbrev pub signed_exp : Words → At → ℕ → Bool → Source → Source → Exp16
signed_exp w at width adds a b = both_exp w at (sign_of adds (is_negative b)) width a (absolute b)
