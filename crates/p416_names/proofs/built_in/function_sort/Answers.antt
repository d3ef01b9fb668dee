use Rattle.std.proofs.Common.{cond, sym, ap, ◌∙◌}
use Rattle.p416_syntax.specs.BuiltIn.{functions}
use Rattle.p416_syntax.specs.Scopes.{a_function, undeclared}
use Rattle.p416_names.proofs.Found.{function_or_not}
use Rattle.p416_names.proofs.built_in.function_sort.Goals as goal

-- src/built_in.rt:63:1
pub returns-then-is_function : goal.returns-then-is_function
returns-then-is_function c =
    λ names. sym (function_or_not functions c.args.name.now ∙ ap (λ b. cond b a_function undeclared) (sym c.is_function.ensures ∙ c.if-is_function.true))

-- src/built_in.rt:63:1
pub returns-else-is_function : goal.returns-else-is_function
returns-else-is_function c =
    λ names. sym (function_or_not functions c.args.name.now ∙ ap (λ b. cond b a_function undeclared) (sym c.is_function.ensures ∙ c.if-is_function.false))
