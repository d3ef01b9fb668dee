-- T6: a call has a wrong number of arguments (P4_16 1.2, "Function calls and method invocations", "Actions"). A default
-- action is a call too.
use Rattle.std.specs.Prelude.{ℕ, Bool, false, not, nat_eq, length}
use Rattle.std.specs.Option.{option_map_or}
use Rattle.p416_syntax.specs.Tree.{Exp16, call, lookahead}
use Rattle.p416_syntax.specs.Calls.{Signature}
use Rattle.p416_syntax.specs.Scopes.{Scope}
use Rattle.p416_syntax.specs.Expressions.{signature_of, argument_count}
use Rattle.p416_syntax.specs.Uses.{Use, an_expression, a_count}

abbrev pub takes_other_count : ℕ → Signature → Bool
takes_other_count given signature = not (nat_eq (length signature.wanted) given)

abbrev pub is_miscounted_call : Scope → Exp16 → Bool
is_miscounted_call s (call e given) = option_map_or (takes_other_count (argument_count given)) (signature_of s e) false
is_miscounted_call s (lookahead e to given) = not (nat_eq (argument_count given) 0)
is_miscounted_call s _ = false

-- what is judged breaks T6
abbrev pub is_miscounted : Use → Bool
is_miscounted (an_expression s p e) = is_miscounted_call s e
is_miscounted (a_count wanted given) = not (nat_eq wanted given)
is_miscounted _ = false
