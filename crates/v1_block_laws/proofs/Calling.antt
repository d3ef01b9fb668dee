-- What is judged in a call are its arguments at their places, and what stands before a method.
use Rattle.std.proofs.Common.{◌≡◌, ℕ, List, [], ◌∷◌, ◌++◌, length, get_or, refl, sym, subst, arith, length-append}
use Rattle.p416_syntax.specs.Tree.{Exp16, literal, truth, error, name, member, index, slice, call, lookahead, cast, unary, binary, choice, parenthesized, no_arguments, argument, listed}
use Rattle.p416_syntax.specs.Names.{Name}
use Rattle.p416_syntax.specs.Scopes.{Scope}
use Rattle.p416_syntax.specs.Calls.{Place, callee, unasked, method_signature}
use Rattle.p416_syntax.specs.Expressions.{kind_of, signature_of, argument_count}
use Rattle.p416_syntax.specs.Uses.{an_expression, uses, uses_at, many, wanted_by, owner_by, arguments_of}
use Rattle.v1_ready_laws.specs.Rules.{KeepsAll, Keeps}
use Rattle.v1_block_laws.specs.Keeping.{ArgumentsKeep}
use Rattle.v1_block_laws.proofs.Keeping.{front, back}

-- how many arguments there are
counted : (e : Exp16) → length (arguments_of e) ≡ argument_count e
counted (argument before last) =
    let earlier : length (arguments_of before) ≡ argument_count before = counted before in
    omega (arith, length-append (arguments_of before) (last ∷ []))
counted (literal n) = refl
counted (truth holds) = refl
counted error = refl
counted (name text) = refl
counted (member e word) = refl
counted (index e at) = refl
counted (slice e high low) = refl
counted (call e given) = refl
counted (lookahead e to given) = refl
counted (cast to e) = refl
counted (unary operator e) = refl
counted (binary operator a b) = refl
counted (choice c a b) = refl
counted (parenthesized e) = refl
counted no_arguments = refl
counted (listed es) = refl

-- one argument more
one_more : (s : Scope) (places : List Place) (es : List Exp16) (e : Exp16) → ArgumentsKeep s places es → Keeps s (get_or places (length es) unasked) e → ArgumentsKeep s places (es ++ e ∷ [])
one_more s [] [] e kept last = (last, tt)
one_more s (p ∷ places) [] e kept last = (last, tt)
one_more s [] (x ∷ es) e kept last = (kept.0, one_more s [] es e kept.1 last)
one_more s (p ∷ places) (x ∷ es) e kept last = (kept.0, one_more s places es e kept.1 last)

none : (s : Scope) (places : List Place) → ArgumentsKeep s places []
none s [] = tt
none s (p ∷ places) = tt

pub arguments_keep : (s : Scope) (places : List Place) (e : Exp16) → KeepsAll (uses_at s (many places unasked) e) → ArgumentsKeep s places (arguments_of e)
arguments_keep s places (argument before last) kept =
    one_more s places (arguments_of before) last
    (arguments_keep s places before (front (uses_at s (many places unasked) before) (uses s (get_or places (argument_count before) unasked) last) kept))
    (subst (λ (n : ℕ). Keeps s (get_or places n unasked) last) (sym (counted before)) (back (uses_at s (many places unasked) before) (uses s (get_or places (argument_count before) unasked) last) kept))
arguments_keep s places (literal n) kept = none s places
arguments_keep s places (truth holds) kept = none s places
arguments_keep s places error kept = none s places
arguments_keep s places (name text) kept = none s places
arguments_keep s places (member e word) kept = none s places
arguments_keep s places (index e at) kept = none s places
arguments_keep s places (slice e high low) kept = none s places
arguments_keep s places (call e given) kept = none s places
arguments_keep s places (lookahead e to given) kept = none s places
arguments_keep s places (cast to e) kept = none s places
arguments_keep s places (unary operator e) kept = none s places
arguments_keep s places (binary operator a b) kept = none s places
arguments_keep s places (choice c a b) kept = none s places
arguments_keep s places (parenthesized e) kept = none s places
arguments_keep s places no_arguments kept = none s places
arguments_keep s places (listed es) kept = none s places

pub call_kept : (s : Scope) (p : Place) (e given : Exp16) → Keeps s p (call e given) → ArgumentsKeep s (wanted_by (signature_of s e)) (arguments_of given)
call_kept s p e given kept =
    arguments_keep s (wanted_by (signature_of s e)) given
    (back (an_expression s p (call e given) ∷ uses s callee e) (uses_at s (many (wanted_by (signature_of s e)) unasked) given) kept)

pub owner_kept : (s : Scope) (p : Place) (e given : Exp16) (word : Name) → Keeps s p (call (member e word) given) → Keeps s (owner_by (method_signature (kind_of s e) word)) e
owner_kept s p e given word kept =
    let own = front (an_expression s p (call (member e word) given) ∷ uses s callee (member e word)) (uses_at s (many (wanted_by (signature_of s (member e word))) unasked) given) kept in
    back (an_expression s p (call (member e word) given) ∷ an_expression s callee (member e word) ∷ []) (uses s (owner_by (method_signature (kind_of s e) word)) e) own
