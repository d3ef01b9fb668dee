-- What an expression calls tells what it is made ready as.
use Rattle.std.proofs.Common.{◌≡◌, Option, Some, None, List, refl, sym, ap, ◌∙◌}
use Rattle.p416_syntax.specs.Tree.{Exp16, literal, truth, error, name, member, index, slice, call, lookahead, cast, unary, binary, choice, parenthesized, no_arguments, argument, listed}
use Rattle.p416_syntax.specs.Scopes.{Scope}
use Rattle.v1_ready_forms.specs.Named.{NamedSeat}
use Rattle.v1_ready_statements.specs.Around.{Around}
use Rattle.v1_ready_statements.specs.Called.{expression_ready}
use Rattle.v1_ready_calls.specs.declared.calls.Called.{Called}
use Rattle.v1_ready_calls.specs.internal.Calls.{call_in, ready_by}

abbrev whole_of : Exp16 → Option Called → Exp16
whole_of e (Some x) = call x.callee x.given
whole_of e None = e

whole_is : (e : Exp16) → whole_of e (call_in e) ≡ e
whole_is (literal n) = refl
whole_is (truth holds) = refl
whole_is error = refl
whole_is (name text) = refl
whole_is (member e word) = refl
whole_is (index e at) = refl
whole_is (slice e high low) = refl
whole_is (call e given) = refl
whole_is (lookahead e to given) = refl
whole_is (cast to e) = refl
whole_is (unary operator e) = refl
whole_is (binary operator a b) = refl
whole_is (choice x a b) = refl
whole_is (parenthesized e) = refl
whole_is no_arguments = refl
whole_is (argument before last) = refl
whole_is (listed es) = refl

pub called_whole : (e : Exp16) (x : Called) → Some x ≡ call_in e → e ≡ call x.callee x.given
called_whole e x is = sym (ap (whole_of e) is ∙ whole_is e)

pub expression_is : (b : Around) (s : Scope) (seats : List NamedSeat) (e : Exp16) → ready_by b s seats e (call_in e) ≡ expression_ready b s seats e
expression_is b s seats (literal n) = refl
expression_is b s seats (truth holds) = refl
expression_is b s seats error = refl
expression_is b s seats (name text) = refl
expression_is b s seats (member e word) = refl
expression_is b s seats (index e at) = refl
expression_is b s seats (slice e high low) = refl
expression_is b s seats (call e given) = refl
expression_is b s seats (lookahead e to given) = refl
expression_is b s seats (cast to e) = refl
expression_is b s seats (unary operator e) = refl
expression_is b s seats (binary operator x y) = refl
expression_is b s seats (choice x y z) = refl
expression_is b s seats (parenthesized e) = refl
expression_is b s seats no_arguments = refl
expression_is b s seats (argument before last) = refl
expression_is b s seats (listed es) = refl
