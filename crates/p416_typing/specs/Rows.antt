-- What is known of an expression: what it is, what its parts are, what it calls, and whether it can be written (P4_16 1.2,
-- "Expressions").
use Rattle.std.specs.Prelude.{ℕ, Bool, List, Option, None}
use Rattle.p416_syntax.specs.Tree.{Exp16, member, index, slice, call, lookahead, unary, binary, choice, no_arguments}
use Rattle.p416_syntax.specs.Kinds.{Kind, unknown}
use Rattle.p416_syntax.specs.Scopes.{Scope}
use Rattle.p416_syntax.specs.Calls.{Signature}
use Rattle.p416_syntax.specs.Expressions.{kind_of, signature_of, can_write, argument_count}
use Rattle.p416_syntax.specs.Uses.{arguments_of}
use Rattle.p416_syntax.specs.Externs.{clone_positions, first_clone_positions}

pub record RowOf : Type 0 where
  pub kind : Kind
  pub left : Kind
  pub right : Kind
  pub callee : Option Signature
  pub called : Option Signature
  pub count : ℕ
  pub given : ℕ
  pub clone : List ℕ
  pub first : List ℕ
  pub given_first : List ℕ
  pub can_write : Bool

-- what the first part is, and what the right operand is
abbrev pub left_of : Scope → Exp16 → Kind
left_of s (member e word) = kind_of s e
left_of s (index e at) = kind_of s e
left_of s (slice e high low) = kind_of s e
left_of s (lookahead e to given) = kind_of s e
left_of s (unary operator e) = kind_of s e
left_of s (binary operator a b) = kind_of s a
left_of s (choice c a b) = kind_of s a
left_of s _ = unknown

abbrev pub right_of : Scope → Exp16 → Kind
right_of s (binary operator a b) = kind_of s b
right_of s (choice c a b) = kind_of s b
right_of s _ = unknown

-- the argument list of a call; else a list without arguments
abbrev pub given_of : Exp16 → Exp16
given_of (call e given) = given
given_of (lookahead e to given) = given
given_of e = no_arguments

-- what a call calls
abbrev pub called_by : Scope → Exp16 → Option Signature
called_by s (call e given) = signature_of s e
called_by s _ = None

abbrev pub row_of : Scope → Exp16 → RowOf
row_of s e = record {
  kind = kind_of s e;
  left = left_of s e;
  right = right_of s e;
  callee = signature_of s e;
  called = called_by s e;
  count = argument_count e;
  given = argument_count (given_of e);
  clone = clone_positions e;
  first = first_clone_positions (arguments_of e);
  given_first = first_clone_positions (arguments_of (given_of e));
  can_write = can_write s e;
}
