-- What an expanded action and an expanded control hold: primitives alone, whose arguments are those of the text but
-- where a parameter gave a number, and no call of a control (P4_14 1.0.5, "Actions", "Primitive Actions", "Packet
-- Processing and Control Flow"; the definitions are this project's own).
use Rattle.std.specs.Prelude.{◌≡◌, ◌⊎◌, ℕ, ◌<◌, false, List, [], ◌∷◌, None}
use Rattle.std.specs.List.{AllByRecursion, AllZip}
use Rattle.p414_syntax.specs.declared.syntax.Decl.{Decl}
use Rattle.p414_syntax.specs.Tree.{Stmt, no_statements, then, apply, apply_branches, if_then, call, no_else, else_block, else_if, no_branches, branch}
use Rattle.p414_syntax.specs.Arguments.{Argument, field_argument, parameter_argument, Invocation, PlacedArgument, action_of, all_invocations, placed_arguments}
use Rattle.p414_syntax.specs.Uses.{of_field, uses}
use Rattle.p414_syntax.specs.Parameters.{is_parameter, is_read}

-- a list has it
abbrev pub Has : {X : Type 0} → List X → X → Type 0
Has [] x = ⊥
Has (y ∷ ys) x = (y ≡ x) ⊎ Has ys x

-- a parameter stands for whatever is given, and anything else for itself
abbrev pub StandsFor : Argument → Argument → Type 0
StandsFor (parameter_argument n) b = Unit {0}
StandsFor a b = b ≡ a

-- a call that is one of the text, with arguments in the places of parameters
pub record IsOfText (ds : List Decl) (i : Invocation) : Type 0 where
  pub text : Invocation
  pub stands : Has (all_invocations ds) text
  pub callee : i.callee ≡ text.callee
  pub arguments : AllZip StandsFor text.arguments i.arguments

-- An argument in a place where no number is read is one of the text, and no parameter.
abbrev pub IsWritten : List Decl → PlacedArgument → Type 0
IsWritten ds a = is_read a.wanted ≡ false → Has (placed_arguments ds) a × (is_parameter a.argument ≡ false)

-- the parameters in it are among so many
abbrev pub IsBelow : ℕ → Argument → Type 0
IsBelow count (parameter_argument n) = n < count
IsBelow count a = Unit {0}

-- it is no field, or a field that stands in the text
abbrev pub IsFieldOfText : List Decl → Argument → Type 0
IsFieldOfText ds (field_argument r) = Has (uses ds) (of_field r)
IsFieldOfText ds a = Unit {0}

-- a primitive of an expanded action with so many parameters
pub record IsPrimitiveOf (ds : List Decl) (count : ℕ) (i : Invocation) : Type 0 where
  pub no_action : action_of ds i.callee ≡ None
  pub of_text : IsOfText ds i
  pub below : AllByRecursion (IsBelow count) i.arguments
  pub fields : AllByRecursion (IsFieldOfText ds) i.arguments

-- no call of a control is in it
abbrev pub HasNoCall : Stmt → Type 0
HasNoCall no_statements = Unit {0}
HasNoCall ((then) a b) = HasNoCall a × HasNoCall b
HasNoCall (apply table) = Unit {0}
HasNoCall (apply_branches table a) = HasNoCall a
HasNoCall (if_then c a b) = HasNoCall a × HasNoCall b
HasNoCall (call name) = ⊥
HasNoCall no_else = Unit {0}
HasNoCall (else_block a) = HasNoCall a
HasNoCall (else_if a) = HasNoCall a
HasNoCall no_branches = Unit {0}
HasNoCall (branch a l b) = HasNoCall a × HasNoCall b
